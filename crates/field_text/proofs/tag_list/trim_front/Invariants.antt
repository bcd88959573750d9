use Rattle.std.proofs.Common.{◌≡◌, length}
use Rattle.field_text.specs.Tags.{trim_front}
use Rattle.field_text.proofs.tag_list.trim_front.Given as goal

abbrev pub invariant-front : goal.invariant-front
invariant-front l = trim_front l.rest ≡ trim_front l.piece

abbrev pub decreases-front : goal.decreases-front
decreases-front l = length l.rest
