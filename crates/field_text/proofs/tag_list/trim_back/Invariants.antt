use Rattle.std.proofs.Common.{◌≡◌, length}
use Rattle.field_text.specs.Tags.{trim_back}
use Rattle.field_text.proofs.tag_list.trim_back.Given as goal

abbrev pub invariant-back : goal.invariant-back
invariant-back l = trim_back l.rest ≡ trim_back l.piece

abbrev pub decreases-back : goal.decreases-back
decreases-back l = length l.rest
