use Rattle.std.proofs.Common.{ap}
use Rattle.phrase_match.specs.Phrase.{within}
use Rattle.phrase_match.proofs.ChoiceLaws.{all_from_zero}
use Rattle.phrase_match.proofs.window.search.Goals as goal

pub looking-init : goal.looking-init
looking-init c = ap (λ lists. within lists c.args.slop c.args.in_order) (all_from_zero c.args.words.now)
