use Rattle.std.proofs.Common.{◌≡◌, ◌<◌, ℕ, false, IfSome, get_or}
use Rattle.phrase_match.specs.Turns.{in_turn}
use Rattle.id_iters.specs.Entries.{field_of, stand_in}
use Rattle.id_iters.proofs.places.stand_in_some.Given as goal

abbrev pub invariant-codes : goal.invariant-codes
invariant-codes l = record {
  none : (k : ℕ) → k < l.code-index → stand_in l.fields l.slop l.in_order (in_turn l.words l.order) (field_of (get_or l.codes k 0)) ≡ false;
  last : IfSome l.asked (λ field. stand_in l.fields l.slop l.in_order (in_turn l.words l.order) field ≡ false);
}
