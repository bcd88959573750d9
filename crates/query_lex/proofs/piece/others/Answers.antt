use Rattle.std.proofs.Common.{◌≡◌, [], ◌∷◌, ◌++◌, rules, arith}
use Rattle.query_lex.specs.Pieces.{next_of_tag}
use Rattle.query_lex.proofs.Runs.{begins_behind, goes_on}
use Rattle.query_lex.proofs.piece.others.Goals as goal

pub reading-init : goal.reading-init
reading-init c =
    let first : c.push.new.self.items ≡ c.args.first ∷ [] = search rules in
    record { reads = rw first (begins_behind next_of_tag _ _); within = omega arith }

pub reading-preserved : goal.reading-preserved
reading-preserved c =
    let more : c.push-in-Ok-Some.new.self.items ≡ c.reading.piece.items ++ c.in-Ok-Some.byte ∷ [] = search rules in
    record {
      reads = rw more (goes_on next_of_tag _ _ _ _ _ (rw c.in-Ok-Some.field-0-is at c.in-Ok-Some.ensures.read) (rw c.in-Ok-Some.field-0-is at c.in-Ok-Some.ensures.shorter) c.reading.invariant.reads);
      within = omega (arith, (rw c.in-Ok-Some.field-0-is at c.in-Ok-Some.ensures.shorter));
    }
