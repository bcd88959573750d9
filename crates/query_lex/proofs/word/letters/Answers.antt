use Rattle.std.proofs.Common.{◌≡◌, [], ◌∷◌, ◌++◌, rules, arith}
use Rattle.query_lex.specs.Words.{next_letter}
use Rattle.query_lex.proofs.Runs.{begins_behind, goes_on}
use Rattle.query_lex.proofs.word.letters.Goals as goal

pub reading-init : goal.reading-init
reading-init c =
    let first : c.push.new.self ≡ c.args.first ∷ [] = search rules in
    record { reads = rw first (begins_behind next_letter _ _); within = omega arith }

pub reading-preserved : goal.reading-preserved
reading-preserved c =
    let more : c.push-in-Ok-Some.new.self ≡ c.reading.word ++ c.in-Ok-Some.byte ∷ [] = search rules in
    record {
      reads = rw more (goes_on next_letter _ _ _ _ _ (rw c.in-Ok-Some.field-0-is at c.in-Ok-Some.ensures.read) (rw c.in-Ok-Some.field-0-is at c.in-Ok-Some.ensures.shorter) c.reading.invariant.reads);
      within = omega (arith, (rw c.in-Ok-Some.field-0-is at c.in-Ok-Some.ensures.shorter));
    }
