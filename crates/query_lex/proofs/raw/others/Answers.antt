use Rattle.std.proofs.Common.{◌≡◌, [], ◌∷◌, ◌++◌, rules, arith}
use Rattle.query_lex.specs.Raw.{next_raw}
use Rattle.query_lex.proofs.Runs.{begins_behind, goes_on}
use Rattle.query_lex.proofs.raw.others.Goals as goal

pub reading-init : goal.reading-init
reading-init c =
    let first : c.push.new.self ≡ c.args.first ∷ [] = search rules in
    record { reads = rw first (begins_behind (next_raw c.args.context) _ _); within = omega arith }

pub reading-preserved : goal.reading-preserved
reading-preserved c =
    let more : c.push-in-Ok-Some.new.self ≡ c.reading.run ++ c.in-Ok-Some.byte ∷ [] = search rules in
    record {
      reads = rw more (goes_on (next_raw c.args.context) _ _ _ _ _ (rw c.in-Ok-Some.field-0-is at c.in-Ok-Some.ensures.read) (rw c.in-Ok-Some.field-0-is at c.in-Ok-Some.ensures.shorter) c.reading.invariant.reads);
      within = omega (arith, (rw c.in-Ok-Some.field-0-is at c.in-Ok-Some.ensures.shorter));
    }
