use Rattle.std.proofs.Common.{◌++◌, ◌∷◌, [], ℤ, ap, subst, arith, rules}
use Rattle.std.proofs.lemmas.Int.{to_z-of_z}
use mir.Syntax.{w64}
use mir.Val.{SFits}
use Rattle.numeric_ranges.specs.Rows.{Knows}
use Rattle.numeric_ranges.proofs.SpreadLaws.{knows_along, not_mixed, split_yes, split_no}
use Rattle.numeric_ranges.proofs.row.Row.grown.Goals as goal

pub returns-then-len-lt-LIMIT-clause-some : goal.returns-then-len-lt-LIMIT-clause-some
returns-then-len-lt-LIMIT-clause-some c =
    let es = c.args.self.now.list.entries in
    let f : SFits w64 c.args.hit.now.value = search rules in
    knows_along c.with.result _ _ (ap (λ (v : ℤ). es ++ (c.args.id, record { value = v }) ∷ []) (to_z-of_z w64 c.args.hit.now.value f))
    (c.with.ensures.knows es c.args.id c.requires.knows)

pub returns-in-Many-clause-splits : goal.returns-in-Many-clause-splits
returns-in-Many-clause-splits c =
    let es = c.args.self.now.list.entries in
    let f : SFits w64 c.args.hit.now.value = search rules in
    let knows = knows_along c.with-grown.result _ _ (ap (λ (v : ℤ). es ++ (c.args.id, record { value = v }) ∷ []) (to_z-of_z w64 c.args.hit.now.value f))
    (c.with-grown.ensures.knows es c.args.id c.in_ok-known.ensures.knows) in
    split_yes es (c.args.id, c.args.hit.now) (omega (arith, c.if-len-lt-LIMIT.false, c.len.ensures.len))
    (subst (λ s. Knows s (es ++ (c.args.id, c.args.hit.now) ∷ [])) c.in-Many.is knows)

pub returns-in_default : goal.returns-in_default
returns-in_default c =
    let es = c.args.self.now.list.entries in
    let f : SFits w64 c.args.hit.now.value = search rules in
    let knows = knows_along c.with-grown.result _ _ (ap (λ (v : ℤ). es ++ (c.args.id, record { value = v }) ∷ []) (to_z-of_z w64 c.args.hit.now.value f))
    (c.with-grown.ensures.knows es c.args.id c.in_ok-known.ensures.knows) in
    record {
      some = knows;
      whole = split_no (es ++ (c.args.id, c.args.hit.now) ∷ [])
          (not_mixed c.with-grown.result (es ++ (c.args.id, c.args.hit.now) ∷ []) knows (λ same. c.in_ok-known.ensures.known (c.with-grown.ensures.known same)) c.in_default.not-Many);
      splits = tt;
    }
