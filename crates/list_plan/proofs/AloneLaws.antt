-- A part that is alone.
use Rattle.std.proofs.Common.{◌≡◌, ℕ, Bool, true, false, ◌&&◌, List, [], ◌∷◌, ◌++◌, length, refl, sym, ap, ◌∙◌, subst}
use Rattle.std.specs.List.{AllByRecursion, list_all}
use Rattle.id_iters.specs.Held.{Held}
use Rattle.list_plan.specs.Plans.{ids_of}
use Rattle.list_plan.specs.declared.size.Planned.{Planned}
use Rattle.list_plan.proofs.UnionLaws.{nil}

pub alone : (plans left : List Planned) (made : Planned) → plans ≡ left ++ made ∷ [] → length left ≡ 0 → plans ≡ made ∷ []
alone plans left made is none = is ∙ ap (λ (xs : List Planned). xs ++ made ∷ []) (nil left none)

and_true : (a : Bool) → (a && true) ≡ a
and_true true = refl
and_true false = refl

-- every part has an id exactly where it has
pub alone_has : (plans : List Planned) (made : Planned) → plans ≡ made ∷ [] → (held : Held) (id : ℕ)
    → ids_of held made id ≡ list_all (λ planned. ids_of held planned id) plans
alone_has plans made is held id = sym (ap (λ (ps : List Planned). list_all (λ planned. ids_of held planned id) ps) is ∙ and_true (ids_of held made id))

-- a fact of each part is one of it
pub of_alone : (P : Planned → Type 0) (plans : List Planned) (made : Planned) → plans ≡ made ∷ [] → AllByRecursion P plans → P made
of_alone P plans made is all = (subst (AllByRecursion P) is all).0

pub each_alone : (P : Planned → Type 0) (plans : List Planned) (made : Planned) → plans ≡ made ∷ [] → P made → AllByRecursion P plans
each_alone P plans made is holds = subst (AllByRecursion P) (sym is) (holds, tt)
