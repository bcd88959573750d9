use Rattle.std.proofs.Common.{nat_cmp, ◌≡◌, refl, rules, tests}
use Rattle.std.proofs.lemmas.Iterator.{YieldsList-from_map, YieldsList-from_slice}
use Rattle.std.proofs.lemmas.Iterator.Search.{cmp_from_yields_List}
use Rattle.std.specs.Char.{to_ascii_lowercase}
use Rattle.row_sort.proofs.texts.compare_lowered.Goals as goal

pub returns : goal.returns
returns c =
    cmp_from_yields_List (λ x y. y ≡ x) _ nat_cmp _ c.cmp.ensures.ran
    (YieldsList-from_map _ to_ascii_lowercase (YieldsList-from_slice c.args.left.now cc)
    c.map-left.ensures.closure (λ x r q k. search (rules, tests)))
    (λ it e. rw e (YieldsList-from_map _ to_ascii_lowercase (YieldsList-from_slice c.args.right.now cc)
    c.map-right.ensures.closure (λ x r q k. search (rules, tests))))
    (λ x y. refl)
