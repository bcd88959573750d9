use Rattle.std.proofs.Common.{◌≡◌, ◌<◌, ◌≤◌, ℕ, List, length, get_or, ap, ◌∙◌, subst, arith}
use Rattle.std.proofs.lemmas.Grind.{elements}
use Rattle.id_iters.specs.Least.{IsLeastAt, NoneFrom}
use Rattle.search_exec.proofs.CandidatesLaws.{next-named, none-named}
use Rattle.search_exec.specs.Candidates.{is_id_of}
use Rattle.search_exec.proofs.candidates.NamedIds.next_from.Goals as goal

pub returns-then-from-id-clause-least : goal.returns-then-from-id-clause-least
returns-then-from-id-clause-least c =
    let named = c.passing.self in
    let id = c.in-Some.field-0.now in
    let behind = c.passing.invariant.behind in
    let found = c.in-Some.ensures.lookup in
    let within : named.behind < length named.ids.items = omega (arith, found.3.0, ap length c.deref.ensures.value) in
    let at : id ≡ get_or named.ids.items named.behind id = found.1 ∙ ap (λ (ids : List ℕ). get_or ids named.behind id) c.deref.ensures.value in
    subst (λ (ids : List ℕ). IsLeastAt (is_id_of ids) c.args.from id) c.passing.invariant.ids
    (next-named named.ids.items named.behind c.args.from id behind.rise behind.below within at c.if-from-id.true)

pub returns-clause-least : goal.returns-clause-least
returns-clause-least c =
    let named = c.passing.self in
    let all : length named.ids.items ≤ named.behind = omega (arith, c.in_default.ensures.lookup.3, ap length c.deref.ensures.value) in
    subst (λ (ids : List ℕ). NoneFrom (is_id_of ids) c.args.from) c.passing.invariant.ids
    (none-named named.ids.items named.behind c.args.from c.passing.invariant.behind.below all)

pub passing-preserved : goal.passing-preserved
passing-preserved c = grind (arith, elements)
