use Rattle.std.proofs.Common.{◌≡◌, List, sym, ◌∙◌, subst}
use Rattle.std.proofs.lemmas.Iterator.Adapters.{YieldsList-from_vec}
use Rattle.std.proofs.lemmas.Iterator.Consumers.{YieldsList-end}
use Rattle.list_plan.specs.Parts.{Splits}
use Rattle.list_plan.specs.declared.parts.Part.{Part}
use Rattle.list_plan.proofs.PartLaws.{nothing_split}
use Rattle.list_plan.proofs.UnionLaws.{map_same}
use Rattle.list_plan.proofs.parts.split.Goals as goal

pub parts-init : goal.parts-init
parts-init c = nothing_split c.args.found.now.items c.args.denied.now.items c.requires.found c.requires.denied

pub parts-preserved : goal.parts-preserved
parts-preserved c = c.in_ok-sort.ensures.splits c.parts.yielded c.parts.invariant

pub returns : goal.returns
returns c =
    let gives = c.into_iter-part-iterator.ensures.into_iter_gives in
    let ended = YieldsList-end (YieldsList-from_vec {s = c.into_iter-part-iterator.result} c.args.parts.items gives.0 (gives.1 ∙ c.args.parts.ok.0))
    c.parts.yielded c.parts.part-iterator c.parts.yielded_by c.next.result c.next.new.self c.in-None.is c.next.ensures.steps in
    let all : c.parts.yielded ≡ c.args.parts.items = sym (map_same c.parts.yielded) ∙ ended.0 in
    subst (λ (xs : List Part). Splits xs c.parts.found.items c.parts.denied.items) all c.parts.invariant
