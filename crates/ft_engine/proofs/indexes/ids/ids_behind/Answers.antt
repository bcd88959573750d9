use Rattle.std.proofs.Common.{◌≡◌, ℕ, refl, subst}
use Rattle.ft_base.specs.declared.definition.IndexDef.{IndexDef}
use Rattle.ft_index.specs.Lists.{held_of, named_of}
use Rattle.ft_meaning.specs.Member.{members}
use Rattle.ft_meaning.specs.Sortable.{sorting_vector}
use Rattle.id_iters.specs.Sets.{in_set}
use Rattle.query_plan.specs.Finds.{finds}
use Rattle.search_exec.proofs.FoundLaws.{docs-found, members-known, members-numbered}
use Rattle.ft_engine.proofs.SearchLaws.{index-read}
use Rattle.ft_engine.proofs.indexes.ids.ids_behind.Goals as goal

pub returns : goal.returns
returns g c =
    let index = c.args.index.now in
    let space = c.args.store.now.space in
    let held = held_of index.lists index.table.live in
    let iter = c.in_ok-plan.field-0 in
    let rises = c.len-count.ensures.rises in
    let read = index-read index c.def.result.now space c.def.ensures.def c.requires.readable in
    let set = subst (λ (def : IndexDef). (id : ℕ) → in_set held iter id ≡ finds c.args.query.now def (members index.def space) id) c.def.ensures.def (c.in_ok-plan.ensures.set (members index.def space) read) in
    record {
      lists = c.in_ok-plan.ensures.lists (members index.def space) read;
      ready = c.in_ok-plan.ensures.ready;
      known = members-known (sorting_vector index.def) held iter index.table.live index.def space rises c.requires.readable.stands.live (λ id live. live);
      numbered = members-numbered held iter index.table.live (named_of index.lists index.table.live).numbers index.def space rises c.requires.readable.stands.live (λ id live. live) (λ id place vector found. rw found refl);
      found = docs-found c.args.query.now index.def (in_set held iter) space rises set;
    }
