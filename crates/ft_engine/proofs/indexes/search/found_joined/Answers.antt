use Rattle.std.proofs.Common.{◌≡◌, ◌&&◌, List, map, subst}
use Rattle.std.specs.Prelude.{IfOk}
use Rattle.std.specs.List.{list_all}
use Rattle.cmd_parse.specs.Seen.{filter_of, search_of}
use Rattle.ft_base.specs.declared.definition.IndexDef.{IndexDef}
use Rattle.ft_base.specs.Docs.{Doc}
use Rattle.ft_machine.specs.Counted.{passes}
use Rattle.ft_meaning.specs.Holds.{holds}
use Rattle.ft_engine.proofs.FilterLaws.{counted-is}
use Rattle.ft_engine.specs.Exactness.{Shows}
use Rattle.ft_engine.proofs.indexes.search.found_joined.Goals as goal

pub returns-in-Ok-clause-shows : goal.returns-in-Ok-clause-shows
returns-in-Ok-clause-shows c =
    let def = c.args.index.now.def in
    let what = search_of c.args.search.now in
    let same = subst (λ (def : IndexDef). (doc : Doc) → holds c.in-Ok.query def doc ≡ (holds c.args.query def doc && list_all (passes def doc) (map filter_of c.args.search.now.filters))) c.def.ensures.def c.in-Ok.ensures in
    subst (λ (docs : List Doc). IfOk c.found_in-found.result (Shows what def docs c.args.store.now.reads c.found_in-found.new.store.reads)) (counted-is what c.args.query c.in-Ok.query def c.args.store.now.space same) c.found_in-found.ensures.shows
