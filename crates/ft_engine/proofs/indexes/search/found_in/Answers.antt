use Rattle.std.proofs.Common.{List, ap, sym, subst}
use Rattle.cmd_parse.specs.Seen.{search_of}
use Rattle.ft_base.specs.declared.definition.Field.{Field}
use Rattle.ft_base.specs.declared.definition.IndexDef.{IndexDef}
use Rattle.ft_index.specs.Lists.{held_of, named_of}
use Rattle.id_iters.specs.Sets.{in_set}
use Rattle.doc_reads.specs.Ids.{AreNumbered}
use Rattle.doc_reads.specs.Shapes.{SortsBy}
use Rattle.ft_engine.proofs.FilterLaws.{sorts-known}
use Rattle.ft_engine.proofs.SearchLaws.{shown-by}
use Rattle.ft_engine.proofs.indexes.search.found_in.Goals as goal

pub search_reply-found-requires-clause-sorts : goal.search_reply-found-requires-clause-sorts
search_reply-found-requires-clause-sorts g c =
    subst (λ (fields : List Field). SortsBy fields (search_of c.args.search.now)) (ap (λ (def : IndexDef). def.fields) (sym c.def.ensures.def))
    (sorts-known c.args.index.now.def.fields (search_of c.args.search.now) c.requires.fields)

pub search_reply-found-requires-clause-numbered : goal.search_reply-found-requires-clause-numbered
search_reply-found-requires-clause-numbered g c =
    let index = c.args.index.now in
    subst (λ (def : IndexDef). AreNumbered (in_set (held_of index.lists index.table.live) c.in_ok-iter.iter) (named_of index.lists index.table.live).numbers def c.args.store.now.space)
    (sym c.def.ensures.def) c.in_ok-iter.ensures.numbered

pub returns-clause-shows : goal.returns-clause-shows
returns-clause-shows g c =
    shown-by (search_of c.args.search.now) _ _ _ _ c.args.store.now.reads c.search_reply-found.new.store.reads c.search_reply-found.result c.def.ensures.def c.in_ok-iter.ensures.found
    c.search_reply-found.ensures.reply c.search_reply-found.ensures.fits c.search_reply-found.ensures.reads
