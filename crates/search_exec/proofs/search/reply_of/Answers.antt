use Rattle.std.proofs.Common.{arith}
use Rattle.cmd_parse.specs.Seen.{search_of}
use Rattle.ft_base.proofs.RepliesLaws.{made-fits}
use Rattle.doc_reads.proofs.KeyLaws.{column-seen}
use Rattle.search_exec.proofs.SearchLaws.{made-answer, reads-told}
use Rattle.doc_reads.proofs.ShapeLaws.{page-fits}
use Rattle.search_exec.specs.Candidates.{in_candidates}
use Rattle.doc_reads.specs.Ids.{docs_in}
use Rattle.doc_reads.specs.Pages.{ordered_by}
use Rattle.search_exec.proofs.search.reply_of.Goals as goal

pub page_by_shape-requires-clause-window : goal.page_by_shape-requires-clause-window
page_by_shape-requires-clause-window g c = omega (arith, c.in_ok-shape.ensures.offset, c.in_ok-shape.ensures.num)

pub page_by_shape-requires-clause-seen : goal.page_by_shape-requires-clause-seen
page_by_shape-requires-clause-seen g c =
    let held = g.T.Lists.held c.args.lists.now in
    column-seen (search_of c.args.search.now) c.args.def.now c.in_ok-shape.shape (in_candidates held c.args.candidates.now) (g.T.Lists.named c.args.lists.now).numbers c.args.store.now.space
    c.in_ok-shape.ensures c.requires.numbered

pub returns-clause-reply : goal.returns-clause-reply
returns-clause-reply g c =
    let docs = docs_in (in_candidates (g.T.Lists.held c.args.lists.now) c.args.candidates.now) c.args.store.now.space in
    made-answer c.page_by_shape.result (search_of c.args.search.now) c.args.def.now c.in_ok-shape.shape docs c.in_ok-shape.ensures c.requires.sorts c.page_by_shape.ensures.reply

pub returns-clause-fits : goal.returns-clause-fits
returns-clause-fits g c =
    let shape = c.in_ok-shape.shape in
    let docs = docs_in (in_candidates (g.T.Lists.held c.args.lists.now) c.args.candidates.now) c.args.store.now.space in
    made-fits c.page_by_shape.result _ (page-fits shape (ordered_by shape.sort docs)) c.page_by_shape.ensures.reply

pub returns-clause-reads : goal.returns-clause-reads
returns-clause-reads g c =
    let docs = docs_in (in_candidates (g.T.Lists.held c.args.lists.now) c.args.candidates.now) c.args.store.now.space in
    reads-told c.page_by_shape.result (search_of c.args.search.now) c.args.def.now c.in_ok-shape.shape docs c.args.store.now.reads c.page_by_shape.new.store.reads c.in_ok-shape.ensures c.requires.sorts
    c.page_by_shape.ensures.reads
