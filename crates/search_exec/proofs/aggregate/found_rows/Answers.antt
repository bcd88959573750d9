use Rattle.id_iters.specs.Sets.{in_set}
use Rattle.search_exec.proofs.AggregateLaws.{rows-noted}
use Rattle.doc_reads.specs.Ids.{docs_in}
use Rattle.search_exec.proofs.aggregate.found_rows.Goals as goal

pub returns-clause-rows : goal.returns-clause-rows
returns-clause-rows g c =
    let docs = docs_in (in_set (g.T.Lists.held c.args.lists.now) c.args.iter.now) c.args.store.now.space in
    rows-noted (λ rows. rows.items) c.finish.result c.note_all-noted.result c.new-feed.result c.note_all-noted.new.feed c.args.def.now c.args.load.now c.args.steps.now docs
    c.finish.ensures.noted c.finish.ensures.rows c.note_all-noted.ensures.noted c.new-feed.ensures
