use Rattle.std.proofs.Common.{ap}
use Rattle.search_exec.proofs.FieldLaws.{page-offered}
use Rattle.search_exec.specs.Candidates.{in_candidates}
use Rattle.doc_reads.specs.Ids.{docs_in}
use Rattle.search_exec.proofs.by_field.page_by_field.Goals as goal

pub returns-clause-reply : goal.returns-clause-reply
returns-clause-reply g c =
    let docs = docs_in (in_candidates (g.T.Lists.held c.args.lists.now) c.args.candidates.now) c.args.store.now.space in
    let offered = c.offer_all-total in
    page-offered c.first_page.result offered.result c.args.shape.now c.args.key docs c.new-first.result.most offered.new.first.rows
    c.first_page.ensures.offered c.first_page.ensures.reply offered.ensures.total offered.ensures.rows (ap (λ first. first.most) c.new-first.ensures)
