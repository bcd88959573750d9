use Rattle.search_exec.proofs.by_ids.page_by_ids.Goals as goal

pub note_all-requires-clause-none : goal.note_all-requires-clause-none
note_all-requires-clause-none g c = c.in_ok-page.ensures.none c.args.shape.now
