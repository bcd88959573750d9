use Rattle.doc_reads.proofs.HintLaws.{fit-open}
use Rattle.doc_reads.proofs.hints.hints_behind.Goals as goal

pub returns-in-Ok-clause-hints : goal.returns-in-Ok-clause-hints
returns-in-Ok-clause-hints g c = fit-open (g.T.Lists.held c.args.lists.now) c.args.after _ c.in-Ok.hints.0 c.in-Ok.ensures.fit
