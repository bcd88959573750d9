use Rattle.id_iters.specs.Sets.{in_set}
use Rattle.search_exec.proofs.CandidatesLaws.{docs-named}
use Rattle.search_exec.specs.Candidates.{ids_named}
use Rattle.search_exec.proofs.candidates.Candidates.new.Goals as goal

pub returns-in-Ok-clause-docs : goal.returns-in-Ok-clause-docs
returns-in-Ok-clause-docs g c =
    docs-named (in_set (g.T.Lists.held c.args.lists.now) c.args.iter) (ids_named c.in-Ok.named) c.args.keys.now c.args.store.now.space c.in-Ok.ensures.named
