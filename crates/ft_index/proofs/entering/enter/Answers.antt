use Rattle.std.proofs.lemmas.Result.{on_ok_weaker}
use Rattle.ft_index.proofs.ComingLaws.{lists-stay}
use Rattle.ft_index.proofs.IndexLaws.{dead-yet}
use Rattle.ft_index.proofs.entering.enter.Goals as goal

pub returns-clause-unseen : goal.returns-clause-unseen
returns-clause-unseen c docs has =
    c.add.ensures.unseen c.args.table.now.live docs (dead-yet c.args.table.now c.args.lists.now c.args.doc.now.id c.requires.kept c.requires.later) has

pub returns-clause-seen : goal.returns-clause-seen
returns-clause-seen c = on_ok_weaker c.add.result (λ seen docs has. seen c.args.table.now.live docs has) c.add.ensures.seen

pub returns-in_err-vector-clause-comes : goal.returns-in_err-vector-clause-comes
returns-in_err-vector-clause-comes c = lists-stay c.args.markers.now.event c.args.lists.now

pub returns-in_err-prepare-clause-comes : goal.returns-in_err-prepare-clause-comes
returns-in_err-prepare-clause-comes c = lists-stay c.args.markers.now.event c.args.lists.now
