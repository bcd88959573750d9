use Rattle.ft_machine.proofs.DeterminedLaws.{has-one-reply, info-records}
use Rattle.ft_machine.proofs.laws.one_reply.Goals as goal

pub returns-clause-reply : goal.returns-clause-reply
returns-clause-reply c words number moment old written other new next other_than x y kx ky =
    has-one-reply (record { tree = c.one_tree.ensures; fault = c.one_fault.ensures; never_both = c.tree_or_fault.ensures.never_both }) words number moment old written other new next other_than x y kx ky

pub returns-clause-records : goal.returns-clause-records
returns-clause-records c = info-records
