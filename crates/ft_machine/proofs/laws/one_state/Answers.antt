use Rattle.ft_machine.proofs.DeterminedLaws.{has-one-state}
use Rattle.ft_machine.proofs.laws.one_state.Goals as goal

pub returns : goal.returns
returns c = has-one-state (record { tree = c.one_tree.ensures; fault = c.one_fault.ensures; never_both = c.tree_or_fault.ensures.never_both })
