use Rattle.ft_base.proofs.RepliesLaws.{made-fits}
use Rattle.indexed_store.proofs.ReadsLaws.{values-fit}
use Rattle.indexed_store.proofs.values.hmget.Goals as goal

pub returns-in-Some-clause-fits : goal.returns-in-Some-clause-fits
returns-in-Some-clause-fits c = made-fits c.values_of.result _ (values-fit _ _) c.values_of.ensures.reply

pub returns-in-None-clause-fits : goal.returns-in-None-clause-fits
returns-in-None-clause-fits c = made-fits c.values_of-in-None.result _ (values-fit _ _) c.values_of-in-None.ensures.reply
