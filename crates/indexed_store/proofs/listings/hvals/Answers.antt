use Rattle.ft_base.proofs.RepliesLaws.{made-fits}
use Rattle.indexed_store.proofs.ReadsLaws.{all_values-fit}
use Rattle.indexed_store.proofs.listings.hvals.Goals as goal

pub returns-in-Some-clause-fits : goal.returns-in-Some-clause-fits
returns-in-Some-clause-fits c = made-fits c.all_values.result _ (all_values-fit _) c.all_values.ensures.reply
