use Rattle.ft_base.proofs.RepliesLaws.{made-fits}
use Rattle.indexed_store.proofs.ReadsLaws.{names-fit}
use Rattle.indexed_store.proofs.listings.hkeys.Goals as goal

pub returns-in-Some-clause-fits : goal.returns-in-Some-clause-fits
returns-in-Some-clause-fits c = made-fits c.names_of.result _ (names-fit _) c.names_of.ensures.reply
