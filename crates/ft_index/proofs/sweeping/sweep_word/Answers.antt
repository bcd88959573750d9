use Rattle.term_dict.specs.Terms.{list_of}
use Rattle.ft_index.proofs.CollectLaws.{thin-same}
use Rattle.ft_index.proofs.TakingLaws.{lists-none}
use Rattle.ft_index.proofs.sweeping.sweep_word.Goals as goal

pub returns-in_default : goal.returns-in_default
returns-in_default g c = record { thin = thin-same (g.L.Live.is c.args.live.now) c.args.terms.now; takes = lists-none c.args.markers.now (list_of c.args.terms.now) }
