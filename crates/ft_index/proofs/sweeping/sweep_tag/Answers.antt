use Rattle.ft_index.specs.Markers.{tag_list}
use Rattle.ft_index.proofs.CollectLaws.{tags-same}
use Rattle.ft_index.proofs.TakingLaws.{lists-none}
use Rattle.ft_index.proofs.sweeping.sweep_tag.Goals as goal

pub returns-in_default : goal.returns-in_default
returns-in_default g c = record { thin = tags-same (g.L.Live.is c.args.live.now) c.args.tags.now; takes = lists-none c.args.markers.now (tag_list c.args.tags.now) }
