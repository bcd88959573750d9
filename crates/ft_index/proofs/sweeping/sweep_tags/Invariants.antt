use Rattle.ft_index.specs.Markers.{TakesLists, tag_list}
use Rattle.ft_index.specs.Thinned.{TagsThin}
use Rattle.ft_index.proofs.sweeping.sweep_tags.Given as goal

abbrev pub invariant-loop-name : goal.invariant-loop-name
invariant-loop-name g l = record {
  thin : TagsThin (g.L.Live.is l.live) l.fn.tags l.tags;
  takes : TakesLists l.fn.markers l.markers (tag_list l.fn.tags) (tag_list l.tags);
}
