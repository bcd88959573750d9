use Rattle.std.proofs.Common.{drop}
use Rattle.ft_index.specs.Collecting.{TagsLiveBut}
use Rattle.ft_index.specs.Markers.{TakesLists, tag_list}
use Rattle.ft_index.specs.Thinned.{TagsThin}
use Rattle.ft_index.proofs.collecting.collect_tags.Given as goal

-- the fields that are left are the only ones with a dead entry
abbrev pub invariant-loop-field : goal.invariant-loop-field
invariant-loop-field g l = record {
  thin : TagsThin (g.L.Live.is l.live) l.fn.tags l.tags;
  but : TagsLiveBut (g.L.Live.is l.live) (drop l.field-index l.field-items) l.tags;
  takes : TakesLists l.fn.markers l.markers (tag_list l.fn.tags) (tag_list l.tags);
}
