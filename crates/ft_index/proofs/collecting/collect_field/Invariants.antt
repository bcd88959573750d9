use Rattle.std.proofs.Common.{drop, ℕ, List, ◌≡◌, ◌≢◌}
use Rattle.ft_index.specs.Collecting.{LiveBut}
use Rattle.ft_index.specs.Markers.{TakesLists, tag_list}
use Rattle.ft_index.specs.Thinned.{TagsThin}
use Rattle.term_dict.specs.Tags.{entries_in, tags_of}
use Rattle.ft_index.proofs.collecting.collect_field.Given as goal

-- the tags that are left are the only ones of the field with a dead entry
abbrev pub invariant-loop-name : goal.invariant-loop-name
invariant-loop-name g l = record {
  thin : TagsThin (g.L.Live.is l.live) l.fn.tags l.tags;
  but : LiveBut (g.L.Live.is l.live) (drop l.name-index l.name-items) (tags_of l.tags l.field);
  others : (other : ℕ) → other ≢ l.field → (tag : List ℕ) → entries_in l.tags other tag ≡ entries_in l.fn.tags other tag;
  takes : TakesLists l.fn.markers l.markers (tag_list l.fn.tags) (tag_list l.tags);
}
