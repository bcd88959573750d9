use Rattle.std.proofs.Common.{take}
use Rattle.ft_index.specs.Markers.{TakesLists, tag_list}
use Rattle.ft_index.specs.Tagging.{FieldTagsGain}
use Rattle.ft_index.specs.UpTo.{TagsUpTo}
use Rattle.ft_index.proofs.tags.add_field.Given as goal

-- the tags so far have their entries, and no other list has one
abbrev pub invariant-loop-tag : goal.invariant-loop-tag
invariant-loop-tag l = record {
  added : FieldTagsGain l.field (take l.tag-index l.tags) l.id l.fn.lists l.lists;
  up_to : TagsUpTo l.id l.lists;
  takes : TakesLists l.fn.markers l.markers (tag_list l.fn.lists) (tag_list l.lists);
}
