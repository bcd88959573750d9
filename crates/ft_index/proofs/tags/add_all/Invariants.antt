use Rattle.std.proofs.Common.{take}
use Rattle.ft_index.specs.Adding.{TagsUnseen}
use Rattle.ft_index.specs.Markers.{TakesLists, tag_list}
use Rattle.ft_index.specs.Tagging.{TagsGain}
use Rattle.ft_index.specs.UpTo.{TagsUpTo}
use Rattle.ft_index.proofs.tags.add_all.Given as goal

-- the tags of the fields so far have their entries
abbrev pub invariant-loop-number : goal.invariant-loop-number
invariant-loop-number l = record {
  added : TagsGain (take l.number l.fields) l.doc l.fn.lists l.lists;
  unseen : TagsUnseen l.doc.id l.fn.lists l.lists;
  up_to : TagsUpTo l.doc.id l.lists;
  takes : TakesLists l.fn.markers l.markers (tag_list l.fn.lists) (tag_list l.lists);
}
