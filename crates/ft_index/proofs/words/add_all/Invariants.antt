use Rattle.std.specs.List.{IsDistinct}
use Rattle.std.specs.Map.{keys_of}
use Rattle.ft_index.specs.Collected.{AreAddedBut, AreMet}
use Rattle.ft_index.specs.Markers.{TakesLists}
use Rattle.ft_index.specs.UpTo.{WordsUpTo}
use Rattle.term_dict.specs.Terms.{list_of}
use Rattle.ft_index.proofs.CollectedLaws.{same_key}
use Rattle.ft_index.proofs.words.add_all.Given as goal

-- the words so far have their entries, and those that are left have none yet
abbrev pub invariant-loop-word : goal.invariant-loop-word
invariant-loop-word l = record {
  can_next : (goal.iterator-loop-word).can_next l.word-iterator;
  is_finite : (goal.iterator-loop-word).is_finite l.word-iterator;
  distinct : IsDistinct same_key (keys_of l.word-iterator);
  met : AreMet l.word-iterator;
  added : AreAddedBut l.word-iterator l.fn.found.entries l.id l.fn.terms l.terms;
  up_to : WordsUpTo l.id l.terms;
  takes : TakesLists l.fn.markers l.markers (list_of l.fn.terms) (list_of l.terms);
}
