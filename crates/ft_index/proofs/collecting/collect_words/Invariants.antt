use Rattle.std.proofs.Common.{drop}
use Rattle.ft_index.specs.Collecting.{LiveBut}
use Rattle.ft_index.specs.Markers.{TakesLists}
use Rattle.term_dict.specs.Terms.{list_of}
use Rattle.ft_index.specs.Thinned.{WordsThin}
use Rattle.ft_index.proofs.collecting.collect_words.Given as goal

-- the words that are left are the only ones with a dead entry
abbrev pub invariant-loop-word : goal.invariant-loop-word
invariant-loop-word g l = record {
  thin : WordsThin (g.L.Live.is l.live) l.fn.terms l.terms;
  but : LiveBut (g.L.Live.is l.live) (drop l.word-index l.word-items) l.terms;
  takes : TakesLists l.fn.markers l.markers (list_of l.fn.terms) (list_of l.terms);
}
