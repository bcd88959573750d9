use Rattle.term_dict.specs.Terms.{list_of}
use Rattle.ft_index.specs.Markers.{TakesLists}
use Rattle.ft_index.specs.Thinned.{WordsThin}
use Rattle.ft_index.proofs.sweeping.sweep_words.Given as goal

abbrev pub invariant-loop-name : goal.invariant-loop-name
invariant-loop-name g l = record {
  thin : WordsThin (g.L.Live.is l.live) l.fn.terms l.terms;
  takes : TakesLists l.fn.markers l.markers (list_of l.fn.terms) (list_of l.terms);
}
