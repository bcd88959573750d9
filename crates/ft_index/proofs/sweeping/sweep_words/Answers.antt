use Rattle.term_dict.specs.Terms.{list_of}
use Rattle.ft_index.specs.Markers.{word_marker}
use Rattle.ft_index.proofs.CollectLaws.{thin-again, thin-same}
use Rattle.ft_index.proofs.TakingLaws.{before-taken, lists-again, lists-none}
use Rattle.ft_index.proofs.sweeping.sweep_words.Goals as goal

pub loop-name-init : goal.loop-name-init
loop-name-init g c = record { thin = thin-same (g.L.Live.is c.args.live.now) c.args.terms.now; takes = lists-none c.args.markers.now (list_of c.args.terms.now) }

pub sweep_word-requires : goal.sweep_word-requires
sweep_word-requires g c = record {
  before = before-taken c.args.markers.now c.loop-name.markers (word_marker c.args.terms.now) (word_marker c.loop-name.terms) c.requires.before c.loop-name.invariant.takes.markers;
}

pub returns-in_err-sweep_word-clause-thin : goal.returns-in_err-sweep_word-clause-thin
returns-in_err-sweep_word-clause-thin g c =
    thin-again (g.L.Live.is c.args.live.now) c.args.terms.now c.loop-name.terms c.sweep_word.new.terms c.loop-name.invariant.thin c.sweep_word.ensures.thin

pub returns-in_err-sweep_word-clause-takes : goal.returns-in_err-sweep_word-clause-takes
returns-in_err-sweep_word-clause-takes g c =
    lists-again c.args.markers.now c.loop-name.markers c.sweep_word.new.markers (list_of c.args.terms.now) (list_of c.loop-name.terms) (list_of c.sweep_word.new.terms)
    c.requires.before c.loop-name.invariant.takes c.sweep_word.ensures.takes

pub loop-name-preserved : goal.loop-name-preserved
loop-name-preserved g c = record {
  thin = thin-again (g.L.Live.is c.args.live.now) c.args.terms.now c.loop-name.terms c.sweep_word.new.terms c.loop-name.invariant.thin c.sweep_word.ensures.thin;
  takes = lists-again c.args.markers.now c.loop-name.markers c.sweep_word.new.markers (list_of c.args.terms.now) (list_of c.loop-name.terms) (list_of c.sweep_word.new.terms)
      c.requires.before c.loop-name.invariant.takes c.sweep_word.ensures.takes;
}
