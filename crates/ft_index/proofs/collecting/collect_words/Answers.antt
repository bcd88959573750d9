use Rattle.std.proofs.Common.{◌≡◌, ◌∷◌, ◌+◌, ◌∙◌, ap, arith, drop, sym, subst}
use Rattle.ft_index.specs.Collecting.{LiveBut, RowsLiveBut}
use Rattle.ft_index.specs.Markers.{word_marker}
use Rattle.ft_index.proofs.CollectLaws.{but-next, but-none, but-rows, left-next, left-none, rows-all, thin-again, thin-same}
use Rattle.ft_index.proofs.TakingLaws.{before-taken, lists-again, lists-none}
use Rattle.term_dict.specs.Terms.{list_of}
use Rattle.ft_index.proofs.collecting.collect_words.Goals as goal

pub returns-in_err-walk-clause-thin : goal.returns-in_err-walk-clause-thin
returns-in_err-walk-clause-thin g c = thin-same (g.L.Live.is c.args.live.now) c.args.terms.now

pub returns-in_err-words-clause-thin : goal.returns-in_err-words-clause-thin
returns-in_err-words-clause-thin g c = thin-same (g.L.Live.is c.args.live.now) c.args.terms.now

pub loop-word-init : goal.loop-word-init
loop-word-init g c =
    let live = g.L.Live.is c.args.live.now in
    let terms = c.args.terms.now in
    record {
      thin = thin-same live terms;
      but = but-rows live c.as_slice-word-items.result.now terms
          (subst (λ words. RowsLiveBut live words terms) (sym c.as_slice-word-items.ensures)
          (subst (RowsLiveBut live c.in_ok-words.words) (c.in_ok-walk.ensures ∙ rows-all terms) c.in_ok-words.ensures));
      takes = lists-none c.args.markers.now (list_of terms);
    }

pub collect_word-requires : goal.collect_word-requires
collect_word-requires g c = record {
  before = before-taken c.args.markers.now c.loop-word.markers (word_marker c.args.terms.now) (word_marker c.loop-word.terms) c.requires.before c.loop-word.invariant.takes.markers;
}

pub returns-in_err-collect_word-clause-thin : goal.returns-in_err-collect_word-clause-thin
returns-in_err-collect_word-clause-thin g c =
    thin-again (g.L.Live.is c.args.live.now) c.args.terms.now c.loop-word.terms c.collect_word.new.terms c.loop-word.invariant.thin c.collect_word.ensures.thin

pub returns-in_err-collect_word-clause-takes : goal.returns-in_err-collect_word-clause-takes
returns-in_err-collect_word-clause-takes g c =
    lists-again c.args.markers.now c.loop-word.markers c.collect_word.new.markers (list_of c.args.terms.now) (list_of c.loop-word.terms) (list_of c.collect_word.new.terms)
    c.requires.before c.loop-word.invariant.takes c.collect_word.ensures.takes

pub loop-word-preserved : goal.loop-word-preserved
loop-word-preserved g c =
    let live = g.L.Live.is c.args.live.now in
    let words = c.as_slice-word-items.result.now in
    let k = c.loop-word.word-index in
    let front : drop k words ≡ c.as_slice.result.now ∷ drop (k + 1) words = left-next words k c.word-item.result c.loop-word-test.true (sym c.word-item.is)
    ∙ ap (λ word. word ∷ drop (k + 1) words) (sym c.as_slice.ensures) in
    record {
      thin = thin-again live c.args.terms.now c.loop-word.terms c.collect_word.new.terms c.loop-word.invariant.thin c.collect_word.ensures.thin;
      but = but-next live c.as_slice.result.now (drop (k + 1) words) c.loop-word.terms c.collect_word.new.terms
          (subst (λ left. LiveBut live left c.loop-word.terms) front c.loop-word.invariant.but) c.in_ok-collect_word.ensures.here c.collect_word.ensures.others;
      takes = lists-again c.args.markers.now c.loop-word.markers c.collect_word.new.markers (list_of c.args.terms.now) (list_of c.loop-word.terms) (list_of c.collect_word.new.terms)
          c.requires.before c.loop-word.invariant.takes c.collect_word.ensures.takes;
    }

pub returns-clause-live : goal.returns-clause-live
returns-clause-live g c =
    let live = g.L.Live.is c.args.live.now in
    but-none live c.loop-word.terms
    (subst (λ left. LiveBut live left c.loop-word.terms) (left-none c.as_slice-word-items.result.now c.loop-word.word-index (omega (arith, c.loop-word-test.false))) c.loop-word.invariant.but)

pub returns-in_err-walk-clause-takes : goal.returns-in_err-walk-clause-takes
returns-in_err-walk-clause-takes g c = lists-none c.args.markers.now (list_of c.args.terms.now)

pub returns-in_err-words-clause-takes : goal.returns-in_err-words-clause-takes
returns-in_err-words-clause-takes g c = lists-none c.args.markers.now (list_of c.args.terms.now)
