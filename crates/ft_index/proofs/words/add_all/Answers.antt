use Rattle.std.proofs.Common.{refl, sym, subst, rules}
use Rattle.std.specs.List.{IsDistinct}
use Rattle.std.specs.Map.{keys_of}
use Rattle.ft_index.specs.Collected.{AreAddedBut, AreMet, Collected, GrowBy}
use Rattle.ft_index.specs.Markers.{word_marker}
use Rattle.term_dict.specs.Terms.{list_of}
use Rattle.ft_index.proofs.AddingLaws.{grown, added-next, rest-distinct, front-later}
use Rattle.ft_index.proofs.CollectedLaws.{same_key}
use Rattle.ft_index.proofs.TakingLaws.{before-taken, lists-again, lists-none}
use Rattle.ft_index.proofs.words.add_all.Goals as goal

pub returns-clause-some : goal.returns-clause-some
returns-clause-some c = grown c.loop-word.word-iterator c.args.found.entries c.args.id c.args.terms.now c.loop-word.terms c.loop-word.invariant.added

pub returns-in_err-add-clause-some : goal.returns-in_err-add-clause-some
returns-in_err-add-clause-some c =
    subst (GrowBy c.args.id c.args.terms.now) (sym c.in_err-add.ensures.err)
    (grown c.loop-word.word-iterator c.args.found.entries c.args.id c.args.terms.now c.loop-word.terms c.loop-word.invariant.added)

pub add-requires-clause-before : goal.add-requires-clause-before
add-requires-clause-before c =
    before-taken c.args.markers.now c.loop-word.markers (word_marker c.args.terms.now) (word_marker c.loop-word.terms) c.requires.before c.loop-word.invariant.takes.markers

pub loop-word-preserved : goal.loop-word-preserved
loop-word-preserved c =
    let front = c.in-Some.ensures.steps in
    let distinct = subst (λ (left : Collected). IsDistinct same_key (keys_of left)) front c.loop-word.invariant.distinct in
    let met = subst AreMet front c.loop-word.invariant.met in
    let added = subst (λ (left : Collected). AreAddedBut left c.args.found.entries c.args.id c.args.terms.now c.loop-word.terms) front c.loop-word.invariant.added in
    record {
      can_next = tt;
      is_finite = tt;
      distinct = rest-distinct c.in-Some.word c.in-Some.codes c.next.new.self distinct;
      met = met.1;
      added = added-next c.in-Some.word c.in-Some.codes c.next.new.self c.args.found.entries c.args.id c.args.terms.now c.loop-word.terms c.add.new.terms distinct met added
          c.in_ok-add.ensures.ok;
      up_to = c.add.ensures.up_to;
      takes = lists-again c.args.markers.now c.loop-word.markers c.add.new.markers (list_of c.args.terms.now) (list_of c.loop-word.terms) (list_of c.add.new.terms)
          c.requires.before c.loop-word.invariant.takes c.add.ensures.takes;
    }

pub add-requires-clause-later : goal.add-requires-clause-later
add-requires-clause-later c =
    let added = subst (λ (left : Collected). AreAddedBut left c.args.found.entries c.args.id c.args.terms.now c.loop-word.terms) c.in-Some.ensures.steps c.loop-word.invariant.added in
    front-later c.in-Some.word c.in-Some.codes c.next.new.self c.args.found.entries c.args.id c.args.terms.now c.loop-word.terms _ refl added c.requires.later

pub returns-in_err-add-clause-takes : goal.returns-in_err-add-clause-takes
returns-in_err-add-clause-takes c =
    lists-again c.args.markers.now c.loop-word.markers c.add.new.markers (list_of c.args.terms.now) (list_of c.loop-word.terms) (list_of c.add.new.terms)
    c.requires.before c.loop-word.invariant.takes c.add.ensures.takes

pub loop-word-init : goal.loop-word-init
loop-word-init c =
    let takes = lists-none c.args.markers.now (list_of c.args.terms.now) in
    search (rules, takes)
