-- The lists of each kind take the document's entries in turn.
use Rattle.std.proofs.Common.{◌≡◌, ℕ, List, Option, IfSome, sym, subst, ◌∙◌, arith, rules}
use Rattle.std.proofs.lemmas.List.{with_items_is}
use Rattle.std.proofs.lemmas.Result.{on_ok_weaker}
use Rattle.std.specs.Vec.{with_items}
use Rattle.id_iters.specs.declared.list_name.ListName.TheVariants as names
use Rattle.numeric_ranges.specs.Ranges.{IsAbove, Rows}
use Rattle.ft_index.specs.Adding.{IsSeen, IsUnseen, ListsHave, RangesHaveAll}
use Rattle.ft_index.specs.Coming.{ListsCome}
use Rattle.ft_index.specs.Lists.{AllLists, rows_of}
use Rattle.ft_index.specs.Markers.{AllBefore, AreBefore, GainsMarkers, MarkersDiffer, TakesLists, TakesMarkers, marker_at, range_list, range_marker, tag_list}
use Rattle.ft_index.specs.UpTo.{AreUpTo, RangesUpTo}
use Rattle.ft_index.specs.contracts.lists.IndexLists.{the_view}
use Rattle.gc_splice.proofs.GrowingLaws.{comes_same}
use Rattle.ft_index.proofs.ComingLaws.{all-come}
use Rattle.ft_index.proofs.ListsLaws.{all-seen, all-unseen, differ-taken, gains-taken, ranges-below, takes-three, takes-two, takes-words, up_to-higher}
use Rattle.ft_index.proofs.TakingLaws.{before-taken}
use Rattle.ft_index.proofs.lists.IndexLists.add.Goals as goal

pub add_words-requires-clause-later : goal.add_words-requires-clause-later
add_words-requires-clause-later c =
    let old : AllLists = the_view c.self.inside in
    let later : AreUpTo c.requires.later.0 old = subst (AreUpTo c.requires.later.0) (sym c.self.view_is) c.requires.later.2 in
    (λ word. omega (arith, (later.words word).end, c.requires.later.1))

pub add_words-requires-clause-up_to : goal.add_words-requires-clause-up_to
add_words-requires-clause-up_to c =
    let old : AllLists = the_view c.self.inside in
    let up_to : AreUpTo c.args.doc.now.id old = up_to-higher c.requires.later.0 c.args.doc.now.id old (omega (arith, c.requires.later.1)) (subst (AreUpTo c.requires.later.0) (sym c.self.view_is) c.requires.later.2) in
    up_to.words

pub add_words-requires-clause-before : goal.add_words-requires-clause-before
add_words-requires-clause-before c =
    let old : AllLists = the_view c.self.inside in
    let before : AreBefore c.args.markers.now old = subst (AreBefore c.args.markers.now) (sym c.self.view_is) c.requires.before in
    (λ word. before (names.Word word))

pub returns-in_err-add_words : goal.returns-in_err-add_words
returns-in_err-add_words c =
    let def = c.args.def.now in
    let doc = c.args.doc.now in
    let old : AllLists = the_view c.self.inside in
    let up_to : AreUpTo c.args.doc.now.id old = up_to-higher c.requires.later.0 c.args.doc.now.id old (omega (arith, c.requires.later.1)) (subst (AreUpTo c.requires.later.0) (sym c.self.view_is) c.requires.later.2) in
    let before : AreBefore c.args.markers.now old = subst (AreBefore c.args.markers.now) (sym c.self.view_is) c.requires.before in
    let differ : MarkersDiffer old = subst MarkersDiffer (sym c.self.view_is) c.requires.differ in
    let new : AllLists = record old { words = c.add_words.new.terms } in
    let takes : TakesMarkers c.args.markers.now c.add_words.new.markers (marker_at old) (marker_at new) = takes-words c.args.markers.now c.add_words.new.markers old c.add_words.new.terms before c.add_words.ensures.takes.markers in
    record {
      unseen = subst (λ (lists : AllLists). IsUnseen doc.id (ListsHave def lists) (ListsHave def new)) c.self.view_is
          (all-unseen def doc.id old new c.add_words.ensures.unseen (λ live docs dead has. has) (λ live docs dead has. has));
      seen = search rules;
      up_to = record { words = c.add_words.ensures.up_to; tags = up_to.tags; ranges = up_to.ranges };
      differ = differ-taken c.args.markers.now c.add_words.new.markers old new differ takes;
      before = before-taken c.args.markers.now c.add_words.new.markers (marker_at old) (marker_at new) before takes;
      gains = subst (λ (lists : AllLists). GainsMarkers lists new c.args.markers.now c.add_words.new.markers) c.self.view_is (gains-taken c.args.markers.now c.add_words.new.markers old new takes);
      comes = subst (λ (lists : AllLists). ListsCome c.args.markers.now.event lists new) c.self.view_is
          (all-come c.args.markers.now.event c.args.markers.now.event c.args.markers.now.event old new (omega arith) (omega arith) c.add_words.ensures.takes.come (λ name. comes_same c.args.markers.now.event (tag_list old.tags name)) (λ name. comes_same c.args.markers.now.event (range_list old.ranges name)));
      event = takes.event;
      next = takes.next;
    }

pub add_tags-requires-clause-later : goal.add_tags-requires-clause-later
add_tags-requires-clause-later c =
    let old : AllLists = the_view c.self.inside in
    let later : AreUpTo c.requires.later.0 old = subst (AreUpTo c.requires.later.0) (sym c.self.view_is) c.requires.later.2 in
    (λ field tag. omega (arith, (later.tags field tag).end, c.requires.later.1))

pub add_tags-requires-clause-up_to : goal.add_tags-requires-clause-up_to
add_tags-requires-clause-up_to c =
    let old : AllLists = the_view c.self.inside in
    let up_to : AreUpTo c.args.doc.now.id old = up_to-higher c.requires.later.0 c.args.doc.now.id old (omega (arith, c.requires.later.1)) (subst (AreUpTo c.requires.later.0) (sym c.self.view_is) c.requires.later.2) in
    up_to.tags

pub add_tags-requires-clause-before : goal.add_tags-requires-clause-before
add_tags-requires-clause-before c =
    let old : AllLists = the_view c.self.inside in
    let before : AreBefore c.args.markers.now old = subst (AreBefore c.args.markers.now) (sym c.self.view_is) c.requires.before in
    let new : AllLists = record old { words = c.add_words.new.terms } in
    let takes : TakesMarkers c.args.markers.now c.add_words.new.markers (marker_at old) (marker_at new) = takes-words c.args.markers.now c.add_words.new.markers old c.add_words.new.terms before c.add_words.ensures.takes.markers in
    (λ name. before-taken c.args.markers.now c.add_words.new.markers (marker_at old) (marker_at new) before takes (names.Tag name.0 name.1))

pub returns-in_err-add_tags : goal.returns-in_err-add_tags
returns-in_err-add_tags c =
    let def = c.args.def.now in
    let doc = c.args.doc.now in
    let old : AllLists = the_view c.self.inside in
    let up_to : AreUpTo c.args.doc.now.id old = up_to-higher c.requires.later.0 c.args.doc.now.id old (omega (arith, c.requires.later.1)) (subst (AreUpTo c.requires.later.0) (sym c.self.view_is) c.requires.later.2) in
    let before : AreBefore c.args.markers.now old = subst (AreBefore c.args.markers.now) (sym c.self.view_is) c.requires.before in
    let differ : MarkersDiffer old = subst MarkersDiffer (sym c.self.view_is) c.requires.differ in
    let new : AllLists = record old { words = c.add_words.new.terms; tags = c.add_tags.new.lists } in
    let takes : TakesMarkers c.args.markers.now c.add_tags.new.markers (marker_at old) (marker_at new) =
    takes-two c.args.markers.now c.add_words.new.markers c.add_tags.new.markers old c.add_words.new.terms c.add_tags.new.lists before c.add_words.ensures.takes.markers c.add_tags.ensures.takes.markers in
    record {
      unseen = subst (λ (lists : AllLists). IsUnseen doc.id (ListsHave def lists) (ListsHave def new)) c.self.view_is
          (all-unseen def doc.id old new c.add_words.ensures.unseen c.add_tags.ensures.unseen (λ live docs dead has. has));
      seen = search rules;
      up_to = record { words = c.add_words.ensures.up_to; tags = c.add_tags.ensures.up_to; ranges = up_to.ranges };
      differ = differ-taken c.args.markers.now c.add_tags.new.markers old new differ takes;
      before = before-taken c.args.markers.now c.add_tags.new.markers (marker_at old) (marker_at new) before takes;
      gains = subst (λ (lists : AllLists). GainsMarkers lists new c.args.markers.now c.add_tags.new.markers) c.self.view_is (gains-taken c.args.markers.now c.add_tags.new.markers old new takes);
      comes = subst (λ (lists : AllLists). ListsCome c.args.markers.now.event lists new) c.self.view_is
          (all-come c.args.markers.now.event c.add_words.new.markers.event c.args.markers.now.event old new (omega (arith, c.add_words.ensures.takes.markers.event)) (omega arith) c.add_words.ensures.takes.come c.add_tags.ensures.takes.come (λ name. comes_same c.args.markers.now.event (range_list old.ranges name)));
      event = takes.event;
      next = takes.next;
    }

pub add_numbers-requires-clause-later : goal.add_numbers-requires-clause-later
add_numbers-requires-clause-later c =
    let old : AllLists = the_view c.self.inside in
    let later : AreUpTo c.requires.later.0 old = subst (AreUpTo c.requires.later.0) (sym c.self.view_is) c.requires.later.2 in
    subst (λ (ranges : List (Option Rows)). (number : ℕ) → IfSome (rows_of ranges number) (IsAbove c.args.doc.now.id)) (sym c.as_mut_slice.ensures.value)
    (λ number. ranges-below c.requires.later.0 c.args.doc.now.id (rows_of old.ranges number) c.requires.later.1 (later.ranges number))

pub add_numbers-requires-clause-up_to : goal.add_numbers-requires-clause-up_to
add_numbers-requires-clause-up_to c =
    let old : AllLists = the_view c.self.inside in
    let up_to : AreUpTo c.args.doc.now.id old = up_to-higher c.requires.later.0 c.args.doc.now.id old (omega (arith, c.requires.later.1)) (subst (AreUpTo c.requires.later.0) (sym c.self.view_is) c.requires.later.2) in
    subst (RangesUpTo c.args.doc.now.id) (sym c.as_mut_slice.ensures.value) up_to.ranges

pub add_numbers-requires-clause-before : goal.add_numbers-requires-clause-before
add_numbers-requires-clause-before c =
    let old : AllLists = the_view c.self.inside in
    let before : AreBefore c.args.markers.now old = subst (AreBefore c.args.markers.now) (sym c.self.view_is) c.requires.before in
    let new : AllLists = record old { words = c.add_words.new.terms; tags = c.add_tags.new.lists } in
    let takes : TakesMarkers c.args.markers.now c.add_tags.new.markers (marker_at old) (marker_at new) =
    takes-two c.args.markers.now c.add_words.new.markers c.add_tags.new.markers old c.add_words.new.terms c.add_tags.new.lists before c.add_words.ensures.takes.markers c.add_tags.ensures.takes.markers in
    subst (λ (ranges : List (Option Rows)). AllBefore c.add_tags.new.markers (range_marker ranges)) (sym c.as_mut_slice.ensures.value)
    (λ name. before-taken c.args.markers.now c.add_tags.new.markers (marker_at old) (marker_at new) before takes (names.Range name.0 name.1))

-- what holds of the ranges that were lent, and of those that came back, holds of the ranges of the lists
lent : (P : List (Option Rows) → List (Option Rows) → Type 0) (given old made written : List (Option Rows)) → given ≡ old → written ≡ made → P given made → P old written
lent P given old made written same back h = subst (λ (rs : List (Option Rows)). P rs written) same (subst (λ (rs : List (Option Rows)). P given rs) (sym back) h)

pub returns : goal.returns
returns c =
    let def = c.args.def.now in
    let doc = c.args.doc.now in
    let old : AllLists = the_view c.self.inside in
    let ranges : List (Option Rows) = (with_items c.self.inside.ranges c.add_numbers.new.ranges).items in
    let written : ranges ≡ c.add_numbers.new.ranges = with_items_is c.self.inside.ranges c.add_numbers.new.ranges (c.add_numbers.auto.ranges ∙ c.as_mut_slice.ensures.len) in
    let before : AreBefore c.args.markers.now old = subst (AreBefore c.args.markers.now) (sym c.self.view_is) c.requires.before in
    let differ : MarkersDiffer old = subst MarkersDiffer (sym c.self.view_is) c.requires.differ in
    let new : AllLists = record { words = c.add_words.new.terms; tags = c.add_tags.new.lists; ranges = ranges } in
    let lists : TakesLists c.add_tags.new.markers c.add_numbers.new.markers (range_list old.ranges) (range_list ranges) =
    lent (λ was now. TakesLists c.add_tags.new.markers c.add_numbers.new.markers (range_list was) (range_list now)) _ _ _ _ c.as_mut_slice.ensures.value written c.add_numbers.ensures.takes in
    let numbers : TakesMarkers c.add_tags.new.markers c.add_numbers.new.markers (range_marker old.ranges) (range_marker ranges) = lists.markers in
    let takes : TakesMarkers c.args.markers.now c.add_numbers.new.markers (marker_at old) (marker_at new) =
    takes-three c.args.markers.now c.add_words.new.markers c.add_tags.new.markers c.add_numbers.new.markers old c.add_words.new.terms c.add_tags.new.lists ranges before c.add_words.ensures.takes.markers c.add_tags.ensures.takes.markers numbers in
    record {
      unseen = subst (λ (lists : AllLists). IsUnseen doc.id (ListsHave def lists) (ListsHave def new)) c.self.view_is
          (all-unseen def doc.id old new c.add_words.ensures.unseen c.add_tags.ensures.unseen
          (lent (λ was now. IsUnseen doc.id (RangesHaveAll def was) (RangesHaveAll def now)) _ _ _ _ c.as_mut_slice.ensures.value written c.add_numbers.ensures.unseen));
      seen = on_ok_weaker c.add_numbers.result (λ seen.
          subst (λ (lists : AllLists). IsSeen def doc (ListsHave def lists) (ListsHave def new)) c.self.view_is
          (all-seen def doc old new c.in_ok-add_words.ensures.seen c.in_ok-add_tags.ensures.seen
          (lent (λ was now. IsSeen def doc (RangesHaveAll def was) (RangesHaveAll def now)) _ _ _ _ c.as_mut_slice.ensures.value written seen)))
          c.add_numbers.ensures.seen;
      up_to = record { words = c.add_words.ensures.up_to; tags = c.add_tags.ensures.up_to; ranges = subst (RangesUpTo doc.id) (sym written) c.add_numbers.ensures.up_to };
      differ = differ-taken c.args.markers.now c.add_numbers.new.markers old new differ takes;
      before = before-taken c.args.markers.now c.add_numbers.new.markers (marker_at old) (marker_at new) before takes;
      gains = subst (λ (lists : AllLists). GainsMarkers lists new c.args.markers.now c.add_numbers.new.markers) c.self.view_is (gains-taken c.args.markers.now c.add_numbers.new.markers old new takes);
      comes = subst (λ (lists : AllLists). ListsCome c.args.markers.now.event lists new) c.self.view_is
          (all-come c.args.markers.now.event c.add_words.new.markers.event c.add_tags.new.markers.event old new (omega (arith, c.add_words.ensures.takes.markers.event)) (omega (arith, c.add_words.ensures.takes.markers.event, c.add_tags.ensures.takes.markers.event)) c.add_words.ensures.takes.come c.add_tags.ensures.takes.come lists.come);
      event = takes.event;
      next = takes.next;
    }
