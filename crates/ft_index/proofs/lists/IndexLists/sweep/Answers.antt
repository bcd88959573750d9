-- The lists of some names lose their dead entries, kind by kind.
use Rattle.std.proofs.Common.{◌≡◌, List, Option, arith, sym, subst, ◌∙◌}
use Rattle.std.proofs.lemmas.List.{with_items_is}
use Rattle.std.specs.Vec.{with_items}
use Rattle.id_iters.specs.declared.list_name.ListName.TheVariants as names
use Rattle.numeric_ranges.specs.Ranges.{Rows}
use Rattle.ft_index.specs.Coming.{ListsCome}
use Rattle.ft_index.specs.Lists.{AllLists, rows_of}
use Rattle.ft_index.specs.Markers.{AllBefore, AreBefore, GainsMarkers, MarkersDiffer, TakesLists, TakesMarkers, marker_at, range_list, range_marker, tag_list}
use Rattle.ft_index.specs.Thinned.{ListsThin, RangesThin}
use Rattle.ft_index.specs.contracts.lists.IndexLists.{the_view}
use Rattle.gc_splice.proofs.GrowingLaws.{comes_same}
use Rattle.ft_index.proofs.CollectLaws.{tags-same}
use Rattle.ft_index.proofs.ComingLaws.{all-come}
use Rattle.ft_index.proofs.ListsLaws.{differ-taken, gains-taken, takes-three, takes-two, takes-words}
use Rattle.ft_index.proofs.TakingLaws.{before-taken}
use Rattle.ft_index.proofs.ThinLaws.{slot-same}
use Rattle.ft_index.proofs.lists.IndexLists.sweep.Goals as goal

pub sweep_words-requires : goal.sweep_words-requires
sweep_words-requires g c =
    let old : AllLists = the_view c.self.inside in
    let before : AreBefore c.args.markers.now old = subst (AreBefore c.args.markers.now) (sym c.self.view_is) c.requires.before in
    record { before = λ word. before (names.Word word) }

pub returns-in_err-sweep_words : goal.returns-in_err-sweep_words
returns-in_err-sweep_words g c =
    let live = g.L.Live.is c.args.live.now in
    let old : AllLists = the_view c.self.inside in
    let before : AreBefore c.args.markers.now old = subst (AreBefore c.args.markers.now) (sym c.self.view_is) c.requires.before in
    let differ : MarkersDiffer old = subst MarkersDiffer (sym c.self.view_is) c.requires.differ in
    let new : AllLists = record old { words = c.sweep_words.new.terms } in
    let takes : TakesMarkers c.args.markers.now c.sweep_words.new.markers (marker_at old) (marker_at new) = takes-words c.args.markers.now c.sweep_words.new.markers old c.sweep_words.new.terms before c.sweep_words.ensures.takes.markers in
    let thin : ListsThin live old new = record { words = c.sweep_words.ensures.thin; tags = tags-same live old.tags; ranges = λ field. slot-same live (rows_of old.ranges field) } in
    record {
      thin = subst (λ (lists : AllLists). ListsThin live lists new) c.self.view_is thin;
      differ = differ-taken c.args.markers.now c.sweep_words.new.markers old new differ takes;
      before = before-taken c.args.markers.now c.sweep_words.new.markers (marker_at old) (marker_at new) before takes;
      gains = subst (λ (lists : AllLists). GainsMarkers lists new c.args.markers.now c.sweep_words.new.markers) c.self.view_is (gains-taken c.args.markers.now c.sweep_words.new.markers old new takes);
      comes = subst (λ (lists : AllLists). ListsCome c.args.markers.now.event lists new) c.self.view_is
          (all-come c.args.markers.now.event c.args.markers.now.event c.args.markers.now.event old new (omega (arith)) (omega (arith)) c.sweep_words.ensures.takes.come (λ name. comes_same c.args.markers.now.event (tag_list old.tags name)) (λ name. comes_same c.args.markers.now.event (range_list old.ranges name)));
      event = takes.event;
      next = takes.next;
    }

pub sweep_tags-requires : goal.sweep_tags-requires
sweep_tags-requires g c =
    let old : AllLists = the_view c.self.inside in
    let before : AreBefore c.args.markers.now old = subst (AreBefore c.args.markers.now) (sym c.self.view_is) c.requires.before in
    let new : AllLists = record old { words = c.sweep_words.new.terms } in
    let takes : TakesMarkers c.args.markers.now c.sweep_words.new.markers (marker_at old) (marker_at new) = takes-words c.args.markers.now c.sweep_words.new.markers old c.sweep_words.new.terms before c.sweep_words.ensures.takes.markers in
    record { before = λ name. before-taken c.args.markers.now c.sweep_words.new.markers (marker_at old) (marker_at new) before takes (names.Tag name.0 name.1) }

pub returns-in_err-sweep_tags : goal.returns-in_err-sweep_tags
returns-in_err-sweep_tags g c =
    let live = g.L.Live.is c.args.live.now in
    let old : AllLists = the_view c.self.inside in
    let before : AreBefore c.args.markers.now old = subst (AreBefore c.args.markers.now) (sym c.self.view_is) c.requires.before in
    let differ : MarkersDiffer old = subst MarkersDiffer (sym c.self.view_is) c.requires.differ in
    let new : AllLists = record old { words = c.sweep_words.new.terms; tags = c.sweep_tags.new.tags } in
    let takes : TakesMarkers c.args.markers.now c.sweep_tags.new.markers (marker_at old) (marker_at new) =
    takes-two c.args.markers.now c.sweep_words.new.markers c.sweep_tags.new.markers old c.sweep_words.new.terms c.sweep_tags.new.tags before c.sweep_words.ensures.takes.markers c.sweep_tags.ensures.takes.markers in
    let thin : ListsThin live old new = record { words = c.sweep_words.ensures.thin; tags = c.sweep_tags.ensures.thin; ranges = λ field. slot-same live (rows_of old.ranges field) } in
    record {
      thin = subst (λ (lists : AllLists). ListsThin live lists new) c.self.view_is thin;
      differ = differ-taken c.args.markers.now c.sweep_tags.new.markers old new differ takes;
      before = before-taken c.args.markers.now c.sweep_tags.new.markers (marker_at old) (marker_at new) before takes;
      gains = subst (λ (lists : AllLists). GainsMarkers lists new c.args.markers.now c.sweep_tags.new.markers) c.self.view_is (gains-taken c.args.markers.now c.sweep_tags.new.markers old new takes);
      comes = subst (λ (lists : AllLists). ListsCome c.args.markers.now.event lists new) c.self.view_is
          (all-come c.args.markers.now.event c.sweep_words.new.markers.event c.args.markers.now.event old new (omega (arith, c.sweep_words.ensures.takes.markers.event)) (omega (arith)) c.sweep_words.ensures.takes.come c.sweep_tags.ensures.takes.come (λ name. comes_same c.args.markers.now.event (range_list old.ranges name)));
      event = takes.event;
      next = takes.next;
    }

pub sweep_ranges-requires : goal.sweep_ranges-requires
sweep_ranges-requires g c =
    let old : AllLists = the_view c.self.inside in
    let before : AreBefore c.args.markers.now old = subst (AreBefore c.args.markers.now) (sym c.self.view_is) c.requires.before in
    let new : AllLists = record old { words = c.sweep_words.new.terms; tags = c.sweep_tags.new.tags } in
    let takes : TakesMarkers c.args.markers.now c.sweep_tags.new.markers (marker_at old) (marker_at new) =
    takes-two c.args.markers.now c.sweep_words.new.markers c.sweep_tags.new.markers old c.sweep_words.new.terms c.sweep_tags.new.tags before c.sweep_words.ensures.takes.markers c.sweep_tags.ensures.takes.markers in
    record {
      before = subst (λ (ranges : List (Option Rows)). AllBefore c.sweep_tags.new.markers (range_marker ranges)) (sym c.as_mut_slice.ensures.value)
          (λ name. before-taken c.args.markers.now c.sweep_tags.new.markers (marker_at old) (marker_at new) before takes (names.Range name.0 name.1));
    }

-- what holds of the ranges that were lent, and of those that came back, holds of the ranges of the lists
lent : (P : List (Option Rows) → List (Option Rows) → Type 0) (given old made written : List (Option Rows)) → given ≡ old → written ≡ made → P given made → P old written
lent P given old made written same back h = subst (λ (rs : List (Option Rows)). P rs written) same (subst (λ (rs : List (Option Rows)). P given rs) (sym back) h)

pub returns : goal.returns
returns g c =
    let live = g.L.Live.is c.args.live.now in
    let old : AllLists = the_view c.self.inside in
    let ranges : List (Option Rows) = (with_items c.self.inside.ranges c.sweep_ranges.new.ranges).items in
    let written : ranges ≡ c.sweep_ranges.new.ranges = with_items_is c.self.inside.ranges c.sweep_ranges.new.ranges (c.sweep_ranges.auto.ranges ∙ c.as_mut_slice.ensures.len) in
    let before : AreBefore c.args.markers.now old = subst (AreBefore c.args.markers.now) (sym c.self.view_is) c.requires.before in
    let differ : MarkersDiffer old = subst MarkersDiffer (sym c.self.view_is) c.requires.differ in
    let new : AllLists = record { words = c.sweep_words.new.terms; tags = c.sweep_tags.new.tags; ranges = ranges } in
    let numbers : TakesLists c.sweep_tags.new.markers c.sweep_ranges.new.markers (range_list old.ranges) (range_list ranges) =
    lent (λ was now. TakesLists c.sweep_tags.new.markers c.sweep_ranges.new.markers (range_list was) (range_list now)) _ _ _ _ c.as_mut_slice.ensures.value written c.sweep_ranges.ensures.takes in
    let takes : TakesMarkers c.args.markers.now c.sweep_ranges.new.markers (marker_at old) (marker_at new) =
    takes-three c.args.markers.now c.sweep_words.new.markers c.sweep_tags.new.markers c.sweep_ranges.new.markers old c.sweep_words.new.terms c.sweep_tags.new.tags ranges before c.sweep_words.ensures.takes.markers c.sweep_tags.ensures.takes.markers numbers.markers in
    let thin : ListsThin live old new = record {
      words = c.sweep_words.ensures.thin;
      tags = c.sweep_tags.ensures.thin;
      ranges = lent (λ was now. RangesThin live was now) _ _ _ _ c.as_mut_slice.ensures.value written c.sweep_ranges.ensures.thin;
    } in
    record {
      thin = subst (λ (lists : AllLists). ListsThin live lists new) c.self.view_is thin;
      differ = differ-taken c.args.markers.now c.sweep_ranges.new.markers old new differ takes;
      before = before-taken c.args.markers.now c.sweep_ranges.new.markers (marker_at old) (marker_at new) before takes;
      gains = subst (λ (lists : AllLists). GainsMarkers lists new c.args.markers.now c.sweep_ranges.new.markers) c.self.view_is (gains-taken c.args.markers.now c.sweep_ranges.new.markers old new takes);
      comes = subst (λ (lists : AllLists). ListsCome c.args.markers.now.event lists new) c.self.view_is
          (all-come c.args.markers.now.event c.sweep_words.new.markers.event c.sweep_tags.new.markers.event old new (omega (arith, c.sweep_words.ensures.takes.markers.event)) (omega (arith, c.sweep_words.ensures.takes.markers.event, c.sweep_tags.ensures.takes.markers.event)) c.sweep_words.ensures.takes.come c.sweep_tags.ensures.takes.come numbers.come);
      event = takes.event;
      next = takes.next;
    }
