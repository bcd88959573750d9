-- The marker that was pictured, behind the splice of its list and later: no list of the name has it.
use Rattle.std.proofs.Common.{◌≡◌, ◌≢◌, ◌⊎◌, ℕ, zero, suc, ℤ, ◌<◌, ◌+◌, ◌==◌, Bool, true, false, cond, List, [], ◌∷◌, length, Option, Some, None, inl, inr, refl, sym, ap, subst, ◌∙◌, arith}
use Rattle.std.specs.Prelude.{find, slice_index_or, IfNone, IfSome}
use Rattle.std.specs.List.{AllByRecursion, Contains}
use Rattle.std.specs.List.Sorted.{IsStrictlySortedBy}
use Rattle.std.specs.Option.{option_map}
use Rattle.std.specs.Ordering.{int_cmp, nat_cmp}
use Rattle.std.specs.declared.cmp.Ordering.TheVariants.{Less}
use Rattle.std.proofs.lemmas.Int.{ints}
use Rattle.std.proofs.lemmas.Bool.Decides.{nat_tests}
use Rattle.std.proofs.lemmas.List.Elements.{All-cons, All-contains, All-nil}
use Rattle.ft_index.proofs.FieldLaws.{decided}
use Rattle.ft_index.proofs.ListLaws.{list-here}
use Rattle.ft_index.proofs.RowLaws.{list-set}
use Rattle.ft_index.specs.Coming.{ListsCome}
use Rattle.ft_index.specs.Index.{Index, is_live}
use Rattle.ft_index.specs.Lists.{AllLists, list_from, rows_of}
use Rattle.ft_index.specs.Markers.{marker_at, marker_in}
use Rattle.ft_index.specs.Snapshots.{AnyListing, NamesRise, RangeList, TagList, WordList, list_at, name_cmp, names_of, pictured}
use Rattle.ft_index.specs.Splicing.{FitsName, SplicesName, SplicesSlot}
use Rattle.ft_index.specs.declared.repairs.AnyRepair.{AnyRepair}
use Rattle.ft_index.specs.declared.repairs.AnyRepair.TheVariants as repairs
use Rattle.ft_index.specs.declared.snapshots.AnyPicture.{AnyPicture}
use Rattle.ft_index.specs.declared.snapshots.AnyPicture.TheVariants as pictures
use Rattle.ft_index.specs.declared.snapshots.NamedPicture.{NamedPicture}
use Rattle.picture_laws.specs.Picturing.{ArePast}
use Rattle.inverted_list.specs.Blocks.{listing}
use Rattle.inverted_list.specs.Names.{word_cmp}
use Rattle.gc_splice.specs.Growing.{ComesFrom}
use Rattle.gc_splice.specs.Splice.{spliced}
use Rattle.gc_splice.specs.declared.repair.Repair.{Repair}
use Rattle.gc_splice.specs.declared.splice.Spliced.{Spliced}
use Rattle.gc_splice.specs.declared.splice.Spliced.TheVariants.{Gone, Moved}
use Rattle.id_iters.specs.declared.list_name.ListName.{ListName}
use Rattle.id_iters.specs.declared.list_name.ListName.TheVariants as names
use Rattle.indexed_store.specs.DefinitionsOf.{definitions_of}
use Rattle.indexed_store.specs.Moving.{IndexesMove}
use Rattle.indexed_store.specs.Named.{has_serial, with_serial}
use Rattle.indexed_store.proofs.NamedLaws.{found-serial}
use Rattle.indexed_store.specs.Repairing.{FitsSerial, SplicesFound, SplicesSerial}
use Rattle.inverted_list.specs.Listing.{Listing}
use Rattle.inverted_list.specs.declared.marker.Marker.{Marker}
use Rattle.numeric_ranges.specs.Ranges.{Rows}
use Rattle.numeric_ranges.specs.Ranges as rows
use Rattle.posting_block.specs.declared.hits.NumHit.{NumHit}
use Rattle.posting_block.specs.declared.hits.TagHit.{TagHit}
use Rattle.term_dict.specs.Splices.{Splices, SplicesTag, some_filled}
use Rattle.term_dict.specs.Tags.{FieldTags, list_in, tags_of}
use Rattle.term_dict.specs.Terms.{Lists, Sets, list_of}
use Rattle.ft_engine.specs.Entries.{marker_of}
use Rattle.ft_engine.specs.Stepping.{seen_marker}
use Rattle.ft_server.specs.Passes.{ChangesNothing}
use Rattle.ft_server.specs.Telling.{LacksMarker}
use Rattle.ft_server.proofs.SerialLaws.{Between, Rise}

-- ---- later

marker-came : {P : Type 0} (event : ℕ) (o n : Option (Listing P)) (marker : Marker) → ComesFrom event o n → marker.event < event → marker_in n ≡ Some marker → marker_in o ≡ Some marker
marker-came event o None marker came low has = cc (has)
marker-came event o (Some l) marker came low has =
    let same : l.marker ≡ marker = cc (has) in
    let from = came l refl (subst (λ (m : Marker). m.event < event) (sym same) low) in
    ap marker_in from.1 ∙ (ap Some (sym from.2.marker) ∙ has)

name-came : (event : ℕ) (old new : AllLists) (name : ListName) (marker : Marker) → ListsCome event old new → marker.event < event → marker_at new name ≡ Some marker → marker_at old name ≡ Some marker
name-came event old new (names.Word text) marker come low has = marker-came event (list_of old.words text) (list_of new.words text) marker (come.words text) low has
name-came event old new (names.Tag field text) marker come low has = marker-came event (list_in old.tags field text) (list_in new.tags field text) marker (come.tags field text) low has
name-came event old new (names.Range field bound) marker come low has =
    marker-came event (list_from (rows_of old.ranges field) bound) (list_from (rows_of new.ranges field) bound) marker (come.ranges field bound) low has

-- a marker of an earlier event that no list of the name has stays so
pub lacks-kept : (serial next : ℕ) (name : ListName) (marker : Marker) (olds news : List Index) → marker.event < next → IndexesMove next olds news → LacksMarker serial name marker olds → LacksMarker serial name marker news
lacks-kept serial next name marker olds news low moves lacks i d short same has = elim (moves i d short) [
  | inl came ↦
      All-contains (λ (index : Index). index.def.serial ≡ serial → marker_at index.lists name ≢ Some marker) olds came.old lacks came.there (sym came.came.serial ∙ same)
      (name-came next came.old.lists (slice_index_or news i d).lists name marker came.came.lists low has)
  | inr fresh ↦ absurd (omega (arith, low, fresh marker (record { name = name; has = has })))
]

-- ---- behind the splice of one list

markers-differ : (a b : Marker) → (a ≡ b) ⊎ (a ≢ b)
markers-differ a b = elim (decided a.event b.event) [
  | inl event ↦ elim (decided a.nth b.nth) [
    | inl nth ↦ inl (λ i. record { event = event i; nth = nth i })
    | inr apart ↦ inr (λ is. apart (ap (λ (m : Marker). m.nth) is))
  ]
  | inr apart ↦ inr (λ is. apart (ap (λ (m : Marker). m.event) is))
]

module _ {P : Type 0} (word : List ℕ) (repair : Repair P) (marker : Marker) (old new : Lists P) (outcome : Spliced) (low : repair.seen.event < marker.event) where
  filled-apart : (l : Listing P) → l.marker ≡ marker → marker_in (some_filled l) ≢ Some repair.seen
  filled-apart l is has = by_entries (length l.entries == 0) refl has
    where
      by_entries : (b : Bool) → (length l.entries == 0) ≡ b → marker_in (some_filled l) ≡ Some repair.seen → ⊥
      by_entries true e has = let none : ◌≡◌ {A = Option Marker} None (Some repair.seen) = rw e at has in cc (none)
      by_entries false e has =
          let some : ◌≡◌ {A = Option Marker} (Some l.marker) (Some repair.seen) = rw e at has in
          let same : l.marker ≡ repair.seen = cc (some) in
          absurd (omega (arith, low, ap (λ (m : Marker). m.event) is, ap (λ (m : Marker). m.event) same))

  word-lacks : IfNone (list_of old word) ((outcome ≡ Gone) × (new ≡ old)) → IfSome (list_of old word) (λ l. Splices (λ list. Sets word list old new) (new ≡ old) repair marker l outcome)
      → marker_in (list_of new word) ≢ Some repair.seen
  word-lacks gone there = by_list (list_of old word) refl gone there
    where
      still : new ≡ old → (list : Option (Listing P)) → list_of old word ≡ list → list_of new word ≡ list
      still same list is = ap (λ (lists : Lists P). list_of lists word) same ∙ is

      by_list : (list : Option (Listing P)) → list_of old word ≡ list → IfNone list ((outcome ≡ Gone) × (new ≡ old))
          → IfSome list (λ l. Splices (λ list. Sets word list old new) (new ≡ old) repair marker l outcome) → marker_in (list_of new word) ≢ Some repair.seen
      by_list None is gone there has = let none : ◌≡◌ {A = Option Marker} None (Some repair.seen) = sym (ap marker_in (still gone.1 None is)) ∙ has in cc (none)
      by_list (Some l) is gone there has = elim (markers-differ repair.seen l.marker) [
        | inl same ↦ filled-apart (spliced l repair marker) refl (sym (ap marker_in (list-here old new word (some_filled (spliced l repair marker)) (there.done same).0)) ∙ has)
        | inr apart ↦
            let some : ◌≡◌ {A = Option Marker} (Some l.marker) (Some repair.seen) = sym (ap marker_in (still (there.moved apart).0 (Some l) is)) ∙ has in
            let same : l.marker ≡ repair.seen = cc (some) in absurd (apart (sym same))
      ]

tag-lacks : (field : ℕ) (tag : List ℕ) (repair : Repair TagHit) (marker : Marker) (old new : FieldTags) (outcome : Spliced) → repair.seen.event < marker.event
    → IfNone (list_in old field tag) ((outcome ≡ Gone) × (new ≡ old)) → IfSome (list_in old field tag) (λ l. SplicesTag field tag repair marker l old new outcome)
    → marker_in (list_in new field tag) ≢ Some repair.seen
tag-lacks field tag repair marker old new outcome low gone there = word-lacks tag repair marker (tags_of old field) (tags_of new field) outcome low (none (list_in old field tag) gone) (some (list_in old field tag) there)
  where
    still : new ≡ old → tags_of new field ≡ tags_of old field
    still same = ap (λ (tags : FieldTags). tags_of tags field) same

    none : (list : Option (Listing TagHit)) → IfNone list ((outcome ≡ Gone) × (new ≡ old)) → IfNone list ((outcome ≡ Gone) × (tags_of new field ≡ tags_of old field))
    none None is = (is.0, still is.1)
    none (Some l) is = tt

    some : (list : Option (Listing TagHit)) → IfSome list (λ l. SplicesTag field tag repair marker l old new outcome)
        → IfSome list (λ l. Splices (λ list. Sets tag list (tags_of old field) (tags_of new field)) (tags_of new field ≡ tags_of old field) repair marker l outcome)
    some None is = tt
    some (Some l) is = record {
      moved = λ apart. let m = is.moved apart in (still m.0, m.1);
      done = λ same. let d = is.done same in (d.0.here, d.1);
      blocks = is.blocks;
    }

module _ (low : ℤ) (repair : Repair NumHit) (marker : Marker) (new : Option Rows) (outcome : Spliced) (later : repair.seen.event < marker.event) where
  slot-lacks : (old : Option Rows) → IfNone (list_from old low) ((outcome ≡ Gone) × (new ≡ old)) → IfSome (list_from old low) (λ l. SplicesSlot low repair marker l old new outcome)
      → marker_in (list_from new low) ≢ Some repair.seen
  slot-lacks None gone there has = let none : ◌≡◌ {A = Option Marker} None (Some repair.seen) = sym (ap (λ (slot : Option Rows). marker_in (list_from slot low)) gone.1) ∙ has in cc (none)
  slot-lacks (Some slot) gone there has = by_list (rows.list_at slot low) refl gone there has
    where
      still : new ≡ Some slot → (list : Option (Listing NumHit)) → rows.list_at slot low ≡ list → list_from new low ≡ list
      still same list is = ap (λ (slot : Option Rows). list_from slot low) same ∙ is

      by_list : (list : Option (Listing NumHit)) → rows.list_at slot low ≡ list → IfNone list ((outcome ≡ Gone) × (new ≡ Some slot))
          → IfSome list (λ l. SplicesSlot low repair marker l (Some slot) new outcome) → marker_in (list_from new low) ≢ Some repair.seen
      by_list None is gone there has = let none : ◌≡◌ {A = Option Marker} None (Some repair.seen) = sym (ap marker_in (still gone.1 None is)) ∙ has in cc (none)
      by_list (Some l) is gone there has = elim (markers-differ repair.seen l.marker) [
        | inl same ↦
            let put : list_from new low ≡ Some (spliced l repair marker) = ap (λ (slot : Option Rows). list_from slot low) (there.done same).0 ∙ list-set slot low (spliced l repair marker) l is in
            let some : ◌≡◌ {A = Option Marker} (Some marker) (Some repair.seen) = sym (ap marker_in put) ∙ has in
            let one : marker ≡ repair.seen = cc (some) in absurd (omega (arith, later, ap (λ (m : Marker). m.event) one))
        | inr apart ↦
            let some : ◌≡◌ {A = Option Marker} (Some l.marker) (Some repair.seen) = sym (ap marker_in (still (there.moved apart).0 (Some l) is)) ∙ has in
            let same : l.marker ≡ repair.seen = cc (some) in absurd (apart (sym same))
      ]

name-lacks : (live : ℕ → Bool) (name : ListName) (repair : AnyRepair) (marker : Marker) (old new : AllLists) (outcome : Spliced) → FitsName live old name repair → (seen_marker repair).event < marker.event
    → SplicesName name repair marker old new outcome → marker_at new name ≢ Some (seen_marker repair)
name-lacks live (names.Word text) (repairs.Word repair) marker old new outcome fits low s = word-lacks text repair marker old.words new.words outcome low s.1 s.2
name-lacks live (names.Tag field text) (repairs.Tag repair) marker old new outcome fits low s = tag-lacks field text repair marker old.tags new.tags outcome low s.1 s.2
name-lacks live (names.Range field bound) (repairs.Range repair) marker old new outcome fits low s = slot-lacks bound repair marker (rows_of new.ranges field) outcome low (rows_of old.ranges field) s.2 s.3
name-lacks live (names.Word text) (repairs.Tag repair) marker old new outcome fits low s = absurd fits
name-lacks live (names.Word text) (repairs.Range repair) marker old new outcome fits low s = absurd fits
name-lacks live (names.Tag field text) (repairs.Word repair) marker old new outcome fits low s = absurd fits
name-lacks live (names.Tag field text) (repairs.Range repair) marker old new outcome fits low s = absurd fits
name-lacks live (names.Range field bound) (repairs.Word repair) marker old new outcome fits low s = absurd fits
name-lacks live (names.Range field bound) (repairs.Tag repair) marker old new outcome fits low s = absurd fits

-- ---- among the indexes

-- serials that rise from above one on are others
others-lack : (serial low high : ℕ) (name : ListName) (marker : Marker) (indexes : List Index) → serial < low → Between low high (definitions_of indexes) → LacksMarker serial name marker indexes
others-lack serial low high name marker [] less rise = All-nil (λ (index : Index). index.def.serial ≡ serial → marker_at index.lists name ≢ Some marker)
others-lack serial low high name marker (index ∷ indexes) less rise =
    All-cons (λ (i : Index). i.def.serial ≡ serial → marker_at i.lists name ≢ Some marker) index indexes (λ same has. absurd (omega (arith, less, rise.0, same)))
    (others-lack serial (index.def.serial + 1) high name marker indexes (omega (arith, less, rise.0)) rise.2)

-- where no index has the serial
none-lack : (serial : ℕ) (name : ListName) (marker : Marker) (indexes : List Index) → find (has_serial serial) indexes ≡ None → LacksMarker serial name marker indexes
none-lack serial name marker [] none = All-nil (λ (index : Index). index.def.serial ≡ serial → marker_at index.lists name ≢ Some marker)
none-lack serial name marker (index ∷ indexes) none = by_test (has_serial serial index) refl none (none-lack serial name marker indexes)
  where
    by_test : (here : Bool) → has_serial serial index ≡ here → cond here (Some index) (find (has_serial serial) indexes) ≡ None
        → (find (has_serial serial) indexes ≡ None → LacksMarker serial name marker indexes) → LacksMarker serial name marker (index ∷ indexes)
    by_test true is found later = cc (found)
    by_test false is found later =
        All-cons (λ (i : Index). i.def.serial ≡ serial → marker_at i.lists name ≢ Some marker) index indexes
        (λ same has. let no : ⊥ = grind (arith, nat_tests, is, same) in no) (later found)

-- the first index of the serial is the only one
with-lacks : (serial low high : ℕ) (name : ListName) (marker : Marker) (indexes : List Index) (new : Index) → Between low high (definitions_of indexes) → marker_at new.lists name ≢ Some marker
    → LacksMarker serial name marker (with_serial indexes serial new)
with-lacks serial low high name marker [] new rise lacks = All-nil (λ (index : Index). index.def.serial ≡ serial → marker_at index.lists name ≢ Some marker)
with-lacks serial low high name marker (index ∷ indexes) new rise lacks =
    by_test (has_serial serial index) refl (with-lacks serial (index.def.serial + 1) high name marker indexes new rise.2 lacks)
  where
    by_test : (here : Bool) → has_serial serial index ≡ here → LacksMarker serial name marker (with_serial indexes serial new)
        → LacksMarker serial name marker (cond here (new ∷ indexes) (index ∷ with_serial indexes serial new))
    by_test true is later =
        let one : serial ≡ index.def.serial = grind (arith, nat_tests, is) in
        All-cons (λ (i : Index). i.def.serial ≡ serial → marker_at i.lists name ≢ Some marker) new indexes (λ same. lacks)
        (others-lack serial (index.def.serial + 1) high name marker indexes (omega (arith, one)) rise.2)
    by_test false is later =
        All-cons (λ (i : Index). i.def.serial ≡ serial → marker_at i.lists name ≢ Some marker) index (with_serial indexes serial new)
        (λ same has. let no : ⊥ = grind (arith, nat_tests, is, same) in no) later

-- behind the splice of a repair, no list of the name has the marker that was pictured
pub lacks-spliced : (serial number : ℕ) (name : ListName) (repair : AnyRepair) (marker : Marker) (olds news : List Index) (outcome : Spliced) → Rise number (definitions_of olds) → FitsSerial serial olds name repair
    → (seen_marker repair).event < marker.event → SplicesSerial serial name repair marker olds news outcome → LacksMarker serial name (seen_marker repair) news
lacks-spliced serial number name repair marker olds news outcome rise fits low splices = by_index (find (has_serial serial) olds) refl fits splices
  where
    by_index : (found : Option Index) → find (has_serial serial) olds ≡ found → IfSome found (λ index. FitsName (is_live index) index.lists name repair)
        → SplicesFound found serial name repair marker olds news outcome → LacksMarker serial name (seen_marker repair) news
    by_index None is fits s = subst (LacksMarker serial name (seen_marker repair)) (sym s.1) (none-lack serial name (seen_marker repair) olds is)
    by_index (Some old) is fits s =
        subst (LacksMarker serial name (seen_marker repair)) (sym s.1)
        (with-lacks serial 0 number name (seen_marker repair) olds s.0 rise (name-lacks (is_live old) name repair marker old.lists s.0.lists outcome fits low s.2.splices))

-- ---- a splice of a list that lost the marker before

unchanged : {P : Type 0} (list : Option (Listing P)) (seen : Marker) (outcome : Spliced) (Rest : Type 0) (Splices_ : Listing P → Type 0) → IfNone list ((outcome ≡ Gone) × Rest) → IfSome list Splices_
    → ((l : Listing P) → Splices_ l → seen ≢ l.marker → outcome ≡ Moved seen l.marker) → marker_in list ≢ Some seen → ChangesNothing outcome
unchanged None seen outcome Rest Splices_ gone there moved lacks = subst ChangesNothing (sym gone.0) tt
unchanged (Some l) seen outcome Rest Splices_ gone there moved lacks = subst ChangesNothing (sym (moved l there (λ same. lacks (ap Some (sym same))))) tt

name-unchanged : (live : ℕ → Bool) (name : ListName) (repair : AnyRepair) (marker : Marker) (old new : AllLists) (outcome : Spliced) → FitsName live old name repair
    → marker_at old name ≢ Some (seen_marker repair) → SplicesName name repair marker old new outcome → ChangesNothing outcome
name-unchanged live (names.Word text) (repairs.Word repair) marker old new outcome fits lacks s = unchanged _ repair.seen outcome _ _ s.1 s.2 (λ l its apart. (its.moved apart).1) lacks
name-unchanged live (names.Tag field text) (repairs.Tag repair) marker old new outcome fits lacks s = unchanged _ repair.seen outcome _ _ s.1 s.2 (λ l its apart. (its.moved apart).1) lacks
name-unchanged live (names.Range field bound) (repairs.Range repair) marker old new outcome fits lacks s = unchanged _ repair.seen outcome _ _ s.2 s.3 (λ l its apart. (its.moved apart).1) lacks
name-unchanged live (names.Word text) (repairs.Tag repair) marker old new outcome fits lacks s = absurd fits
name-unchanged live (names.Word text) (repairs.Range repair) marker old new outcome fits lacks s = absurd fits
name-unchanged live (names.Tag field text) (repairs.Word repair) marker old new outcome fits lacks s = absurd fits
name-unchanged live (names.Tag field text) (repairs.Range repair) marker old new outcome fits lacks s = absurd fits
name-unchanged live (names.Range field bound) (repairs.Word repair) marker old new outcome fits lacks s = absurd fits
name-unchanged live (names.Range field bound) (repairs.Tag repair) marker old new outcome fits lacks s = absurd fits

pub unchanged-spliced : (serial : ℕ) (name : ListName) (repair : AnyRepair) (marker : Marker) (olds news : List Index) (outcome : Spliced) → FitsSerial serial olds name repair
    → LacksMarker serial name (seen_marker repair) olds → SplicesSerial serial name repair marker olds news outcome → ChangesNothing outcome
unchanged-spliced serial name repair marker olds news outcome fits lacks splices = by_index (find (has_serial serial) olds) refl fits splices
  where
    by_index : (found : Option Index) → find (has_serial serial) olds ≡ found → IfSome found (λ index. FitsName (is_live index) index.lists name repair)
        → SplicesFound found serial name repair marker olds news outcome → ChangesNothing outcome
    by_index None is fits s = subst ChangesNothing (sym s.0) tt
    by_index (Some old) is fits s =
        let its = found-serial serial olds old is in
        name-unchanged (is_live old) name repair marker old.lists s.0.lists outcome fits
        (All-contains (λ (index : Index). index.def.serial ≡ serial → marker_at index.lists name ≢ Some (seen_marker repair)) olds old lacks its.0 its.1) s.2.splices

-- ---- what was pictured

one-list : {X : Type 0} (f : X → AnyListing) (o : Option X) (y : X) → ((x : X) → f x ≡ f y → x ≡ y) → option_map f o ≡ Some (f y) → o ≡ Some y
one-list f None y one is = absurd (let no : ⊥ = cc in no)
one-list f (Some x) y one is = ap (λ z. Some z) (one x cc)

other-list : {X : Type 0} (f : X → AnyListing) (o : Option X) (y : AnyListing) → ((x : X) → f x ≡ y → ⊥) → option_map f o ≡ Some y → ⊥
other-list f None y apart is = let no : ⊥ = cc in no
other-list f (Some x) y apart is = apart x cc

-- the marker of a list that was pictured is one of an earlier event
pub marker-past : (number : ℕ) (lists : AllLists) (name : ListName) (picture : AnyPicture) → ArePast number lists → list_at lists name ≡ Some (pictured picture) → (marker_of picture).event < number
marker-past number lists (names.Word text) (pictures.Word picture) past is = (past.words text (listing picture) (one-list WordList _ _ (λ x e. cc) is)).marker
marker-past number lists (names.Tag field text) (pictures.Tag picture) past is = (past.tags field text (listing picture) (one-list TagList _ _ (λ x e. cc) is)).marker
marker-past number lists (names.Range field low) (pictures.Range picture) past is = (past.ranges field low (listing picture) (one-list RangeList _ _ (λ x e. cc) is)).marker
marker-past number lists (names.Word text) (pictures.Tag picture) past is = absurd (other-list WordList _ _ (λ x e. cc) is)
marker-past number lists (names.Word text) (pictures.Range picture) past is = absurd (other-list WordList _ _ (λ x e. cc) is)
marker-past number lists (names.Tag field text) (pictures.Word picture) past is = absurd (other-list TagList _ _ (λ x e. cc) is)
marker-past number lists (names.Tag field text) (pictures.Range picture) past is = absurd (other-list TagList _ _ (λ x e. cc) is)
marker-past number lists (names.Range field low) (pictures.Word picture) past is = absurd (other-list RangeList _ _ (λ x e. cc) is)
marker-past number lists (names.Range field low) (pictures.Tag picture) past is = absurd (other-list RangeList _ _ (λ x e. cc) is)

-- ---- no list is pictured twice

number-same : (n : ℕ) → nat_cmp n n ≡ nat_cmp 0 0
number-same n = grind (arith, nat_tests)

word-not_less : (a : List ℕ) → word_cmp a a ≢ Less
word-not_less [] less = cc (less)
word-not_less (x ∷ a) less = word-not_less a (rw (number-same x) at less)

low-not_less : (a : ℤ) → int_cmp a a ≢ Less
low-not_less a less = let no : ⊥ = grind (arith, ints, less) in no

name-not_less : (name : ListName) → name_cmp name name ≢ Less
name-not_less (names.Word text) less = word-not_less text less
name-not_less (names.Tag field text) less = word-not_less text (rw (number-same field) at less)
name-not_less (names.Range field low) less = low-not_less low (rw (number-same field) at less)

behind-less : (name : ListName) (lists : List NamedPicture) (b : NamedPicture) → AllByRecursion (λ other. name_cmp name other ≡ Less) (names_of lists) → Contains lists b → name_cmp name b.name ≡ Less
behind-less name [] b less there = absurd (omega (arith, there.1))
behind-less name (x ∷ lists) b less (zero, in_, is) = subst (λ (n : NamedPicture). name_cmp name n.name ≡ Less) is less.0
behind-less name (x ∷ lists) b less (suc k, in_, is) = behind-less name lists b less.1 (k, omega (arith, in_), is)

pub one-picture : (lists : List NamedPicture) (a b : NamedPicture) → NamesRise (names_of lists) → Contains lists a → Contains lists b → a.name ≡ b.name → a ≡ b
unfolding IsStrictlySortedBy
one-picture [] a b rise there too same = absurd (omega (arith, there.1))
one-picture (x ∷ lists) a b rise (zero, in_, is) (zero, in', is') same = sym is ∙ is'
one-picture (x ∷ lists) a b rise (zero, in_, is) (suc k, in', is') same =
    absurd (name-not_less b.name (subst (λ (n : ListName). name_cmp n b.name ≡ Less) (ap (λ (p : NamedPicture). p.name) is ∙ same) (behind-less x.name lists b rise.0 (k, omega (arith, in'), is'))))
one-picture (x ∷ lists) a b rise (suc k, in_, is) (zero, in', is') same =
    absurd (name-not_less a.name (subst (λ (n : ListName). name_cmp n a.name ≡ Less) (ap (λ (p : NamedPicture). p.name) is' ∙ sym same) (behind-less x.name lists a rise.0 (k, omega (arith, in_), is))))
one-picture (x ∷ lists) a b rise (suc k, in_, is) (suc j, in', is') same = one-picture lists a b rise.1 (k, omega (arith, in_), is) (j, omega (arith, in'), is') same
