-- A good picture stays good.
use Rattle.std.specs.Prelude.{◌≡◌, ◌≢◌, ◌<◌, ◌≤◌, ◌⊎◌, ℕ, true, false, List, Option, Some, IfSome, slice_index_or, length, nat_eq, refl}
use Rattle.std.specs.List.{All, AllByRecursion, AllPairs, Contains}
use Rattle.std.proofs.lemmas.Bool.Decides.{eqb_tells}
use Rattle.std.proofs.lemmas.List.{get_or_default}
use Rattle.id_iters.specs.declared.list_name.ListName.{ListName}
use Rattle.ft_base.specs.Docs.{Doc}
use Rattle.gc_splice.proofs.GrowingLaws.{grows_again, grows_same}
use Rattle.gc_splice.specs.Growing.{ComesFrom, Grows}
use Rattle.indexed_store.specs.Standing.{AreApart, IndexStands, markers_at}
use Rattle.indexed_store.proofs.ApartLaws.{two-apart}
use Rattle.ft_index.proofs.ComingLaws.{marker-stood}
use Rattle.std.proofs.Common.{[], ◌∷◌, None, ℤ, sym, ap, ◌∙◌, subst, inl, inr, arith}
use Rattle.std.proofs.lemmas.Bool.{cases_Bool}
use Rattle.std.specs.Option.{option_map, unwrap_or}
use Rattle.std.specs.Ordering.{int_eq}
use Rattle.numeric_ranges.specs.Ranges.{Rows, list_at}
use Rattle.posting_block.specs.declared.hits.NumHit.{NumHit}
use Rattle.ft_index.specs.UpTo.{RisesUpTo, RowsUpTo}
use Rattle.std.proofs.lemmas.List.Elements.{All-contains}
use Rattle.inverted_list.specs.Listing.{Listing}
use Rattle.inverted_list.specs.declared.marker.Marker.{Marker}
use Rattle.id_iters.specs.declared.list_name.ListName.TheVariants as names
use Rattle.term_dict.specs.Tags.{entries_in, list_in}
use Rattle.term_dict.specs.Terms.{entries_of, list_of}
use Rattle.ft_index.specs.Coming.{Came, IsFresh}
use Rattle.ft_index.specs.Index.{Index, is_live}
use Rattle.ft_index.specs.Lists.{list_from, rows_of}
use Rattle.ft_index.specs.Markers.{AreBefore, HasMarker, IsBefore, marker_at, marker_in}
use Rattle.ft_index.proofs.AliveLaws.{all-below}
use Rattle.indexed_store.specs.Moving.{IndexesMove}
use Rattle.picture_laws.specs.Laws.{GoodWhenTaken, StaysGood, StaysSpent, pictured}
use Rattle.picture_laws.specs.Picturing.{ArePast, Follows, IsGood, IsOld, IsPast, IsSpent, ListsFollow, Pictured}

module _ {P : Type 0} where
  -- a list that comes from one that followed follows
  follows-on : (k : Pictured) (event : ℕ) (old new : Index) (then o n : Option (Listing P)) → k.number ≤ event → IsPast k.number then → Came event old new
      → ComesFrom event o n → Follows k old then o → Follows k new then n
  follows-on k event old new then o n late past came comes follows p l at is same =
      let low : l.marker.event < event = omega (arith, (past p at).marker, ap (λ (m : Marker). m.event) same, late) in
      let from = comes l is low in
      let was = follows p from.0 at from.1 (sym from.2.marker ∙ same) in
      (grows_again p from.0 l was.0 from.2, λ id low live. was.1 id low (came.live id (omega (arith, low, late)) live))

  -- a list of this event follows none
  follows-fresh : (k : Pictured) (event : ℕ) (new : Index) (then n : Option (Listing P)) → k.number ≤ event → IsPast k.number then → ((l : Listing P) → n ≡ Some l → event ≤ l.marker.event) → Follows k new then n
  follows-fresh k event new then n late past fresh p l at is same = absurd (omega (arith, (past p at).marker, ap (λ (m : Marker). m.event) same, late, fresh l is))

lists-on : (k : Pictured) (event : ℕ) (old new : Index) → k.number ≤ event → ArePast k.number k.lists → Came event old new → ListsFollow k old → ListsFollow k new
lists-on k event old new late past came follow = record {
  words = λ word. follows-on k event old new (list_of k.lists.words word) (list_of old.lists.words word) (list_of new.lists.words word) late (past.words word) came (came.lists.words word) (follow.words word);
  tags = λ field tag. follows-on k event old new (list_in k.lists.tags field tag) (list_in old.lists.tags field tag) (list_in new.lists.tags field tag) late (past.tags field tag) came (came.lists.tags field tag) (follow.tags field tag);
  ranges = λ field low. follows-on k event old new (list_from (rows_of k.lists.ranges field) low) (list_from (rows_of old.lists.ranges field) low) (list_from (rows_of new.lists.ranges field) low) late (past.ranges field low) came (came.lists.ranges field low) (follow.ranges field low);
}

lists-fresh : (k : Pictured) (event : ℕ) (new : Index) → k.number ≤ event → ArePast k.number k.lists → IsFresh event new → ListsFollow k new
lists-fresh k event new late past fresh = record {
  words = λ word. follows-fresh k event new (list_of k.lists.words word) (list_of new.lists.words word) late (past.words word)
      (λ l is. fresh l.marker (record { name = names.Word word; has = ap marker_in is }));
  tags = λ field tag. follows-fresh k event new (list_in k.lists.tags field tag) (list_in new.lists.tags field tag) late (past.tags field tag)
      (λ l is. fresh l.marker (record { name = names.Tag field tag; has = ap marker_in is }));
  ranges = λ field low. follows-fresh k event new (list_from (rows_of k.lists.ranges field) low) (list_from (rows_of new.lists.ranges field) low) late (past.ranges field low)
      (λ l is. fresh l.marker (record { name = names.Range field low; has = ap marker_in is }));
}

-- The law of pictures: what is good stays good over each event.
pub good-kept : StaysGood
good-kept k next later olds news on moves good = record {
  past = omega (arith, good.past, on);
  lists = good.lists;
  follow = λ i d short serial. elim (moves i d short) [
    | inl came ↦ lists-on k next came.old (slice_index_or news i d) good.past good.lists came.came
        (All-contains (λ (index : Index). index.def.serial ≡ k.serial → ListsFollow k index) olds came.old good.follow came.there (sym came.came.serial ∙ serial))
    | inr fresh ↦ lists-fresh k next (slice_index_or news i d) good.past good.lists fresh
  ];
}

-- A marker that no list of an index has any more comes to none again.
pub spent-kept : StaysSpent
spent-kept serial next marker olds news past moves spent i d short same has = elim (moves i d short) [
  | inl came ↦
      All-contains (λ (index : Index). index.def.serial ≡ serial → HasMarker index.lists marker → ⊥) olds came.old spent came.there (sym came.came.serial ∙ same)
      (marker-stood next came.old.lists (slice_index_or news i d).lists marker came.came.lists past has)
  | inr fresh ↦ absurd (omega (arith, past, fresh marker has))
]

-- a list of an index that stands is one of before
past-of : {P : Type 0} (next : ℕ) (o : Option (Listing P)) → IfSome (marker_in o) (IsBefore (markers_at next)) → ((l : Listing P) → o ≡ Some l → AllByRecursion (λ e. e.0 < next) l.entries) → IsPast next o
past-of {P} next o before ids p is = record {
  marker = by_case (subst (λ (x : Option (Listing P)). IfSome (marker_in x) (IsBefore (markers_at next))) is before);
  ids = ids p is;
}
  where
    by_case : IsBefore (markers_at next) p.marker → p.marker.event < next
    by_case (inl less) = less
    by_case (inr same) = absurd (omega (arith, same.1))

ids-below : {P : Type 0} (last next : ℕ) (entries : List (ℕ × P)) → last < next → RisesUpTo last entries → AllByRecursion (λ e. e.0 < next) entries
ids-below last next entries less up = all-below 0 next entries up.rise (omega (arith, less, up.end))

row-below : (last next : ℕ) (rows : Rows) (low : ℤ) (l : Listing NumHit) → last < next → RowsUpTo last rows → list_at rows low ≡ Some l → AllByRecursion (λ e. e.0 < next) l.entries
row-below last next [] low l less up is = cc (is)
row-below last next (row ∷ rows) low l less up is = elim (cases_Bool (int_eq low row.0)) [
  | inl y ↦
      let some : ◌≡◌ {A = Option (Listing NumHit)} (Some row.1) (Some l) = rw y at is in
      let one : row.1 ≡ l = cc (some) in
      subst (λ (m : Listing NumHit). AllByRecursion (λ e. e.0 < next) m.entries) one (ids-below last next row.1.entries less up.0)
  | inr n ↦ row-below last next rows low l less up.1 (rw n at is)
]

slot-below : (last next : ℕ) (rows : Option Rows) (low : ℤ) (l : Listing NumHit) → last < next → IfSome rows (RowsUpTo last) → list_from rows low ≡ Some l → AllByRecursion (λ e. e.0 < next) l.entries
slot-below last next None low l less up is = cc (is)
slot-below last next (Some rows) low l less up is = row-below last next rows low l less up is

same-follows : {P : Type 0} (next : ℕ) (index : Index) (o : Option (Listing P)) → Follows (pictured next index) index o o
same-follows {P} next index o p l at is same = let one : p ≡ l = cc (at, is) in (subst (λ (x : Listing P). Grows p x) one (grows_same p), λ id low live. live)

-- no list of another index has its marker
apart-follows : {P : Type 0} (next : ℕ) (index other : Index) (name : ListName) (o n : Option (Listing P)) → AreApart index other → marker_at index.lists name ≡ marker_in o → marker_at other.lists name ≡ marker_in n
    → Follows (pictured next index) other o n
apart-follows next index other name o n apart first second p l at is same =
    absurd (apart p.marker (record { name = name; has = first ∙ ap marker_in at }) (record { name = name; has = second ∙ (ap marker_in is ∙ ap Some same) }))

stands-past : (next : ℕ) (space : List Doc) (index : Index) → IndexStands space next (markers_at next) index → ArePast next index.lists
stands-past next space index stands = record {
  words = λ word. past-of next (list_of index.lists.words word) (stands.before (names.Word word))
      (λ l is. subst (AllByRecursion (λ e. e.0 < next)) (entries-of is) (ids-below index.table.last next (entries_of index.lists.words word) stands.earlier (stands.sound.kept.up_to.words word)));
  tags = λ field tag. past-of next (list_in index.lists.tags field tag) (stands.before (names.Tag field tag))
      (λ l is. subst (AllByRecursion (λ e. e.0 < next)) (entries-of is) (ids-below index.table.last next (entries_in index.lists.tags field tag) stands.earlier (stands.sound.kept.up_to.tags field tag)));
  ranges = λ field low. past-of next (list_from (rows_of index.lists.ranges field) low) (stands.before (names.Range field low))
      (λ l is. slot-below index.table.last next (rows_of index.lists.ranges field) low l stands.earlier (stands.sound.kept.up_to.ranges field) is);
}
  where
    entries-of : {P : Type 0} {o : Option (Listing P)} {l : Listing P} → o ≡ Some l → unwrap_or (option_map (λ (m : Listing P). m.entries) o) [] ≡ l.entries
    entries-of {P} is = ap (λ (x : Option (Listing P)). unwrap_or (option_map (λ (m : Listing P). m.entries) x) []) is

-- The index at a place, which is pictured now.
good-at : (next later : ℕ) (space : List Doc) (indexes : List Index) (at : ℕ) (d : Index) → at < length indexes → next ≤ later → IndexStands space next (markers_at next) (slice_index_or indexes at d)
    → AllPairs AreApart indexes → IsGood (pictured next (slice_index_or indexes at d)) later indexes
good-at next later space indexes at d within on stands apart = record {
  past = on;
  lists = stands-past next space index stands;
  follow = λ i e short serial. by_place i e short (eqb_tells i at);
}
  where
    index : Index
    index = slice_index_or indexes at d

    here : ListsFollow (pictured next index) index
    here = record {
      words = λ word. same-follows next index (list_of index.lists.words word);
      tags = λ field tag. same-follows next index (list_in index.lists.tags field tag);
      ranges = λ field low. same-follows next index (list_from (rows_of index.lists.ranges field) low);
    }

    there : (other : Index) → AreApart index other → ListsFollow (pictured next index) other
    there other away = record {
      words = λ word. apart-follows next index other (names.Word word) (list_of index.lists.words word) (list_of other.lists.words word) away refl refl;
      tags = λ field tag. apart-follows next index other (names.Tag field tag) (list_in index.lists.tags field tag) (list_in other.lists.tags field tag) away refl refl;
      ranges = λ field low. apart-follows next index other (names.Range field low) (list_from (rows_of index.lists.ranges field) low) (list_from (rows_of other.lists.ranges field) low) away refl refl;
    }

    by_place : (i : ℕ) (e : Index) → i < length indexes → ((nat_eq i at ≡ true) × (i ≡ at)) ⊎ ((nat_eq i at ≡ false) × (i ≢ at)) → ListsFollow (pictured next index) (slice_index_or indexes i e)
    by_place i e short (inl same) = subst (ListsFollow (pictured next index)) (sym (ap (λ (n : ℕ). slice_index_or indexes n e) same.1 ∙ get_or_default indexes at e d within)) here
    by_place i e short (inr away) = there (slice_index_or indexes i e)
        (subst (AreApart index) (get_or_default indexes i d e short) (two-apart indexes at i d (λ is. away.1 (sym is)) within short apart))

-- What is pictured now is good.
pub good-taken : GoodWhenTaken
good-taken next later space indexes index on stand apart there =
    subst (λ (x : Index). IsGood (pictured next x) later indexes) there.2 (good-at next later space indexes there.0 index there.1 on (stand there.0 index there.1) apart)
