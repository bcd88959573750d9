-- An index comes from what it was, whatever becomes of it.
use Rattle.std.specs.Prelude.{◌≡◌, ◌<◌, ◌≤◌, ℕ, ℤ, true, List, [], ◌∷◌, Option, None, Some, IfSome, nat_eq, refl}
use Rattle.std.proofs.Common.{sym, ap, ◌∙◌, subst, inl, inr, arith}
use Rattle.std.proofs.lemmas.Bool.{cases_Bool}
use Rattle.std.specs.Map.{remove_entry}
use Rattle.std.specs.Option.{option_map}
use Rattle.doc_table.specs.Table.{Vector}
use Rattle.ft_base.specs.declared.definition.IndexDef.{IndexDef}
use Rattle.id_iters.specs.declared.list_name.ListName.{ListName}
use Rattle.id_iters.specs.declared.list_name.ListName.TheVariants as names
use Rattle.inverted_list.specs.Listing.{Listing}
use Rattle.inverted_list.specs.declared.marker.Marker.{Marker}
use Rattle.term_dict.specs.Tags.{list_in}
use Rattle.term_dict.specs.Terms.{list_of}
use Rattle.gc_splice.specs.Growing.{ComesFrom}
use Rattle.gc_splice.proofs.GrowingLaws.{comes_again, comes_same}
use Rattle.ft_index.specs.Coming.{Came, IsFresh, ListsCome}
use Rattle.ft_index.specs.Index.{Index, WaitsIn, committed, commits, commits_as, commits_ready, killed}
use Rattle.ft_index.specs.Lists.{AllLists, has_id, list_from, rows_of}
use Rattle.ft_index.specs.Markers.{HasMarker, marker_at, marker_in, range_list, tag_list}
use Rattle.ft_index.specs.declared.ready.Fit.{Fit}
use Rattle.ft_index.specs.declared.ready.Fit.TheVariants.{Member, NoPrefix, Failed}
use Rattle.ft_index.specs.declared.ready.Ready.{Ready}
use Rattle.inverted_list.proofs.ReachLaws.{le_or_lt}
use Rattle.ft_index.proofs.AliveLaws.{below-no, has_id-other}

-- nothing changes
pub lists-stay : (event : ℕ) (lists : AllLists) → ListsCome event lists lists
lists-stay event lists = record {
  words = λ word. comes_same event (list_of lists.words word);
  tags = λ field tag. comes_same event (list_in lists.tags field tag);
  ranges = λ field low. comes_same event (list_from (rows_of lists.ranges field) low);
}

pub lists-come-again : (early late : ℕ) (a b c : AllLists) → early ≤ late → ListsCome early a b → ListsCome late b c → ListsCome early a c
lists-come-again early late a b c h f g = record {
  words = λ word. comes_again early late (list_of a.words word) (list_of b.words word) (list_of c.words word) h (f.words word) (g.words word);
  tags = λ field tag. comes_again early late (list_in a.tags field tag) (list_in b.tags field tag) (list_in c.tags field tag) h (f.tags field tag) (g.tags field tag);
  ranges = λ field low. comes_again early late (list_from (rows_of a.ranges field) low) (list_from (rows_of b.ranges field) low) (list_from (rows_of c.ranges field) low) h (f.ranges field low) (g.ranges field low);
}

-- what is so of a later event is so of an earlier one
comes-earlier : {P : Type 0} (early late : ℕ) (a b : Option (Listing P)) → early ≤ late → ComesFrom late a b → ComesFrom early a b
comes-earlier early late a b h f = comes_again early late a a b h (comes_same early a) f

-- the lists of each kind come
pub all-come : (event then later : ℕ) (old new : AllLists) → event ≤ then → event ≤ later
    → ((word : List ℕ) → ComesFrom event (list_of old.words word) (list_of new.words word))
    → ((name : ℕ × List ℕ) → ComesFrom then (tag_list old.tags name) (tag_list new.tags name))
    → ((name : ℕ × ℤ) → ComesFrom later (range_list old.ranges name) (range_list new.ranges name)) → ListsCome event old new
all-come event then later old new h k words tags ranges = record {
  words = words;
  tags = λ field tag. comes-earlier event then (list_in old.tags field tag) (list_in new.tags field tag) h (tags (field, tag));
  ranges = λ field low. comes-earlier event later (list_from (rows_of old.ranges field) low) (list_from (rows_of new.ranges field) low) k (ranges (field, low));
}

pub came-same : (event : ℕ) (index : Index) → Came event index index
came-same event index = record { serial = refl; lists = lists-stay event index.lists; live = λ id low is. is }

pub came-again : (early late : ℕ) (a b c : Index) → early ≤ late → Came early a b → Came late b c → Came early a c
came-again early late a b c h f g = record {
  serial = g.serial ∙ f.serial;
  lists = lists-come-again early late a.lists b.lists c.lists h f.lists g.lists;
  live = λ id low is. f.live id low (g.live id (omega (arith, h, low)) is);
}

-- an id that is taken out makes no other one live
live-removed : (id a : ℕ) (rows : List (ℕ × Vector)) → has_id (remove_entry (nat_eq id) rows) a ≡ true → has_id rows a ≡ true
live-removed id a [] is = is
live-removed id a (row ∷ rows) is = elim (cases_Bool (nat_eq a row.0)) [
  | inl y ↦ rw y refl
  | inr n ↦ elim (cases_Bool (nat_eq id row.0)) [
    | inl here ↦ rw n (rw here at is)
    | inr away ↦ rw n (live-removed id a rows (rw (away, n) at is))
  ]
]

pub came-killed : (event id : ℕ) (index : Index) → Came event index (killed id index)
came-killed event id index = record { serial = refl; lists = lists-stay event index.lists; live = λ a low is. live-removed id a index.table.live is }

-- a document that waits may become live, whose id is one of the event
pub came-committed : (event : ℕ) (index : Index) → WaitsIn index.waits index.table → IfSome index.waits (λ ready. event ≤ ready.id) → Came event index (committed index)
came-committed event index room late = by_waits index.waits room late
  where
    by_ready : (ready : Option (ℕ × Vector)) (id : ℕ) → event ≤ id → option_map (λ (row : ℕ × Vector). row.0) ready ≡ Some id
        → (a : ℕ) → a < event → has_id (commits ready index.table).live a ≡ true → has_id index.table.live a ≡ true
    by_ready None id late same a low is = cc (same)
    by_ready (Some row) id late same a low is =
        let at : row.0 ≡ id = cc (same) in
        sym (has_id-other index.table.live row.0 a row.1 (below-no a row.0 (omega (arith, low, late, at)))) ∙ is

    by_fit : (fit : Fit) (id : ℕ) → event ≤ id → (fit ≡ Member → option_map (λ (row : ℕ × Vector). row.0) index.table.ready ≡ Some id) → Came event index (commits_as fit (record index { waits = None }))
    by_fit Member id late room = record { serial = refl; lists = lists-stay event index.lists; live = by_ready index.table.ready id late (room refl) }
    by_fit NoPrefix id late room = record { serial = refl; lists = lists-stay event index.lists; live = λ a low is. is }
    by_fit Failed id late room = record { serial = refl; lists = lists-stay event index.lists; live = λ a low is. is }

    by_waits : (waits : Option Ready) → WaitsIn waits index.table → IfSome waits (λ ready. event ≤ ready.id) → Came event index (commits_ready waits index)
    by_waits None room late = came-same event index
    by_waits (Some ready) room late = by_fit ready.fit ready.id late room

-- a document is prepared, or was to be
pub came-prepared : (event : ℕ) (old new : Index) → new.def ≡ old.def → new.table.live ≡ old.table.live → ListsCome event old.lists new.lists → Came event old new
came-prepared event old new def live lists = record {
  serial = ap (λ (d : IndexDef). d.serial) def;
  lists = lists;
  live = λ id low is. sym (ap (λ (rows : List (ℕ × Vector)). has_id rows id) live) ∙ is;
}

marker-came : {P : Type 0} (event : ℕ) (o n : Option (Listing P)) (marker : Marker) → ComesFrom event o n → marker.event < event → marker_in n ≡ Some marker → marker_in o ≡ Some marker
marker-came event o None marker came low has = cc (has)
marker-came event o (Some l) marker came low has =
    let same : l.marker ≡ marker = cc (has) in
    let k = came l refl (subst (λ (m : Marker). m.event < event) (sym same) low) in
    ap marker_in k.1 ∙ (ap Some (sym k.2.marker) ∙ has)

-- a marker of before was there
pub marker-stood : (event : ℕ) (old new : AllLists) (marker : Marker) → ListsCome event old new → marker.event < event → HasMarker new marker → HasMarker old marker
marker-stood event old new marker come low has = record { name = has.name; has = by_name has.name has.has }
  where
    by_name : (name : ListName) → marker_at new name ≡ Some marker → marker_at old name ≡ Some marker
    by_name (names.Word text) there = marker-came event (list_of old.words text) (list_of new.words text) marker (come.words text) low there
    by_name (names.Tag field text) there = marker-came event (list_in old.tags field text) (list_in new.tags field text) marker (come.tags field text) low there
    by_name (names.Range field low_) there = marker-came event (list_from (rows_of old.ranges field) low_) (list_from (rows_of new.ranges field) low_) marker (come.ranges field low_) low there

-- so an index whose lists are all of the event has no other ones later
pub fresh-came : (early late : ℕ) (old new : Index) → early ≤ late → Came late old new → IsFresh early old → IsFresh early new
fresh-came early late old new h came fresh marker has = elim (le_or_lt early marker.event) [
  | inl le ↦ le
  | inr lt ↦ absurd (omega (arith, lt, fresh marker (marker-stood late old.lists new.lists marker came.lists (omega (arith, lt, h)) has)))
]
