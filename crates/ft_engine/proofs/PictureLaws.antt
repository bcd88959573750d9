-- The scans and splices of an engine: what is pictured is good and stays so, and what is legal of them.
use Rattle.std.proofs.Common.{◌≡◌, ◌≢◌, ◌⊎◌, inl, inr, ℕ, ℤ, zero, suc, ◌<◌, ◌≤◌, Bool, true, false, cond, ◌&&◌, ◌||◌, nat_eq, nat_lt, ltb, List, [], ◌∷◌, ◌++◌, length, map, Option, Some, None, refl, sym, ap, subst, ◌∙◌, arith, rules}
use Rattle.std.specs.Prelude.{find, is_some, IfNone, IfSome}
use Rattle.std.specs.Option.{option_map}
use Rattle.std.specs.List.{All, AllByRecursion, Contains, list_any}
use Rattle.std.specs.Map.{lookup}
use Rattle.std.specs.Ordering.{int_eq}
use Rattle.std.specs.Str.{bytes_eq}
use Rattle.std.proofs.lemmas.Bool.{eqb-true, ltb-false, ltb-true}
use Rattle.std.proofs.lemmas.Int.{ints}
use Rattle.std.proofs.lemmas.List.Elements.{All-push, All-nil, Contains-append_right}
use Rattle.doc_table.specs.Pages.{has_id}
use Rattle.doc_table.specs.Table.{Vector}
use Rattle.ft_base.specs.Docs.{Doc}
use Rattle.ft_index.proofs.AliveLaws.{same-yes}
use Rattle.ft_index.proofs.CountLaws.{same-name as same-text}
use Rattle.ft_index.specs.Index.{Index, is_live}
use Rattle.ft_index.specs.Lists.{AllLists, list_from, rows_of}
use Rattle.ft_index.specs.Lists as lists
use Rattle.ft_index.specs.Snapshots.{AnyListing, IsSnapshot, PicturesName, RangeList, TagList, WordList, list_at, pictured}
use Rattle.ft_index.specs.Splicing.{FitsName, SplicesName}
use Rattle.ft_index.specs.declared.repairs.AnyRepair.{AnyRepair}
use Rattle.ft_index.specs.declared.repairs.AnyRepair.TheVariants as repairs
use Rattle.ft_index.specs.declared.snapshots.AnyPicture.{AnyPicture}
use Rattle.ft_index.specs.declared.snapshots.AnyPicture.TheVariants as pictures
use Rattle.ft_index.specs.declared.snapshots.NamedPicture.{NamedPicture}
use Rattle.ft_index.specs.declared.snapshots.Snapshot.{Snapshot}
use Rattle.ft_machine.specs.Definitions.{Defined, index_of}
use Rattle.ft_machine.specs.History.{Became, Comes, Found, Shows, has_member}
use Rattle.ft_machine.specs.History as machine
use Rattle.ft_machine.specs.Machine.{State}
use Rattle.ft_machine.specs.Step.{last_number, next_number}
use Rattle.ft_meaning.specs.Member.{members}
use Rattle.gc_splice.specs.Repaired.{repaired}
use Rattle.gc_splice.specs.declared.splice.Spliced.{Spliced}
use Rattle.gc_splice.specs.declared.splice.Spliced.TheVariants as spliced
use Rattle.history_core.specs.Entries.{NoIndex, NoMemory, Scanned, Taken}
use Rattle.history_core.specs.Histories.{at, number}
use Rattle.id_iters.specs.declared.list_name.ListName.{ListName}
use Rattle.id_iters.specs.declared.list_name.ListName.TheVariants as names
use Rattle.indexed_store.proofs.NamedLaws.{index_of-named, named-has}
use Rattle.indexed_store.specs.DefinitionsOf.{defined, definitions_of}
use Rattle.indexed_store.specs.Named.{has_serial, is_named, with_serial}
use Rattle.indexed_store.specs.Repairing.{FitsSerial, ScansIndex, ShowsWhole, SplicesFound, splice_marker}
use Rattle.indexed_store.specs.Standing.{IndexStands, markers_at}
use Rattle.inverted_list.specs.declared.marker.Marker.{Marker}
use Rattle.inverted_list.specs.Listing.{Listing}
use Rattle.picture_laws.proofs.FittingLaws.{fits-good}
use Rattle.picture_laws.proofs.PicturingLaws.{good-kept, good-taken}
use Rattle.picture_laws.specs.Laws.{RepairsName}
use Rattle.picture_laws.specs.Laws as taken
use Rattle.picture_laws.specs.Picturing.{IsGood, Pictured}
use Rattle.ft_engine.specs.Entries.{Entry, became_of, is_marker, is_same, marker_of, numbers_of, readings}
use Rattle.ft_engine.specs.Pictures.{IsGoodNamed, IsGoodShown, IsOfKind, RepairsPicture, ScansBy, Shown, SplicesBy, name_at, name_in, shown_first, shown_in}
use Rattle.ft_engine.specs.Stands.{IsIndexed, Stands, unused}
use Rattle.ft_engine.specs.Stepping.{Moves, ScansAt, counted}

-- ---- lists

-- what is found is there, and passes the test
pub find-is : {X : Type 0} (test : X → Bool) (l : List X) (x : X) → find test l ≡ Some x → Contains l x × (test x ≡ true)
find-is test [] x is = absurd (let no : ⊥ = cc in no)
find-is test (y ∷ l) x is = by_test (test y) refl (find-is test l x) is
  where
    by_test : (b : Bool) → test y ≡ b → (find test l ≡ Some x → Contains l x × (test x ≡ true)) → cond b (Some y) (find test l) ≡ Some x → Contains (y ∷ l) x × (test x ≡ true)
    by_test true e later is = let same : y ≡ x = cc in ((0, omega arith, same), subst (λ z. test z ≡ true) same e)
    by_test false e later is = let on = later is in (Contains-append_right (y ∷ []) l x on.0, on.1)

-- the item at a place passes a test
any-at : {X : Type 0} (test : X → Bool) (l : List X) (place : ℕ) (x : X) → at l place ≡ Some x → test x ≡ true → list_any test l ≡ true
any-at test [] place x is passes = absurd (let no : ⊥ = cc in no)
any-at test (y ∷ l) zero x is passes = let same : y ≡ x = cc in ap (λ (b : Bool). b || list_any test l) (ap test same ∙ passes)
any-at test (y ∷ l) (suc place) x is passes = by (test y) (any-at test l place x is passes)
  where
    by : (b : Bool) → list_any test l ≡ true → (b || list_any test l) ≡ true
    by true later = refl
    by false later = later

all-at : {X : Type 0} (Q : X → Type 0) (l : List X) (place : ℕ) (x : X) → AllByRecursion Q l → at l place ≡ Some x → Q x
all-at Q [] place x all is = absurd (let no : ⊥ = cc in no)
all-at Q (y ∷ l) zero x all is = let same : y ≡ x = cc in subst Q same all.0
all-at Q (y ∷ l) (suc place) x all is = all-at Q l place x all.1 is

-- ---- the pictures of a snapshot

at-push : {X : Type 0} (l : List X) (x y : X) (place : ℕ) → at (l ++ x ∷ []) place ≡ Some y → (at l place ≡ Some y) ⊎ (x ≡ y)
at-push [] x y zero is = inr cc
at-push [] x y (suc place) is = absurd (let no : ⊥ = cc in no)
at-push (z ∷ l) x y zero is = inl is
at-push (z ∷ l) x y (suc place) is = at-push l x y place is

-- each is of the snapshot
shown-of : (snapshot : Snapshot) (count place : ℕ) (shown : Shown) → at (shown_first snapshot count) place ≡ Some shown → shown.snapshot ≡ snapshot
shown-of snapshot zero place shown is = absurd (let no : ⊥ = cc in no)
shown-of snapshot (suc count) place shown is = by (shown-of snapshot count place shown) (at-push (shown_first snapshot count) (record { snapshot = snapshot; place = count }) shown place is)
  where
    by : (at (shown_first snapshot count) place ≡ Some shown → shown.snapshot ≡ snapshot) → (at (shown_first snapshot count) place ≡ Some shown) ⊎ (record { snapshot = snapshot; place = count } ≡ shown) → shown.snapshot ≡ snapshot
    by earlier (inl before) = earlier before
    by earlier (inr last) = ap (λ (s : Shown). s.snapshot) (sym last)

pub all-shown : (Q : Shown → Type 0) (snapshot : Snapshot) (count : ℕ) → ((place : ℕ) → Q (record { snapshot = snapshot; place = place })) → All Q (shown_first snapshot count)
all-shown Q snapshot zero holds = All-nil Q
all-shown Q snapshot (suc count) holds = All-push Q (shown_first snapshot count) (record { snapshot = snapshot; place = count }) (all-shown Q snapshot count holds) (holds count)

-- ---- what is pictured is good, and stays so

-- where an index of the name is scanned, it is the one found
pub record ScannedIndex (old : Stands) (name : List ℕ) (snapshot : Snapshot) : Type 0 where
  pub index : Index
  pub found : find (is_named name) old.indexes ≡ Some index
  pub shows : ShowsWhole index old.next snapshot

scanned-index : (old : Stands) (name : List ℕ) (snapshot : Snapshot) → ScansAt name old (Some snapshot) → ScannedIndex old name snapshot
scanned-index old name snapshot scans = by (find (is_named name) old.indexes) refl scans
  where
    by : (o : Option Index) → find (is_named name) old.indexes ≡ o → ScansIndex o old.next (Some snapshot) → ScannedIndex old name snapshot
    by None e s = absurd (let no : ⊥ = cc in no)
    by (Some index) e s = record { index = index; found = e; shows = s }

pub live-same : (f g : ℕ → Bool) → ((id : ℕ) → f id ≡ g id) → f ≡ g
live-same f g e = λ i id. e id i

-- what a snapshot of an index has is good behind its event
pub good-snapshot : (new : Stands) (i : Index) (event : ℕ) (snapshot : Snapshot) (place : ℕ) → new.pending ≡ false → IsIndexed new → Contains new.indexes i → IsSnapshot i event snapshot
    → IsGoodShown (record { snapshot = snapshot; place = place }) new
good-snapshot new i event snapshot place free indexed there shows named is = record {
  taken = k;
  good = subst (λ (live : ℕ → Bool). IsGood (record { number = new.next; serial = i.def.serial; lists = i.lists; live = live }) new.next new.indexes)
      (sym (live-same (has_id snapshot.live) (is_live i) shows.live)) base;
  serial = sym shows.serial;
  live = refl;
  list = all-at (PicturesName i.lists) snapshot.lists place named shows.pictures is;
}
  where
    k : Pictured
    k = record { number = new.next; serial = i.def.serial; lists = i.lists; live = has_id snapshot.live }

    number-is : unused new.pending new.next ≡ new.next
    number-is = ap (λ (p : Bool). unused p new.next) free

    stand : All (IndexStands new.state.space new.next (markers_at new.next)) new.indexes
    stand = subst (λ (n : ℕ). All (IndexStands new.state.space n (markers_at n)) new.indexes) number-is indexed.indexes

    base : IsGood (taken.pictured new.next i) new.next new.indexes
    base = good-taken new.next new.next new.state.space new.indexes i (omega arith) stand indexed.apart there

pub good-scanned : (old new : Stands) (name : List ℕ) (snapshot : Snapshot) (place : ℕ) → old.pending ≡ false → ScansBy old name (Taken snapshot) new → IsGoodShown (record { snapshot = snapshot; place = place }) new
good-scanned old new name snapshot place free scans =
    good-snapshot new its.index old.next snapshot place (ap (λ (e : Stands). e.pending) scans.1 ∙ free) scans.2
    (subst (λ (l : List Index). Contains l its.index) (sym (ap (λ (e : Stands). e.indexes) scans.1)) (find-is (is_named name) old.indexes its.index its.found).0) its.shows.is
  where
    its : ScannedIndex old name snapshot
    its = scanned-index old name snapshot scans.0

pub good-moves : (old new : Stands) (shown : Shown) → Moves old new → IsGoodShown shown old → IsGoodShown shown new
good-moves old new shown moves good named is =
    let g : IsGoodNamed shown.snapshot named old = good named is in
    record {
      taken = g.taken;
      good = good-kept g.taken old.next new.next old.indexes new.indexes moves.next moves.indexes g.good;
      serial = g.serial;
      live = g.live;
      list = g.list;
    }

-- ---- kinds

other-kind : {X : Type 0} (f : X → AnyListing) (o : Option X) (y : AnyListing) → ((x : X) → f x ≡ y → ⊥) → option_map f o ≡ Some y → ⊥
other-kind f None y apart is = let no : ⊥ = cc in no
other-kind f (Some x) y apart is = apart x cc

one-kind : {X : Type 0} (f : X → AnyListing) (o : Option X) (y : X) → ((x : X) → f x ≡ f y → x ≡ y) → option_map f o ≡ Some (f y) → o ≡ Some y
one-kind f None y inj is = absurd (let no : ⊥ = cc in no)
one-kind f (Some x) y inj is = ap (λ z. Some z) (inj x cc)

pub kind-of : (all : AllLists) (name : ListName) (picture : AnyPicture) → list_at all name ≡ Some (pictured picture) → IsOfKind name picture
kind-of all (names.Word text) (pictures.Word picture) is = tt
kind-of all (names.Word text) (pictures.Tag picture) is = absurd (other-kind WordList _ _ (λ x e. cc) is)
kind-of all (names.Word text) (pictures.Range picture) is = absurd (other-kind WordList _ _ (λ x e. cc) is)
kind-of all (names.Tag field text) (pictures.Word picture) is = absurd (other-kind TagList _ _ (λ x e. cc) is)
kind-of all (names.Tag field text) (pictures.Tag picture) is = tt
kind-of all (names.Tag field text) (pictures.Range picture) is = absurd (other-kind TagList _ _ (λ x e. cc) is)
kind-of all (names.Range field low) (pictures.Word picture) is = absurd (other-kind RangeList _ _ (λ x e. cc) is)
kind-of all (names.Range field low) (pictures.Tag picture) is = absurd (other-kind RangeList _ _ (λ x e. cc) is)
kind-of all (names.Range field low) (pictures.Range picture) is = tt

-- ---- the repair of a good picture fits

repairs-name : (k : Pictured) (live : ℕ → Bool) (name : ListName) (picture : AnyPicture) (repair : AnyRepair) → k.live ≡ live → list_at k.lists name ≡ Some (pictured picture) → RepairsPicture live picture repair → RepairsName k name repair
repairs-name k live (names.Word text) (pictures.Word picture) (repairs.Word repair) same is r =
    (picture, one-kind WordList _ _ (λ x e. cc) is, subst (λ f. repair ≡ repaired f picture) (sym same) r)
repairs-name k live (names.Tag field text) (pictures.Tag picture) (repairs.Tag repair) same is r =
    (picture, one-kind TagList _ _ (λ x e. cc) is, subst (λ f. repair ≡ repaired f picture) (sym same) r)
repairs-name k live (names.Range field low) (pictures.Range picture) (repairs.Range repair) same is r =
    (picture, one-kind RangeList _ _ (λ x e. cc) is, subst (λ f. repair ≡ repaired f picture) (sym same) r)
repairs-name k live (names.Word text) (pictures.Tag picture) repair same is r = absurd (kind-of k.lists (names.Word text) (pictures.Tag picture) is)
repairs-name k live (names.Word text) (pictures.Range picture) repair same is r = absurd (kind-of k.lists (names.Word text) (pictures.Range picture) is)
repairs-name k live (names.Tag field text) (pictures.Word picture) repair same is r = absurd (kind-of k.lists (names.Tag field text) (pictures.Word picture) is)
repairs-name k live (names.Tag field text) (pictures.Range picture) repair same is r = absurd (kind-of k.lists (names.Tag field text) (pictures.Range picture) is)
repairs-name k live (names.Range field low) (pictures.Word picture) repair same is r = absurd (kind-of k.lists (names.Range field low) (pictures.Word picture) is)
repairs-name k live (names.Range field low) (pictures.Tag picture) repair same is r = absurd (kind-of k.lists (names.Range field low) (pictures.Tag picture) is)
repairs-name k live (names.Word text) (pictures.Word picture) (repairs.Tag repair) same is r = absurd r
repairs-name k live (names.Word text) (pictures.Word picture) (repairs.Range repair) same is r = absurd r
repairs-name k live (names.Tag field text) (pictures.Tag picture) (repairs.Word repair) same is r = absurd r
repairs-name k live (names.Tag field text) (pictures.Tag picture) (repairs.Range repair) same is r = absurd r
repairs-name k live (names.Range field low) (pictures.Range picture) (repairs.Word repair) same is r = absurd r
repairs-name k live (names.Range field low) (pictures.Range picture) (repairs.Tag repair) same is r = absurd r

pub fits-now : (engine : Stands) (snapshot : Snapshot) (named : NamedPicture) (repair : AnyRepair) → IsGoodNamed snapshot named engine → RepairsPicture (has_id snapshot.live) named.picture repair
    → FitsSerial snapshot.serial engine.indexes named.name repair
fits-now engine snapshot named repair good is = by (find (has_serial snapshot.serial) engine.indexes) refl
  where
    by : (o : Option Index) → find (has_serial snapshot.serial) engine.indexes ≡ o → IfSome o (λ index. FitsName (is_live index) index.lists named.name repair)
    by None e = tt
    by (Some index) e =
        let found = find-is (has_serial snapshot.serial) engine.indexes index e in
        fits-good good.taken engine.next engine.indexes index named.name repair good.good found.0
        (sym (eqb-true snapshot.serial index.def.serial found.1) ∙ sym good.serial)
        (repairs-name good.taken (has_id snapshot.live) named.name named.picture repair good.live good.list is)

-- ---- scans in a history

pub scan-state : (old : Stands) (name : List ℕ) (result : Scanned Snapshot) (new : Stands) → ScansBy old name result new → new.state ≡ old.state
scan-state old name (Taken snapshot) new s = ap (λ (e : Stands). e.state) s.1
scan-state old name NoIndex new s = ap (λ (e : Stands). e.state) s.1
scan-state old name NoMemory new s = ap (λ (e : Stands). e.state) s

pub scan-indexes : (old : Stands) (name : List ℕ) (result : Scanned Snapshot) (new : Stands) → ScansBy old name result new → new.indexes ≡ old.indexes
scan-indexes old name (Taken snapshot) new s = ap (λ (e : Stands). e.indexes) s.1
scan-indexes old name NoIndex new s = ap (λ (e : Stands). e.indexes) s.1
scan-indexes old name NoMemory new s = ap (λ (e : Stands). e.indexes) s

pub scan-next : (old : Stands) (name : List ℕ) (result : Scanned Snapshot) (new : Stands) → ScansBy old name result new → new.next ≡ next_number old.next
scan-next old name (Taken snapshot) new s = ap (λ (e : Stands). e.next) s.1
scan-next old name NoIndex new s = ap (λ (e : Stands). e.next) s.1
scan-next old name NoMemory new s = ap (λ (e : Stands). e.next) s

-- the ids of rows made of documents are the documents'
ids-are : (def : Doc → Vector) (id : ℕ) (docs : List Doc) → is_some (lookup (nat_eq id) (map (λ (doc : Doc). (doc.id, def doc)) docs)) ≡ list_any (λ (doc : Doc). nat_eq id doc.id) docs
ids-are def id [] = refl
ids-are def id (doc ∷ docs) = by (nat_eq id doc.id) (ids-are def id docs)
  where
    by : (b : Bool) → is_some (lookup (nat_eq id) (map (λ (doc : Doc). (doc.id, def doc)) docs)) ≡ list_any (λ (doc : Doc). nat_eq id doc.id) docs → is_some (cond b (Some (def doc)) (lookup (nat_eq id) (map (λ (doc : Doc). (doc.id, def doc)) docs))) ≡ (b || list_any (λ (doc : Doc). nat_eq id doc.id) docs)
    by true rest = refl
    by false rest = rest

-- an index's live ids are those of its members
pub members-live : (index : Index) (space : List Doc) (next : ℕ) (id : ℕ) → IndexStands space next (markers_at next) index → is_live index id ≡ has_member (defined index) space id
members-live index space next id stands =
    ap (λ (rows : List (ℕ × Vector)). lists.has_id rows id) stands.documents.live ∙ ids-are _ id (members index.def space)

pub no-memory : (o : Option Defined) (space : List Doc) → Found readings o space NoMemory
no-memory None space = tt
no-memory (Some index) space = tt

-- the definition of a name among those of the indexes that were scanned
definition-is : (old new : Stands) (name : List ℕ) (o : Option Index) → new ≡ counted old → IsIndexed new → find (is_named name) old.indexes ≡ o → index_of old.state.definitions name ≡ option_map defined o
definition-is old new name o same indexed e =
    let i : IsIndexed (counted old) = subst IsIndexed same indexed in
    ap (λ (ds : List Defined). index_of ds name) i.definitions ∙ (index_of-named old.indexes name ∙ ap (option_map defined) e)

pub finds : (old : Stands) (name : List ℕ) (result : Scanned Snapshot) (new : Stands) → ScansBy old name result new → Found readings (index_of old.state.definitions name) old.state.space result
finds old name NoMemory new s = no-memory (index_of old.state.definitions name) old.state.space
finds old name NoIndex new s = by (find (is_named name) old.indexes) refl s.0
  where
    by : (o : Option Index) → find (is_named name) old.indexes ≡ o → ScansIndex o old.next None → Found readings (index_of old.state.definitions name) old.state.space NoIndex
    by None e scans = subst (λ (d : Option Defined). Found readings d old.state.space NoIndex) (sym (definition-is old new name None s.1 s.2 e)) tt
    by (Some index) e scans = absurd scans
finds old name (Taken snapshot) new s =
    subst (λ (d : Option Defined). Found readings d old.state.space (Taken snapshot)) (sym (definition-is old new name (Some its.index) s.1 s.2 its.found))
    (record { serial = its.shows.is.serial; live = λ id. its.shows.is.live id ∙ members-live its.index old.state.space (unused old.pending (counted old).next) id stands })
  where
    its : ScannedIndex old name snapshot
    its = scanned-index old name snapshot s.0

    stands : IndexStands old.state.space (unused old.pending (counted old).next) (markers_at (unused old.pending (counted old).next)) its.index
    stands = named-has (IndexStands old.state.space (unused old.pending (counted old).next) (markers_at (unused old.pending (counted old).next))) old.indexes name its.index (subst IsIndexed s.1 s.2).indexes its.found

-- ---- splices in a history

-- what the splice of a repair may come to, by the marker that was pictured
abbrev Outcomes : Marker → Spliced → Type 0
Outcomes seen outcome = (outcome ≡ spliced.Gone) ⊎ (((removed : ℕ) × (kept : Bool) × (outcome ≡ spliced.Done removed kept)) ⊎ ((now : Marker) × (seen ≢ now) × (outcome ≡ spliced.Moved seen now)))

not-same : (n m : ℕ) → n ≡ m → nat_eq n m ≡ false → ⊥
not-same n m same e = let yes : nat_eq n m ≡ true = search (rules, same) in let no : true ≡ false = sym yes ∙ e in cc

markers-differ : (a b : Marker) → (a ≡ b) ⊎ (a ≢ b)
markers-differ a b = by (nat_eq a.event b.event) (nat_eq a.nth b.nth) refl refl
  where
    by : (c d : Bool) → nat_eq a.event b.event ≡ c → nat_eq a.nth b.nth ≡ d → (a ≡ b) ⊎ (a ≢ b)
    by true true e f = inl (λ i. record { event = eqb-true a.event b.event e i; nth = eqb-true a.nth b.nth f i })
    by false d e f = inr (λ same. not-same a.event b.event (ap (λ (m : Marker). m.event) same) e)
    by true false e f = inr (λ same. not-same a.nth b.nth (ap (λ (m : Marker). m.nth) same) f)

outcomes : (seen now : Marker) (outcome : Spliced) → (seen ≢ now → outcome ≡ spliced.Moved seen now) → (seen ≡ now → (removed : ℕ) × (kept : Bool) × (outcome ≡ spliced.Done removed kept)) → Outcomes seen outcome
outcomes seen now outcome moved done = by (markers-differ seen now)
  where
    by : (seen ≡ now) ⊎ (seen ≢ now) → Outcomes seen outcome
    by (inl same) = inr (inl (done same))
    by (inr differ) = inr (inr (now, differ, moved differ))

-- where there is no list, it is gone
gone-or : {P : Type 0} (o : Option (Listing P)) (seen : Marker) (outcome : Spliced) (Rest : Type 0) (Splices : Listing P → Type 0) → IfNone o ((outcome ≡ spliced.Gone) × Rest) → IfSome o Splices
    → ((l : Listing P) → Splices l → Outcomes seen outcome) → Outcomes seen outcome
gone-or None seen outcome Rest Splices none some by = inl none.0
gone-or (Some l) seen outcome Rest Splices none some by = by l some

classify : (live : ℕ → Bool) (name : ListName) (picture : AnyPicture) (repair : AnyRepair) (marker : Marker) (old new : AllLists) (outcome : Spliced) → IsOfKind name picture → RepairsPicture live picture repair
    → SplicesName name repair marker old new outcome → Outcomes (marker_of picture) outcome
classify live (names.Word text) (pictures.Word picture) (repairs.Word repair) marker old new outcome kind is s =
    subst (λ (m : Marker). Outcomes m outcome) (ap (λ r. r.seen) is)
    (gone-or _ repair.seen outcome _ _ s.1 s.2 (λ l its. outcomes repair.seen l.marker outcome (λ differ. (its.moved differ).1) (λ same. (_, _, (its.done same).1))))
classify live (names.Tag field text) (pictures.Tag picture) (repairs.Tag repair) marker old new outcome kind is s =
    subst (λ (m : Marker). Outcomes m outcome) (ap (λ r. r.seen) is)
    (gone-or _ repair.seen outcome _ _ s.1 s.2 (λ l its. outcomes repair.seen l.marker outcome (λ differ. (its.moved differ).1) (λ same. (_, _, (its.done same).1))))
classify live (names.Range field low) (pictures.Range picture) (repairs.Range repair) marker old new outcome kind is s =
    subst (λ (m : Marker). Outcomes m outcome) (ap (λ r. r.seen) is)
    (gone-or _ repair.seen outcome _ _ s.2 s.3 (λ l its. outcomes repair.seen l.marker outcome (λ differ. (its.moved differ).1) (λ same. (_, _, (its.done same).1))))
classify live (names.Word text) (pictures.Word picture) (repairs.Tag repair) marker old new outcome kind is s = absurd is
classify live (names.Word text) (pictures.Word picture) (repairs.Range repair) marker old new outcome kind is s = absurd is
classify live (names.Tag field text) (pictures.Tag picture) (repairs.Word repair) marker old new outcome kind is s = absurd is
classify live (names.Tag field text) (pictures.Tag picture) (repairs.Range repair) marker old new outcome kind is s = absurd is
classify live (names.Range field low) (pictures.Range picture) (repairs.Word repair) marker old new outcome kind is s = absurd is
classify live (names.Range field low) (pictures.Range picture) (repairs.Tag repair) marker old new outcome kind is s = absurd is
classify live (names.Word text) (pictures.Tag picture) repair marker old new outcome kind is s = absurd kind
classify live (names.Word text) (pictures.Range picture) repair marker old new outcome kind is s = absurd kind
classify live (names.Tag field text) (pictures.Word picture) repair marker old new outcome kind is s = absurd kind
classify live (names.Tag field text) (pictures.Range picture) repair marker old new outcome kind is s = absurd kind
classify live (names.Range field low) (pictures.Word picture) repair marker old new outcome kind is s = absurd kind
classify live (names.Range field low) (pictures.Tag picture) repair marker old new outcome kind is s = absurd kind

-- a splice below the last number
came : (old new : Stands) (shown : Shown) (outcome : Spliced) (s : SplicesBy old shown outcome new) → old.next < last_number → Outcomes (marker_of s.named.picture) outcome
came old new shown outcome s below = by (find (has_serial shown.snapshot.serial) old.indexes) (s.splices.splices below)
  where
    by : (o : Option Index) → SplicesFound o shown.snapshot.serial s.named.name s.repair (splice_marker old.next) old.indexes new.indexes outcome → Outcomes (marker_of s.named.picture) outcome
    by None f = inl f.0
    by (Some index) f = classify (has_id shown.snapshot.live) s.named.name s.named.picture s.repair _ index.lists f.0.lists outcome s.kind s.repairs f.2.splices

-- an index that is spliced is still there
still-there : (serial : ℕ) (indexes : List Index) (old new : Index) → find (has_serial serial) indexes ≡ Some old → has_serial serial new ≡ true
    → list_any (machine.has_serial serial) (definitions_of (with_serial indexes serial new)) ≡ true
still-there serial [] old new is its = absurd (let no : ⊥ = cc in no)
still-there serial (x ∷ indexes) old new is its = by (has_serial serial x) (λ there. still-there serial indexes old new there its) refl is
  where
    by : (b : Bool) → (find (has_serial serial) indexes ≡ Some old → list_any (machine.has_serial serial) (definitions_of (with_serial indexes serial new)) ≡ true) → has_serial serial x ≡ b → cond b (Some x) (find (has_serial serial) indexes) ≡ Some old
        → list_any (machine.has_serial serial) (definitions_of (cond b (new ∷ indexes) (x ∷ with_serial indexes serial new))) ≡ true
    by true later e f = ap (λ (c : Bool). c || list_any (machine.has_serial serial) (definitions_of indexes)) its
    by false later e f = ap (λ (c : Bool). c || list_any (machine.has_serial serial) (definitions_of (with_serial indexes serial new))) e ∙ later f

same-int : (n : ℤ) → int_eq n n ≡ true
same-int n = grind (arith, ints)

same-name : (name : ListName) → is_same name name ≡ true
same-name (names.Word text) = same-text text
same-name (names.Tag field text) = ap (λ (b : Bool). b && bytes_eq text text) (same-yes field) ∙ same-text text
same-name (names.Range field low) = ap (λ (b : Bool). b && int_eq low low) (same-yes field) ∙ same-int low

same-marker : (m : Marker) → is_marker (numbers_of m) m ≡ true
same-marker m = ap (λ (b : Bool). b && nat_eq m.nth m.nth) (same-yes m.event) ∙ same-yes m.nth

same-numbers : (a b : Marker) → numbers_of a ≡ numbers_of b → a ≡ b
same-numbers a b e = λ i. record { event = (e i).0; nth = (e i).1 }

pub comes-so : (old new : Stands) (shown : Shown) (outcome : Spliced) (s : SplicesBy old shown outcome new) → Comes readings old.next old.state.definitions shown.snapshot s.named.name outcome
comes-so old new shown outcome s = record {
  seen = (numbers_of (marker_of s.named.picture), seen-is);
  last = (λ e. last-if e (nat_lt old.next last_number) refl, λ late. ap became_of (s.splices.last late).0);
  gone = gone-if;
  moved = λ was now e. moved-if was now e (nat_lt old.next last_number) refl;
}
  where
    seen-is : readings.pictures shown.snapshot s.named.name (numbers_of (marker_of s.named.picture)) ≡ true
    seen-is = any-at (λ (named : NamedPicture). is_same s.named.name named.name && is_marker (numbers_of (marker_of s.named.picture)) (marker_of named.picture)) shown.snapshot.lists shown.place s.named s.is
        (ap (λ (b : Bool). b && is_marker (numbers_of (marker_of s.named.picture)) (marker_of s.named.picture)) (same-name s.named.name) ∙ same-marker (marker_of s.named.picture))

    not-last : Outcomes (marker_of s.named.picture) outcome → became_of outcome ≡ machine.LastEvent → ⊥
    not-last (inl g) e = let no : machine.Gone ≡ machine.LastEvent = sym (ap became_of g) ∙ e in cc
    not-last (inr (inl d)) e = let no : machine.Done ≡ machine.LastEvent = sym (ap became_of d.2) ∙ e in cc
    not-last (inr (inr m)) e = let no : machine.Moved (numbers_of (marker_of s.named.picture)) (numbers_of m.0) ≡ machine.LastEvent = sym (ap became_of m.2) ∙ e in cc

    last-if : became_of outcome ≡ machine.LastEvent → (b : Bool) → ltb old.next last_number ≡ b → last_number ≤ old.next
    last-if e true lt = absurd (not-last (came old new shown outcome s (ltb-true old.next last_number lt)) e)
    last-if e false ge = ltb-false old.next last_number ge

    gone-if : old.next < last_number → list_any (machine.has_serial shown.snapshot.serial) old.state.definitions ≡ false → became_of outcome ≡ machine.Gone
    gone-if below none = by (find (has_serial shown.snapshot.serial) old.indexes) refl (s.splices.splices below)
      where
        by : (o : Option Index) → find (has_serial shown.snapshot.serial) old.indexes ≡ o
            → SplicesFound o shown.snapshot.serial s.named.name s.repair (splice_marker old.next) old.indexes new.indexes outcome → became_of outcome ≡ machine.Gone
        by None e f = ap became_of f.0
        by (Some index) e f =
            let has : has_serial shown.snapshot.serial f.0 ≡ true = ap (has_serial shown.snapshot.serial) f.2.rest ∙ (find-is (has_serial shown.snapshot.serial) old.indexes index e).1 in
            let there : list_any (machine.has_serial shown.snapshot.serial) (definitions_of new.indexes) ≡ true =
            ap (λ (l : List Index). list_any (machine.has_serial shown.snapshot.serial) (definitions_of l)) f.1 ∙ still-there shown.snapshot.serial old.indexes index f.0 e has in
            let defs : old.state.definitions ≡ definitions_of new.indexes = ap (λ (m : State). m.definitions) (sym s.state) ∙ s.indexed.definitions in
            absurd (let no : true ≡ false = sym there ∙ (ap (list_any (machine.has_serial shown.snapshot.serial)) (sym defs) ∙ none) in cc)

    moved-by : (was now : ℕ × ℕ) → became_of outcome ≡ machine.Moved was now → Outcomes (marker_of s.named.picture) outcome
        → (readings.pictures shown.snapshot s.named.name was ≡ true) × (was ≢ now)
    moved-by was now e (inl g) = absurd (let no : machine.Gone ≡ machine.Moved was now = sym (ap became_of g) ∙ e in cc)
    moved-by was now e (inr (inl d)) = absurd (let no : machine.Done ≡ machine.Moved was now = sym (ap became_of d.2) ∙ e in cc)
    moved-by was now e (inr (inr m)) =
        let its : machine.Moved (numbers_of (marker_of s.named.picture)) (numbers_of m.0) ≡ machine.Moved was now = sym (ap became_of m.2) ∙ e in
        let first : numbers_of (marker_of s.named.picture) ≡ was = cc in
        let second : numbers_of m.0 ≡ now = cc in (
          subst (λ (w : ℕ × ℕ). readings.pictures shown.snapshot s.named.name w ≡ true) first seen-is,
          λ same. m.1 (same-numbers (marker_of s.named.picture) m.0 (first ∙ (same ∙ sym second))),
        )

    moved-if : (was now : ℕ × ℕ) → became_of outcome ≡ machine.Moved was now → (b : Bool) → ltb old.next last_number ≡ b
        → (readings.pictures shown.snapshot s.named.name was ≡ true) × (was ≢ now)
    moved-if was now e true lt = moved-by was now e (came old new shown outcome s (ltb-true old.next last_number lt))
    moved-if was now e false ge =
        absurd (let no : machine.LastEvent ≡ machine.Moved was now = sym (ap became_of (s.splices.last (ltb-false old.next last_number ge)).0) ∙ e in cc)

pub comes : (first : ℕ) (before : List Entry) (snapshot : Snapshot) (list : ℕ) (shown : Shown) (name : ListName) (outcome : Spliced) (old new : Stands) → old.next ≡ number first before
    → at (shown_in snapshot) list ≡ Some shown → name_at shown ≡ name → SplicesBy old shown outcome new → Comes readings (number first before) old.state.definitions snapshot name outcome
comes first before snapshot list shown name outcome old new number-is there named s =
    let of : shown.snapshot ≡ snapshot = shown-of snapshot (length snapshot.lists) list shown there in
    let called : s.named.name ≡ name = sym (ap name_in s.is) ∙ named in
    subst (λ (n : ℕ). Comes readings n old.state.definitions snapshot name outcome) number-is
    (subst (λ (k : Snapshot). Comes readings old.next old.state.definitions k name outcome) of
    (subst (λ (l : ListName). Comes readings old.next old.state.definitions shown.snapshot l outcome) called (comes-so old new shown outcome s)))
