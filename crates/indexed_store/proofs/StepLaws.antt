-- Documents that are written and removed: the space, and what each index stands for.
use Rattle.std.specs.Prelude.{◌≡◌, ◌<◌, ◌≤◌, ◌+◌, ◌&&◌, ℕ, Bool, true, false, cond, not, List, [], ◌∷◌, ◌++◌, suc, Option, None, Some, IfSome, is_some, length, drop, map, nat_eq, slice_index_or, refl, if◌then◌else◌}
use Rattle.std.proofs.Common.{sym, ap, ◌∙◌, subst, inl, inr, arith, drop-cons}
use Rattle.std.specs.List.{All, AllPairs}
use Rattle.std.specs.Map.{remove_entry}
use Rattle.std.specs.Option.{option_map}
use Rattle.std.specs.Str.{bytes_eq}
use Rattle.std.proofs.lemmas.Bool.{cases_Bool}
use Rattle.std.proofs.lemmas.List.{map-append}
use Rattle.std.proofs.lemmas.List.Elements.{All-map, All-append, All-cons, All-filter, All-head, All-nil, All-tail, filter-append}
use Rattle.doc_table.specs.Table.{Vector}
use Rattle.ft_base.specs.Space.{doc_of, erase, write}
use Rattle.ft_base.specs.Docs.{Doc}
use Rattle.ft_index.proofs.IndexLaws.{last-push, last-removed, rises-push, rises-removed}
use Rattle.ft_index.proofs.AliveLaws.{above-no, below-no, last_id-low, rows-without, same-yes, without-below}
use Rattle.ft_index.proofs.MemberLaws.{commits-is, index-committed, index-gone, indexes-gone}
use Rattle.ft_index.specs.Fits.{fit_of}
use Rattle.ft_index.specs.Index.{Index, Indexes, IsIndex, commits, commits_as, commits_ready, committed}
use Rattle.ft_index.specs.Markers.{AreBefore}
use Rattle.ft_index.specs.Without.{without}
use Rattle.ft_index.specs.declared.ready.Fit.{Fit}
use Rattle.ft_index.specs.declared.ready.Fit.TheVariants.{Member, NoPrefix, Failed}
use Rattle.ft_index.specs.declared.ready.Ready.{Ready}
use Rattle.ft_meaning.specs.Meaning.{ValuesFit}
use Rattle.ft_meaning.specs.Member.{numbers_read, one_more, takes_key}
use Rattle.hash_store.specs.Erasing.{erase_id}
use Rattle.hash_store.specs.Store.{Store}
use Rattle.inverted_list.specs.Listing.{RisesAbove, last_id}
use Rattle.inverted_list.specs.declared.marker.Markers.{Markers}
use Rattle.ft_machine.specs.Definitions.{Defined, all_tried, tried, without_keys}
use Rattle.indexed_store.specs.DefinitionsOf.{defined, definitions_of}
use Rattle.indexed_store.specs.Indexing.{Awaits, killed, settled}
use Rattle.indexed_store.specs.Standing.{AreApart, AreWritten, IndexStands, InStep, markers_at}
use Rattle.indexed_store.specs.Writing.{Waits}
use Rattle.indexed_store.proofs.ApartLaws.{apart-mapped, apart-more}
use Rattle.indexed_store.proofs.IndexingLaws.{stands-later}
use Rattle.indexed_store.proofs.KeysLaws.{KeysDiffer, differ-written, distinct-filter, erase_id-without, none-differ}

-- the row of a document: its id and its key
abbrev pub row_of : Doc → ℕ × List ℕ
row_of doc = (doc.id, doc.key)

-- the documents but that of an id, where there is an id
abbrev pub kept : Option ℕ → List Doc → List Doc
kept None docs = docs
kept (Some id) docs = without id docs

-- the id of a key's document
abbrev pub id_of : List Doc → List ℕ → Option ℕ
id_of docs key = option_map (λ (doc : Doc). doc.id) (doc_of docs key)

found-above : (low : ℕ) (docs : List Doc) (key : List ℕ) (found : Doc) → RisesAbove low (map row_of docs) → doc_of docs key ≡ Some found → low < found.id
found-above low [] key found rises there = cc (there)
found-above low (doc ∷ docs) key found rises there = by_test (bytes_eq key doc.key) there (found-above doc.id docs key found rises.1)
  where
    by_test : (here : Bool) → cond here (Some doc) (doc_of docs key) ≡ Some found → (doc_of docs key ≡ Some found → doc.id < found.id) → low < found.id
    by_test true there later = let same : doc ≡ found = cc (there) in subst (λ (d : Doc). low < d.id) same rises.0
    by_test false there later = omega (arith, rises.0, later there)

others-kept : (docs : List Doc) (doc : Doc) (key : List ℕ) (found : Option Doc) → RisesAbove doc.id (map row_of docs) → doc_of docs key ≡ found
    → doc ∷ kept (option_map (λ (d : Doc). d.id) found) docs ≡ kept (option_map (λ (d : Doc). d.id) found) (doc ∷ docs)
others-kept docs doc key None rises is = refl
others-kept docs doc key (Some found) rises is =
    let later : doc.id < found.id = found-above doc.id docs key found rises is in
    rw (above-no found.id doc.id later) refl

-- what is taken out by its key is taken out by its id
pub erase-kept : (low : ℕ) (docs : List Doc) (key : List ℕ) → RisesAbove low (map row_of docs) → erase docs key ≡ kept (id_of docs key) docs
erase-kept low [] key rises = refl
erase-kept low (doc ∷ docs) key rises =
    by_test (bytes_eq key doc.key) (ap (λ rest. doc ∷ rest) (erase-kept doc.id docs key rises.1) ∙ others-kept docs doc key (doc_of docs key) rises.1 refl)
  where
    by_test : (here : Bool) → doc ∷ erase docs key ≡ kept (id_of docs key) (doc ∷ docs)
        → cond here docs (doc ∷ erase docs key) ≡ kept (option_map (λ (d : Doc). d.id) (cond here (Some doc) (doc_of docs key))) (doc ∷ docs)
    by_test true others = rw (same-yes doc.id) (sym (without-below (λ (doc : Doc). doc.key) doc.id doc.id docs rises.1 (omega arith)))
    by_test false others = others

-- a row taken out, where there is one
abbrev pub kept_rows : Option ℕ → List (ℕ × List ℕ) → List (ℕ × List ℕ)
kept_rows None rows = rows
kept_rows (Some id) rows = remove_entry (nat_eq id) rows

rows-kept : (replaced : Option ℕ) (docs : List Doc) → RisesAbove 0 (map row_of docs) → map row_of (kept replaced docs) ≡ kept_rows replaced (map row_of docs)
rows-kept None docs rises = refl
rows-kept (Some id) docs rises = sym (rows-without (λ (doc : Doc). doc.key) 0 id docs rises)

kept_rows-rise : (replaced : Option ℕ) (rows : List (ℕ × List ℕ)) → RisesAbove 0 rows → RisesAbove 0 (kept_rows replaced rows)
kept_rows-rise None rows rises = rises
kept_rows-rise (Some id) rows rises = rises-removed 0 id rows rises

kept_rows-end : (replaced : Option ℕ) (rows : List (ℕ × List ℕ)) → RisesAbove 0 rows → last_id 0 (kept_rows replaced rows) ≤ last_id 0 rows
kept_rows-end None rows rises = omega arith
kept_rows-end (Some id) rows rises = last-removed 0 id rows rises

kept-all : (P : Doc → Type 0) (replaced : Option ℕ) (docs : List Doc) → All P docs → All P (kept replaced docs)
kept-all P None docs each = each
kept-all P (Some id) docs each = All-filter (λ (doc : Doc). not (nat_eq id doc.id)) P docs each

kept-differ : (replaced : Option ℕ) (docs : List Doc) → KeysDiffer docs → KeysDiffer (kept replaced docs)
kept-differ None docs differ = differ
kept-differ (Some id) docs differ = distinct-filter bytes_eq (λ (doc : Doc). doc.key) (λ (doc : Doc). not (nat_eq id doc.id)) docs differ

one-more : (P : Doc → Type 0) (replaced : Option ℕ) (docs : List Doc) (doc : Doc) → All P docs → P doc → All P (kept replaced docs ++ doc ∷ [])
one-more P replaced docs doc each here = All-append P (kept replaced docs) (doc ∷ []) (kept-all P replaced docs each) (All-cons P doc [] here (All-nil P))

-- no document is of any event
pub written-none : (next : ℕ) → 0 < next → AreWritten [] next
written-none next above = record { rise = tt; earlier = above; keys = none-differ; fit = All-nil (λ (doc : Doc). ValuesFit doc.hash); filled = All-nil (λ (doc : Doc). 0 < length doc.hash) }

-- the documents once one of them is written
pub space-written : (docs : List Doc) (doc : Doc) → AreWritten docs doc.id → ValuesFit doc.hash → 0 < length doc.hash → AreWritten (kept (id_of docs doc.key) docs ++ doc ∷ []) (doc.id + 1)
space-written docs doc written fits filled =
    let replaced = id_of docs doc.key in
    let rows : map row_of (kept replaced docs ++ doc ∷ []) ≡ kept_rows replaced (map row_of docs) ++ row_of doc ∷ [] =
    map-append row_of (kept replaced docs) (doc ∷ []) ∙ ap (λ rows. rows ++ row_of doc ∷ []) (rows-kept replaced docs written.rise) in
    let end : last_id 0 (kept_rows replaced (map row_of docs)) < doc.id = omega (arith, kept_rows-end replaced (map row_of docs) written.rise, written.earlier) in
    record {
      rise = subst (RisesAbove 0) (sym rows) (rises-push 0 (row_of doc) (kept_rows replaced (map row_of docs)) (kept_rows-rise replaced (map row_of docs) written.rise) end);
      earlier = subst (λ (rows : List (ℕ × List ℕ)). last_id 0 rows < doc.id + 1) (sym rows) (rw (last-push 0 (row_of doc) (kept_rows replaced (map row_of docs))) (omega arith));
      keys = subst (λ (left : List Doc). KeysDiffer (left ++ doc ∷ [])) (erase-kept 0 docs doc.key written.rise) (differ-written doc docs written.keys);
      fit = one-more (λ (doc : Doc). ValuesFit doc.hash) replaced docs doc written.fit fits;
      filled = one-more (λ (doc : Doc). 0 < length doc.hash) replaced docs doc written.filled filled;
    }

-- where nothing is written, the documents are still of earlier events
pub space-later : (docs : List Doc) (next : ℕ) → AreWritten docs next → AreWritten docs (next + 1)
space-later docs next written = record { rise = written.rise; earlier = omega (arith, written.earlier); keys = written.keys; fit = written.fit; filled = written.filled }

not-later : (replaced : Option ℕ) (docs : List Doc) (doc : Doc) → IfSome replaced (λ id. id < doc.id) → kept replaced (docs ++ doc ∷ []) ≡ kept replaced docs ++ doc ∷ []
not-later None docs doc earlier = refl
not-later (Some id) docs doc earlier =
    filter-append (λ (d : Doc). not (nat_eq id d.id)) docs (doc ∷ []) ∙ rw (below-no id doc.id earlier) refl

found-earlier : (low last : ℕ) (docs : List Doc) (key : List ℕ) → RisesAbove low (map row_of docs) → last_id low (map row_of docs) < last → IfSome (id_of docs key) (λ id. id < last)
found-earlier low last [] key rises earlier = tt
found-earlier low last (doc ∷ docs) key rises earlier = by_test (bytes_eq key doc.key) (found-earlier doc.id last docs key rises.1 earlier)
  where
    by_test : (here : Bool) → IfSome (id_of docs key) (λ id. id < last) → IfSome (option_map (λ (d : Doc). d.id) (cond here (Some doc) (doc_of docs key))) (λ id. id < last)
    by_test true later = omega (arith, last_id-low doc.id (map row_of docs) rises.1, earlier)
    by_test false later = later

-- a commit moves neither the last id nor the lists
last-commits : (fit : Fit) (index : Index) → (commits_as fit index).table.last ≡ index.table.last
last-commits Member index = by_row index.table.ready
  where
    by_row : (row : Option (ℕ × Vector)) → (commits row index.table).last ≡ index.table.last
    by_row None = refl
    by_row (Some row) = refl
last-commits NoPrefix index = refl
last-commits Failed index = refl

last-committed : (ready : Option Ready) (index : Index) → (commits_ready ready index).table.last ≡ index.table.last
last-committed None index = refl
last-committed (Some ready) index = last-commits ready.fit (record index { waits = None })

pub lists-commits : (fit : Fit) (index : Index) → (commits_as fit index).lists ≡ index.lists
lists-commits Member index = refl
lists-commits NoPrefix index = refl
lists-commits Failed index = refl

pub lists-committed : (ready : Option Ready) (index : Index) → (commits_ready ready index).lists ≡ index.lists
lists-committed None index = refl
lists-committed (Some ready) index = lists-commits ready.fit (record index { waits = None })

lists-settled : (replaced : Option ℕ) (index : Index) → (settled replaced index).lists ≡ index.lists
lists-settled None index = lists-committed index.waits index
lists-settled (Some id) index = lists-committed index.waits index

-- An index that a document waits in stands for the written space once it is settled.
pub index-settled : (docs : List Doc) (doc : Doc) (replaced : Option ℕ) (index : Index) → IfSome replaced (λ id. id < doc.id)
    → IndexStands docs (doc.id + 1) (markers_at (doc.id + 1)) index → Awaits docs doc index → IndexStands (kept replaced docs ++ doc ∷ []) (doc.id + 1) (markers_at (doc.id + 1)) (settled replaced index)
index-settled docs doc replaced index earlier stands awaits = record {
  documents = documents replaced earlier;
  sound = sound replaced;
  earlier = rw (settled-last replaced) stands.earlier;
  before = subst (AreBefore (markers_at (doc.id + 1))) (sym (lists-settled replaced index)) stands.before;
}
  where
    whole : IsIndex (committed index)
    whole = index-committed index stands.sound

    documents : (replaced : Option ℕ) → IfSome replaced (λ id. id < doc.id) → Indexes (settled replaced index) (kept replaced docs ++ doc ∷ [])
    documents None earlier = awaits.seen
    documents (Some id) earlier =
        subst (Indexes (settled (Some id) index)) (not-later (Some id) docs doc earlier) (indexes-gone (committed index) (settled (Some id) index) id (docs ++ doc ∷ []) refl refl refl whole.kept awaits.seen)

    sound : (replaced : Option ℕ) → IsIndex (settled replaced index)
    sound None = whole
    sound (Some id) = index-gone (committed index) id whole

    settled-last : (replaced : Option ℕ) → (settled replaced index).table.last ≡ index.table.last
    settled-last None = last-committed index.waits index
    settled-last (Some id) = last-committed index.waits index

-- All of them do.
pub in_step-written : (store : Store) (docs : List Doc) (doc : Doc) (replaced : Option ℕ) (indexes : List Index) → store.space ≡ write docs doc.key doc.hash doc.id → store.last < doc.id + 1
    → replaced ≡ id_of docs doc.key → AreWritten docs doc.id → ValuesFit doc.hash → 0 < length doc.hash → All (IndexStands docs (doc.id + 1) (markers_at (doc.id + 1))) indexes → All (Awaits docs doc) indexes
    → AllPairs AreApart indexes → InStep store (map (settled replaced) indexes) (doc.id + 1)
in_step-written store docs doc replaced indexes space last same written fits filled stand waits apart =
    let whole : store.space ≡ kept replaced docs ++ doc ∷ [] = space ∙ (ap (λ rest. rest ++ doc ∷ []) (erase-kept 0 docs doc.key written.rise) ∙ ap (λ (r : Option ℕ). kept r docs ++ doc ∷ []) (sym same)) in
    let earlier : IfSome replaced (λ id. id < doc.id) = subst (λ (r : Option ℕ). IfSome r (λ id. id < doc.id)) (sym same) (found-earlier 0 doc.id docs doc.key written.rise written.earlier) in
    let documents : AreWritten (kept replaced docs ++ doc ∷ []) (doc.id + 1) = subst (λ (r : Option ℕ). AreWritten (kept r docs ++ doc ∷ []) (doc.id + 1)) (sym same) (space-written docs doc written fits filled) in
    record {
      last = last;
      documents = subst (λ (space : List Doc). AreWritten space (doc.id + 1)) (sym whole) documents;
      stand = subst (λ (space : List Doc). All (IndexStands space (doc.id + 1) (markers_at (doc.id + 1))) (map (settled replaced) indexes)) (sym whole)
          (All-map (IndexStands (kept replaced docs ++ doc ∷ []) (doc.id + 1) (markers_at (doc.id + 1))) (settled replaced) indexes
          (λ k d short. index-settled docs doc replaced (slice_index_or indexes k d) earlier (stand k d short) (waits k d short)));
      apart = apart-mapped (settled replaced) indexes (lists-settled replaced) apart;
    }

-- Where nothing is written, each index stands for what it stood for.
pub in_step-unwritten : (store : Store) (docs : List Doc) (id : ℕ) (markers : Markers) (indexes : List Index) → store.space ≡ docs → store.last < id + 1 → AreWritten docs id
    → markers.event ≡ id → All (IndexStands docs (id + 1) markers) indexes → AllPairs AreApart indexes → InStep store indexes (id + 1)
in_step-unwritten store docs id markers indexes same last written event stand apart = record {
  last = last;
  documents = subst (λ (space : List Doc). AreWritten space (id + 1)) (sym same) (space-later docs id written);
  stand = subst (λ (space : List Doc). All (IndexStands space (id + 1) (markers_at (id + 1))) indexes) (sym same)
      (λ k d short. stands-later docs (id + 1) (id + 1) markers (markers_at (id + 1)) (slice_index_or indexes k d) (omega arith) (inl (omega (arith, event))) (stand k d short));
  apart = apart;
}

-- a command that touches neither documents nor indexes
pub in_step-later : (store : Store) (indexes : List Index) (id : ℕ) → InStep store indexes id → InStep store indexes (id + 1)
in_step-later store indexes id step = record {
  last = omega (arith, step.last);
  documents = space-later store.space id step.documents;
  stand = λ k d short. stands-later store.space id (id + 1) (markers_at id) (markers_at (id + 1)) (slice_index_or indexes k d) (omega arith) (inl (omega arith)) (step.stand k d short);
  apart = step.apart;
}

-- a commit counts a failure, and keeps the definition
pub defined-committed : (index : Index) (doc : Doc) (id : ℕ) → index.waits ≡ Some (record { id = id; fit = fit_of index.def doc }) → defined (committed index) ≡ tried doc (defined index)
defined-committed index doc id waits =
    ap defined (commits-is index (record { id = id; fit = fit_of index.def doc }) waits) ∙ by_tests (takes_key index.def.prefixes doc.key) (numbers_read index.def.fields doc.hash)
  where
    by_tests : (takes reads : Bool) → defined (commits_as (if takes && reads then Member else (if takes && not reads then Failed else NoPrefix)) (record index { waits = None }))
        ≡ record { def = index.def; failures = if takes && not reads then one_more index.failures else index.failures }
    by_tests true true = refl
    by_tests true false = refl
    by_tests false reads = refl

-- each index has tried the document that is settled
pub definitions-settled : (space : List Doc) (doc : Doc) (replaced : Option ℕ) (indexes : List Index) → All (Awaits space doc) indexes
    → definitions_of (map (settled replaced) indexes) ≡ map (tried doc) (definitions_of indexes)
definitions-settled space doc replaced [] each = refl
definitions-settled space doc replaced (index ∷ indexes) each =
    let others = definitions-settled space doc replaced indexes (All-tail (Awaits space doc) index indexes each) in
    ap (λ (first : Defined). first ∷ definitions_of (map (settled replaced) indexes)) (by_case replaced) ∙ ap (λ (rest : List Defined). tried doc (defined index) ∷ rest) others
  where
    here : defined (committed index) ≡ tried doc (defined index)
    here = defined-committed index doc doc.id (All-head (Awaits space doc) index indexes each).waits

    by_case : (replaced : Option ℕ) → defined (settled replaced index) ≡ tried doc (defined index)
    by_case None = here
    by_case (Some id) = here

pub all-settled : (put number : ℕ) (space : List Doc) (waits : Option Doc) (replaced : Option ℕ) (indexes : List Index) → Waits put number space indexes waits
    → definitions_of (map (settled replaced) indexes) ≡ all_tried waits (definitions_of indexes)
all-settled put number space None replaced indexes waiting = absurd waiting
all-settled put number space (Some doc) replaced indexes waiting = definitions-settled space doc replaced indexes waiting.awaits

-- a store that holds the same documents is in step too
pub in_step-same : (old new : Store) (indexes : List Index) (id : ℕ) → new.space ≡ old.space → new.last ≡ old.last → InStep old indexes id → InStep new indexes id
in_step-same old new indexes id space last step = record {
  last = subst (λ n. n < id) (sym last) step.last;
  documents = subst (λ (docs : List Doc). AreWritten docs id) (sym space) step.documents;
  stand = subst (λ (docs : List Doc). All (IndexStands docs id (markers_at id)) indexes) (sym space) step.stand;
  apart = step.apart;
}

-- a command that reads
pub in_step-read : (old new : Store) (indexes : List Index) (id : ℕ) → new.space ≡ old.space → new.last ≡ old.last → InStep old indexes id → InStep new indexes (id + 1)
in_step-read old new indexes id space last step = in_step-later new indexes id (in_step-same old new indexes id space last step)

-- an index that a document is taken out of
index-killed : (docs : List Doc) (id next : ℕ) (markers : Markers) (index : Index) → IndexStands docs next markers index → IndexStands (kept (Some id) docs) next markers (killed (Some id) index)
index-killed docs id next markers index stands = record {
  documents = indexes-gone index (killed (Some id) index) id docs refl refl refl stands.sound.kept stands.documents;
  sound = index-gone index id stands.sound;
  earlier = stands.earlier;
  before = stands.before;
}

pub space-kept : (replaced : Option ℕ) (docs : List Doc) (next : ℕ) → AreWritten docs next → AreWritten (kept replaced docs) next
space-kept replaced docs next written = record {
  rise = subst (RisesAbove 0) (sym (rows-kept replaced docs written.rise)) (kept_rows-rise replaced (map row_of docs) written.rise);
  earlier = subst (λ (rows : List (ℕ × List ℕ)). last_id 0 rows < next) (sym (rows-kept replaced docs written.rise)) (omega (arith, kept_rows-end replaced (map row_of docs) written.rise, written.earlier));
  keys = kept-differ replaced docs written.keys;
  fit = kept-all (λ (doc : Doc). ValuesFit doc.hash) replaced docs written.fit;
  filled = kept-all (λ (doc : Doc). 0 < length doc.hash) replaced docs written.filled;
}

-- a document was taken out of the store and of each index
pub in_step-gone : (old new : Store) (id : ℕ) (indexes : List Index) (next : ℕ) → new.space ≡ kept (Some id) old.space → new.last ≡ old.last → InStep old indexes next → InStep new (map (killed (Some id)) indexes) next
in_step-gone old new id indexes next whole last step = record {
  last = subst (λ n. n < next) (sym last) step.last;
  documents = subst (λ (docs : List Doc). AreWritten docs next) (sym whole) (space-kept (Some id) old.space next step.documents);
  stand = subst (λ (docs : List Doc). All (IndexStands docs next (markers_at next)) (map (killed (Some id)) indexes)) (sym whole)
      (All-map (IndexStands (kept (Some id) old.space) next (markers_at next)) (killed (Some id)) indexes
      (λ k d short. index-killed old.space id next (markers_at next) (slice_index_or indexes k d) (step.stand k d short)));
  apart = apart-mapped (killed (Some id)) indexes (λ index. refl) step.apart;
}

-- by its key
pub in_step-erased : (old new : Store) (key : List ℕ) (id : ℕ) (indexes : List Index) (next : ℕ) → new.space ≡ erase old.space key → new.last ≡ old.last → Some id ≡ id_of old.space key
    → InStep old indexes next → InStep new (map (killed (Some id)) indexes) next
in_step-erased old new key id indexes next space last was step =
    in_step-gone old new id indexes next (space ∙ (erase-kept 0 old.space key step.documents.rise ∙ ap (λ (r : Option ℕ). kept r old.space) (sym was))) last step

-- or by its id
pub in_step-erased_id : (old new : Store) (id : ℕ) (indexes : List Index) (next : ℕ) → new ≡ record old { space = erase_id old.space id } → InStep old indexes next → InStep new (map (killed (Some id)) indexes) next
in_step-erased_id old new id indexes next gone step =
    in_step-gone old new id indexes next (ap (λ (s : Store). s.space) gone ∙ erase_id-without 0 id old.space step.documents.rise step.documents.keys) (ap (λ (s : Store). s.last) gone) step

-- no document has the key
pub in_step-absent : (old new : Store) (key : List ℕ) (indexes : List Index) (next : ℕ) → new.space ≡ erase old.space key → new.last ≡ old.last → None ≡ id_of old.space key
    → InStep old indexes next → InStep new indexes next
in_step-absent old new key indexes next space last was step =
    let same : new.space ≡ old.space = space ∙ (erase-kept 0 old.space key step.documents.rise ∙ ap (λ (r : Option ℕ). kept r old.space) (sym was)) in
    in_step-same old new indexes next same last step

pub definitions-killed : (id : ℕ) (indexes : List Index) → definitions_of (map (killed (Some id)) indexes) ≡ definitions_of indexes
definitions-killed id [] = refl
definitions-killed id (index ∷ indexes) = ap (λ (rest : List Defined). defined index ∷ rest) (definitions-killed id indexes)

-- a key's document is one
pub erase-there : (docs : List Doc) (key : List ℕ) → is_some (doc_of docs key) ≡ true → 1 + length (erase docs key) ≡ length docs
erase-there [] key there = cc (there)
erase-there (doc ∷ docs) key there = elim (cases_Bool (bytes_eq key doc.key)) [
  | inl y ↦ rw y (omega arith)
  | inr n ↦ rw n (omega (arith, erase-there docs key (subst (λ (b : Bool). is_some (cond b (Some doc) (doc_of docs key)) ≡ true) n there)))
]

pub erase-absent : (docs : List Doc) (key : List ℕ) → is_some (doc_of docs key) ≡ false → length (erase docs key) ≡ length docs
erase-absent [] key absent = refl
erase-absent (doc ∷ docs) key absent = by_test (bytes_eq key doc.key) absent (erase-absent docs key)
  where
    by_test : (here : Bool) → is_some (cond here (Some doc) (doc_of docs key)) ≡ false → (is_some (doc_of docs key) ≡ false → length (erase docs key) ≡ length docs)
        → length (cond here docs (doc ∷ erase docs key)) ≡ length (doc ∷ docs)
    by_test true absent others = cc (absent)
    by_test false absent others = ap (λ (n : ℕ). suc n) (others absent)

-- the next key is taken out
pub without-next : (docs now : List Doc) (keys : List (List ℕ)) (i : ℕ) (key : List ℕ) → i < length keys → key ≡ slice_index_or keys i [] → now ≡ erase docs key
    → without_keys now (drop (i + 1) keys) ≡ without_keys docs (drop i keys)
without-next docs now keys i key within is out =
    let up : i + 1 ≡ suc i = omega arith in
    let next : drop i keys ≡ key ∷ drop (suc i) keys = drop-cons keys i [] within ∙ ap (λ (k : List ℕ). k ∷ drop (suc i) keys) (sym is) in
    ap (λ (n : ℕ). without_keys now (drop n keys)) up ∙ (ap (λ (d : List Doc). without_keys d (drop (suc i) keys)) out ∙ ap (without_keys docs) (sym next))

-- an index more that stands for the documents
pub in_step-more : (store : Store) (indexes : List Index) (index : Index) (n : ℕ) → InStep store indexes n → IndexStands store.space n (markers_at n) index → All (AreApart index) indexes → InStep store (indexes ++ index ∷ []) n
in_step-more store indexes index n step stands apart =
    let P : Index → Type 0 = IndexStands store.space n (markers_at n) in
    record {
      last = step.last;
      documents = step.documents;
      stand = All-append P indexes (index ∷ []) step.stand (All-cons P index [] stands (All-nil P));
      apart = apart-more indexes index apart step.apart;
    }

-- The document that waited is written, in the store and in each index.
pub settled-step : (old new : Store) (indexes now : List Index) (put number : ℕ) (waits : Option Doc) (replaced : Option ℕ) → AreWritten old.space number → InStep old indexes (number + 1)
    → Waits put number old.space indexes waits → IfSome waits (λ doc. replaced ≡ id_of old.space doc.key)
    → IfSome waits (λ doc. new ≡ record old { space = write old.space doc.key doc.hash doc.id; ready = None }) → now ≡ map (settled replaced) indexes → InStep new now (number + 1)
settled-step old new indexes now put number None replaced written step waits was is made = absurd waits
settled-step old new indexes now put number (Some doc) replaced written step waits was is made =
    let at : doc.id ≡ number = waits.id in
    let last : new.last ≡ old.last = ap (λ (s : Store). s.last) is in
    subst (λ n. InStep new now (n + 1)) at
    (subst (λ (is : List Index). InStep new is (doc.id + 1)) (sym made)
    (in_step-written new old.space doc replaced indexes (ap (λ (s : Store). s.space) is) (omega (arith, last, at, step.last)) was (subst (AreWritten old.space) (sym at) written) waits.fits waits.filled
    (subst (λ n. All (IndexStands old.space (n + 1) (markers_at (n + 1))) indexes) (sym at) step.stand) waits.awaits step.apart))

-- where only the documents change, the rest stays
pub rest-same : (old new : Store) (docs : List Doc) → new ≡ record old { space = docs } → new ≡ record old { space = new.space }
rest-same old new docs is = is ∙ ap (λ (d : List Doc). record old { space = d }) (sym (ap (λ (s : Store). s.space) is))

pub rest-after : (old mid new : Store) → mid ≡ record old { space = mid.space } → new ≡ record mid { space = new.space } → new ≡ record old { space = new.space }
rest-after old mid new before after = after ∙ ap (λ (s : Store). record s { space = new.space }) before
