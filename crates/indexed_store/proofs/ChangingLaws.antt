-- What a change needs, and that it changes something.
use Rattle.std.specs.Prelude.{◌≡◌, ◌≢◌, ◌<◌, ◌+◌, ℕ, Bool, true, false, List, [], ◌∷◌, ◌++◌, Option, None, Some, IfSome, IsTrue, cond, is_some, length, take, drop, map, refl}
use Rattle.std.proofs.Common.{sym, ap, ◌∙◌, subst, inl, inr, arith, All}
use Rattle.std.specs.List.{AllPairs}
use Rattle.std.specs.Str.{bytes_eq}
use Rattle.std.proofs.lemmas.Bool.{cases_Bool}
use Rattle.std.proofs.lemmas.List.{append-nil, length-append, length-map, map-append, take_at}
use Rattle.std.proofs.lemmas.List.Elements.{All-nil}
use Rattle.std.proofs.lemmas.Slice.Eq.{bytes_eq-Decides}
use Rattle.cursor_book.specs.declared.cursor.Cursor.{Cursor}
use Rattle.ft_base.specs.Hash.{Hash}
use Rattle.ft_base.specs.Space.{erase, write}
use Rattle.ft_base.specs.Docs.{Doc}
use Rattle.ft_machine.specs.Machine.{State}
use Rattle.indexed_store.specs.Changing.{HasMore, IsReady, changed, is_change, is_write, without_cursors_of}
use Rattle.indexed_store.specs.Moving.{IndexesMove}
use Rattle.indexed_store.specs.Standing.{AreApart, AreOfEvent, AreWritten, IndexStands, InStep, markers_at}
use Rattle.ft_machine.specs.Definitions.{Defined, index_of, with_index, without_index}
use Rattle.indexed_store.specs.DefinitionsOf.{defined, definitions_of}
use Rattle.ft_machine.specs.Step.{last_number, next_number}
use Rattle.indexed_store.specs.declared.change.Change.{Change}
use Rattle.indexed_store.specs.declared.change.Change.TheVariants.{Alter, CloseCursor, CloseCursors, Create, Drop, DropMembers, EraseKey, EraseKeys, Flush, Move, Nothing, OpenCursor, ReadCursor, Write}
use Rattle.ft_index.proofs.IndexLaws.{last-push}
use Rattle.ft_index.specs.Index.{Index}
use Rattle.hash_store.specs.Store.{Store}
use Rattle.inverted_list.specs.Listing.{last_id}
use Rattle.indexed_store.proofs.CursorsLaws.{AreBelow, below-filter, below-read}
use Rattle.indexed_store.proofs.MovingLaws.{fresh-of, moves-more}
use Rattle.indexed_store.proofs.StepLaws.{erase-there, in_step-more, row_of, written-none}

-- below the last number the next one is one more
pub next-below : (number : ℕ) → number < last_number → next_number number ≡ number + 1
next-below number below = omega (arith, below)

-- something is made, so this is not the last event
pub made-before : (change known : Change) (number : ℕ) → change ≡ known → IsTrue (is_change known) → (IsTrue (is_change change) → number < last_number) → next_number number ≡ number + 1
made-before change known number is some before = next-below number (before (subst (λ (c : Change). IsTrue (is_change c)) (sym is) some))

-- the indexes as they are lent
pub lent-step : (store : Store) (lent items : List Index) (n m : ℕ) → lent ≡ items → n ≡ m → InStep store items n → InStep store lent m
lent-step store lent items n m same at step = subst (InStep store lent) at (subst (λ (is : List Index). InStep store is n) (sym same) step)

-- and as they come back
pub whole-step : (store : Store) (len : ℕ) (items now : List Index) (n m : ℕ) → length now ≡ len → n ≡ m → InStep store now m → InStep store (take len (now ++ drop (length now) items)) n
whole-step store len items now n m whole at step =
    subst (λ (is : List Index). InStep store is n) (sym (take_at now (drop (length now) items) len whole)) (subst (InStep store now) (sym at) step)

-- where nothing is left, there is nothing to stand for
pub flushed-step : (old new : Store) (indexes now : List Index) (n : ℕ) → new.space ≡ [] → new.last ≡ old.last → now ≡ [] → InStep old indexes n → InStep new now n
flushed-step old new indexes now n space last none step = record {
  last = subst (λ m. m < n) (sym last) step.last;
  documents = subst (λ (docs : List Doc). AreWritten docs n) (sym space) (written-none n (omega (arith, step.last)));
  stand = subst (All (IndexStands new.space n (markers_at n))) (sym none) (All-nil (IndexStands new.space n (markers_at n)));
  apart = subst (AllPairs AreApart) (sym none) (λ i j d before within. absurd (omega (arith, within)));
}

-- the index of a creation goes last
pub created-step : (store : Store) (change : Change) (index : Index) (number : ℕ) (waits : Option Doc) (indexes now : List Index) → change ≡ Create index → (IsTrue (is_change change) → number < last_number)
    → IsReady change number store.space waits indexes → InStep store indexes (next_number number) → now ≡ indexes ++ index ∷ [] → InStep store now (next_number number)
created-step store change index number waits indexes now is before ready step more =
    let at : next_number number ≡ number + 1 = made-before change (Create index) number is refl before in
    let ready : IsReady (Create index) number store.space waits indexes = subst (λ (c : Change). IsReady c number store.space waits indexes) is ready in
    subst (λ (is : List Index). InStep store is (next_number number)) (sym more)
    (in_step-more store indexes index (next_number number) step (subst (λ n. IndexStands store.space n (markers_at n) index) (sym at) ready.1) ready.2)

-- an index that takes another one's place stands for the documents
pub altered-stands : (change : Change) (index : Index) (number : ℕ) (space : List Doc) (waits : Option Doc) (indexes : List Index) → change ≡ Alter index → IsReady change number space waits indexes
    → IndexStands space (number + 1) (markers_at (number + 1)) index
altered-stands change index number space waits indexes is ready =
    let here : IsReady (Alter index) number space waits indexes = subst (λ (c : Change). IsReady c number space waits indexes) is ready in here.1

-- and shares no marker with the others
pub altered-apart : (change : Change) (index : Index) (number : ℕ) (space : List Doc) (waits : Option Doc) (indexes lent : List Index) → change ≡ Alter index → lent ≡ indexes → IsReady change number space waits indexes
    → All (AreApart index) lent
altered-apart change index number space waits indexes lent is same ready =
    let here : IsReady (Alter index) number space waits indexes = subst (λ (c : Change). IsReady c number space waits indexes) is ready in
    subst (All (AreApart index)) (sym same) here.2

-- and its lists are of this event
pub altered-given : (change : Change) (index : Index) (number : ℕ) (space : List Doc) (waits : Option Doc) (indexes : List Index) → change ≡ Alter index → IsReady change number space waits indexes
    → AreOfEvent number index
altered-given change index number space waits indexes is ready =
    let here : IsReady (Alter index) number space waits indexes = subst (λ (c : Change). IsReady c number space waits indexes) is ready in here.3

-- as are those of a new one
pub created-moves : (change : Change) (index : Index) (number : ℕ) (space : List Doc) (waits : Option Doc) (indexes now : List Index) → change ≡ Create index → IsReady change number space waits indexes
    → now ≡ indexes ++ index ∷ [] → IndexesMove number indexes now
created-moves change index number space waits indexes now is ready more =
    let here : IsReady (Create index) number space waits indexes = subst (λ (c : Change). IsReady c number space waits indexes) is ready in
    subst (IndexesMove number indexes) (sym more) (moves-more number indexes index (fresh-of number index here.3))

-- a definition in the place of the one of its name differs from it
with-same : (definitions : List Defined) (new : Defined) → with_index definitions new ≡ definitions → IfSome (index_of definitions new.def.name) (λ old. old ≡ new)
with-same [] new same = tt
with-same (index ∷ definitions) new same = by_test (bytes_eq new.def.name index.def.name) same (with-same definitions new)
  where
    by_test : (here : Bool) → cond here (new ∷ definitions) (index ∷ with_index definitions new) ≡ index ∷ definitions → (with_index definitions new ≡ definitions → IfSome (index_of definitions new.def.name) (λ old. old ≡ new))
        → IfSome (cond here (Some index) (index_of definitions new.def.name)) (λ old. old ≡ new)
    by_test true same later = cc (same)
    by_test false same later = later (cc (same))

with-more : (definitions : List Defined) (index : Index) → HasMore (index_of definitions index.def.name) index → with_index definitions (defined index) ≢ definitions
with-more definitions index more same = by_old (index_of definitions index.def.name) more (with-same definitions (defined index) same)
  where
    by_old : (old : Option Defined) → HasMore old index → IfSome old (λ o. o ≡ defined index) → ⊥
    by_old None more same = more
    by_old (Some old) more same = absurd (omega (arith, more, ap (λ (d : Defined). length d.def.fields) same))

-- an index less is one less
without-less : (definitions : List Defined) (name : List ℕ) → is_some (index_of definitions name) ≡ true → 1 + length (without_index definitions name) ≡ length definitions
without-less [] name there = cc (there)
without-less (index ∷ definitions) name there = by_test (bytes_eq name index.def.name) there (without-less definitions name)
  where
    by_test : (here : Bool) → is_some (cond here (Some index) (index_of definitions name)) ≡ true → (is_some (index_of definitions name) ≡ true → 1 + length (without_index definitions name) ≡ length definitions)
        → 1 + length (cond here definitions (index ∷ without_index definitions name)) ≡ length (index ∷ definitions)
    by_test true there later = omega arith
    by_test false there later = omega (arith, later there)

without-new : (indexes : List Index) (definitions : List Defined) (name : List ℕ) → definitions ≡ definitions_of indexes → IsTrue (is_some (index_of (definitions_of indexes) name)) → without_index definitions name ≢ definitions
without-new indexes definitions name same there whole =
    let less = without-less definitions name (ap (λ (ds : List Defined). is_some (index_of ds name)) same ∙ there) in
    absurd (omega (arith, less, ap length whole))

-- a document that is written with an id above all others is new
written-new : (docs : List Doc) (key : List ℕ) (hash : Hash) (id : ℕ) → last_id 0 (map row_of docs) < id → write docs key hash id ≢ docs
written-new docs key hash id above same =
    let end : last_id 0 (map row_of (write docs key hash id)) ≡ id =
    ap (last_id 0) (map-append row_of (erase docs key) (record { id = id; key = key; hash = hash } ∷ [])) ∙ last-push 0 (id, key) (map row_of (erase docs key)) in
    absurd (omega (arith, above, end, ap (λ (docs : List Doc). last_id 0 (map row_of docs)) same))

-- it stays where another key is taken out
erase-push : (docs : List Doc) (doc : Doc) (key : List ℕ) → bytes_eq key doc.key ≡ false → erase (docs ++ doc ∷ []) key ≡ erase docs key ++ doc ∷ []
erase-push [] doc key apart = rw apart refl
erase-push (first ∷ docs) doc key apart = elim (cases_Bool (bytes_eq key first.key)) [
  | inl y ↦ rw y refl
  | inr n ↦ rw n (ap (λ rest. first ∷ rest) (erase-push docs doc key apart))
]

moved-new : (docs : List Doc) (from key : List ℕ) (hash : Hash) (id : ℕ) → last_id 0 (map row_of docs) < id → from ≢ key → erase (write docs key hash id) from ≢ docs
moved-new docs from key hash id above other same =
    let doc : Doc = record { id = id; key = key; hash = hash } in
    let apart : bytes_eq from key ≡ false = elim (cases_Bool (bytes_eq from key)) [ inl y ↦ absurd (other ((bytes_eq-Decides from key).0 y)) | inr n ↦ n ] in
    let end : last_id 0 (map row_of (erase (write docs key hash id) from)) ≡ id =
    ap (λ (docs : List Doc). last_id 0 (map row_of docs)) (erase-push (erase docs key) doc from apart)
    ∙ (ap (last_id 0) (map-append row_of (erase (erase docs key) from) (doc ∷ [])) ∙ last-push 0 (id, key) (map row_of (erase (erase docs key) from))) in
    absurd (omega (arith, above, end, ap (λ (docs : List Doc). last_id 0 (map row_of docs)) same))

-- whatever is not nothing is a change
pub some-change : (change : Change) → (change ≡ Nothing → ⊥) → IsTrue (is_change change)
some-change Nothing other = absurd (other refl)
some-change (Write put) other = refl
some-change (Move put from) other = refl
some-change (EraseKey key) other = refl
some-change (EraseKeys keys) other = refl
some-change (Create index) other = refl
some-change (Alter index) other = refl
some-change (Drop name) other = refl
some-change (DropMembers name) other = refl
some-change OpenCursor other = refl
some-change (ReadCursor place taken) other = refl
some-change (CloseCursor place) other = refl
some-change CloseCursors other = refl
some-change Flush other = refl

-- but for the one that waits, a change brings no cursor
below-dropped : (next : ℕ) (index : Option Defined) (cursors : List Cursor) → AreBelow next cursors → AreBelow next (without_cursors_of index cursors)
below-dropped next None cursors below = below
below-dropped next (Some index) cursors below = below-filter next _ cursors below

pub changed-below : (change : Change) (waits : Option Doc) (state : State) (next : ℕ) → AreBelow next state.cursors → AreBelow next (changed change waits None state).cursors
changed-below Nothing waits state next below = below
changed-below (Write put) waits state next below = below
changed-below (Move put from) waits state next below = below
changed-below (EraseKey key) waits state next below = below
changed-below (EraseKeys keys) waits state next below = below
changed-below (Create index) waits state next below = below
changed-below (Alter index) waits state next below = below
changed-below (Drop name) waits state next below = below-dropped next (index_of state.definitions name.now) state.cursors below
changed-below (DropMembers name) waits state next below = below-dropped next (index_of state.definitions name.now) state.cursors below
changed-below OpenCursor waits state next below = subst (AreBelow next) (sym (append-nil state.cursors)) below
changed-below (ReadCursor place taken) waits state next below = below-read next place.serial place.id state.latest taken state.cursors below
changed-below (CloseCursor place) waits state next below = below-filter next _ state.cursors below
changed-below CloseCursors waits state next below = tt
changed-below Flush waits state next below = tt

-- a write that is ready changes documents or definitions
pub changes-something : (change : Change) (number : ℕ) (waits : Option Doc) (opens : Option Cursor) (indexes : List Index) (state : State) → AreWritten state.space number → state.definitions ≡ definitions_of indexes
    → IsReady change number state.space waits indexes → IsTrue (is_write change) → changed change waits opens state ≢ state
changes-something Nothing number waits opens indexes state documents definitions ready some same = cc (some)
changes-something (Write put) number None opens indexes state documents definitions ready some same = absurd ready
changes-something (Write put) number (Some doc) opens indexes state documents definitions ready some same =
    written-new state.space doc.key doc.hash doc.id (omega (arith, documents.earlier, ready.id)) (ap (λ (s : State). s.space) same)
changes-something (Move put from) number None opens indexes state documents definitions ready some same = absurd ready.0
changes-something (Move put from) number (Some doc) opens indexes state documents definitions ready some same =
    moved-new state.space from.now doc.key doc.hash doc.id (omega (arith, documents.earlier, ready.0.id)) ready.1 (ap (λ (s : State). s.space) same)
changes-something (EraseKey key) number waits opens indexes state documents definitions ready some same =
    absurd (omega (arith, erase-there state.space key.now ready, ap (λ (s : State). length s.space) same))
changes-something (EraseKeys keys) number waits opens indexes state documents definitions ready some same = absurd (omega (arith, ready, ap (λ (s : State). length s.space) same))
changes-something (Create index) number waits opens indexes state documents definitions ready some same =
    absurd (omega (arith, length-append state.definitions (defined index ∷ []), ap (λ (s : State). length s.definitions) same))
changes-something (Alter index) number waits opens indexes state documents definitions ready some same =
    let more : HasMore (index_of state.definitions index.def.name) index = subst (λ (ds : List Defined). HasMore (index_of ds index.def.name) index) (sym definitions) ready.0 in
    with-more state.definitions index more (ap (λ (s : State). s.definitions) same)
changes-something (Drop name) number waits opens indexes state documents definitions ready some same = without-new indexes state.definitions name.now definitions ready (ap (λ (s : State). s.definitions) same)
changes-something (DropMembers name) number waits opens indexes state documents definitions ready some same = without-new indexes state.definitions name.now definitions ready (ap (λ (s : State). s.definitions) same)
changes-something OpenCursor number waits opens indexes state documents definitions ready some same = cc (some)
changes-something (ReadCursor place taken) number waits opens indexes state documents definitions ready some same = cc (some)
changes-something (CloseCursor place) number waits opens indexes state documents definitions ready some same = cc (some)
changes-something CloseCursors number waits opens indexes state documents definitions ready some same = cc (some)
changes-something Flush number waits opens indexes state documents definitions ready some same = elim ready [
  | inl docs ↦ absurd (omega (arith, docs, ap (λ (s : State). length s.space) same))
  | inr some ↦ absurd (omega (arith, some, length-map indexes defined, ap (λ (defs : List Defined). length defs) definitions, ap (λ (s : State). length s.definitions) same))
]
