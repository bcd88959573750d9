-- What FT.CURSOR READ and DEL give, and changes that leave the documents and the definitions as they are.
use Rattle.std.specs.Prelude.{◌≡◌, ℕ, Bool, true, false, cond, is_some, List, [], ◌∷◌, ◌++◌, Option, None, Some, option_to_list, unwrap_or, codes, refl}
use Rattle.std.proofs.Common.{sym, ap, ◌∙◌, subst, inl, inr, append-nil}
use Rattle.std.proofs.lemmas.Bool.{and_parts, eqb-true}
use Rattle.std.specs.Borrow.{Bor}
use Rattle.std.specs.Option.{option_copied}
use Rattle.cmd_parse.specs.Asked.{Asked, CursorDel, CursorRead}
use Rattle.cursor_book.specs.Cursors.{cursor_of, has_id, is_cursor, is_of, read, without}
use Rattle.cursor_book.specs.declared.cursor.Cursor.{Cursor}
use Rattle.ft_base.specs.Reply.{spelling}
use Rattle.ft_base.specs.Docs.{Doc}
use Rattle.ft_base.specs.declared.reply.Reply.TheVariants.{Fault, Line}
use Rattle.ft_index.specs.Index.{Index}
use Rattle.ft_machine.proofs.Stepping.{gives, wants}
use Rattle.ft_machine.specs.Cursors.{cursor_deleted, cursor_read, cursors_left, deleted_of, read_gives, read_of, unknown_cursor}
use Rattle.ft_machine.specs.Definitions.{Defined, index_of}
use Rattle.ft_machine.specs.Indexes.{unknown_index}
use Rattle.ft_machine.specs.Machine.{State, answered}
use Rattle.ft_machine.specs.Parts.{Part, part_of}
use Rattle.ft_machine.specs.Step.{Does}
use Rattle.ft_engine.specs.Parts.{IsNext, change_left}
use Rattle.indexed_store.specs.Changing.{IsReady, changed, is_write}
use Rattle.indexed_store.specs.Listed.{Enters}
use Rattle.indexed_store.specs.Holding.{Holding, IsBook, seen, state_of, waiting}
use Rattle.indexed_store.specs.Preparing.{Prepares, Stays}
use Rattle.indexed_store.specs.declared.change.Change.{Change}
use Rattle.indexed_store.specs.declared.change.Change.TheVariants.{Nothing, Write, Move, EraseKey, EraseKeys, Create, Alter, Drop, DropMembers, OpenCursor, ReadCursor, CloseCursor, CloseCursors, Flush}
use Rattle.indexed_store.specs.declared.waiting.CursorPlace.{CursorPlace}

-- ---- which cursor

-- whether there is what was looked up
pub found-known : {X : Type 0} (found : Option (Bor X)) (there : Option X) (is : Bool) → option_copied found ≡ there → is_some found ≡ is → is_some there ≡ is
found-known None there is same test = ap is_some (sym same) ∙ test
found-known (Some x) there is same test = ap is_some (sym same) ∙ test

-- a cursor that is found by its index and its id has them
pub found-place : (serial id : ℕ) (cursors : List Cursor) (cursor : Cursor) → cursor_of serial id cursors ≡ Some cursor → (cursor.serial ≡ serial) × (cursor.id ≡ id)
found-place serial id [] cursor found = cc (found)
found-place serial id (first ∷ cursors) cursor found = by_test (is_cursor serial id first) refl found (found-place serial id cursors cursor)
  where
    place : is_cursor serial id first ≡ true → (first.serial ≡ serial) × (first.id ≡ id)
    place is = let both = and_parts (is_of serial first) (has_id id first) is in (eqb-true first.serial serial both.0, eqb-true first.id id both.1)

    by_test : (here : Bool) → is_cursor serial id first ≡ here → cond here (Some first) (cursor_of serial id cursors) ≡ Some cursor
        → (cursor_of serial id cursors ≡ Some cursor → (cursor.serial ≡ serial) × (cursor.id ≡ id)) → (cursor.serial ≡ serial) × (cursor.id ≡ id)
    by_test true is found later = let same : first ≡ cursor = cc (found) in subst (λ (c : Cursor). (c.serial ≡ serial) × (c.id ≡ id)) same (place is)
    by_test false is found later = later found

-- all cursors are seen where none waits
pub seen-all : (opens : Option CursorPlace) (book : List Cursor) (next : ℕ) → IsBook opens book next → waiting opens book ≡ None → seen opens book ≡ book
seen-all opens book next is none =
    sym (append-nil (seen opens book)) ∙ (ap (λ (c : Option Cursor). seen opens book ++ option_to_list c) (sym none) ∙ sym is.last)

-- ---- changes of cursors alone

-- nothing has to be ready for them
pub quiet-ready : (change : Change) (number : ℕ) (space : List Doc) (waits : Option Doc) (indexes : List Index) → is_write change ≡ false → IsReady change number space waits indexes
quiet-ready Nothing number space waits indexes quiet = tt
quiet-ready OpenCursor number space waits indexes quiet = tt
quiet-ready (ReadCursor place taken) number space waits indexes quiet = tt
quiet-ready (CloseCursor place) number space waits indexes quiet = tt
quiet-ready CloseCursors number space waits indexes quiet = tt
quiet-ready (Write put) number space waits indexes quiet = cc (quiet)
quiet-ready (Move put from) number space waits indexes quiet = cc (quiet)
quiet-ready (EraseKey key) number space waits indexes quiet = cc (quiet)
quiet-ready (EraseKeys keys) number space waits indexes quiet = cc (quiet)
quiet-ready (Create index) number space waits indexes quiet = cc (quiet)
quiet-ready (Alter index) number space waits indexes quiet = cc (quiet)
quiet-ready (Drop name) number space waits indexes quiet = cc (quiet)
quiet-ready (DropMembers name) number space waits indexes quiet = cc (quiet)
quiet-ready Flush number space waits indexes quiet = cc (quiet)

-- no document that waits is seen by them
pub quiet-waits : (change : Change) (waits : Option Doc) (opens : Option Cursor) (state : State) → is_write change ≡ false → changed change None opens state ≡ changed change waits opens state
quiet-waits Nothing waits opens state quiet = refl
quiet-waits OpenCursor waits opens state quiet = refl
quiet-waits (ReadCursor place taken) waits opens state quiet = refl
quiet-waits (CloseCursor place) waits opens state quiet = refl
quiet-waits CloseCursors waits opens state quiet = refl
quiet-waits (Write put) waits opens state quiet = cc (quiet)
quiet-waits (Move put from) waits opens state quiet = cc (quiet)
quiet-waits (EraseKey key) waits opens state quiet = refl
quiet-waits (EraseKeys keys) waits opens state quiet = refl
quiet-waits (Create index) waits opens state quiet = refl
quiet-waits (Alter index) waits opens state quiet = refl
quiet-waits (Drop name) waits opens state quiet = refl
quiet-waits (DropMembers name) waits opens state quiet = refl
quiet-waits Flush waits opens state quiet = refl

-- where no document and no definition changes, nothing is entered
quiet-enters : (change : Change) (waits : Option Doc) (olds news : List Index) → is_write change ≡ false → news ≡ olds → Enters change waits olds news
quiet-enters Nothing waits olds news quiet same = same
quiet-enters OpenCursor waits olds news quiet same = same
quiet-enters (ReadCursor place taken) waits olds news quiet same = same
quiet-enters (CloseCursor place) waits olds news quiet same = same
quiet-enters CloseCursors waits olds news quiet same = same
quiet-enters (Write put) waits olds news quiet same = cc (quiet)
quiet-enters (Move put from) waits olds news quiet same = cc (quiet)
quiet-enters (EraseKey key) waits olds news quiet same = same
quiet-enters (EraseKeys keys) waits olds news quiet same = same
quiet-enters (Create index) waits olds news quiet same = same
quiet-enters (Alter index) waits olds news quiet same = same
quiet-enters (Drop name) waits olds news quiet same = same
quiet-enters (DropMembers name) waits olds news quiet same = same
quiet-enters Flush waits olds news quiet same = same

-- a command that changes cursors at most is prepared
pub prepares-quiet : (asks : Asked) (old new : Holding) (written : List ℕ) (change : Change) → is_write change ≡ false → Stays old new → new.indexes ≡ old.indexes
    → Does asks old.next (state_of old) written (changed change new.waits new.opens (state_of old)) → Prepares asks old new written change
prepares-quiet asks old new written change quiet stays same does = record {
  does = does;
  stays = stays;
  ready = quiet-ready change old.next new.space new.waits new.indexes quiet;
  enters = inr (inl (quiet-enters change new.waits old.indexes new.indexes quiet same));
}

-- ---- FT.CURSOR READ

module _ (name : List ℕ) (id : ℕ) (count : Option ℕ) (number : ℕ) (state : State) (written : List ℕ) where
  pub reads-unknown : index_of state.definitions name ≡ None → written ≡ spelling (Fault unknown_index) → Does (CursorRead name id count) number state written state
  reads-unknown none said =
      gives (CursorRead name id count) number state (answered (Fault unknown_index) state) written state (sym (ap (λ (i : Option Defined). cursor_read i id count state) none)) said refl

  module _ (index : Defined) (there : index_of state.definitions name ≡ Some index) where
    by_index : cursor_read (index_of state.definitions name) id count state ≡ read_of index.def count (cursor_of index.def.serial id state.cursors) state
    by_index = ap (λ (i : Option Defined). cursor_read i id count state) there

    pub reads-none : cursor_of index.def.serial id state.cursors ≡ None → written ≡ spelling (Fault unknown_cursor) → Does (CursorRead name id count) number state written state
    reads-none none said =
        gives (CursorRead name id count) number state (answered (Fault unknown_cursor) state) written state
        (sym (by_index ∙ ap (λ (c : Option Cursor). read_of index.def count c state) none)) said refl

    -- what becomes of the cursor that was read
    left : (cursor : Cursor) (part : Part) → changed (change_left cursor part) None None state ≡ record state { cursors = cursors_left cursor part state.latest state.cursors }
    left cursor part = by_end part.ends
      where
        by_end : (ends : Bool)
            → changed (cond ends (CloseCursor (record { serial = cursor.serial; id = cursor.id })) (ReadCursor (record { serial = cursor.serial; id = cursor.id }) part.taken)) None None state
            ≡ record state { cursors = cond ends (without cursor.serial cursor.id state.cursors) (read cursor.serial cursor.id state.latest part.taken state.cursors) }
        by_end true = refl
        by_end false = refl

    pub reads-next : (cursor : Cursor) (change : Change) (docs : List Doc) → cursor_of index.def.serial id state.cursors ≡ Some cursor → state.space ≡ docs
        → IsNext index.def docs count cursor change written → Does (CursorRead name id count) number state written (changed change None None state)
    reads-next cursor change docs found all next = by_next (subst (λ (ds : List Doc). IsNext index.def ds count cursor change written) (sym all) next)
      where
        by_next : IsNext index.def state.space count cursor change written → Does (CursorRead name id count) number state written (changed change None None state)
        by_next (inl done) =
            let part = part_of index.def state.space (unwrap_or count cursor.count) cursor.body in
            gives (CursorRead name id count) number state (read_gives cursor part state) written (changed change None None state)
            (sym (by_index ∙ ap (λ (c : Option Cursor). read_of index.def count c state) found)) done.1
            (ap (λ (ch : Change). changed ch None None state) done.0 ∙ left cursor part)
        by_next (inr want) =
            subst (λ (ch : Change). Does (CursorRead name id count) number state written (changed ch None None state)) (sym want.0)
            (wants (CursorRead name id count) number state written tt want.1)

-- ---- FT.CURSOR DEL

module _ (name : List ℕ) (id : ℕ) (number : ℕ) (state : State) (written : List ℕ) where
  pub deletes-unknown : index_of state.definitions name ≡ None → written ≡ spelling (Fault unknown_index) → Does (CursorDel name id) number state written state
  deletes-unknown none said =
      gives (CursorDel name id) number state (answered (Fault unknown_index) state) written state (sym (ap (λ (i : Option Defined). cursor_deleted i id state) none)) said refl

  module _ (index : Defined) (there : index_of state.definitions name ≡ Some index) where
    by_name : cursor_deleted (index_of state.definitions name) id state ≡ deleted_of (cursor_of index.def.serial id state.cursors) state
    by_name = ap (λ (i : Option Defined). cursor_deleted i id state) there

    pub deletes-none : is_some (cursor_of index.def.serial id state.cursors) ≡ false → written ≡ spelling (Fault unknown_cursor) → Does (CursorDel name id) number state written state
    deletes-none none said = by_cursor (cursor_of index.def.serial id state.cursors) refl none
      where
        by_cursor : (cursor : Option Cursor) → cursor_of index.def.serial id state.cursors ≡ cursor → is_some cursor ≡ false → Does (CursorDel name id) number state written state
        by_cursor None found none =
            gives (CursorDel name id) number state (answered (Fault unknown_cursor) state) written state (sym (by_name ∙ ap (λ (c : Option Cursor). deleted_of c state) found)) said refl
        by_cursor (Some cursor) found none = cc (none)

    pub deletes-cursor : is_some (cursor_of index.def.serial id state.cursors) ≡ true → written ≡ spelling (Line (codes "OK"))
        → Does (CursorDel name id) number state written (record state { cursors = without index.def.serial id state.cursors })
    deletes-cursor some said = by_cursor (cursor_of index.def.serial id state.cursors) refl some
      where
        by_cursor : (cursor : Option Cursor) → cursor_of index.def.serial id state.cursors ≡ cursor → is_some cursor ≡ true
            → Does (CursorDel name id) number state written (record state { cursors = without index.def.serial id state.cursors })
        by_cursor None found some = cc (some)
        by_cursor (Some cursor) found some =
            let place = found-place index.def.serial id state.cursors cursor found in
            gives (CursorDel name id) number state (deleted_of (Some cursor) state) written (record state { cursors = without index.def.serial id state.cursors })
            (sym (by_name ∙ ap (λ (c : Option Cursor). deleted_of c state) found)) said
            (ap (λ (n : ℕ). record state { cursors = without n id state.cursors }) (sym place.0)
            ∙ ap (λ (n : ℕ). record state { cursors = without cursor.serial n state.cursors }) (sym place.1))
