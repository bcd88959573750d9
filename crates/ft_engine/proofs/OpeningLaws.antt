-- A first read does what FT.AGGREGATE gives with WITHCURSOR, and a cursor for what is left is kept.
use Rattle.std.specs.Prelude.{◌≡◌, ℕ, Bool, true, false, cond, List, [], ◌∷◌, ◌++◌, length, nat_le, Option, None, Some, option_to_list, codes, refl}
use Rattle.std.proofs.Common.{sym, ap, ◌∙◌, subst, inl, inr, arith}
use Rattle.cmd_parse.specs.Aggregating.{Aggregating}
use Rattle.cmd_parse.specs.Asked.{Aggregate}
use Rattle.cmd_parse.specs.declared.aggregate_words.CursorSpec.{CursorSpec}
use Rattle.cursor_book.specs.Cursors.{body_left, cursors_of}
use Rattle.cursor_book.specs.declared.cursor.Body.{Body}
use Rattle.cursor_book.specs.declared.cursor.Cursor.{Cursor}
use Rattle.ft_base.specs.Reply.{spelling}
use Rattle.ft_base.specs.declared.definition.IndexDef.{IndexDef}
use Rattle.ft_base.specs.Docs.{Doc}
use Rattle.ft_base.specs.declared.query.Query.{Query}
use Rattle.ft_base.specs.declared.reply.Reply.TheVariants.{Fault}
use Rattle.ft_machine.proofs.Stepping.{gives, wants}
use Rattle.ft_machine.specs.Machine.{Outcome, State, answered}
use Rattle.ft_machine.specs.Opening.{aggregate_gives, body_of, kept, most_cursors, new_cursor, opened, opened_by}
use Rattle.ft_machine.specs.Parts.{Part, part_of, part_reply}
use Rattle.ft_machine.specs.Step.{Does, given}
use Rattle.ft_engine.proofs.CursorLaws.{prepares-quiet}
use Rattle.ft_engine.specs.Parts.{DoesFirst, GoesOn, IsFirst, IsKept, KeptBy, first_left}
use Rattle.ft_engine.specs.declared.indexes.opening.First.{First}
use Rattle.indexed_store.proofs.MovingLaws.{moves-again, moves-kept}
use Rattle.indexed_store.specs.Changing.{changed}
use Rattle.indexed_store.specs.DefinitionsOf.{definitions_of}
use Rattle.indexed_store.specs.Holding.{Holding, state_of}
use Rattle.indexed_store.specs.Preparing.{OnlyReads, Prepares}
use Rattle.indexed_store.specs.declared.change.Change.{Change}
use Rattle.indexed_store.specs.declared.change.Change.TheVariants.{Nothing, OpenCursor}

module _ (what : Aggregating) (spec : CursorSpec) (number : ℕ) (state : State) where
  abbrev Gives : Outcome → Type 0
  Gives outcome = given (Aggregate what) number state outcome

  -- with a cursor it opens one
  pub gives-opened : (def : IndexDef) (query : Query) → what.cursor ≡ Some spec → Gives (aggregate_gives what what.cursor number state def query) → Gives (opened what spec number state def query)
  gives-opened def query is may = subst (λ (c : Option CursorSpec). Gives (aggregate_gives what c number state def query)) is may

  first-by : (serial : ℕ) (body : Body) (part : Part) (first : Option First) (written : List ℕ) → Gives (opened_by serial spec number body part state) → first ≡ first_left serial body part.taken part.ends
      → written ≡ spelling (part_reply number part) → DoesFirst what spec number state first written
  first-by serial body part first written may left said = by_end part.ends may left
    where
      by_end : (ends : Bool) → Gives (cond ends (answered (part_reply number part) state) (kept number (new_cursor serial spec number state.latest (body_left part.taken body)) part state))
          → first ≡ cond ends None (Some (record { serial = serial; body = body_left part.taken body })) → DoesFirst what spec number state first written
      by_end true may left =
          subst (λ (f : Option First). DoesFirst what spec number state f written) (sym left)
          (gives (Aggregate what) number state (answered (part_reply number part) state) written state may said refl)
      by_end false may left =
          subst (λ (f : Option First). DoesFirst what spec number state f written) (sym left) (record { part = part; told = said; gives = may })

  -- the first read of a query that was parsed
  pub first-does : (def : IndexDef) (query : Query) (docs : List Doc) (first : Option First) (written : List ℕ) → state.space ≡ docs → Gives (opened what spec number state def query)
      → IsFirst def (body_of what def query docs) docs spec.count number first written → DoesFirst what spec number state first written
  first-does def query docs first written all may is = by_read (subst (λ (ds : List Doc). IsFirst def (body_of what def query ds) ds spec.count number first written) (sym all) is)
    where
      by_read : IsFirst def (body_of what def query state.space) state.space spec.count number first written → DoesFirst what spec number state first written
      by_read (inl done) =
          let body = body_of what def query state.space in
          first-by def.serial body (part_of def state.space spec.count body) first written may done.0 done.1
      by_read (inr want) =
          subst (λ (f : Option First). DoesFirst what spec number state f written) (sym want.0) (wants (Aggregate what) number state written tt want.1)

-- whether an index has as many cursors as it may
abbrev is_full : First → List Cursor → Bool
is_full first cursors = nat_le most_cursors (length (cursors_of first.serial cursors))

-- the cursor for what is left
abbrev cursor_for : First → CursorSpec → ℕ → ℕ → Cursor
cursor_for first spec number now = new_cursor first.serial spec number now first.body

-- a part is told, and the cursor for what is left goes last
abbrev kept_last : Holding → First → CursorSpec → Part → Outcome
kept_last old first spec part = record {
  reply = part_reply old.next part;
  after = record (state_of old) { cursors = old.cursors ++ cursor_for first spec old.next old.latest ∷ [] };
}

-- what is kept behind a read is kept
kept-behind : (first : First) (spec : CursorSpec) (old mid new : Holding) (before written : List ℕ) (change : Change) → OnlyReads old mid → IsKept first spec mid new before written change
    → IsKept first spec old new before written change
kept-behind first spec old mid new before written change reads is = record {
  stays = record {
    space = is.stays.space ∙ reads.space;
    definitions = is.stays.definitions ∙ ap definitions_of reads.indexes;
    cursors = is.stays.cursors ∙ reads.cursors;
    latest = is.stays.latest ∙ reads.latest;
    next = omega (arith, is.stays.next, reads.next);
    moves = moves-again old.next mid.next old.indexes mid.indexes new.indexes (omega (arith, reads.next)) (moves-kept old.next old.indexes mid.indexes reads.indexes) is.stays.moves;
  };
  indexes = is.indexes ∙ reads.indexes;
  kept = subst (λ (cursors : List Cursor). KeptBy (is_full first cursors) new.opens (cursor_for first spec old.next old.latest) before written change) reads.cursors
      (subst (λ (latest : ℕ). KeptBy (is_full first mid.cursors) new.opens (cursor_for first spec old.next latest) before written change) reads.latest
      (subst (λ (next : ℕ). KeptBy (is_full first mid.cursors) new.opens (cursor_for first spec next mid.latest) before written change) reads.next is.kept));
}

-- a cursor is opened where its index has room, and else refused
opens-kept : (what : Aggregating) (spec : CursorSpec) (old new : Holding) (first : First) (before written : List ℕ) (change : Change) → GoesOn what spec old.next (state_of old) first before
    → IsKept first spec old new before written change → Prepares (Aggregate what) old new written change
opens-kept what spec old new first before written change goes is = by_room (is_full first old.cursors) goes.gives is.kept
  where
    nothing : Does (Aggregate what) old.next (state_of old) written (state_of old) → change ≡ Nothing → Prepares (Aggregate what) old new written change
    nothing does is_nothing = subst (Prepares (Aggregate what) old new written) (sym is_nothing) (prepares-quiet (Aggregate what) old new written Nothing refl is.stays is.indexes does)

    by_room : (full : Bool) → given (Aggregate what) old.next (state_of old) (cond full (answered (Fault (codes "Too many cursors")) (state_of old)) (kept_last old first spec goes.part))
        → KeptBy full new.opens (cursor_for first spec old.next old.latest) before written change → Prepares (Aggregate what) old new written change
    by_room true may kept = nothing (gives (Aggregate what) old.next (state_of old) (answered (Fault (codes "Too many cursors")) (state_of old)) written (state_of old) may kept.0 refl) kept.1
    by_room false may (inl kept) =
        subst (Prepares (Aggregate what) old new written) (sym kept.2)
        (prepares-quiet (Aggregate what) old new written OpenCursor refl is.stays is.indexes
        (gives (Aggregate what) old.next (state_of old) (kept_last old first spec goes.part) written (changed OpenCursor new.waits new.opens (state_of old)) may (kept.1 ∙ goes.told)
        (ap (λ (o : Option Cursor). record (state_of old) { cursors = old.cursors ++ option_to_list o }) kept.0)))
    by_room false may (inr want) = nothing (wants (Aggregate what) old.next (state_of old) written tt want.0) want.1

-- the same behind the first read
pub opens-prepares : (what : Aggregating) (spec : CursorSpec) (old mid new : Holding) (first : First) (before written : List ℕ) (change : Change) → OnlyReads old mid
    → GoesOn what spec old.next (state_of old) first before → IsKept first spec mid new before written change → Prepares (Aggregate what) old new written change
opens-prepares what spec old mid new first before written change reads goes is =
    opens-kept what spec old new first before written change goes (kept-behind first spec old mid new before written change reads is)
