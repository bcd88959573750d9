-- Commands that change nothing, and commands that first read.
use Rattle.std.specs.Prelude.{◌≡◌, ◌≤◌, ◌+◌, ℕ, List, ◌⊎◌}
use Rattle.std.proofs.Common.{◌∙◌, ap, arith, inl, inr, subst}
use Rattle.cmd_parse.specs.Read.{Asked}
use Rattle.cursor_book.specs.declared.cursor.Cursor.{Cursor}
use Rattle.ft_base.specs.Memory.{out_of_memory}
use Rattle.ft_base.specs.Reply.{spelling}
use Rattle.ft_base.specs.Docs.{Doc}
use Rattle.ft_index.specs.Index.{Index}
use Rattle.ft_machine.specs.Machine.{State}
use Rattle.ft_machine.specs.Step.{Does}
use Rattle.indexed_store.specs.Changing.{IsReady, changed}
use Rattle.indexed_store.specs.DefinitionsOf.{definitions_of}
use Rattle.indexed_store.specs.Holding.{Holding, state_of}
use Rattle.indexed_store.specs.Listed.{Enters, Gathers}
use Rattle.indexed_store.specs.Preparing.{OnlyReads, Prepares}
use Rattle.indexed_store.proofs.MovingLaws.{moves-again, moves-kept}
use Rattle.indexed_store.specs.declared.change.Change.{Change}
use Rattle.indexed_store.specs.declared.change.Change.TheVariants.{Nothing}

-- a command that leaves the documents, the indexes and the cursors alone prepares no change
pub prepares-nothing : (asks : Asked) (old new : Holding) (written : List ℕ) → new.space ≡ old.space → new.indexes ≡ old.indexes → new.cursors ≡ old.cursors → new.latest ≡ old.latest
    → new.next ≤ old.next + 1 → Does asks old.next (state_of old) written (state_of old) → Prepares asks old new written Nothing
prepares-nothing asks old new written space indexes cursors latest next does = record {
  does = does;
  stays = record { space = space; definitions = ap (λ (is : List Index). definitions_of is) indexes; cursors = cursors; latest = latest; next = next; moves = moves-kept old.next old.indexes new.indexes indexes };
  ready = tt;
  enters = inr (inl indexes);
}

-- so does one that only reads
pub prepares-read : (asks : Asked) (old new : Holding) (written : List ℕ) → OnlyReads old new → Does asks old.next (state_of old) written (state_of old) → Prepares asks old new written Nothing
prepares-read asks old new written reads does = prepares-nothing asks old new written reads.space reads.indexes reads.cursors reads.latest (omega (arith, reads.next)) does

-- what reads before it reads again only reads
pub reads-twice : (old mid new : Holding) → OnlyReads old mid → OnlyReads mid new → OnlyReads old new
reads-twice old mid new first second = record {
  space = second.space ∙ first.space;
  indexes = second.indexes ∙ first.indexes;
  cursors = second.cursors ∙ first.cursors;
  latest = second.latest ∙ first.latest;
  waits = second.waits ∙ first.waits;
  opens = second.opens ∙ first.opens;
  next = second.next ∙ first.next;
}

-- a state whose documents were read is the same
pub state-read : (old new : Holding) → OnlyReads old new → state_of new ≡ state_of old
state-read old new reads =
    ap (λ (docs : List Doc). record { space = docs; definitions = definitions_of new.indexes; cursors = new.cursors; latest = new.latest }) reads.space
    ∙ (ap (λ (is : List Index). record { space = old.space; definitions = definitions_of is; cursors = new.cursors; latest = new.latest }) reads.indexes
    ∙ (ap (λ (cursors : List Cursor). record { space = old.space; definitions = definitions_of old.indexes; cursors = cursors; latest = new.latest }) reads.cursors
    ∙ ap (λ (latest : ℕ). record { space = old.space; definitions = definitions_of old.indexes; cursors = old.cursors; latest = latest }) reads.latest))

-- what is prepared behind a read is prepared
pub prepares-behind : (asks : Asked) (old mid new : Holding) (written : List ℕ) (change : Change) → OnlyReads old mid → Prepares asks mid new written change → Prepares asks old new written change
prepares-behind asks old mid new written change reads prepares = record {
  does = subst (λ (state : State). Does asks old.next state written (changed change new.waits new.opens state)) (state-read old mid reads)
      (subst (λ (number : ℕ). Does asks number (state_of mid) written (changed change new.waits new.opens (state_of mid))) reads.next prepares.does);
  stays = record {
    space = prepares.stays.space ∙ reads.space;
    definitions = prepares.stays.definitions ∙ ap (λ (is : List Index). definitions_of is) reads.indexes;
    cursors = prepares.stays.cursors ∙ reads.cursors;
    latest = prepares.stays.latest ∙ reads.latest;
    next = omega (arith, prepares.stays.next, reads.next);
    moves = moves-again old.next mid.next old.indexes mid.indexes new.indexes (omega (arith, reads.next)) (moves-kept old.next old.indexes mid.indexes reads.indexes) prepares.stays.moves;
  };
  ready = subst (λ (number : ℕ). IsReady change number new.space new.waits new.indexes) reads.next prepares.ready;
  enters = subst (λ (olds : List Index). (written ≡ spelling out_of_memory) ⊎ (Enters change new.waits olds new.indexes ⊎ Gathers asks olds new.indexes)) reads.indexes prepares.enters;
}
