-- What FT.DEBUG GC_FORCEINVOKE answers, and what a commit leaves of it.
use Rattle.std.specs.Prelude.{◌≡◌, ◌≢◌, ℕ, true, false, List, [], ◌∷◌, Option, Some, None, codes, is_some, slice_index_or, refl}
use Rattle.std.proofs.Common.{sym, ap, subst, ◌∙◌, arith, inr}
use Rattle.cmd_parse.specs.Asked.{Asked, Plain, Search, Aggregate, CursorRead, CursorDel}
use Rattle.cmd_parse.specs.declared.command.Verb.{Verb}
use Rattle.cmd_parse.specs.declared.command.Verb.TheVariants.{Debug}
use Rattle.ft_base.proofs.SpellingLaws.{spelling-Fault, spelling-Line}
use Rattle.ft_base.specs.Reply.{spelling}
use Rattle.ft_base.specs.Words.{second}
use Rattle.ft_base.specs.declared.reply.Reply.TheVariants.{Fault}
use Rattle.ft_index.specs.Index.{Index}
use Rattle.ft_machine.proofs.Stepping.{gives}
use Rattle.ft_machine.specs.Definitions.{Defined, index_of}
use Rattle.ft_machine.specs.Indexes.{collected, done, unknown_index}
use Rattle.ft_machine.specs.Machine.{State, answered}
use Rattle.ft_machine.specs.Step.{Does}
use Rattle.indexed_store.specs.Collecting.{IsCleanAt}
use Rattle.indexed_store.specs.Listed.{OthersKeep}
use Rattle.indexed_store.specs.Holding.{Holding, state_of}
use Rattle.indexed_store.specs.Preparing.{Prepares, Stays}
use Rattle.indexed_store.specs.declared.change.Change.{Change}
use Rattle.indexed_store.specs.declared.change.Change.TheVariants.{Nothing}
use Rattle.ft_engine.specs.Collecting.{Collects}
use Rattle.ft_engine.specs.Exactness.{IsRefusal}
use Rattle.ft_engine.specs.Quiet.{IsQuietFor}

-- a refusal does not say that a collection is done
pub refusal-other : (written : List ℕ) → IsRefusal written → written ≢ spelling done
refusal-other written (text, is) said =
    let minus : slice_index_or written 0 0 ≡ 45 = ap (λ (bytes : List ℕ). slice_index_or bytes 0 0) (is ∙ spelling-Fault text) in
    let plus : slice_index_or written 0 0 ≡ 43 = ap (λ (bytes : List ℕ). slice_index_or bytes 0 0) (said ∙ spelling-Line (codes "DONE")) in
    absurd (omega (arith, minus, plus))

-- what is refused collects nothing
pub collects-refused : (asks : Asked) (indexes : List Index) (written : List ℕ) → IsRefusal written → Collects asks indexes written
collects-refused (Plain Debug args) indexes written refused = λ said. absurd (refusal-other written refused said)
collects-refused _ indexes written refused = tt

-- what is left of the lists once nothing is changed is collected too
pub collects-kept : (asks : Asked) (change : Change) (old new : List Index) (written : List ℕ) → IsQuietFor asks change → (change ≡ Nothing → new ≡ old) → Collects asks old written → Collects asks new written
collects-kept (Plain Debug args) change old new written quiet kept collects = λ said. subst (IsCleanAt (second args)) (sym (kept quiet)) (collects said)
collects-kept _ change old new written quiet kept collects = tt

-- a plain command that changes nothing leaves nothing to a commit
pub quiet-nothing : (verb : Verb) (args : List (List ℕ)) → IsQuietFor (Plain verb args) Nothing
quiet-nothing Debug args = refl
quiet-nothing _ args = tt

-- nor does any command that is answered alone
pub quiet-none : (asks : Asked) → IsQuietFor asks Nothing
quiet-none (Plain verb args) = quiet-nothing verb args
quiet-none (Search what) = refl
quiet-none (Aggregate what) = refl
quiet-none (CursorRead index id count) = refl
quiet-none (CursorDel index id) = refl
quiet-none _ = tt

-- other plain commands collect nothing
pub collects-other : (verb : Verb) (args : List (List ℕ)) (indexes : List Index) (written : List ℕ) → verb ≢ Debug → Collects (Plain verb args) indexes written
collects-other Debug args indexes written other = absurd (other refl)
collects-other _ args indexes written other = tt

-- there is no index of the name
pub collect-unknown : (args : List (List ℕ)) (number : ℕ) (state : State) (written : List ℕ) → is_some (index_of state.definitions (second args)) ≡ false → written ≡ spelling (Fault unknown_index)
    → Does (Plain Debug args) number state written state
collect-unknown args number state written none said =
    gives (Plain Debug args) number state (answered (Fault unknown_index) state) written state (by_index (index_of state.definitions (second args)) none) said refl
  where
    by_index : (index : Option Defined) → is_some index ≡ false → answered (Fault unknown_index) state ≡ answered (collected index) state
    by_index None none = refl
    by_index (Some index) none = cc (none)

-- there is one, and its lists are collected
pub collect-done : (args : List (List ℕ)) (number : ℕ) (state : State) (written : List ℕ) → is_some (index_of state.definitions (second args)) ≡ true → written ≡ spelling done
    → Does (Plain Debug args) number state written state
collect-done args number state written there said =
    gives (Plain Debug args) number state (answered done state) written state (by_index (index_of state.definitions (second args)) there) said refl
  where
    by_index : (index : Option Defined) → is_some index ≡ true → answered done state ≡ answered (collected index) state
    by_index None there = cc (there)
    by_index (Some index) there = refl

pub prepares-collected : (args : List (List ℕ)) (old new : Holding) (written name : List ℕ) → name ≡ second args → IsCleanAt name new.indexes → OthersKeep name old.indexes new.indexes → Stays old new
    → Does (Plain Debug args) old.next (state_of old) written (state_of old) → Prepares (Plain Debug args) old new written Nothing
prepares-collected args old new written name is clean others stays does = record {
  does = does;
  stays = stays;
  ready = tt;
  enters = inr (inr (subst (λ (w : List ℕ). IsCleanAt w new.indexes × OthersKeep w old.indexes new.indexes) is (clean, others)));
}

-- the text that says so
pub done_written : (written : List ℕ) → written ≡ 43 ∷ 68 ∷ 79 ∷ 78 ∷ 69 ∷ 13 ∷ 10 ∷ [] → written ≡ spelling done
done_written written is = is ∙ sym (spelling-Line (codes "DONE"))
