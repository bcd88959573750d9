-- A block: commands that are executed one after another in one turn, so that their entries stand side by side.
use Rattle.std.specs.Prelude.{◌≡◌, ℕ, List, [], ◌∷◌, ◌++◌, map, true, false}
use Rattle.ft_base.specs.Spans.{words_of}
use Rattle.ft_base.specs.declared.words.Frame.{Frame}
use Rattle.ft_engine.specs.Cleaning.{KeepsClean}
use Rattle.ft_engine.specs.Entries.{Entry}
use Rattle.ft_engine.specs.Stands.{IsIndexed, Stands}
use Rattle.ft_engine.specs.Stepping.{AnswersAt, Counts, Moves}
use Rattle.history_core.specs.Commands.{caller_of, commands_of}
use Rattle.history_core.specs.Running.{AreLawful}
use Rattle.turn_gate.specs.Known.{Known}
use Rattle.turn_gate.specs.Log.{NoneBy}
use Rattle.ft_server.specs.Items.{said_at}

-- the words of a frame, and those of each frame in order
abbrev pub words_in : Frame → List (List ℕ)
words_in frame = words_of frame.bytes frame.spans

abbrev pub all_words : List Frame → List (List (List ℕ))
all_words frames = map words_in frames

-- a frame whose words may be executed: there is one, and they keep the limits
abbrev pub IsCommand : Frame → Type 0
IsCommand frame = AreLawful (words_in frame)

-- A turn of a block: behind what the pass had seen come entries of others, of which there are none where it is alone, and
-- then the commands as its own, side by side and last.
pub record AddsBlock (pass pass' : Known Entry) (moment : ℕ) (commands : List (List (List ℕ))) (replies : List (List ℕ)) : Type 0 where
  pub others : List Entry
  pub none_own : NoneBy caller_of pass.caller others
  pub none : pass.alone ≡ true → others ≡ []
  pub seen : pass'.seen ≡ (pass.seen ++ others) ++ commands_of pass.caller (said_at moment commands replies)

-- What an engine tells of the execution of a command.
pub record Went (old : Stands) (moment : ℕ) (words : List (List ℕ)) (reply : List ℕ) (new : Stands) : Type 0 where
  pub answer : AnswersAt moment words old reply new
  pub clean : KeepsClean old.next words old reply new
  pub next : Counts old new
  pub free : new.pending ≡ false
  pub indexed : IsIndexed new
  pub moves : Moves old new

-- Commands lead from a state to another, each from where the one before it led, and there are as many replies.
abbrev pub Executes : {M : Type 0} → (M → ℕ → List (List ℕ) → List ℕ → M → Type 0) → ℕ → M → List (List (List ℕ)) → List (List ℕ) → M → Type 0
Executes step moment old [] [] new = old ≡ new
Executes step moment old [] (reply ∷ replies) new = ⊥
Executes step moment old (words ∷ commands) [] new = ⊥
Executes {M} step moment old (words ∷ commands) (reply ∷ replies) new = (between : M) × step old moment words reply between × Executes step moment between commands replies new
