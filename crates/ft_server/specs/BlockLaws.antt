-- A block has as many entries as commands, all of its caller: what the turn lock asks of what a turn adds.
use Rattle.std.proofs.Common.{◌≡◌, ℕ, suc, List, [], ◌∷◌, length, arith, refl, ap}
use Rattle.ft_base.specs.declared.words.Frame.{Frame}
use Rattle.ft_engine.specs.Entries.{Entry}
use Rattle.history_core.specs.Commands.{caller_of, commands_of}
use Rattle.turn_gate.specs.Log.{AllBy}
use Rattle.ft_server.specs.Blocks.{all_words}
use Rattle.ft_server.specs.Items.{said_at}

-- the entries of a block
abbrev pub block : ℕ → ℕ → List Frame → List (List ℕ) → List Entry
block caller moment frames replies = commands_of caller (said_at moment (all_words frames) replies)

pub block_size : (caller moment : ℕ) (frames : List Frame) (replies : List (List ℕ)) → length replies ≡ length frames
    → length (block caller moment frames replies) ≡ length frames
block_size caller moment [] replies same = refl
block_size caller moment (frame ∷ frames) [] same = absurd (omega (arith, same))
block_size caller moment (frame ∷ frames) (reply ∷ replies) same = ap suc (block_size caller moment frames replies (omega (arith, same)))

pub block_own : (caller moment : ℕ) (frames : List Frame) (replies : List (List ℕ)) → AllBy caller_of caller (block caller moment frames replies)
block_own caller moment [] replies = tt
block_own caller moment (frame ∷ frames) [] = tt
block_own caller moment (frame ∷ frames) (reply ∷ replies) = (refl, block_own caller moment frames replies)
