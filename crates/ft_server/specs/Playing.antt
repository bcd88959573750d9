-- The load under way: the commands that were answered so far, those that are left, and the text that is written at last. No
-- public clause cites this file.
use Rattle.std.specs.Prelude.{◌≡◌, ◌≤◌, ◌*◌, ◌^◌, ℕ, List, ◌++◌, length, map, sum_by, None, []}
use Rattle.std.specs.List.{All, count_by}
use Rattle.fs_ports.specs.Causes.{Rose}
use Rattle.history_core.specs.Commands.{Said, words_of}
use Rattle.ft_engine.specs.Entries.{Entry}
use Rattle.turn_gate.specs.Known.{Known}
use Rattle.resp_wire.specs.Stream.{Command, stream_of}
use Rattle.resp_wire.specs.declared.fault.Stop.TheVariants.{More}
use Rattle.ft_server.specs.Callers.{Called}
use Rattle.ft_server.specs.Items.{Item, One}
use Rattle.ft_server.specs.Load.{Wrote, each_reply, is_error, last_of, number_of}
use Rattle.ft_server.specs.Session.{IsCut, Outside}
use Rattle.ft_server.specs.declared.exit.Exit.{Exit}
use Rattle.ft_server.specs.declared.exit.Exit.TheVariants as exit
use Rattle.ft_server.specs.declared.tally.Tally.{Tally}

-- each command executed by itself
abbrev pub ones : List Said → List Item
ones said = map One said

-- these are the counts of such replies
pub record Counts (tally : Tally) (replies : List (List ℕ)) : Type 0 where
  pub commands : tally.commands ≡ length replies
  pub errors : tally.errors ≡ count_by is_error replies
  pub documents : tally.documents ≡ number_of (last_of [] replies)
  pub reply_bytes : tally.reply_bytes ≡ sum_by length replies
  pub few : tally.reply_bytes ≤ tally.commands * 2 ^ 63

-- Of these commands some were answered since a pass, each at moment 0; the others are spelled by the bytes that are left.
pub record Playing (commands : List Command) (left : List ℕ) (pass later : Known Entry) (tally : Tally) : Type 0 where
  pub said : List Said
  pub caller : later.caller ≡ pass.caller
  pub alone : later.alone ≡ pass.alone
  pub called : Called pass later (ones said) None None
  pub split : words_of said ++ (stream_of left).commands ≡ commands
  pub waits : (stream_of left).stop ≡ More
  pub moments : All (λ (one : Said). one.moment ≡ 0) said
  pub counts : Counts tally (each_reply said)

-- all were answered
pub record Played (commands : List Command) (pass later : Known Entry) (tally : Tally) : Type 0 where
  pub said : List Said
  pub called : Called pass later (ones said) None None
  pub words : words_of said ≡ commands
  pub moments : All (λ (one : Said). one.moment ≡ 0) said
  pub counts : Counts tally (each_reply said)

-- what each way to end says of the writing of a text
abbrev pub EndsLines : List ℕ → Exit → Outside → Outside → Type 0
EndsLines text exit.Done before after = Wrote text before after
EndsLines text exit.WriteFault before after = Rose before.write_faults after.write_faults × ((front : List ℕ) × IsCut front text × Wrote front before after)
EndsLines text other before after = ⊥
