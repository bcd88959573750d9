-- How a caller's items came about: beside others, or alone.
use Rattle.std.specs.Prelude.{◌≡◌, ℕ, List, ◌++◌, true}
use Rattle.std.specs.declared.option.Option.{Option}
use Rattle.std.specs.List.{All}
use Rattle.fs_ports.specs.Moments.{Gives}
use Rattle.history_core.specs.Commands.{caller_of}
use Rattle.ft_engine.specs.Entries.{Entry, IsHistory}
use Rattle.turn_gate.specs.Known.{Known}
use Rattle.ft_machine.specs.Clean.{Marked}
use Rattle.ft_server.specs.Items.{Item, Woven, moments_of}

-- Their entries, and nothing else, are its own among the entries that its pass has seen since, and those of one item stand side by
-- side. The clock gave one moment for each item, in order. Where the pass is alone, these entries are all its own.
pub record Called (pass pass' : Known Entry) (items : List Item) (given given' : Option (List ℕ)) : Type 0 where
  pub added : List Entry
  pub seen : pass'.seen ≡ pass.seen ++ added
  pub woven : Woven pass.caller items added
  pub alone : pass.alone ≡ true → All (λ (entry : Entry). caller_of entry ≡ pass.caller) added
  pub moments : Gives given given' (moments_of items)

-- This caller's items came about so: their entries are those of caller 0 in a legal history that begins at number 1 in the
-- empty state, and the clock gave one moment for each item, in order. Nobody else has an entry in it. FT.INFO tells in it just the
-- live records of indexes that are clean.
pub record Answered (items : List Item) (given given' : Option (List ℕ)) : Type 0 where
  pub entries : List Entry
  pub after : Marked
  pub legal : IsHistory 1 entries after
  pub woven : Woven 0 items entries
  pub alone : All (λ (entry : Entry). caller_of entry ≡ 0) entries
  pub moments : Gives given given' (moments_of items)
