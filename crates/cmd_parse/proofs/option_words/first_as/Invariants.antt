use Rattle.std.proofs.Common.{◌≡◌, ◌+◌, drop}
use Rattle.std.specs.List.{position_from}
use Rattle.cmd_parse.specs.Options.{is_as}
use Rattle.cmd_parse.proofs.option_words.first_as.Given as goal

-- none of the words so far is AS
abbrev pub invariant-loop-place : goal.invariant-loop-place
invariant-loop-place l = position_from is_as (l.from + l.place) (drop l.place l.words) ≡ position_from is_as l.from l.words
