use Rattle.std.proofs.Common.{◌≡◌, take}
use Rattle.cmd_parse.specs.Params.{params_of}
use Rattle.cmd_parse.proofs.params.params_of.Given as goal

-- the parameters so far are copied
abbrev pub invariant-loop-place : goal.invariant-loop-place
invariant-loop-place l = l.copies.items ≡ take l.place (params_of l.words)
