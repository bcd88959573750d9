use Rattle.std.specs.List.{All}
use Rattle.history_core.specs.Running.{IsLawful}
use Rattle.drawn_histories.proofs.comparing.commands_of.Given as goal

abbrev pub invariant-loop-event : goal.invariant-loop-event
invariant-loop-event l = All IsLawful l.commands.items
