use Rattle.std.specs.List.{All}
use Rattle.history_core.specs.Running.{IsLawful}
use Rattle.drawn_histories.proofs.drawing.draw_events.Given as goal

abbrev pub invariant-loop-at : goal.invariant-loop-at
invariant-loop-at l = All IsLawful l.events.items
