use Rattle.std.proofs.Common.{◌≡◌, drop, map}
use Rattle.cmd_parse.specs.Commands.{form_in}
use Rattle.cmd_parse.proofs.table.find.Given as goal

abbrev pub invariant-loop-row : goal.invariant-loop-row
invariant-loop-row l =
    form_in (map (λ row. (row.0.now, row.1)) l.rows) l.word ≡ form_in (map (λ row. (row.0.now, row.1)) (drop l.row-index l.rows)) l.word
