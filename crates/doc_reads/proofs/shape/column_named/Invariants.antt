use Rattle.std.specs.Prelude.{◌≡◌, ◌≤◌, ◌+◌, drop, option_map}
use Rattle.doc_reads.specs.Shapes.{column_named}
use Rattle.doc_reads.proofs.shape.column_named.Given as goal

-- the column, counted from the fields so far that are kept
abbrev pub invariant-fields : goal.invariant-fields
invariant-fields l = record {
  column : option_map (λ later. l.column + later) (column_named l.alias (drop l.field-index l.fields)) ≡ column_named l.alias l.fields;
  within : l.column ≤ l.field-index;
}
