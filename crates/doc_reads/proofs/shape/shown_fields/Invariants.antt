use Rattle.std.specs.Prelude.{◌≡◌, map, take}
use Rattle.doc_reads.specs.Shapes.{pair_of, resolved}
use Rattle.doc_reads.proofs.shape.shown_fields.Given as goal

-- the fields so far
abbrev pub invariant-names : goal.invariant-names
invariant-names l = map pair_of l.shown.items ≡ map (resolved l.fields) (take l.i l.names)
