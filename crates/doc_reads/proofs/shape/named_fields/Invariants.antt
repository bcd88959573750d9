use Rattle.std.specs.Prelude.{◌≡◌, take}
use Rattle.std.specs.List.{flat_map}
use Rattle.doc_reads.specs.Shapes.{shown_in}
use Rattle.doc_reads.proofs.shape.named_fields.Given as goal

-- the replies so far
abbrev pub invariant-fields : goal.invariant-fields
invariant-fields l = l.replies.items ≡ flat_map (shown_in l.hash) (take l.field-index l.shown)
