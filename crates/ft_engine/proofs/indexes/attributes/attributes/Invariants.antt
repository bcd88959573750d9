use Rattle.std.specs.Prelude.{◌≡◌, map, take, IsTrue}
use Rattle.std.specs.List.{list_all}
use Rattle.ft_base.specs.Reply.{fits_wire}
use Rattle.ft_machine.specs.Info.{attribute}
use Rattle.ft_engine.proofs.indexes.attributes.attributes.Given as goal

-- the replies so far tell the fields so far, and each fits the wire
abbrev pub invariant-loop-field : goal.invariant-loop-field
invariant-loop-field l = record {
  told : l.replies.items ≡ map attribute (take l.field-index l.fields);
  fit : IsTrue (list_all (λ fits. fits) (map fits_wire l.replies.items));
}
