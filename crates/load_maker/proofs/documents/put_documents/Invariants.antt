use Rattle.std.proofs.Common.{◌≡◌, ◌≤◌, ◌-◌, ◌+◌, ◌++◌}
use Rattle.resp_wire.specs.Request.{requests}
use Rattle.load_maker.specs.Load.{documents}
use Rattle.load_maker.proofs.documents.put_documents.Given as goal

abbrev pub invariant-loop-i : goal.invariant-loop-i
invariant-loop-i l = record {
  some : 1 ≤ l.i;
  requests : l.out.items ++ requests (documents (l.docs + 1 - l.i) l.i l.rng) ≡ l.initial.out.items ++ requests (documents l.docs 1 l.initial.rng);
}
