-- One event after another leaves what there was.
use Rattle.std.specs.Prelude.{◌≡◌, ◌≤◌}
use Rattle.std.proofs.Common.{arith}
use Rattle.indexed_store.proofs.MovingLaws.{moves-again, moves-kept}
use Rattle.ft_engine.specs.Stands.{Stands}
use Rattle.ft_engine.specs.Stepping.{Moves}

pub moves-still : (old new : Stands) → old.next ≤ new.next → new.indexes ≡ old.indexes → Moves old new
moves-still old new on same = record { next = on; indexes = moves-kept old.next old.indexes new.indexes same }

pub moves-twice : (old mid new : Stands) → Moves old mid → Moves mid new → Moves old new
moves-twice old mid new first second = record {
  next = omega (arith, first.next, second.next);
  indexes = moves-again old.next mid.next old.indexes mid.indexes new.indexes first.next first.indexes second.indexes;
}
