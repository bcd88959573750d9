-- What contracts see of a gate, a pass and a turn.
use Rattle.std.specs.Prelude.{ℕ, Bool, List}
use Rattle.atomic_table.specs.Seated.{TableId}

-- a gate: which one it is, and the number of its log's first entry
pub record GateName : Type 0 where
  pub table : TableId
  pub first : ℕ

-- a pass: its gate, its caller's number, the beginning of the log that it has seen, how many turns it has taken, and
-- whether the gate has had no other pass
pub record Known (E : Type 0) : Type 0 where
  pub gate : GateName
  pub caller : ℕ
  pub seen : List E
  pub turns : ℕ
  pub alone : Bool

-- a turn: the same of its pass, with the state; `seen` is the log
pub record InTurn (S E : Type 0) : Type 0 where
  pub gate : GateName
  pub caller : ℕ
  pub seen : List E
  pub turns : ℕ
  pub alone : Bool
  pub state : S

-- the turn with another state
abbrev pub with_state : {S E : Type 0} → InTurn S E → S → InTurn S E
with_state turn state = record turn { state = state }
