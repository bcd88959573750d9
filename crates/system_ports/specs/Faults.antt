-- What a link over the system tells: how many of its calls failed, and how often a tried write would have waited.
use Rattle.std.specs.Prelude.{ℕ}

pub record Faults : Type 0 where
  pub reads : ℕ
  pub writes : ℕ
  pub stalls : ℕ
