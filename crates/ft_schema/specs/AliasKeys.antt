-- What a set of stored aliases stands for.
use Rattle.std.specs.Prelude.{ℕ, List, map}
use Rattle.std.specs.declared.vec.Vec.{Vec}
use Rattle.std.specs.declared.alloc.Global.{Global}

-- the aliases in order of adding, as bytes
abbrev pub aliases_of : List (Vec ℕ Global) → List (List ℕ)
aliases_of keys = map (λ (key : Vec ℕ Global). key.items) keys
