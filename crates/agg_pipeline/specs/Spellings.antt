-- What a set of spellings stands for.
use Rattle.std.specs.Prelude.{ℕ, Bool, List, map}
use Rattle.std.specs.Str.{bytes_eq}
use Rattle.std.specs.declared.alloc.Global.{Global}
use Rattle.std.specs.declared.vec.Vec.{Vec}

-- the spellings in order of adding
abbrev pub bytes_of : List (Vec ℕ Global) → List (List ℕ)
bytes_of keys = map (λ (key : Vec ℕ Global). key.items) keys

-- whether a stored spelling is the one that is asked for
abbrev pub is_kept : List ℕ → Vec ℕ Global → Bool
is_kept spelling key = bytes_eq spelling key.items
