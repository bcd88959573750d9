-- The tags that were seen in the pieces so far.
use Rattle.std.specs.Prelude.{ℕ, Bool, List, map, if◌then◌else◌}
use Rattle.std.specs.Str.{bytes_eq}
use Rattle.std.specs.declared.alloc.Global.{Global}
use Rattle.std.specs.declared.vec.Vec.{Vec}
use Rattle.indexmap.specs.IndexSet.{insert_key}
use Rattle.field_text.specs.Tags.{trimmed, is_some_byte, cased}

abbrev pub seen : List (Vec ℕ Global) → List (List ℕ)
seen keys = map (λ k. k.items) keys

-- with one more piece
abbrev pub with_piece : Bool → List (List ℕ) → List ℕ → List (List ℕ)
with_piece case tags piece = if is_some_byte (trimmed piece) then insert_key bytes_eq tags (cased case (trimmed piece)) else tags
