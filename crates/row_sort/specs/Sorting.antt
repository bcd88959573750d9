-- A list put in order, where values that tie keep their order.
use Rattle.std.specs.Prelude.{List, [], ◌∷◌, if◌then◌else◌}
use Rattle.std.specs.Ordering.{is_lt}
use Rattle.std.specs.declared.cmp.Ordering.{Ordering}

-- an order, as what it answers of two values
abbrev pub Comparison : Type 0 → Type 0
Comparison A = A → A → Ordering

-- a value goes before the first one that isn't less than it
abbrev pub placed : {A : Type 0} → (A → A → Ordering) → A → List A → List A
placed order x [] = x ∷ []
placed order x (y ∷ ys) = if is_lt (order y x) then y ∷ placed order x ys else x ∷ y ∷ ys

-- the values in order, each placed among those behind it
abbrev pub sorted : {A : Type 0} → (A → A → Ordering) → List A → List A
sorted order [] = []
sorted order (x ∷ xs) = placed order x (sorted order xs)
