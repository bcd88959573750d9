-- Groups of items with equal keys, as a table keeps them while items come.
use Rattle.std.specs.Prelude.{Bool, not, List, [], ◌∷◌, map, filter, if◌then◌else◌}

module _ {X K : Type 0} (eq : K → K → Bool) (key : X → K) where
  -- the keys, each once, in order of first appearance
  abbrev pub keys_in : List X → List K
  keys_in [] = []
  keys_in (x ∷ xs) = key x ∷ filter (λ k. not (eq (key x) k)) (keys_in xs)

  -- the items of a key
  abbrev pub items_of : List X → K → List X
  items_of xs k = filter (λ x. eq k (key x)) xs

  -- what is made of the items of each key
  abbrev pub by_key : {A : Type 0} → (List X → A) → List X → List (K × A)
  by_key made xs = map (λ k. (k, made (items_of xs k))) (keys_in xs)

  -- A table of what was made so far, once one more item came: the first entry of its key takes it in, and where there
  -- is none a new entry goes last.
  abbrev pub note : {A : Type 0} → (A → X → A) → A → List (K × A) → X → List (K × A)
  note add start [] x = (key x, add start x) ∷ []
  note add start (e ∷ es) x = if eq (key x) e.0 then (e.0, add e.1 x) ∷ es else e ∷ note add start es x

-- a key goes last, where it is not there
abbrev pub add_first : {K : Type 0} → (K → K → Bool) → List K → K → List K
add_first eq [] k = k ∷ []
add_first eq (j ∷ js) k = if eq k j then j ∷ js else j ∷ add_first eq js k
