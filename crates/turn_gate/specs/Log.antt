-- Logs and their beginnings, as lists of entries. `by` gives the number of the caller that made an entry.
use Rattle.std.specs.Prelude.{◌≡◌, ◌≢◌, ℕ, if◌then◌else◌, nat_lt, List, [], ◌∷◌, ◌++◌, length}

module _ {E : Type 0} where
  -- the log begins with what was seen
  abbrev pub StartsWith : List E → List E → Type 0
  StartsWith log seen = (rest : List E) × (log ≡ seen ++ rest)

  -- none of the entries is of this caller
  abbrev pub NoneBy : (E → ℕ) → ℕ → List E → Type 0
  NoneBy by caller [] = Unit {0}
  NoneBy by caller (e ∷ es) = (by e ≢ caller) × NoneBy by caller es

  -- each of the entries is of this caller
  abbrev pub AllBy : (E → ℕ) → ℕ → List E → Type 0
  AllBy by caller [] = Unit {0}
  AllBy by caller (e ∷ es) = (by e ≡ caller) × AllBy by caller es

  -- the log begins with what the caller had seen, and goes on with entries of others alone
  abbrev pub OthersSince : (E → ℕ) → ℕ → List E → List E → Type 0
  OthersSince by caller seen log = (others : List E) × (log ≡ seen ++ others) × NoneBy by caller others

  -- the longer of two lists, and the first where they are as long as each other
  abbrev pub longer : List E → List E → List E
  longer xs ys = if nat_lt (length xs) (length ys) then ys else xs

  -- the other one
  abbrev pub shorter : List E → List E → List E
  shorter xs ys = if nat_lt (length xs) (length ys) then xs else ys
