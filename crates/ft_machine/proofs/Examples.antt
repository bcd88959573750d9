-- What the definitions say of a few commands and states.
use Rattle.std.proofs.Common.{◌≡◌, ℕ, List, [], ◌∷◌, refl}
use Rattle.std.specs.Prelude.{codes}
use Rattle.ft_base.specs.Hash.{set_field}
use Rattle.ft_base.specs.Space.{write}
use Rattle.ft_base.specs.Docs.{Doc}
use Rattle.ft_machine.specs.Machine.{at_moment}

-- the words of the examples
abbrev key : List ℕ
key = codes "k"

abbrev field : List ℕ
field = codes "f"

abbrev value : List ℕ
value = codes "v"

-- an earlier moment counts as the latest one
earlier_moment : (at_moment 5 (record { space = []; definitions = []; cursors = []; latest = 7 })).latest ≡ 7
earlier_moment = refl

-- a later moment is the latest from then on
later_moment : (at_moment 9 (record { space = []; definitions = []; cursors = []; latest = 7 })).latest ≡ 9
later_moment = refl

-- a document of its parts
abbrev doc : ℕ → List ℕ → List (List ℕ × List ℕ) → Doc
doc id name hash = record { id = id; key = name; hash = hash }

-- A key is written a second time: its first document is gone, and the second is last, with both fields in order of first setting.
second_write : write (doc 1 key ((field, value) ∷ []) ∷ doc 2 (codes "l") [] ∷ []) key (set_field ((field, value) ∷ []) (codes "g") (codes "w")) 3
    ≡ doc 2 (codes "l") [] ∷ doc 3 key ((field, value) ∷ (codes "g", codes "w") ∷ []) ∷ []
second_write = refl

-- a field that is there keeps its place
present_field : set_field ((field, value) ∷ (codes "g", codes "w") ∷ []) field (codes "x") ≡ (field, codes "x") ∷ (codes "g", codes "w") ∷ []
present_field = refl
