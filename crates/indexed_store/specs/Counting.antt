-- Which documents keys lead to.
use Rattle.std.specs.Prelude.{ℕ, List, [], ◌∷◌, Option, Some, None}
use Rattle.ft_base.specs.Space.{doc_of}
use Rattle.ft_base.specs.Docs.{Doc}

-- the id of a document before others, where there is one
abbrev pub before : Option Doc → List ℕ → List ℕ
before None ids = ids
before (Some doc) ids = doc.id ∷ ids

-- the ids of the keys' documents, in order of the keys and repeats kept
abbrev pub ids_of : List Doc → List (List ℕ) → List ℕ
ids_of docs [] = []
ids_of docs (key ∷ keys) = before (doc_of docs key) (ids_of docs keys)
