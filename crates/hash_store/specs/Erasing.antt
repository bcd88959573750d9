-- Documents that are taken out by their ids.
use Rattle.std.specs.Prelude.{ℕ, List, find, nat_eq, Option, None, Some}
use Rattle.ft_base.specs.Space.{erase}
use Rattle.ft_base.specs.Docs.{Doc}

-- the documents without one, where there is one
abbrev pub erase_doc : List Doc → Option Doc → List Doc
erase_doc docs None = docs
erase_doc docs (Some doc) = erase docs doc.key

-- and without that of an id
abbrev pub erase_id : List Doc → ℕ → List Doc
erase_id docs id = erase_doc docs (find (λ (doc : Doc). nat_eq id doc.id) docs)
