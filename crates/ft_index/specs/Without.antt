-- Documents but one.
use Rattle.std.specs.Prelude.{ℕ, List, not, nat_eq, filter}
use Rattle.ft_base.specs.Docs.{Doc}

-- the documents but that of an id
abbrev pub without : ℕ → List Doc → List Doc
without id docs = filter (λ (doc : Doc). not (nat_eq id doc.id)) docs
