-- Which words, tags and ranges a part of a query looks for among those that have lists.
use Rattle.std.specs.Prelude.{ℕ, Bool, true, false, List, [], ◌∷◌, filter, take, drop, Option, None, Some, if◌then◌else◌}
use Rattle.std.specs.List.{flat_map}
use Rattle.ft_base.specs.declared.query.Query.{Query}
use Rattle.ft_base.specs.declared.query.Query.TheFolds.{fold-Query}
use Rattle.ft_base.specs.declared.query.Query.TheOpen as layer
use Rattle.ft_base.specs.declared.query.TagPart.{TagPart}
use Rattle.ft_meaning.specs.Holds.{begins}

-- those of some words that begin with a text
abbrev pub words_with : List ℕ → List (List ℕ) → List (List ℕ)
words_with text words = filter (begins text) words

-- the tags of a field that a part looks for: one, or each that begins with it
abbrev pub sought_by : List (List ℕ) → TagPart → List (List ℕ)
sought_by tags part = if part.prefix then words_with part.text tags else part.text ∷ []

-- the tags of a field that some part looks for
abbrev pub all_sought : List (List ℕ) → List TagPart → List (List ℕ)
all_sought tags parts = flat_map (sought_by tags) parts

-- what stands from one place on and before another one
abbrev pub section_of : {X : Type 0} → List X → ℕ → ℕ → List X
section_of xs from to = drop from (take to xs)

-- whether there is something and it passes a test
abbrev pub passes : {X : Type 0} → (X → Bool) → Option X → Bool
passes test None = false
passes test (Some x) = test x

-- whether a query asks nothing of what other queries find; an optional one finds all, whatever its part finds
abbrev pub single_step : layer.Query-F Bool → Bool
single_step (layer.And parts) = false
single_step (layer.Or parts) = false
single_step (layer.Not part) = false
single_step other = true

abbrev pub is_single : Query → Bool
is_single = fold-Query Bool single_step
