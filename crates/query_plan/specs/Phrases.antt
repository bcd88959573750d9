-- What contracts of a phrase's plan ask: its documents, its words as names of lists, and which fields have words.
use Rattle.std.specs.Prelude.{◌≡◌, ℕ, List, map, Bool, true, Option, Some, slice_get}
use Rattle.std.specs.List.{list_all, list_any}
use Rattle.ft_base.specs.declared.definition.Field.{Field}
use Rattle.ft_base.specs.declared.definition.IndexDef.{IndexDef}
use Rattle.ft_base.specs.Docs.{Doc}
use Rattle.ft_base.specs.declared.query.Fields.{Fields}
use Rattle.ft_meaning.specs.Holds.{has_of, named}
use Rattle.ft_meaning.specs.Meaning.{has_words}
use Rattle.id_iters.specs.Leaves.{list_names}
use Rattle.id_iters.specs.declared.leaf.Leaf.{Leaf}
use Rattle.id_iters.specs.declared.list_name.ListName.{ListName}
use Rattle.id_iters.specs.declared.list_name.ListName.TheVariants as names
use Rattle.query_plan.specs.Sought.{passes}

-- whether a document has the phrase
abbrev pub has_phrase : IndexDef → Fields → List (List ℕ) → Option ℕ → Bool → Doc → Bool
has_phrase def fields words slop in_order doc = (has_of def doc).phrase fields words slop in_order

-- Leaves of the words of a phrase, where equal words share one: each word is that of the leaf at the place that the order has, and
-- what is so of the list of each word is so of the list of each leaf.
pub record AreOfWords (words : List (List ℕ)) (leaves : List Leaf) (order : List ℕ) : Type 0 where
  pub turns : map (slice_get (list_names leaves)) order ≡ map (λ word. Some (names.Word word)) words
  pub among : (test : ListName → Bool) → list_all test (map (λ word. names.Word word) words) ≡ true → list_all test (list_names leaves) ≡ true

-- whether one of the fields has words
abbrev pub is_searched : IndexDef → Fields → Bool
is_searched def fields = list_any has_words (named def fields)

-- whether a field of this number is there and has words; and whether some of these numbers is one of such a field
abbrev pub is_searched_at : List Field → ℕ → Bool
is_searched_at fields number = passes has_words (slice_get fields number)

abbrev pub has_words_at : List Field → List ℕ → Bool
has_words_at fields numbers = list_any (λ number. passes has_words (slice_get fields number)) numbers
