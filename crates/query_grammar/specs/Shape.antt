-- What $slop and $inorder see of a part: one word, several words that stand in the same fields, or anything else.
use Rattle.std.specs.Prelude.{ℕ, List, [], ◌∷◌, Bool, true, false, if◌then◌else◌}
use Rattle.std.specs.Str.{bytes_eq}
use Rattle.ft_base.specs.declared.query.Fields.{Fields}
use Rattle.ft_base.specs.declared.query.Fields.TheVariants.{All, Named}
use Rattle.ft_base.specs.declared.query.Query.{Query}
use Rattle.ft_base.specs.declared.query.Query.TheOpen as layer
use Rattle.ft_base.specs.declared.query.Query.TheFolds.{fold-Query}

pub data Shape : Type 0 where
  One : Fields → List ℕ → Shape
  Several : Fields → List (List ℕ) → Shape
  Else : Shape

-- Fields are the same where they were named alike, in the same order.
abbrev pub same_fields : Fields → Fields → Bool
same_fields All All = true
same_fields All (Named numbers) = false
same_fields (Named numbers) All = false
same_fields (Named numbers) (Named others) = bytes_eq numbers others

-- a word in front of words, where all are in the same fields
abbrev pub with_word : Fields → List ℕ → Shape → Shape
with_word fields word (One others next) = if same_fields fields others then Several fields (word ∷ next ∷ []) else Else
with_word fields word (Several others words) = if same_fields fields others then Several fields (word ∷ words) else Else
with_word fields word Else = Else

-- words side by side, of which each is one
abbrev pub together : List Shape → Shape
together [] = Else
together (One fields word ∷ []) = One fields word
together (One fields word ∷ shape ∷ shapes) = with_word fields word (together (shape ∷ shapes))
together (Several fields words ∷ shapes) = Else
together (Else ∷ shapes) = Else

abbrev pub shape_step : layer.Query-F Shape → Shape
shape_step (layer.Word fields text) = One fields text
shape_step (layer.Phrase fields words slop in_order) = Several fields words
shape_step (layer.And parts) = together parts
shape_step other = Else

abbrev pub shape_of : Query → Shape
shape_of = fold-Query Shape shape_step
