-- The places of a field's tokens rise, and are below 2^32.
use Rattle.std.proofs.Common.{◌≡◌, ℕ, suc, ◌<◌, ◌≤◌, ◌+◌, ◌^◌, ◌&&◌, List, [], ◌∷◌, map, length, Option, Some, None, refl, inl, inr, arith}
use Rattle.std.specs.Prelude.{◌==◌}
use Rattle.std.proofs.lemmas.Bool.{cases_Bool}
use Rattle.std.proofs.lemmas.List.{length-map}
use Rattle.ft_base.specs.Hash.{get_field}
use Rattle.ft_base.specs.declared.definition.Field.{Field}
use Rattle.ft_base.specs.declared.definition.IndexDef.{IndexDef}
use Rattle.ft_base.specs.Docs.{Doc}
use Rattle.ft_meaning.specs.Meaning.{ValuesFit, has_words, value_tokens, field_tokens}
use Rattle.ft_meaning.proofs.MeaningLaws.{value-fits}
use Rattle.token_text.specs.Tokens.{units, split, before, runs, lowered, is_stop, numbered, tokens}
use Rattle.ft_base.specs.Separators.{is_separator}
use Rattle.token_text.specs.declared.token.Token.{Token}

abbrev pub place_in : Token → ℕ
place_in token = token.place

-- Numbers rise, from `low` on.
abbrev pub IsUp : ℕ → List ℕ → Type 0
IsUp low [] = Unit {0}
IsUp low (n ∷ ns) = (low ≤ n) × IsUp (n + 1) ns

pub up_from : (low lower : ℕ) (ns : List ℕ) → IsUp low ns → lower ≤ low → IsUp lower ns
up_from low lower [] up less = tt
up_from low lower (n ∷ ns) up less = (omega (arith, up.0, less), up.1)

-- Tokens stand one behind the other, from `low` on and below `end`.
abbrev pub AreUp : ℕ → ℕ → List Token → Type 0
AreUp low end [] = Unit {0}
AreUp low end (token ∷ tokens) = (low ≤ token.place) × (token.place < end) × AreUp (token.place + 1) end tokens

numbered_up : (stops : List (List ℕ)) (low place end : ℕ) (words : List (List ℕ)) → low ≤ place → place + length words ≤ end → AreUp low end (numbered stops place words)
numbered_up stops low place end [] above below = tt
numbered_up stops low place end (word ∷ words) above below =
    elim (cases_Bool (is_stop stops word)) [
      | inl y ↦ rw y (numbered_up stops low place end words above (omega (arith, below)))
      | inr n ↦ rw n (above, omega (arith, below), numbered_up stops (place + 1) (suc place) end words (omega arith) (omega (arith, below)))
    ]

-- ---- a text has no more words than bytes

units_fit : (text : List ℕ) → length (units text) ≤ length text
units_fit [] = omega arith
units_fit (b ∷ []) = omega arith
units_fit (b ∷ c ∷ rest) =
    elim (cases_Bool ((b == 92) && is_separator c)) [
      | inl y ↦ rw y (omega (arith, units_fit rest))
      | inr n ↦ rw n (omega (arith, units_fit (c ∷ rest)))
    ]

split_fit : (us : List (Option ℕ)) → length (before (split us).0 (split us).1) ≤ length us
split_fit [] = omega arith
split_fit (Some b ∷ us) = omega (arith, split_fit us, behind (split us).0 (split us).1)
  where
    behind : (run : List ℕ) (runs : List (List ℕ)) → length runs ≤ length (before run runs)
    behind [] runs = omega arith
    behind (b ∷ run) runs = omega arith
split_fit (None ∷ us) = omega (arith, split_fit us)

runs_fit : (text : List ℕ) → length (runs text) ≤ length text
runs_fit text = omega (arith, split_fit (units text), units_fit text)

tokens_up : (text : List ℕ) (stops : List (List ℕ)) (end : ℕ) → length text < end → AreUp 0 end (tokens text stops)
tokens_up text stops end short =
    numbered_up stops 0 1 end (map lowered (runs text)) (omega arith) (omega (arith, short, runs_fit text, length-map (runs text) lowered))

pub field_tokens_up : (def : IndexDef) (doc : Doc) (field : Field) → ValuesFit doc.hash → AreUp 0 (2 ^ 32) (field_tokens def doc field)
field_tokens_up def doc field fit =
    elim (cases_Bool (has_words field)) [
      | inl y ↦ rw y (of_value (get_field doc.hash field.name) refl)
      | inr n ↦ rw n tt
    ]
  where
    of_value : (value : Option (List ℕ)) → get_field doc.hash field.name ≡ value → AreUp 0 (2 ^ 32) (value_tokens def.stops.words value)
    of_value None is = tt
    of_value (Some value) is = tokens_up value def.stops.words (2 ^ 32) (omega (arith, value-fits doc.hash field.name value fit is))
