-- Which words a shape has and in which fields, and whether parts side by side are words.
use Rattle.std.proofs.Common.{◌≡◌, ◌<◌, get_or, drop, ℕ, List, [], ◌∷◌, length, map, Bool, true, false, cond, None, not, ◌||◌, refl, ap, sym, ◌∙◌, arith}
use Rattle.ft_base.specs.declared.query.Fields.{Fields}
use Rattle.ft_base.specs.declared.query.Query.{Query}
use Rattle.query_grammar.specs.Shape.{Shape, One, Several, Else, same_fields, shape_of, together, with_word}
use Rattle.query_grammar.specs.Faults.{is_else}
use Rattle.query_grammar.proofs.Shapes.{part_shapes}
use Rattle.query_parse.specs.Words.{alike, fields_of, is_one, word_in}

-- parts side by side of which one stands alone
pub fields-alone : (shape : Shape) → fields_of (together (shape ∷ [])) ≡ fields_of shape
fields-alone (One fields word) = refl
fields-alone (Several fields words) = refl
fields-alone Else = refl

pub word-alone : (shape : Shape) → word_in (together (shape ∷ [])) ≡ word_in shape
word-alone (One fields word) = refl
word-alone (Several fields words) = refl
word-alone Else = refl

-- a word in front of others is never one word
with-word-fields : (fields : Fields) (word : List ℕ) (shape : Shape) → fields_of (with_word fields word shape) ≡ None
with-word-fields fields word (One others next) = by_test (same_fields fields others)
  where
    by_test : (same : Bool) → fields_of (cond same (Several fields (word ∷ next ∷ [])) Else) ≡ None
    by_test true = refl
    by_test false = refl
with-word-fields fields word (Several others words) = by_test (same_fields fields others)
  where
    by_test : (same : Bool) → fields_of (cond same (Several fields (word ∷ words)) Else) ≡ None
    by_test true = refl
    by_test false = refl
with-word-fields fields word Else = refl

with-word-in : (fields : Fields) (word : List ℕ) (shape : Shape) → word_in (with_word fields word shape) ≡ []
with-word-in fields word (One others next) = by_test (same_fields fields others)
  where
    by_test : (same : Bool) → word_in (cond same (Several fields (word ∷ next ∷ [])) Else) ≡ []
    by_test true = refl
    by_test false = refl
with-word-in fields word (Several others words) = by_test (same_fields fields others)
  where
    by_test : (same : Bool) → word_in (cond same (Several fields (word ∷ words)) Else) ≡ []
    by_test true = refl
    by_test false = refl
with-word-in fields word Else = refl

pub fields-many : (a b : Shape) (shapes : List Shape) → fields_of (together (a ∷ b ∷ shapes)) ≡ None
fields-many (One fields word) b shapes = with-word-fields fields word (together (b ∷ shapes))
fields-many (Several fields words) b shapes = refl
fields-many Else b shapes = refl

pub word-many : (a b : Shape) (shapes : List Shape) → word_in (together (a ∷ b ∷ shapes)) ≡ []
word-many (One fields word) b shapes = with-word-in fields word (together (b ∷ shapes))
word-many (Several fields words) b shapes = refl
word-many Else b shapes = refl

-- the same of parts, by how many they are
pub fields-none : (parts : List Query) → (length parts ≡ 1 → ⊥) → fields_of (together (map shape_of parts)) ≡ None
fields-none [] other = refl
fields-none (a ∷ []) other = absurd (other (omega arith))
fields-none (a ∷ b ∷ parts) other = fields-many (shape_of a) (shape_of b) (map shape_of parts)

pub word-none : (parts : List Query) → (length parts ≡ 1 → ⊥) → word_in (together (map shape_of parts)) ≡ []
word-none [] other = refl
word-none (a ∷ []) other = absurd (other (omega arith))
word-none (a ∷ b ∷ parts) other = word-many (shape_of a) (shape_of b) (map shape_of parts)

-- A word, and words behind it, are words where those behind are, and the first is in the fields of the next.
is-else-with : (fields : Fields) (word : List ℕ) (others : Fields) (next : List ℕ) (shapes : List Shape)
    → is_else (with_word fields word (together (One others next ∷ shapes))) ≡ (not (same_fields fields others) || is_else (together (One others next ∷ shapes)))
is-else-with fields word others next [] = by_test (same_fields fields others)
  where
    by_test : (same : Bool) → is_else (cond same (Several fields (word ∷ next ∷ [])) Else) ≡ (not same || false)
    by_test true = refl
    by_test false = refl
is-else-with fields word others next (shape ∷ shapes) = by_shape (together (shape ∷ shapes))
  where
    by_shape : (last : Shape) → is_else (with_word fields word (with_word others next last)) ≡ (not (same_fields fields others) || is_else (with_word others next last))
    by_shape (One more last) = by_tests (same_fields others more) (same_fields fields others) refl
      where
        by_tests : (a b : Bool) → same_fields fields others ≡ b → is_else (with_word fields word (cond a (Several others (next ∷ last ∷ [])) Else)) ≡ (not b || is_else (cond a (Several others (next ∷ last ∷ [])) Else))
        by_tests true true e = rw e refl
        by_tests true false e = rw e refl
        by_tests false true e = refl
        by_tests false false e = refl
    by_shape (Several more words) = by_tests (same_fields others more) (same_fields fields others) refl
      where
        by_tests : (a b : Bool) → same_fields fields others ≡ b → is_else (with_word fields word (cond a (Several others (next ∷ words)) Else)) ≡ (not b || is_else (cond a (Several others (next ∷ words)) Else))
        by_tests true true e = rw e refl
        by_tests true false e = rw e refl
        by_tests false true e = refl
        by_tests false false e = refl
    by_shape Else = or-true (not (same_fields fields others))
      where
        or-true : (a : Bool) → true ≡ (a || true)
        or-true true = refl
        or-true false = refl

else-many : (a b : Shape) (shapes : List Shape) → is_else (together (a ∷ b ∷ shapes)) ≡ (not (alike a b) || is_else (together (b ∷ shapes)))
else-many (One fields word) (One others next) shapes = is-else-with fields word others next shapes
else-many (One fields word) (Several others words) shapes = refl
else-many (One fields word) Else shapes = refl
else-many (Several fields words) b shapes = refl
else-many Else b shapes = refl

-- the same of parts
pub else-alike : (a b : Query) (parts : List Query) → alike (shape_of a) (shape_of b) ≡ true
    → is_else (together (map shape_of (a ∷ b ∷ parts))) ≡ is_else (together (map shape_of (b ∷ parts)))
else-alike a b parts e = else-many (shape_of a) (shape_of b) (map shape_of parts) ∙ ap (λ t. not t || is_else (together (map shape_of (b ∷ parts)))) e

pub else-apart : (a b : Query) (parts : List Query) → alike (shape_of a) (shape_of b) ≡ false → is_else (together (map shape_of (a ∷ b ∷ parts))) ≡ true
else-apart a b parts e = else-many (shape_of a) (shape_of b) (map shape_of parts) ∙ ap (λ t. not t || is_else (together (map shape_of (b ∷ parts)))) e

pub else-one : (shape : Shape) → is_else (together (shape ∷ [])) ≡ not (is_one shape)
else-one (One fields word) = refl
else-one (Several fields words) = refl
else-one Else = refl

-- by the first two of some parts
pub else-next : (parts : List Query) (a b : Query) → 1 < length parts → a ≡ get_or parts 0 a → b ≡ get_or parts 1 b → alike (shape_of a) (shape_of b) ≡ true
    → is_else (together (map shape_of parts)) ≡ is_else (together (map shape_of (drop 1 parts)))
else-next [] a b long first next e = absurd (omega (arith, long))
else-next (p ∷ []) a b long first next e = absurd (omega (arith, long))
else-next (p ∷ q ∷ parts) a b long first next e = else-alike p q parts (ap (λ x. alike (shape_of x) (shape_of q)) (sym first) ∙ (ap (λ x. alike (shape_of a) (shape_of x)) (sym next) ∙ e))

pub else-ends : (parts : List Query) (a b : Query) → 1 < length parts → a ≡ get_or parts 0 a → b ≡ get_or parts 1 b → alike (shape_of a) (shape_of b) ≡ false
    → is_else (together (map shape_of parts)) ≡ true
else-ends [] a b long first next e = absurd (omega (arith, long))
else-ends (p ∷ []) a b long first next e = absurd (omega (arith, long))
else-ends (p ∷ q ∷ parts) a b long first next e = else-apart p q parts (ap (λ x. alike (shape_of x) (shape_of q)) (sym first) ∙ (ap (λ x. alike (shape_of a) (shape_of x)) (sym next) ∙ e))

pub ruleset shapes = (part_shapes, fields-alone, word-alone, fields-none, word-none)
