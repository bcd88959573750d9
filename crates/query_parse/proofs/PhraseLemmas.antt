-- Words side by side are a phrase of these words, in the fields of the first.
use Rattle.std.proofs.Common.{◌≡◌, ◌<◌, ℕ, List, [], ◌∷◌, length, map, get_or, Bool, true, false, cond, Option, refl, ap, sym, ◌∙◌, arith}
use Rattle.ft_base.specs.declared.query.Fields.{Fields}
use Rattle.ft_base.specs.declared.query.Query.{Query}
use Rattle.ft_base.specs.declared.query.Query.TheVariants as tree
use Rattle.query_grammar.specs.Faults.{is_else}
use Rattle.query_grammar.specs.Meaning.{arranged}
use Rattle.query_grammar.specs.Shape.{Shape, One, Several, Else, same_fields, shape_of, together, with_word}
use Rattle.query_grammar.proofs.Shapes.{part_shapes}
use Rattle.query_parse.specs.Words.{fields_in, word_in}

-- words in the same fields, as a shape
abbrev wrapped : Fields → List (List ℕ) → Shape
wrapped fields [] = Else
wrapped fields (word ∷ []) = One fields word
wrapped fields (word ∷ next ∷ words) = Several fields (word ∷ next ∷ words)

one-more : (fields others : Fields) (word next : List ℕ) (words : List (List ℕ)) → is_else (with_word fields word (wrapped others (next ∷ words))) ≡ false
    → with_word fields word (wrapped others (next ∷ words)) ≡ Several fields (word ∷ next ∷ words)
one-more fields others word next [] = by_test (same_fields fields others)
  where
    by_test : (same : Bool) → is_else (cond same (Several fields (word ∷ next ∷ [])) Else) ≡ false → cond same (Several fields (word ∷ next ∷ [])) Else ≡ Several fields (word ∷ next ∷ [])
    by_test true e = refl
    by_test false e = absurd cc
one-more fields others word next (last ∷ words) = by_test (same_fields fields others)
  where
    by_test : (same : Bool) → is_else (cond same (Several fields (word ∷ next ∷ last ∷ words)) Else) ≡ false → cond same (Several fields (word ∷ next ∷ last ∷ words)) Else ≡ Several fields (word ∷ next ∷ last ∷ words)
    by_test true e = refl
    by_test false e = absurd cc

-- what stands behind a word of words is words
behind-word : (fields : Fields) (word : List ℕ) (shape : Shape) → is_else (with_word fields word shape) ≡ false → is_else shape ≡ false
behind-word fields word (One others next) e = refl
behind-word fields word (Several others words) e = refl
behind-word fields word Else e = e

all-words : (a : Shape) (shapes : List Shape) → is_else (together (a ∷ shapes)) ≡ false → together (a ∷ shapes) ≡ wrapped (fields_in a) (map word_in (a ∷ shapes))
all-words (One fields word) [] e = refl
all-words (Several fields words) [] e = absurd cc
all-words Else [] e = absurd cc
all-words (One fields word) (b ∷ shapes) e =
    let rest = all-words b shapes (behind-word fields word (together (b ∷ shapes)) e) in
    ap (with_word fields word) rest ∙ one-more fields (fields_in b) word (word_in b) (map word_in shapes) (ap (λ s. is_else (with_word fields word s)) (sym rest) ∙ e)
all-words (Several fields words) (b ∷ shapes) e = absurd cc
all-words Else (b ∷ shapes) e = absurd cc

words-seen : (parts : List Query) → map word_in (map shape_of parts) ≡ map (λ q. word_in (shape_of q)) parts
words-seen [] = refl
words-seen (q ∷ parts) = ap (λ (words : List (List ℕ)). word_in (shape_of q) ∷ words) (words-seen parts)

pub phrase-made : (slop : Option ℕ) (in_order : Bool) (parts : List Query) (first : Query) (fields : Fields) (words : List (List ℕ))
    → 1 < length parts → is_else (together (map shape_of parts)) ≡ false → first ≡ get_or parts 0 first → fields ≡ fields_in (shape_of first) → words ≡ map (λ q. word_in (shape_of q)) parts
    → tree.Phrase fields words slop in_order ≡ arranged slop in_order (tree.And parts) (together (map shape_of parts))
phrase-made slop in_order [] first fields words long e is in_fields are = absurd (omega (arith, long))
phrase-made slop in_order (a ∷ []) first fields words long e is in_fields are = absurd (omega (arith, long))
phrase-made slop in_order (a ∷ b ∷ parts) first fields words long e is in_fields are =
    let made = all-words (shape_of a) (map shape_of (b ∷ parts)) e in
    let asked : fields ≡ fields_in (shape_of a) = in_fields ∙ ap (λ q. fields_in (shape_of q)) is in
    let told : words ≡ map word_in (map shape_of (a ∷ b ∷ parts)) = are ∙ sym (words-seen (a ∷ b ∷ parts)) in
    ap (λ (f : Fields). tree.Phrase f words slop in_order) asked
    ∙ (ap (λ (ws : List (List ℕ)). tree.Phrase (fields_in (shape_of a)) ws slop in_order) told
    ∙ sym (ap (arranged slop in_order (tree.And (a ∷ b ∷ parts))) made))

-- too few words stay as they are, and so does what is no words
pub few-stay : (slop : Option ℕ) (in_order : Bool) (parts : List Query) → length parts < 2 → arranged slop in_order (tree.And parts) (together (map shape_of parts)) ≡ tree.And parts
few-stay slop in_order [] few = refl
few-stay slop in_order (a ∷ []) few = by_shape (shape_of a)
  where
    by_shape : (shape : Shape) → arranged slop in_order (tree.And (a ∷ [])) (together (shape ∷ [])) ≡ tree.And (a ∷ [])
    by_shape (One fields word) = refl
    by_shape (Several fields words) = refl
    by_shape Else = refl
few-stay slop in_order (a ∷ b ∷ parts) few = absurd (omega (arith, few))

pub else-stays : (slop : Option ℕ) (in_order : Bool) (q : Query) (shape : Shape) → is_else shape ≡ true → arranged slop in_order q shape ≡ q
else-stays slop in_order q (One fields word) e = refl
else-stays slop in_order q (Several fields words) e = absurd cc
else-stays slop in_order q Else e = refl

pub ruleset arranging = (few-stay, else-stays, part_shapes)
