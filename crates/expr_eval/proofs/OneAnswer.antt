-- A text has one answer: its one tree, or its one first fault.
use Rattle.std.proofs.Common.{◌≡◌, ◌⊎◌, inl, inr, ℕ, List, [], ◌∷◌, ◌++◌, length, Result, Ok, Err, refl, sym, ap, subst, ◌∙◌, append_assoc}
use Rattle.std.proofs.lemmas.List.{append-nil}
use Rattle.expr_eval.specs.declared.fault.ExprFault.{ExprFault}
use Rattle.expr_eval.specs.declared.fault.ExprFault.TheVariants as answer
use Rattle.expr_eval.specs.declared.token.Kind.{Kind}
use Rattle.expr_eval.specs.declared.tree.Expr.{Expr}
use Rattle.expr_eval.specs.Answer.{most_levels, place, IsTree, IsFault}
use Rattle.expr_eval.specs.Grammar.{IsExpr, Begins, EndsAt, GoesOn, SyntaxAt, TooDeepAt}
use Rattle.expr_eval.specs.Reading.{Stop, Syntax, TooDeep, whole_at}
use Rattle.expr_eval.specs.Tokens.{kinds, tokens_of}
use Rattle.expr_eval.proofs.Faults.{Found, whole_answers, one_tree}

-- the second list is the first and one more at least
record Longer (xs ys us : List Kind) : Type 0 where
  first : Kind
  more : List Kind
  others : List Kind
  whole : ys ≡ xs ++ first ∷ more
  behind : us ≡ first ∷ others

abbrev Compared : List Kind → List Kind → List Kind → List Kind → Type 0
Compared xs ys us vs = ((xs ≡ ys) × (us ≡ vs)) ⊎ (Longer xs ys us ⊎ Longer ys xs vs)

one_longer : (t : Kind) (xs ys us vs : List Kind) → Compared xs ys us vs → Compared (t ∷ xs) (t ∷ ys) us vs
one_longer t xs ys us vs (inl h) = inl (ap (λ (x : List Kind). t ∷ x) h.0, h.1)
one_longer t xs ys us vs (inr (inl h)) = inr (inl (record { first = h.first; more = h.more; others = h.others; whole = ap (λ (x : List Kind). t ∷ x) h.whole; behind = h.behind }))
one_longer t xs ys us vs (inr (inr h)) = inr (inr (record { first = h.first; more = h.more; others = h.others; whole = ap (λ (x : List Kind). t ∷ x) h.whole; behind = h.behind }))

-- two ways to part one list
compared : (xs ys us vs : List Kind) → xs ++ us ≡ ys ++ vs → Compared xs ys us vs
compared [] [] us vs e = inl (refl, e)
compared [] (y ∷ ys) us vs e = inr (inl (record { first = y; more = ys; others = ys ++ vs; whole = refl; behind = e }))
compared (x ∷ xs) [] us vs e = inr (inr (record { first = x; more = xs; others = xs ++ us; whole = refl; behind = sym e }))
compared (x ∷ xs) (y ∷ ys) us vs e =
    let same : x ≡ y = cc in
    let tail : xs ++ us ≡ ys ++ vs = cc in
    subst (λ (t : Kind). Compared (x ∷ xs) (t ∷ ys) us vs) same (one_longer x xs ys us vs (compared xs ys us vs tail))

-- what a longer front begins, its own front does
begins_less : (n : ℕ) (front : List Kind) (t : Kind) (more : List Kind) → Begins n (front ++ t ∷ more) → Begins n (front ++ t ∷ [])
begins_less n front t more b = record {
  others = more ++ b.others;
  tree = b.tree;
  spells = subst (λ (x : List Kind). IsExpr n x b.tree) (append_assoc front (t ∷ more) b.others ∙ sym (append_assoc front (t ∷ []) (more ++ b.others))) b.spells;
}

no_longer : (n : ℕ) (xs ys us : List Kind) → EndsAt n xs us → Begins n ys → Longer xs ys us → ⊥
no_longer n xs ys us e b l =
    let ends : EndsAt n xs (l.first ∷ l.others) = subst (λ (x : List Kind). EndsAt n xs x) l.behind e in
    ends (begins_less n xs l.first l.more (subst (λ (x : List Kind). Begins n x) l.whole b))

-- there is one place where tokens that begin an expression end to do so
same_parts : (n : ℕ) (ts xs us ys vs : List Kind) → ts ≡ xs ++ us → ts ≡ ys ++ vs → Begins n xs → EndsAt n xs us → Begins n ys → EndsAt n ys vs → (xs ≡ ys) × (us ≡ vs)
same_parts n ts xs us ys vs p q bx ex by ey = by_case (compared xs ys us vs (sym p ∙ q))
  where
    by_case : Compared xs ys us vs → (xs ≡ ys) × (us ≡ vs)
    by_case (inl h) = h
    by_case (inr (inl l)) = absurd (no_longer n xs ys us ex by l)
    by_case (inr (inr l)) = absurd (no_longer n ys xs vs ey bx l)

-- what ends at whatever level doesn't go on
ends_or_goes : (front rest : List Kind) → ((m : ℕ) → EndsAt m front rest) → GoesOn front rest → ⊥
ends_or_goes front [] e g = g
ends_or_goes front (t ∷ rest) e g = e g.0 g.1

not_both : (n : ℕ) (ts xs us ys vs : List Kind) → ts ≡ xs ++ us → ts ≡ ys ++ vs → SyntaxAt n xs us → TooDeepAt n ys vs → ⊥
not_both n ts xs us ys vs p q s d =
    let same = same_parts n ts xs us ys vs p q s.begins (s.ends n) d.begins d.ends in
    let g : GoesOn xs us = subst (λ (x : List Kind). GoesOn x us) (sym same.0) (subst (λ (x : List Kind). GoesOn ys x) (sym same.1) d.goes_on) in
    ends_or_goes xs us s.ends g

pub one_fault_of : (text : List ℕ) (f g : ExprFault) → IsFault text f → IsFault text g → f ≡ g
one_fault_of text (answer.Syntax p) (answer.Syntax q) h k =
    let same = same_parts most_levels (kinds (tokens_of text)) h.0 h.1 k.0 k.1 h.2 k.2 h.4.begins (h.4.ends most_levels) k.4.begins (k.4.ends most_levels) in
    ap (λ (x : ℕ). answer.Syntax x) (h.3 ∙ ap (λ (x : List Kind). place (tokens_of text) (length x) (length text)) same.0 ∙ sym k.3)
one_fault_of text (answer.TooDeep p) (answer.TooDeep q) h k =
    let same = same_parts most_levels (kinds (tokens_of text)) h.0 h.1 k.0 k.1 h.2 k.2 h.4.begins h.4.ends k.4.begins k.4.ends in
    ap (λ (x : ℕ). answer.TooDeep x) (h.3 ∙ ap (λ (x : List Kind). place (tokens_of text) (length x) (length text)) same.0 ∙ sym k.3)
one_fault_of text (answer.Syntax p) (answer.TooDeep q) h k = absurd (not_both most_levels (kinds (tokens_of text)) h.0 h.1 k.0 k.1 h.2 k.2 h.4 k.4)
one_fault_of text (answer.TooDeep p) (answer.Syntax q) h k = absurd (not_both most_levels (kinds (tokens_of text)) k.0 k.1 h.0 h.1 k.2 h.2 k.4 h.4)
one_fault_of text answer.NoMemory g h k = absurd h
one_fault_of text (answer.Syntax p) answer.NoMemory h k = absurd k
one_fault_of text (answer.TooDeep p) answer.NoMemory h k = absurd k

pub one_tree_of : (text : List ℕ) (a b : Expr) → IsTree text a → IsTree text b → a ≡ b
one_tree_of text a b d e = one_tree most_levels most_levels (kinds (tokens_of text)) a b d e

tree_ends : (n : ℕ) (ts front rest : List Kind) (a : Expr) → ts ≡ front ++ rest → EndsAt n front rest → IsExpr n ts a → ⊥
tree_ends n ts front [] a p e d = e a (subst (λ (x : List Kind). IsExpr n x a) (p ∙ append-nil front) d)
tree_ends n ts front (t ∷ rest) a p e d = e (record { others = rest; tree = a; spells = subst (λ (x : List Kind). IsExpr n x a) (p ∙ sym (append_assoc front (t ∷ []) rest)) d })

pub never_both : (text : List ℕ) (a : Expr) (f : ExprFault) → IsTree text a → IsFault text f → ⊥
never_both text a (answer.Syntax p) d h = tree_ends most_levels (kinds (tokens_of text)) h.0 h.1 a h.2 (h.4.ends most_levels) d
never_both text a (answer.TooDeep p) d h = tree_ends most_levels (kinds (tokens_of text)) h.0 h.1 a h.2 h.4.ends d
never_both text a answer.NoMemory d h = h

pub some_answer : (text : List ℕ) → ((a : Expr) × IsTree text a) ⊎ ((f : ExprFault) × IsFault text f)
some_answer text = by_read (whole_at most_levels (kinds (tokens_of text))) (whole_answers most_levels (kinds (tokens_of text)))
  where
    by_read : (r : Result Expr Stop) → Found most_levels (kinds (tokens_of text)) r → ((a : Expr) × IsTree text a) ⊎ ((f : ExprFault) × IsFault text f)
    by_read (Ok a) h = inl (a, h)
    by_read (Err (Syntax rest)) h = inr (answer.Syntax (place (tokens_of text) (length h.0) (length text)), (h.0, rest, h.1, refl, h.2))
    by_read (Err (TooDeep rest)) h = inr (answer.TooDeep (place (tokens_of text) (length h.0) (length text)), (h.0, rest, h.1, refl, h.2))
