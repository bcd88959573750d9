-- What the whole reading answers is the one expression, or the first fault.
use Rattle.std.proofs.Common.{◌≡◌, ℕ, zero, suc, ◌+◌, List, [], ◌∷◌, ◌++◌, length, Result, Ok, Err, refl, sym, ap, subst, ◌∙◌, append_assoc, arith}
use Rattle.std.proofs.lemmas.List.{append-nil, length-append, length-map}
use Rattle.expr_eval.specs.declared.token.Kind.{Kind}
use Rattle.expr_eval.specs.declared.token.Chain.TheVariants.{Ors}
use Rattle.expr_eval.specs.declared.tree.Expr.{Expr}
use Rattle.expr_eval.specs.Grammar.{Sort, Chained, Spells, IsExpr, Begins, EndsAt, SyntaxAt, TooDeepAt}
use Rattle.ft_base.specs.Reading.{◌>>=◌}
use Rattle.expr_eval.specs.Tokens.{kinds}
use Rattle.expr_eval.specs.Reading.{Stop, Syntax, TooDeep, Read, Reader, sort_at, deeper, ended_at, whole_at}
use Rattle.expr_eval.specs.declared.token.Token.{Token}
use Rattle.expr_eval.proofs.Sound.{Spelled, Took, Starts, StartsDeep, read_spelled, raise, a_chain}
use Rattle.expr_eval.proofs.Again.{spelled_read}
use Rattle.expr_eval.proofs.Stable.{left, Keeps, above, read_keeps}

raise_above : (n : ℕ) {m : ℕ} {s : Sort} {ts : List Kind} {a : Expr} → Spells m s ts a → Spells (above n m) s ts a
raise_above zero d = d
raise_above (suc n) d = raise (raise_above n d)

above_none : (n : ℕ) → above n 0 ≡ n
above_none zero = refl
above_none (suc n) = ap suc (above_none n)

abbrev reads : ℕ → Reader
reads n = sort_at (deeper n) (Chained Ors)

pub read_whole : (n : ℕ) (ts : List Kind) (a : Expr) → IsExpr n ts a → reads n ts ≡ Ok (a, [])
read_whole n ts a d = ap (λ (x : List Kind). reads n x) (sym (append-nil ts)) ∙ spelled_read n (Chained Ors) ts [] a d tt

abbrev Same : Type 0
Same = ◌≡◌ {A = ℕ} 0 0

same_level : (n : ℕ) (ts more : List Kind) → Keeps Same more (reads n ts) (reads n (ts ++ more))
same_level n ts more = subst (λ (m : ℕ). Keeps Same more (reads n ts) (reads m (ts ++ more))) (above_none n) (read_keeps more n 0 (Chained Ors) (a_chain Ors) ts)

abbrev IsDeep : Read Expr → Type 0
IsDeep (Ok x) = ⊥
IsDeep (Err (Syntax rest)) = ⊥
IsDeep (Err (TooDeep rest)) = Unit {0}

no_more : (t u : Kind) (us rest : List Kind) → u ∷ us ++ rest ≡ t ∷ rest → u ∷ us ≡ t ∷ []
no_more t u [] rest e = let same : u ≡ t = cc in ap (λ (x : Kind). x ∷ []) same
no_more t u (v ∷ us) rest e = let l : length (u ∷ (v ∷ us) ++ rest) ≡ length (t ∷ rest) = ap length e in absurd (omega (arith, length-append us rest))

-- a reading that stops at a token stops there too where nothing is behind
cut : (D : Type 0) (t : Kind) (rest : List Kind) (r r' : Read Expr) → D → Keeps D rest r r' → left r' ≡ t ∷ rest → left r ≡ t ∷ []
cut D t rest (Ok (a, u ∷ us)) r' d h e = no_more t u us rest (sym (ap left h) ∙ e)
cut D t rest (Err (Syntax (u ∷ us))) r' d h e = no_more t u us rest (sym (ap left h) ∙ e)
cut D t rest (Err (TooDeep (u ∷ us))) r' d h e = no_more t u us rest (sym (ap left (h d)) ∙ e)
cut D t [] (Ok (a, [])) r' d h e = let c : [] ≡ t ∷ [] = sym (ap left h) ∙ e in absurd cc
cut D t [] (Err (Syntax [])) r' d h e = let c : [] ≡ t ∷ [] = sym (ap left h) ∙ e in absurd cc
cut D t [] (Err (TooDeep [])) r' d h e = let c : [] ≡ t ∷ [] = sym (ap left (h d)) ∙ e in absurd cc
cut D t (x ∷ xs) (Ok (a, [])) r' d h e = let l : length (left r') ≡ length (t ∷ x ∷ xs) = ap length e in absurd (omega arith)
cut D t (x ∷ xs) (Err (Syntax [])) r' d h e = let l : length (left r') ≡ length (t ∷ x ∷ xs) = ap length e in absurd (omega arith)
cut D t (x ∷ xs) (Err (TooDeep [])) r' d h e = let l : length (left r') ≡ length (t ∷ x ∷ xs) = ap length e in absurd (omega arith)

-- and whatever comes behind
on : (D : Type 0) (t : Kind) (others : List Kind) (r r' : Read Expr) → (IsDeep r → D) → Keeps D others r r' → left r ≡ t ∷ [] → left r' ≡ t ∷ others
on D t others (Ok (a, u ∷ us)) r' d h e = ap left h ∙ ap (λ (x : List Kind). x ++ others) e
on D t others (Err (Syntax (u ∷ us))) r' d h e = ap left h ∙ ap (λ (x : List Kind). x ++ others) e
on D t others (Err (TooDeep (u ∷ us))) r' d h e = ap left (h (d tt)) ∙ ap (λ (x : List Kind). x ++ others) e
on D t others (Ok (a, [])) r' d h e = absurd cc
on D t others (Err (Syntax [])) r' d h e = absurd cc
on D t others (Err (TooDeep [])) r' d h e = absurd cc

stays_deep : (D : Type 0) (t : Kind) (rest : List Kind) (r r' : Read Expr) → D → Keeps D rest r r' → left r ≡ t ∷ [] → IsDeep r → IsDeep r'
stays_deep D t rest (Ok x) r' d h e k = absurd k
stays_deep D t rest (Err (Syntax x)) r' d h e k = absurd k
stays_deep D t rest (Err (TooDeep [])) r' d h e k = absurd cc
stays_deep D t rest (Err (TooDeep (u ∷ us))) r' d h e k = rw (h d) tt

-- the reading of front and the token, out of that of all
cut_read : (n : ℕ) (front : List Kind) (t : Kind) (rest : List Kind) → Keeps Same rest (reads n (front ++ t ∷ [])) (reads n (front ++ t ∷ rest))
cut_read n front t rest = subst (λ (x : List Kind). Keeps Same rest (reads n (front ++ t ∷ [])) (reads n x)) (append_assoc front (t ∷ []) rest) (same_level n (front ++ t ∷ []) rest)

ends_syntax : (n m : ℕ) (front : List Kind) (t : Kind) (rest : List Kind) → left (reads n (front ++ t ∷ rest)) ≡ t ∷ rest → (IsDeep (reads n (front ++ t ∷ rest)) → ⊥) → Begins m (front ++ t ∷ []) → ⊥
ends_syntax n m front t rest e flat b =
    let r = reads n (front ++ t ∷ []) in
    let c = cut Same t rest r (reads n (front ++ t ∷ rest)) refl (cut_read n front t rest) e in
    let f : IsDeep r → m ≡ 0 = λ k. absurd (flat (stays_deep Same t rest r (reads n (front ++ t ∷ rest)) refl (cut_read n front t rest) c k)) in
    let o = on (m ≡ 0) t b.others r (reads (above n m) ((front ++ t ∷ []) ++ b.others)) f (read_keeps b.others n m (Chained Ors) (a_chain Ors) (front ++ t ∷ [])) c in
    let got = read_whole (above n m) ((front ++ t ∷ []) ++ b.others) b.tree (raise_above n b.spells) in
    let clash : t ∷ b.others ≡ [] = sym o ∙ ap left got in
    absurd cc

ends_deep : (n : ℕ) (front : List Kind) (t : Kind) (rest : List Kind) → left (reads n (front ++ t ∷ rest)) ≡ t ∷ rest → Begins n (front ++ t ∷ []) → ⊥
ends_deep n front t rest e b =
    let r = reads n (front ++ t ∷ []) in
    let c = cut Same t rest r (reads n (front ++ t ∷ rest)) refl (cut_read n front t rest) e in
    let o = on Same t b.others r (reads n ((front ++ t ∷ []) ++ b.others)) (λ k. refl) (same_level n (front ++ t ∷ []) b.others) c in
    let got = read_whole n ((front ++ t ∷ []) ++ b.others) b.tree b.spells in
    let clash : t ∷ b.others ≡ [] = sym o ∙ ap left got in
    absurd cc

ends_short : (n m : ℕ) (ts : List Kind) → reads n ts ≡ Err (Syntax []) → (a : Expr) → IsExpr m ts a → ⊥
ends_short n m ts e a d =
    let k = subst (λ (r : Read Expr). Keeps (m ≡ 0) [] r (reads (above n m) (ts ++ []))) e (read_keeps [] n m (Chained Ors) (a_chain Ors) ts) in
    let got = read_whole (above n m) ts a (raise_above n d) in
    let clash : reads (above n m) ts ≡ Err (Syntax []) = ap (λ (x : List Kind). reads (above n m) x) (sym (append-nil ts)) ∙ k in
    let no : ◌≡◌ {A = Read Expr} (Ok (a, [])) (Err (Syntax [])) = sym got ∙ clash in
    absurd cc

-- what the answer says of the tokens
abbrev pub Found : ℕ → List Kind → Result Expr Stop → Type 0
Found n ts (Ok a) = IsExpr n ts a
Found n ts (Err (Syntax rest)) = (front : List Kind) × (ts ≡ front ++ rest) × SyntaxAt n front rest
Found n ts (Err (TooDeep rest)) = (front : List Kind) × (ts ≡ front ++ rest) × TooDeepAt n front rest

begun : (n : ℕ) (front : List Kind) → Starts n (Chained Ors) front → Begins n front
begun n front w = record { others = w.others; tree = w.tree; spells = w.spells }

flat_syntax : (n : ℕ) (ts rest : List Kind) → reads n ts ≡ Err (Syntax rest) → IsDeep (reads n ts) → ⊥
flat_syntax n ts rest e k = subst IsDeep e k

flat_ok : (n : ℕ) (ts rest : List Kind) (a : Expr) → reads n ts ≡ Ok (a, rest) → IsDeep (reads n ts) → ⊥
flat_ok n ts rest a e k = subst IsDeep e k

ends_at : (n m : ℕ) (front rest : List Kind) → reads n (front ++ rest) ≡ Err (Syntax rest) → EndsAt m front rest
ends_at n m front [] e = λ a d. ends_short n m (front ++ []) e a (rw (append-nil front) d)
ends_at n m front (t ∷ rest) e = ends_syntax n m front t rest (ap left e) (flat_syntax n (front ++ t ∷ rest) (t ∷ rest) e)

deep_at : (n : ℕ) (front rest : List Kind) → reads n (front ++ rest) ≡ Err (TooDeep rest) → StartsDeep n (Chained Ors) front rest → Begins n front → TooDeepAt n front rest
deep_at n front [] e g b = absurd g
deep_at n front (t ∷ rest) e g b = record { begins = b; ends = ends_deep n front t rest (ap left e); goes_on = (suc n, begun (suc n) (front ++ t ∷ []) g) }

ended_answers : (n : ℕ) (ts rest : List Kind) (a : Expr) → reads n ts ≡ Ok (a, rest) → Took n (Chained Ors) ts rest a → Found n ts (ended_at a rest)
ended_answers n ts [] a e t = subst (λ (x : List Kind). IsExpr n x a) (sym (t.parts ∙ append-nil t.front)) t.spells
ended_answers n ts (u ∷ rest) a e t =
    let e' : reads n (t.front ++ u ∷ rest) ≡ Ok (a, u ∷ rest) = ap (λ (x : List Kind). reads n x) (sym t.parts) ∙ e in (
      t.front,
      t.parts,
      record {
        begins = record { others = []; tree = a; spells = rw (append-nil t.front) t.spells };
        ends = λ m. ends_syntax n m t.front u rest (ap left e') (flat_ok n (t.front ++ u ∷ rest) (u ∷ rest) a e');
      },
    )

answers_of : (n : ℕ) (ts : List Kind) (r : Read Expr) → reads n ts ≡ r → Spelled n (Chained Ors) ts r → Found n ts (r >>= λ x. ended_at x.0 x.1)
answers_of n ts (Ok x) e h = ended_answers n ts x.1 x.0 e h
answers_of n ts (Err (Syntax rest)) e h =
    let e' : reads n (h.front ++ rest) ≡ Err (Syntax rest) = ap (λ (x : List Kind). reads n x) (sym h.parts) ∙ e in
    (h.front, h.parts, record { begins = begun n h.front h.starts; ends = λ m. ends_at n m h.front rest e' })
answers_of n ts (Err (TooDeep rest)) e h =
    let e' : reads n (h.front ++ rest) ≡ Err (TooDeep rest) = ap (λ (x : List Kind). reads n x) (sym h.parts) ∙ e in
    (h.front, h.parts, deep_at n h.front rest e' h.goes_on (begun n h.front h.starts))

pub whole_answers : (n : ℕ) (ts : List Kind) → Found n ts (whole_at n ts)
unfolding whole_at
whole_answers n ts = answers_of n ts (reads n ts) refl (read_spelled n (Chained Ors) (a_chain Ors) ts)

-- a text has one tree
pub one_tree : (n m : ℕ) (ts : List Kind) (a b : Expr) → IsExpr n ts a → IsExpr m ts b → a ≡ b
one_tree n m ts a b d e =
    let k = subst (λ (r : Read Expr). Keeps (m ≡ 0) [] r (reads (above n m) (ts ++ []))) (read_whole n ts a d) (read_keeps [] n m (Chained Ors) (a_chain Ors) ts) in
    let got = read_whole (above n m) ts b (raise_above n e) in
    let same : ◌≡◌ {A = Read Expr} (Ok (b, [])) (Ok (a, [])) = sym got ∙ ap (λ (x : List Kind). reads (above n m) x) (sym (append-nil ts)) ∙ k in
    sym (ap (λ (p : Expr × List Kind). p.0) (pair_is (b, []) (a, []) same))
  where
    pair_is : (x y : Expr × List Kind) → ◌≡◌ {A = Read Expr} (Ok x) (Ok y) → x ≡ y
    pair_is x y e = cc

-- ---- for the public call

pub record Parted (P : List Kind → List Kind → Type 0) (tokens rest : List Token) : Type 0 where
  pub front : List Kind
  pub parts : kinds tokens ≡ front ++ kinds rest
  pub len : length tokens ≡ length front + length rest
  pub holds : P front (kinds rest)

parted : (P : List Kind → List Kind → Type 0) (tokens rest : List Token) (front : List Kind) → kinds tokens ≡ front ++ kinds rest → P front (kinds rest) → Parted P tokens rest
parted P tokens rest front e h =
    let l : length (kinds tokens) ≡ length (front ++ kinds rest) = ap length e in
    let t : length (kinds tokens) ≡ length tokens = simp length-map in
    let r : length (kinds rest) ≡ length rest = simp length-map in
    record { front = front; parts = e; len = omega (arith, length-append front (kinds rest)); holds = h }

pub syntax_parts : (n : ℕ) (tokens rest : List Token) → whole_at n (kinds tokens) ≡ Err (Syntax (kinds rest)) → Parted (SyntaxAt n) tokens rest
syntax_parts n tokens rest e = let a = subst (λ (r : Result Expr Stop). Found n (kinds tokens) r) e (whole_answers n (kinds tokens)) in parted (SyntaxAt n) tokens rest a.0 a.1 a.2

pub deep_parts : (n : ℕ) (tokens rest : List Token) → whole_at n (kinds tokens) ≡ Err (TooDeep (kinds rest)) → Parted (TooDeepAt n) tokens rest
deep_parts n tokens rest e = let a = subst (λ (r : Result Expr Stop). Found n (kinds tokens) r) e (whole_answers n (kinds tokens)) in parted (TooDeepAt n) tokens rest a.0 a.1 a.2

pub tree_is : (n : ℕ) (tokens : List Token) (a : Expr) → whole_at n (kinds tokens) ≡ Ok a → IsExpr n (kinds tokens) a
tree_is n tokens a e = subst (λ (r : Result Expr Stop). Found n (kinds tokens) r) e (whole_answers n (kinds tokens))

pub whole_again : (n : ℕ) (ts : List Kind) (a : Expr) → IsExpr n ts a → whole_at n ts ≡ Ok a
unfolding whole_at
whole_again n ts a d = ap (λ (r : Read Expr). r >>= λ x. ended_at x.0 x.1) (read_whole n ts a d)

pub same_tree : (n : ℕ) (ts : List Kind) (a b : Expr) → IsExpr n ts a → whole_at n ts ≡ Ok b → b ≡ a
same_tree n ts a b d e = let both : ◌≡◌ {A = Result Expr Stop} (Ok b) (Ok a) = sym e ∙ whole_again n ts a d in cc

pub no_fault : (n : ℕ) (ts : List Kind) (a : Expr) (f : Stop) → IsExpr n ts a → whole_at n ts ≡ Err f → ⊥
no_fault n ts a f d e = let both : ◌≡◌ {A = Result Expr Stop} (Err f) (Ok a) = sym e ∙ whole_again n ts a d in absurd cc
