-- What is spelled is read, whatever follows that can't go on with it.
use Rattle.std.proofs.Common.{◌≡◌, ℕ, suc, Bool, true, false, ◌||◌, cond, IsTrue, List, [], ◌∷◌, ◌++◌, Option, Some, None, Ok, refl, ap, ◌∙◌, append_assoc}
use Rattle.expr_eval.specs.declared.token.Kind.{Kind}
use Rattle.expr_eval.specs.declared.token.Kind.TheVariants as token
use Rattle.expr_eval.specs.declared.tree.Func.{Func}
use Rattle.expr_eval.specs.declared.tree.Op.{Op}
use Rattle.expr_eval.specs.declared.tree.Op.TheVariants.{Or, And, Equal, Differ, AtMost, AtLeast, Below, Above, Plus, Minus, Times}
use Rattle.expr_eval.specs.declared.token.Chain.{Chain}
use Rattle.expr_eval.specs.declared.token.Chain.TheVariants.{Ors, Ands, Sums, Products}
use Rattle.expr_eval.specs.declared.tree.Expr.{Expr}
use Rattle.expr_eval.specs.declared.tree.Expr.TheVariants as tree
use Rattle.expr_eval.specs.Grammar.{Sort, Chained, Negation, Comparison, Signed, Item, Group, operand, joins, compares, Spells, one, more, negated, plain, alone, compared, minus, unsigned, number, text, property, call, grouped, group}
use Rattle.ft_base.specs.Reading.{◌>>=◌}
use Rattle.expr_eval.specs.Reading.{Read, Deeper, sign_if, sign_at, others_at, chain_at, closed_at, group_at, item_at, signed_at, compared_at, sum_at, comparison_at, negation_at, sort_at, deeper}
use Rattle.expr_eval.proofs.Chains.{read_shortens, whole_operand, others_none, others_ok}

-- the signs that can go on with a sentence of the sort
abbrev pub goes_on : Sort → Op → Bool
goes_on (Chained Products) o = joins Products o
goes_on (Chained Sums) o = joins Sums o || joins Products o
goes_on Comparison o = compares o || (joins Sums o || joins Products o)
goes_on Negation o = compares o || (joins Sums o || joins Products o)
goes_on (Chained Ands) o = joins Ands o || (compares o || (joins Sums o || joins Products o))
goes_on (Chained Ors) o = joins Ors o || (joins Ands o || (compares o || (joins Sums o || joins Products o)))
goes_on Signed o = false
goes_on Item o = false
goes_on Group o = false

-- the tokens behind can't go on with it
abbrev pub Stops : (Op → Bool) → List Kind → Type 0
Stops p [] = Unit {0}
Stops p (token.Sign o ∷ ts) = p o ≡ false
Stops p (t ∷ ts) = Unit {0}

no_sign_if : (p : Op → Bool) (o : Op) (ts : List Kind) → p o ≡ false → sign_if p o ts ≡ None
no_sign_if p o ts h = ap (λ (b : Bool). cond b (Some (o, ts)) None) h

pub no_sign : (p : Op → Bool) (ts : List Kind) → Stops p ts → sign_at p ts ≡ None
unfolding sign_at
no_sign p [] h = refl
no_sign p (token.Sign o ∷ ts) h = no_sign_if p o ts h
no_sign p (token.Number x ∷ ts) h = refl
no_sign p (token.Text x ∷ ts) h = refl
no_sign p (token.Property x ∷ ts) h = refl
no_sign p (token.Name x ∷ ts) h = refl
no_sign p (token.Open ∷ ts) h = refl
no_sign p (token.Close ∷ ts) h = refl
no_sign p (token.Bad ∷ ts) h = refl
no_sign p (token.Bang ∷ ts) h = refl

pub found_sign : (p : Op → Bool) (o : Op) (ts : List Kind) → IsTrue (p o) → sign_at p (token.Sign o ∷ ts) ≡ Some (o, ts)
unfolding sign_at
found_sign p o ts h = ap (λ (b : Bool). cond b (Some (o, ts)) None) h

stops_less : (p q : Op → Bool) → ((o : Op) → p o ≡ false → q o ≡ false) → (ts : List Kind) → Stops p ts → Stops q ts
stops_less p q f [] h = tt
stops_less p q f (token.Sign o ∷ ts) h = f o h
stops_less p q f (token.Number x ∷ ts) h = tt
stops_less p q f (token.Text x ∷ ts) h = tt
stops_less p q f (token.Property x ∷ ts) h = tt
stops_less p q f (token.Name x ∷ ts) h = tt
stops_less p q f (token.Open ∷ ts) h = tt
stops_less p q f (token.Close ∷ ts) h = tt
stops_less p q f (token.Bad ∷ ts) h = tt
stops_less p q f (token.Bang ∷ ts) h = tt

-- what is no or is neither
neither : (a b : Bool) → (a || b) ≡ false → (a ≡ false) × (b ≡ false)
neither true b e = absurd cc
neither false b e = (refl, e)

stops_chain : (c : Chain) (o : Op) → goes_on (Chained c) o ≡ false → joins c o ≡ false
stops_chain Ors o h = (neither _ _ h).0
stops_chain Ands o h = (neither _ _ h).0
stops_chain Sums o h = (neither _ _ h).0
stops_chain Products o h = h

stops_operand : (c : Chain) (o : Op) → goes_on (Chained c) o ≡ false → goes_on (operand c) o ≡ false
stops_operand Ors o h = (neither _ _ h).1
stops_operand Ands o h = (neither _ _ h).1
stops_operand Sums o h = (neither _ _ h).1
stops_operand Products o h = refl

-- a chain's own sign doesn't go on with its operand
own_sign : (c : Chain) (o : Op) → IsTrue (joins c o) → goes_on (operand c) o ≡ false
own_sign Ors Or h = refl
own_sign Ors And h = absurd cc
own_sign Ors Equal h = absurd cc
own_sign Ors Below h = absurd cc
own_sign Ors Differ h = absurd cc
own_sign Ors AtMost h = absurd cc
own_sign Ors AtLeast h = absurd cc
own_sign Ors Above h = absurd cc
own_sign Ors Plus h = absurd cc
own_sign Ors Minus h = absurd cc
own_sign Ors Times h = absurd cc
own_sign Ands And h = refl
own_sign Ands Or h = absurd cc
own_sign Ands Equal h = absurd cc
own_sign Ands Below h = absurd cc
own_sign Ands Differ h = absurd cc
own_sign Ands AtMost h = absurd cc
own_sign Ands AtLeast h = absurd cc
own_sign Ands Above h = absurd cc
own_sign Ands Plus h = absurd cc
own_sign Ands Minus h = absurd cc
own_sign Ands Times h = absurd cc
own_sign Sums Plus h = refl
own_sign Sums Minus h = refl
own_sign Sums And h = absurd cc
own_sign Sums Or h = absurd cc
own_sign Sums Equal h = absurd cc
own_sign Sums Below h = absurd cc
own_sign Sums Differ h = absurd cc
own_sign Sums AtMost h = absurd cc
own_sign Sums AtLeast h = absurd cc
own_sign Sums Above h = absurd cc
own_sign Sums Times h = absurd cc
own_sign Products o h = refl

own_comparison : (o : Op) → IsTrue (compares o) → goes_on (Chained Sums) o ≡ false
own_comparison Equal h = refl
own_comparison Below h = refl
own_comparison Differ h = refl
own_comparison AtMost h = refl
own_comparison AtLeast h = refl
own_comparison Above h = refl
own_comparison Or h = absurd cc
own_comparison And h = absurd cc
own_comparison Plus h = absurd cc
own_comparison Minus h = absurd cc
own_comparison Times h = absurd cc

-- ---- the first token of a sentence

abbrev no_bang : Kind → Bool
no_bang token.Bang = false
no_bang t = true

abbrev item_head : Kind → Bool
item_head token.Bang = false
item_head (token.Sign o) = false
item_head t = true

abbrev group_head : Kind → Bool
group_head token.Open = true
group_head t = false

abbrev opens : Sort → Kind → Bool
opens (Chained Ors) = λ t. true
opens (Chained Ands) = λ t. true
opens Negation = λ t. true
opens (Chained Sums) = no_bang
opens (Chained Products) = no_bang
opens Comparison = no_bang
opens Signed = no_bang
opens Item = item_head
opens Group = group_head

abbrev Head : (Kind → Bool) → List Kind → Type 0
Head p [] = ⊥
Head p (t ∷ ts) = IsTrue (p t)

head_append : (p : Kind → Bool) (ts us : List Kind) → Head p ts → Head p (ts ++ us)
head_append p [] us h = absurd h
head_append p (t ∷ ts) us h = h

head_less : (p q : Kind → Bool) → ((t : Kind) → IsTrue (p t) → IsTrue (q t)) → (ts : List Kind) → Head p ts → Head q ts
head_less p q f [] h = h
head_less p q f (t ∷ ts) h = f t h

item_no_bang : (t : Kind) → IsTrue (item_head t) → IsTrue (no_bang t)
item_no_bang token.Bang h = h
item_no_bang (token.Sign o) h = refl
item_no_bang (token.Number x) h = refl
item_no_bang (token.Text x) h = refl
item_no_bang (token.Property x) h = refl
item_no_bang (token.Name x) h = refl
item_no_bang token.Open h = refl
item_no_bang token.Close h = refl
item_no_bang token.Bad h = refl

group_item : (t : Kind) → IsTrue (group_head t) → IsTrue (item_head t)
group_item token.Bang h = absurd cc
group_item (token.Sign o) h = absurd cc
group_item (token.Number x) h = refl
group_item (token.Text x) h = refl
group_item (token.Property x) h = refl
group_item (token.Name x) h = refl
group_item token.Open h = refl
group_item token.Close h = refl
group_item token.Bad h = refl

opens_chain : (c : Chain) (t : Kind) → IsTrue (opens (operand c) t) → IsTrue (opens (Chained c) t)
opens_chain Ors t h = refl
opens_chain Ands t h = refl
opens_chain Sums t h = h
opens_chain Products t h = h

sentence_opens : {n : ℕ} {s : Sort} {ts : List Kind} {a : Expr} → Spells n s ts a → Head (opens s) ts
sentence_opens (one c {ts = ts} d) = head_less (opens (operand c)) (opens (Chained c)) (opens_chain c) ts (sentence_opens d)
sentence_opens (more c o {ts = ts} {us = us} h d e) = head_append (opens (Chained c)) ts (token.Sign o ∷ us) (sentence_opens d)
sentence_opens (negated d) = refl
sentence_opens (plain {ts = ts} d) = head_less no_bang (λ t. true) (λ t h. refl) ts (sentence_opens d)
sentence_opens (alone d) = sentence_opens d
sentence_opens (compared o {ts = ts} {us = us} h d e) = head_append no_bang ts (token.Sign o ∷ us) (sentence_opens d)
sentence_opens (minus d) = refl
sentence_opens (unsigned {ts = ts} d) = head_less item_head no_bang item_no_bang ts (sentence_opens d)
sentence_opens (number k) = refl
sentence_opens (text s) = refl
sentence_opens (property s) = refl
sentence_opens (call f d) = refl
sentence_opens (grouped {ts = ts} d) = head_less group_head item_head group_item ts (sentence_opens d)
sentence_opens (group d) = refl

signed_plain : (d : Deeper) (ts : List Kind) → Head item_head ts → signed_at d ts ≡ item_at d ts
unfolding signed_at
signed_plain d [] h = refl
signed_plain d (token.Sign o ∷ ts) h = absurd cc
signed_plain d (token.Number x ∷ ts) h = refl
signed_plain d (token.Text x ∷ ts) h = refl
signed_plain d (token.Property x ∷ ts) h = refl
signed_plain d (token.Name x ∷ ts) h = refl
signed_plain d (token.Open ∷ ts) h = refl
signed_plain d (token.Close ∷ ts) h = refl
signed_plain d (token.Bad ∷ ts) h = refl
signed_plain d (token.Bang ∷ ts) h = refl

negation_plain : (d : Deeper) (ts : List Kind) → Head no_bang ts → negation_at d ts ≡ comparison_at d ts
unfolding negation_at
negation_plain d [] h = refl
negation_plain d (token.Sign o ∷ ts) h = refl
negation_plain d (token.Number x ∷ ts) h = refl
negation_plain d (token.Text x ∷ ts) h = refl
negation_plain d (token.Property x ∷ ts) h = refl
negation_plain d (token.Name x ∷ ts) h = refl
negation_plain d (token.Open ∷ ts) h = refl
negation_plain d (token.Close ∷ ts) h = refl
negation_plain d (token.Bad ∷ ts) h = refl
negation_plain d (token.Bang ∷ ts) h = absurd cc

pub chain_is : (d : Deeper) (c : Chain) (ts : List Kind) → sort_at d (Chained c) ts ≡ chain_at (sort_at d (operand c)) c ts
chain_is d Ors ts = refl
chain_is d Ands ts = refl
chain_is d Sums ts = refl
chain_is d Products ts = refl

-- ---- what is spelled is read

-- Behind a chain's front the loop still looks for more; all else is done.
abbrev Ready : Sort → List Kind → Type 0
Ready (Chained c) rest = Stops (goes_on (operand c)) rest
Ready s rest = Stops (goes_on s) rest

abbrev After : ℕ → Sort → Expr → List Kind → Read Expr
After n (Chained c) a rest = others_at (sort_at (deeper n) (operand c)) c a rest
After n s a rest = Ok (a, rest)

ready : (s : Sort) (rest : List Kind) → Stops (goes_on s) rest → Ready s rest
ready (Chained c) rest h = stops_less (goes_on (Chained c)) (goes_on (operand c)) (stops_operand c) rest h
ready Negation rest h = h
ready Comparison rest h = h
ready Signed rest h = h
ready Item rest h = h
ready Group rest h = h

settled : (n : ℕ) (s : Sort) (a : Expr) (rest : List Kind) → Stops (goes_on s) rest → After n s a rest ≡ Ok (a, rest)
settled n (Chained c) a rest h = others_none (sort_at (deeper n) (operand c)) c (read_shortens n (operand c) (whole_operand c)) a rest
    (no_sign (joins c) rest (stops_less (goes_on (Chained c)) (joins c) (stops_chain c) rest h))
settled n Negation a rest h = refl
settled n Comparison a rest h = refl
settled n Signed a rest h = refl
settled n Item a rest h = refl
settled n Group a rest h = refl

abbrev Agains : ℕ → Sort → List Kind → Expr → Type 0
Agains n s ts a = (rest : List Kind) → Ready s rest → sort_at (deeper n) s (ts ++ rest) ≡ After n s a rest

done : (n : ℕ) (s : Sort) (ts : List Kind) (a : Expr) → Agains n s ts a → (rest : List Kind) → Stops (goes_on s) rest → sort_at (deeper n) s (ts ++ rest) ≡ Ok (a, rest)
done n s ts a ih rest h = ih rest (ready s rest h) ∙ settled n s a rest h

one_again : (n : ℕ) (c : Chain) (ts : List Kind) (a : Expr) → Agains n (operand c) ts a → Agains n (Chained c) ts a
unfolding chain_at
one_again n c ts a ih rest h = chain_is (deeper n) c (ts ++ rest)
    ∙ ap (λ (r : Read Expr). r >>= λ x. others_at (sort_at (deeper n) (operand c)) c x.0 x.1) (done n (operand c) ts a ih rest h)

more_again : (n : ℕ) (c : Chain) (o : Op) (ts us : List Kind) (a b : Expr) → IsTrue (joins c o) → Agains n (Chained c) ts a → Agains n (operand c) us b → Agains n (Chained c) (ts ++ token.Sign o ∷ us) (tree.Binary o a b)
more_again n c o ts us a b j ihd ihe rest h =
    ap (λ (x : List Kind). sort_at (deeper n) (Chained c) x) (append_assoc ts (token.Sign o ∷ us) rest)
    ∙ ihd (token.Sign o ∷ us ++ rest) (own_sign c o j)
    ∙ others_ok (sort_at (deeper n) (operand c)) c (read_shortens n (operand c) (whole_operand c)) a b (token.Sign o ∷ us ++ rest) (us ++ rest) rest o (found_sign (joins c) o (us ++ rest) j) (done n (operand c) us b ihe rest h)

alone_again : (n : ℕ) (ts : List Kind) (a : Expr) → Agains n (Chained Sums) ts a → Agains n Comparison ts a
unfolding comparison_at
alone_again n ts a ih rest h =
    let calm : Stops (goes_on (Chained Sums)) rest = stops_less (goes_on Comparison) (goes_on (Chained Sums)) (λ o e. (neither _ _ e).1) rest h in
    let quiet : Stops compares rest = stops_less (goes_on Comparison) compares (λ o e. (neither _ _ e).0) rest h in
    ap (λ (r : Read Expr). r >>= λ x. compared_at (sum_at (deeper n)) x.0 x.1 (sign_at compares x.1)) (done n (Chained Sums) ts a ih rest calm)
    ∙ ap (λ (f : Option (Op × List Kind)). compared_at (sum_at (deeper n)) a rest f) (no_sign compares rest quiet)

compared_again : (n : ℕ) (o : Op) (ts us : List Kind) (a b : Expr) → IsTrue (compares o) → Agains n (Chained Sums) ts a → Agains n (Chained Sums) us b → Agains n Comparison (ts ++ token.Sign o ∷ us) (tree.Binary o a b)
unfolding comparison_at
compared_again n o ts us a b j ihd ihe rest h =
    let calm : Stops (goes_on (Chained Sums)) rest = stops_less (goes_on Comparison) (goes_on (Chained Sums)) (λ o e. (neither _ _ e).1) rest h in
    ap (λ (x : List Kind). sort_at (deeper n) Comparison x) (append_assoc ts (token.Sign o ∷ us) rest)
    ∙ ap (λ (r : Read Expr). r >>= λ x. compared_at (sum_at (deeper n)) x.0 x.1 (sign_at compares x.1)) (done n (Chained Sums) ts a ihd (token.Sign o ∷ us ++ rest) (own_comparison o j))
    ∙ ap (λ (f : Option (Op × List Kind)). compared_at (sum_at (deeper n)) a (token.Sign o ∷ us ++ rest) f) (found_sign compares o (us ++ rest) j)
    ∙ ap (λ (r : Read Expr). r >>= λ x. Ok (tree.Binary o a x.0, x.1)) (done n (Chained Sums) us b ihe rest calm)

negated_again : (n : ℕ) (ts : List Kind) (a : Expr) → Agains n Negation ts a → Agains (suc n) Negation (token.Bang ∷ ts) (tree.Not a)
unfolding negation_at
negated_again n ts a ih rest h = ap (λ (r : Read Expr). r >>= λ x. Ok (tree.Not x.0, x.1)) (ih rest h)

minus_again : (n : ℕ) (ts : List Kind) (a : Expr) → Agains n Signed ts a → Agains (suc n) Signed (token.Sign Minus ∷ ts) (tree.Neg a)
unfolding signed_at
minus_again n ts a ih rest h = ap (λ (r : Read Expr). r >>= λ x. Ok (tree.Neg x.0, x.1)) (ih rest h)

group_again : (n : ℕ) (ts : List Kind) (a : Expr) → Agains n (Chained Ors) ts a → (rest : List Kind) → group_at (λ s. sort_at (deeper n) s) (token.Open ∷ (ts ++ token.Close ∷ []) ++ rest) ≡ Ok (a, rest)
unfolding group_at closed_at
group_again n ts a ih rest =
    ap (λ (x : List Kind). sort_at (deeper n) (Chained Ors) x >>= λ x. closed_at x.0 x.1) (append_assoc ts (token.Close ∷ []) rest)
    ∙ ap (λ (r : Read Expr). r >>= λ x. closed_at x.0 x.1) (done n (Chained Ors) ts a ih (token.Close ∷ rest) tt)

number_again : (n : ℕ) (k : Kind) (a : Expr) → ((rest : List Kind) → item_at (deeper n) (k ∷ rest) ≡ Ok (a, rest)) → Agains n Item (k ∷ []) a
number_again n k a f rest h = f rest

item_call : (n : ℕ) (f : Func) (ts : List Kind) (a : Expr) (rest : List Kind) → group_at (λ s. sort_at (deeper n) s) (ts ++ rest) ≡ Ok (a, rest) → item_at (deeper (suc n)) (token.Name f ∷ ts ++ rest) ≡ Ok (tree.Call f a, rest)
unfolding item_at
item_call n f ts a rest e = ap (λ (r : Read Expr). r >>= λ x. Ok (tree.Call f x.0, x.1)) e

item_group : (n : ℕ) (ts : List Kind) (a : Expr) (rest : List Kind) → group_at (λ s. sort_at (deeper n) s) (token.Open ∷ ts) ≡ Ok (a, rest) → item_at (deeper (suc n)) (token.Open ∷ ts) ≡ Ok (a, rest)
unfolding item_at
item_group n ts a rest e = e

item_number : (n : ℕ) (d : Deeper) (k : _) (rest : List Kind) → item_at d (token.Number k ∷ rest) ≡ Ok (tree.Num k, rest)
unfolding item_at
item_number n d k rest = refl

item_text : (d : Deeper) (s rest : _) → item_at d (token.Text s ∷ rest) ≡ Ok (tree.Text s, rest)
unfolding item_at
item_text d s rest = refl

item_property : (d : Deeper) (s rest : _) → item_at d (token.Property s ∷ rest) ≡ Ok (tree.Prop s, rest)
unfolding item_at
item_property d s rest = refl

pub again : {n : ℕ} {s : Sort} {ts : List Kind} {a : Expr} → Spells n s ts a → Agains n s ts a
again {n = n} (one c {ts = ts} {a = a} d) = one_again n c ts a (again d)
again {n = n} (more c o {ts = ts} {us = us} {a = a} {b = b} j d e) = more_again n c o ts us a b j (again d) (again e)
again (negated {n = n} {ts = ts} {a = a} d) = negated_again n ts a (again d)
again {n = n} (plain {ts = ts} d) = λ rest h. negation_plain (deeper n) (ts ++ rest) (head_append no_bang ts rest (sentence_opens d)) ∙ again d rest h
again {n = n} (alone {ts = ts} {a = a} d) = alone_again n ts a (again d)
again {n = n} (compared o {ts = ts} {us = us} {a = a} {b = b} j d e) = compared_again n o ts us a b j (again d) (again e)
again (minus {n = n} {ts = ts} {a = a} d) = minus_again n ts a (again d)
again {n = n} (unsigned {ts = ts} d) = λ rest h. signed_plain (deeper n) (ts ++ rest) (head_append item_head ts rest (sentence_opens d)) ∙ again d rest h
again {n = n} (number k) = λ rest h. item_number n (deeper n) k rest
again {n = n} (text s) = λ rest h. item_text (deeper n) s rest
again {n = n} (property s) = λ rest h. item_property (deeper n) s rest
again (call f (group {n = n} {ts = ts} {a = a} d)) = λ rest h. item_call n f (token.Open ∷ ts ++ token.Close ∷ []) a rest (group_again n ts a (again d) rest)
again (grouped (group {n = n} {ts = ts} {a = a} d)) = λ rest h. item_group n ((ts ++ token.Close ∷ []) ++ rest) a rest (group_again n ts a (again d) rest)
again (group {n = n} {ts = ts} {a = a} d) = λ rest h. group_again n ts a (again d) rest

-- a sentence is read, whatever follows that can't go on with it
pub spelled_read : (n : ℕ) (s : Sort) (ts rest : List Kind) (a : Expr) → Spells n s ts a → Stops (goes_on s) rest → sort_at (deeper n) s (ts ++ rest) ≡ Ok (a, rest)
spelled_read n s ts rest a d h = done n s ts a (again d) rest h
