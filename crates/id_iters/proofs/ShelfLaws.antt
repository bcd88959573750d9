-- The lists and live ids of the tests' index meet the conditions of an index.
use Rattle.std.proofs.Common.{◌≡◌, ◌≢◌, inl, inr, ℕ, ◌≤◌, ◌+◌, Bool, true, false, cond, not, ◌||◌, eqb, leb, zero, suc, List, [], ◌∷◌, ◌++◌, Some, None, refl, sym, ap, ◌∙◌, subst, arith}
use Rattle.std.specs.Prelude.{nat_eq}
use Rattle.std.specs.List.{All, list_any, list_all}
use Rattle.std.specs.Map.{lookup}
use Rattle.std.specs.Str.{bytes_eq}
use Rattle.std.proofs.lemmas.Bool.{false≢true, eqb-true, leb-true}
use Rattle.std.proofs.lemmas.Bool.Decides.{eqb_tells}
use Rattle.std.proofs.lemmas.Slice.Eq.{bytes_eq-Decides}
use Rattle.inverted_list.specs.Listing.{Listing}
use Rattle.phrase_match.specs.Phrase.{has, rises}
use Rattle.posting_block.specs.declared.hits.NumHit.{NumHit}
use Rattle.posting_block.specs.declared.hits.TagHit.{TagHit}
use Rattle.posting_block.specs.declared.hits.TextHit.{TextHit}
use Rattle.id_iters.specs.Entries.{codes_at, hit_codes}
use Rattle.id_iters.specs.Held.{AreLists, entries_of}
use Rattle.id_iters.specs.Sample.{is_marked, word_of, held_of, entries_a, entries_b}
use Rattle.id_iters.specs.Least.{NoneBetween, NoneFrom}
use Rattle.id_iters.proofs.LeastLaws.{and_first, and_second, none_here, none_joined, none_step}

-- each hit's codes rise
abbrev pub all_rise : List (ℕ × TextHit) → Bool
all_rise es = list_all (λ e. rises e.1.places) es

-- no code is in a hit of each at one id
abbrev pub none_shared : List ℕ → List ℕ → Bool
none_shared codes others = list_all (λ code. not (has others code)) codes

abbrev pub are_apart : List (ℕ × TextHit) → List (ℕ × TextHit) → Bool
are_apart es fs = list_all (λ e. none_shared e.1.places (codes_at fs e.0)) es

one_rises : (es : List (ℕ × TextHit)) (id : ℕ) → all_rise es ≡ true → rises (codes_at es id) ≡ true
one_rises [] id h = refl
one_rises (e ∷ es) id h =
    elim (eqb_tells id e.0) [
      | inl i ↦ ap (λ b. rises (hit_codes (cond b (Some e.1) (lookup (nat_eq id) es)))) i.0 ∙ and_first (rises e.1.places) _ h
      | inr i ↦ ap (λ b. rises (hit_codes (cond b (Some e.1) (lookup (nat_eq id) es)))) i.0 ∙ one_rises es id (and_second (rises e.1.places) _ h)
    ]

not_there : (codes others : List ℕ) (code : ℕ) → none_shared codes others ≡ true → has codes code ≡ true → has others code ≡ false
not_there [] others code h k = absurd (false≢true k)
not_there (c ∷ codes) others code h k = pick (eqb c code) refl k (λ m. not_there codes others code (and_second (not (has others c)) _ h) m)
  where
    denied : (b : Bool) → not b ≡ true → b ≡ false
    denied true e = absurd (false≢true e)
    denied false e = refl

    pick : (b : Bool) → eqb c code ≡ b → (b || has codes code) ≡ true → (has codes code ≡ true → has others code ≡ false) → has others code ≡ false
    pick true e m again = ap (has others) (sym (eqb-true c code e)) ∙ denied (has others c) (and_first (not (has others c)) _ h)
    pick false e m again = again m

two_apart : (es fs : List (ℕ × TextHit)) (id code : ℕ) → are_apart es fs ≡ true → has (codes_at es id) code ≡ true → has (codes_at fs id) code ≡ false
two_apart [] fs id code h k = absurd (false≢true k)
two_apart (e ∷ es) fs id code h k =
    elim (eqb_tells id e.0) [
      | inl i ↦
          let here : has e.1.places code ≡ true = sym (ap (λ b. has (hit_codes (cond b (Some e.1) (lookup (nat_eq id) es))) code) i.0) ∙ k in
          ap (λ n. has (codes_at fs n) code) i.1 ∙ not_there e.1.places (codes_at fs e.0) code (and_first (none_shared e.1.places (codes_at fs e.0)) _ h) here
      | inr i ↦
          let more : has (codes_at es id) code ≡ true = sym (ap (λ b. has (hit_codes (cond b (Some e.1) (lookup (nat_eq id) es))) code) i.0) ∙ k in
          two_apart es fs id code (and_second (none_shared e.1.places (codes_at fs e.0)) _ h) more
    ]

-- what passes one test passes another
among : (p : ℕ → Bool) (ns : List ℕ) (id : ℕ) → list_all p ns ≡ true → list_any (λ n. eqb n id) ns ≡ true → p id ≡ true
among p [] id h k = absurd (false≢true k)
among p (n ∷ ns) id h k = pick (eqb n id) refl k (λ m. among p ns id (and_second (p n) _ h) m)
  where
    pick : (b : Bool) → eqb n id ≡ b → (b || list_any (λ m. eqb m id) ns) ≡ true → (list_any (λ m. eqb m id) ns ≡ true → p id ≡ true) → p id ≡ true
    pick true e m again = ap p (sym (eqb-true n id e)) ∙ and_first (p n) _ h
    pick false e m again = again m

pub marked_low : (id : ℕ) → is_marked id ≡ true → 1 ≤ id
marked_low id h = leb-true 1 id (among (leb 1) (1 ∷ 2 ∷ 4 ∷ 5 ∷ 6 ∷ 7 ∷ 8 ∷ 12 ∷ []) id refl h)

pub marked_high : (id : ℕ) → is_marked id ≡ true → id ≤ 12
marked_high id h = leb-true id 12 (among (λ n. leb n 12) (1 ∷ 2 ∷ 4 ∷ 5 ∷ 6 ∷ 7 ∷ 8 ∷ 12 ∷ []) id refl h)

-- nothing is live from 13 on
pub none_marked : (id : ℕ) → 13 ≤ id → is_marked id ≡ false
none_marked id h = pick (is_marked id) refl
  where
    pick : (b : Bool) → is_marked id ≡ b → b ≡ false
    pick true e = absurd (omega (arith, h, marked_high id e))
    pick false e = refl

module _ (a b : Listing TextHit) (tags : Listing TagHit) (numbers : Listing NumHit) where
  word_rises : (word : List ℕ) (id : ℕ) → all_rise a.entries ≡ true → all_rise b.entries ≡ true → rises (codes_at (entries_of (word_of a b word)) id) ≡ true
  word_rises word id h k = pick (bytes_eq word (97 ∷ [])) (bytes_eq word (98 ∷ []))
    where
      pick : (p q : Bool) → rises (codes_at (entries_of (cond p (Some a) (cond q (Some b) None))) id) ≡ true
      pick true q = one_rises a.entries id h
      pick false true = one_rises b.entries id k
      pick false false = refl

  words_apart : (word other : List ℕ) (id code : ℕ) → are_apart a.entries b.entries ≡ true → are_apart b.entries a.entries ≡ true → word ≢ other
      → has (codes_at (entries_of (word_of a b word)) id) code ≡ true → has (codes_at (entries_of (word_of a b other)) id) code ≡ false
  words_apart word other id code h k differ m =
      pick (bytes_eq word (97 ∷ [])) refl (bytes_eq word (98 ∷ [])) refl (bytes_eq other (97 ∷ [])) refl (bytes_eq other (98 ∷ [])) refl m
    where
      is : (x y : List ℕ) → bytes_eq x y ≡ true → x ≡ y
      is x y e = (bytes_eq-Decides x y).0 e

      pick : (p : Bool) → bytes_eq word (97 ∷ []) ≡ p → (q : Bool) → bytes_eq word (98 ∷ []) ≡ q
          → (r : Bool) → bytes_eq other (97 ∷ []) ≡ r → (s : Bool) → bytes_eq other (98 ∷ []) ≡ s
          → has (codes_at (entries_of (cond p (Some a) (cond q (Some b) None))) id) code ≡ true
          → has (codes_at (entries_of (cond r (Some a) (cond s (Some b) None))) id) code ≡ false
      pick true e q f true e' s f' n = absurd (differ (is word (97 ∷ []) e ∙ sym (is other (97 ∷ []) e')))
      pick true e q f false e' true f' n = two_apart a.entries b.entries id code h n
      pick true e q f false e' false f' n = refl
      pick false e true f true e' s f' n = two_apart b.entries a.entries id code k n
      pick false e true f false e' true f' n = absurd (differ (is word (98 ∷ []) f ∙ sym (is other (98 ∷ []) f')))
      pick false e true f false e' false f' n = refl
      pick false e false f r e' s f' n = absurd (false≢true n)

  pub are_lists : all_rise a.entries ≡ true → all_rise b.entries ≡ true → are_apart a.entries b.entries ≡ true → are_apart b.entries a.entries ≡ true
      → AreLists (held_of a b tags numbers)
  are_lists h k m n = record {
    above = λ id live. marked_low id live;
    below = λ id live. omega (arith, marked_high id live);
    rising = λ word id live. word_rises word id h k;
    apart = λ word other id live differ code there. words_apart word other id code m n differ there;
  }

pub shelf_are_lists : (a b : Listing TextHit) (tags : Listing TagHit) (numbers : Listing NumHit) → a.entries ≡ entries_a → b.entries ≡ entries_b
    → AreLists (held_of a b tags numbers)
shelf_are_lists a b tags numbers h k =
    are_lists a b tags numbers
    (ap all_rise h ∙ refl)
    (ap all_rise k ∙ refl)
    (ap (λ l. are_apart l b.entries) h ∙ ap (are_apart entries_a) k ∙ refl)
    (ap (λ l. are_apart l a.entries) k ∙ ap (are_apart entries_b) h ∙ refl)

-- two that were pushed
pub two_pushed : {X : Type 0} (P : X → Type 0) (x y : X) (none one two : List X) → none ≡ [] → one ≡ none ++ x ∷ [] → two ≡ one ++ y ∷ [] → P x → P y → All P two
two_pushed P x y none one two e f g p q =
    subst (λ (l : List _). All P l) (sym (g ∙ ap (λ l. l ++ y ∷ []) (f ∙ ap (λ l. l ++ x ∷ []) e))) (both P x y p q)
  where
    both : {X : Type 0} (P : X → Type 0) (x y : X) → P x → P y → All P (x ∷ y ∷ [])
    both P x y p q zero d l = p
    both P x y p q (suc zero) d l = q
    both P x y p q (suc (suc k)) d l = absurd (omega (arith, l))

-- where the look for a live id ends
pub one_more : (from id : ℕ) → NoneBetween is_marked from id → is_marked id ≡ false → NoneBetween is_marked from (id + 1)
one_more from id none e = none_step is_marked from id id none (none_here is_marked id) e

pub none_left : (from id : ℕ) → 13 ≤ id → NoneBetween is_marked from id → NoneFrom is_marked from
none_left from id h none = none_joined is_marked from id none (record { fails = λ n low. none_marked n (omega (arith, low, h)) })
