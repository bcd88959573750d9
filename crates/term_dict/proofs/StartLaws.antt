-- The least word with a prefix is the first one from a start on, if any has it.
use Rattle.std.proofs.Common.{◌≡◌, ℕ, Bool, true, false, ◌&&◌, List, [], ◌∷◌, ◌++◌, drop, length, Option, None, Some, find, eqb, inl, inr, refl, sym, ap, subst, ◌∙◌, arith}
use Rattle.std.specs.BTreeMap.Range.{is_from_start, range_contains, entries_between}
use Rattle.std.specs.Cmp.{nat_cmp_total, tied_itself, alike_right}
use Rattle.std.specs.Cmp.Lexicographic.{nat_list_cmp_total}
use Rattle.std.specs.List.{AllByRecursion, starts_with}
use Rattle.std.specs.List.Sorted.{IsStrictlySortedBy}
use Rattle.std.specs.Map.{keys_of}
use Rattle.std.specs.Ordering.{is_lt, is_le, ordering_reverse}
use Rattle.std.specs.Range.Bound.{bound_map}
use Rattle.std.specs.declared.alloc.Global.{Global}
use Rattle.std.specs.declared.cmp.Ordering.{Ordering}
use Rattle.std.specs.declared.cmp.Ordering.TheVariants.{Less, Equal, Greater}
use Rattle.std.specs.declared.ops.Bound.{Bound}
use Rattle.std.specs.declared.ops.Bound.TheVariants.{Included, Excluded, Unbounded}
use Rattle.std.specs.declared.vec.Vec.{Vec}
use Rattle.std.proofs.lemmas.Bool.Decides.{Decides-eqb}
use Rattle.std.proofs.lemmas.Bool.{cases_Bool, false≢true}
use Rattle.std.proofs.lemmas.Map.Keys.{sorted_head, sorted_tail}
use Rattle.std.proofs.lemmas.Slice.Eq.{starts_is}
use Rattle.term_dict.specs.Rows.{lists_of}
use Rattle.term_dict.specs.Starts.{behind, start_of, words_from, first_with}
use Rattle.inverted_list.specs.Names.{is_after, word_cmp}
use Rattle.term_dict.specs.Terms.{Lists, WordsRise, next_word, rows_after}
use Rattle.term_dict.proofs.TermLaws.{Row, key_cmp, word_at}

pub lt_is : (o : Ordering) → is_lt o ≡ true → o ≡ Less
lt_is Less h = refl
lt_is Equal h = absurd (false≢true h)
lt_is Greater h = absurd (false≢true h)

lt_le : (o : Ordering) → is_lt o ≡ true → is_le o ≡ true
lt_le o h = ap is_le (lt_is o h)

and_true : (b : Bool) → (b && true) ≡ b
and_true true = refl
and_true false = refl

-- a prefix is not above what it begins
begins_below : (p rest : List ℕ) → is_le (word_cmp p (p ++ rest)) ≡ true
begins_below [] [] = refl
begins_below [] (y ∷ rest) = refl
begins_below (x ∷ p) rest = rw (tied_itself nat_cmp_total x) (begins_below p rest)

-- what lies between a prefix and a word with it has it
between : (p v rest : List ℕ) → is_le (word_cmp p v) ≡ true → is_le (word_cmp v (p ++ rest)) ≡ true → v ≡ p ++ drop (length p) v
between [] v rest h g = refl
between (x ∷ p) [] rest h g = absurd (false≢true h)
between (x ∷ p) (y ∷ v) rest h g = grind (arith, between p v rest, h, g)

-- what begins with a prefix, in two ways of saying it
has_prefix : (w p : List ℕ) → starts_with eqb w p ≡ true → w ≡ p ++ drop (length p) w
has_prefix w p h = (starts_is Decides-eqb w p (starts_with eqb w p) refl).0 h

prefix_le : (w p : List ℕ) → starts_with eqb w p ≡ true → is_le (word_cmp p w) ≡ true
prefix_le w p h = subst (λ v. is_le (word_cmp p v) ≡ true) (sym (has_prefix w p h)) (begins_below p (drop (length p) w))

-- a word from the prefix on has it if one behind it does
between_starts : (p v w : List ℕ) → is_le (word_cmp p v) ≡ true → word_cmp v w ≡ Less → starts_with eqb w p ≡ true → starts_with eqb v p ≡ true
between_starts p v w h g s =
    (starts_is Decides-eqb v p (starts_with eqb v p) refl).1 (drop (length p) v)
    (between p v (drop (length p) w) h (subst (λ u. is_le (word_cmp v u) ≡ true) (has_prefix w p s) (ap is_le g)))

-- so none of those behind one without it has it
none_behind : (p v : List ℕ) (after : Option (List ℕ)) (words : List (List ℕ)) → is_le (word_cmp p v) ≡ true → starts_with eqb v p ≡ false
    → AllByRecursion (λ w. word_cmp v w ≡ Less) words → find (λ word. starts_with eqb word p && is_after after word) words ≡ None
none_behind p v after [] h n above = refl
none_behind p v after (w ∷ words) h n above =
    elim (cases_Bool (starts_with eqb w p)) [
      | inl s ↦ absurd (false≢true (sym n ∙ between_starts p v w h above.0 s))
      | inr m ↦ rw m (none_behind p v after words h n above.1)
    ]

-- a word behind one that is not below the prefix is not below it
le_lt : (a p w : List ℕ) (r : Ordering) → word_cmp a p ≡ r → is_lt r ≡ false → is_lt (word_cmp a w) ≡ true → is_le (word_cmp p w) ≡ true
le_lt a p w Less e n h = absurd (false≢true (sym n))
le_lt a p w Equal e n h = rw (← nat_list_cmp_total.congr a p w e) (lt_le (word_cmp a w) h)
le_lt a p w Greater e n h =
    ap is_le (nat_list_cmp_total.trans p a w (nat_list_cmp_total.antisymm p a ∙ ap ordering_reverse e) (lt_is (word_cmp a w) h))

-- a word that is not below the prefix is behind one that is
lt_behind : (a p w : List ℕ) (r : Ordering) → word_cmp p w ≡ r → is_le r ≡ true → is_lt (word_cmp a p) ≡ true → is_lt (word_cmp a w) ≡ true
lt_behind a p w Less e l h = ap is_lt (nat_list_cmp_total.trans a p w (lt_is (word_cmp a p) h) e)
lt_behind a p w Equal e l h = ap is_lt (sym (alike_right nat_list_cmp_total p w a e)) ∙ h
lt_behind a p w Greater e l h = absurd (false≢true l)

-- a word from the start on is not below the prefix
from_prefix : (p w : List ℕ) (after : Option (List ℕ)) → is_from_start word_cmp (start_of p after) w ≡ true → is_le (word_cmp p w) ≡ true
from_prefix p w None h = h
from_prefix p w (Some a) h =
    elim (cases_Bool (is_lt (word_cmp a p))) [
      | inl y ↦ rw y at h
      | inr n ↦ le_lt a p w (word_cmp a p) refl n (rw n at h)
    ]

-- and one with the prefix is above `after`
from_after : (p w : List ℕ) (after : Option (List ℕ)) → is_from_start word_cmp (start_of p after) w ≡ true → starts_with eqb w p ≡ true → is_after after w ≡ true
from_after p w None h s = refl
from_after p w (Some a) h s =
    elim (cases_Bool (is_lt (word_cmp a p))) [
      | inl y ↦ lt_behind a p w (word_cmp p w) refl (prefix_le w p s) y
      | inr n ↦ rw n at h
    ]

not_after : (p w : List ℕ) (after : Option (List ℕ)) → is_from_start word_cmp (start_of p after) w ≡ false → is_le (word_cmp p w) ≡ true → is_after after w ≡ false
not_after p w None h l = absurd (false≢true (sym h ∙ l))
not_after p w (Some a) h l =
    elim (cases_Bool (is_lt (word_cmp a p))) [
      | inl y ↦ absurd (false≢true (sym (rw y at h) ∙ l))
      | inr n ↦ rw n at h
    ]

-- a word before the start is not looked for
before_start : (p w : List ℕ) (after : Option (List ℕ)) → is_from_start word_cmp (start_of p after) w ≡ false → (starts_with eqb w p && is_after after w) ≡ false
before_start p w after h =
    elim (cases_Bool (starts_with eqb w p)) [
      | inl s ↦ rw s (not_after p w after h (prefix_le w p s))
      | inr n ↦ rw n refl
    ]

abbrev is_sought : List ℕ → Option (List ℕ) → List ℕ → Bool
is_sought p after w = starts_with eqb w p && is_after after w

-- the search among words that rise
found_from : (p : List ℕ) (after : Option (List ℕ)) (words : List (List ℕ)) → IsStrictlySortedBy word_cmp words
    → find (is_sought p after) words ≡ first_with p (words_from (start_of p after) words)
found_from p after [] rise = refl
found_from p after (w ∷ words) rise =
    elim (cases_Bool (is_from_start word_cmp (start_of p after) w)) [
      | inl f ↦ rw f (elim (cases_Bool (starts_with eqb w p)) [
        | inl s ↦ rw (s, from_after p w after f s) refl
        | inr n ↦ rw n (none_behind p w after words (from_prefix p w after f) n (sorted_head word_cmp w words rise))
      ])
      | inr b ↦ rw (b, before_start p w after b) (found_from p after words (sorted_tail word_cmp w words rise))
    ]

-- a range of the map has the words from its start on
in_range : (start : Bound (Vec ℕ Global)) (key : Vec ℕ Global) → range_contains key_cmp start Unbounded key ≡ is_from_start word_cmp (bound_map (λ k. k.items) start) key.items
in_range (Included k) key = and_true (is_le (key_cmp k key))
in_range (Excluded k) key = and_true (is_lt (key_cmp k key))
in_range Unbounded key = refl

-- behind a word there are those above it
behind_is : (after : Option (List ℕ)) (w : List ℕ) → is_from_start word_cmp (behind after) w ≡ is_after after w
behind_is None w = refl
behind_is (Some other) w = refl

module _ {P : Type 0} where
  pub next_found : (p : List ℕ) (after : Option (List ℕ)) (lists : Lists P) → WordsRise lists
      → next_word lists p after ≡ first_with p (words_from (start_of p after) (keys_of lists))
  next_found p after lists rise = found_from p after (keys_of lists) rise

  -- keys of the map that rise are words that rise
  all_words : (word : List ℕ) (rows : List (Row P)) → AllByRecursion (λ key. word_at word key ≡ Less) (keys_of rows) → AllByRecursion (λ other. word_cmp word other ≡ Less) (keys_of (lists_of rows))
  all_words word [] h = tt
  all_words word (row ∷ rows) h = (h.0, all_words word rows h.1)

  pub words_rise : (rows : List (Row P)) → IsStrictlySortedBy key_cmp (keys_of rows) → WordsRise (lists_of rows)
  unfolding IsStrictlySortedBy
  words_rise [] h = tt
  words_rise (row ∷ rows) h = (all_words row.0.items rows h.0, words_rise rows h.1)

  pub words_from-rows : (start : Bound (Vec ℕ Global)) (rows : List (Row P))
      → words_from (bound_map (λ k. k.items) start) (keys_of (lists_of rows)) ≡ keys_of (lists_of (entries_between key_cmp start Unbounded rows))
  words_from-rows start [] = refl
  words_from-rows start (row ∷ rows) =
      elim (cases_Bool (is_from_start word_cmp (bound_map (λ k. k.items) start) row.0.items)) [
        | inl y ↦ rw (in_range start row.0, y) (ap (λ rest. row.0.items ∷ rest) (words_from-rows start rows))
        | inr n ↦ rw (in_range start row.0, n) (words_from-rows start rows)
      ]

  -- and their rows, where a walk begins behind a word
  pub rows_behind : (start : Bound (Vec ℕ Global)) (after : Option (List ℕ)) (rows : List (Row P)) → bound_map (λ k. k.items) start ≡ behind after
      → lists_of (entries_between key_cmp start Unbounded rows) ≡ rows_after after (lists_of rows)
  rows_behind start after [] e = refl
  rows_behind start after (row ∷ rows) e =
      let t = in_range start row.0 ∙ (ap (λ b. is_from_start word_cmp b row.0.items) e ∙ behind_is after row.0.items) in
      elim (cases_Bool (is_after after row.0.items)) [
        | inl y ↦ rw (t, y) (ap (λ rest. (row.0.items, row.1) ∷ rest) (rows_behind start after rows e))
        | inr n ↦ rw (t, n) (rows_behind start after rows e)
      ]
