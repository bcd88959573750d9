-- Going from word to word of those that have lists.
use Rattle.std.proofs.Common.{◌≡◌, ℕ, Bool, true, ◌&&◌, List, [], ◌∷◌, ◌++◌, append-nil, append_assoc, map, filter, find, Option, Some, None, refl, sym, ap, ◌∙◌, subst, inl, inr}
use Rattle.std.specs.Cmp.{tied_itself}
use Rattle.std.specs.Cmp.Lexicographic.{nat_list_cmp_total}
use Rattle.std.specs.List.{AllByRecursion}
use Rattle.std.specs.List.Sorted.{IsStrictlySortedBy}
use Rattle.std.specs.Ordering.{is_lt, ordering_reverse}
use Rattle.std.specs.declared.cmp.Ordering.{Ordering}
use Rattle.std.specs.declared.cmp.Ordering.TheVariants.{Less, Equal, Greater}
use Rattle.std.proofs.lemmas.Bool.{cases_Bool, and_parts, and_right, false≢true}
use Rattle.std.proofs.lemmas.Map.Keys.{sorted_head, sorted_tail}
use Rattle.ft_meaning.specs.Holds.{begins}
use Rattle.inverted_list.specs.Names.{NamesRise, is_after, next_name, word_cmp}
use Rattle.query_plan.specs.Sought.{words_with}

-- ---- words

abbrev comes : List ℕ → Option (List ℕ) → List ℕ → Bool
comes text after word = begins text word && is_after after word

-- the words that begin with a text and are above another one
abbrev pub words_after : List ℕ → Option (List ℕ) → List (List ℕ) → List (List ℕ)
words_after text after words = filter (comes text after) words

lt_is : (o : Ordering) → is_lt o ≡ true → o ≡ Less
lt_is Less h = refl
lt_is Equal h = absurd (false≢true h)
lt_is Greater h = absurd (false≢true h)

less_after : (after : Option (List ℕ)) (word other : List ℕ) → is_after after word ≡ true → word_cmp word other ≡ Less → is_after after other ≡ true
less_after None word other above less = refl
less_after (Some low) word other above less = ap is_lt (nat_list_cmp_total.trans low word other (lt_is (word_cmp low word) above) less)

-- above a word that comes, those that come are those above it
same_behind : (text : List ℕ) (after : Option (List ℕ)) (word : List ℕ) (words : List (List ℕ)) → is_after after word ≡ true
    → AllByRecursion (λ other. word_cmp word other ≡ Less) words → filter (comes text after) words ≡ filter (comes text (Some word)) words
same_behind text after word [] above behind = refl
same_behind text after word (other ∷ words) above behind =
    let one = less_after after word other above behind.0 in
    elim (cases_Bool (begins text other)) [
      | inl y ↦ rw (y, one, behind.0) (ap (λ rest. other ∷ rest) (same_behind text after word words above behind.1))
      | inr n ↦ rw n (same_behind text after word words above behind.1)
    ]

found_among : (P : List ℕ → Type 0) (test : List ℕ → Bool) (words : List (List ℕ)) (word : List ℕ) → AllByRecursion P words → find test words ≡ Some word → P word
found_among P test [] word all found = absurd (cc (found))
found_among P test (other ∷ words) word all found =
    elim (cases_Bool (test other)) [
      | inl y ↦
          let here : Some other ≡ Some word = rw y at found in
          let same : other ≡ word = cc (here) in
          subst P same all.0
      | inr n ↦
          let rest : find test words ≡ Some word = rw n at found in
          found_among P test words word all.1 rest
    ]

next_of : (text : List ℕ) (after : Option (List ℕ)) (words : List (List ℕ)) (word : List ℕ) → IsStrictlySortedBy word_cmp words
    → find (comes text after) words ≡ Some word → filter (comes text after) words ≡ word ∷ filter (comes text (Some word)) words
next_of text after [] word rise found = absurd (cc (found))
next_of text after (first ∷ words) word rise found =
    elim (cases_Bool (comes text after first)) [
      | inl y ↦
          let here : Some first ≡ Some word = rw y at found in
          let same : first ≡ word = cc (here) in
          subst (λ (w : List ℕ). filter (comes text after) (first ∷ words) ≡ w ∷ filter (comes text (Some w)) (first ∷ words)) same
          (rw (y, and_right (begins text first) (is_lt (word_cmp first first)) (ap is_lt (tied_itself nat_list_cmp_total first)))
          (ap (λ rest. first ∷ rest) (same_behind text after first words (and_parts (begins text first) (is_after after first) y).1 (sorted_head word_cmp first words rise))))
      | inr n ↦
          let rest : find (comes text after) words ≡ Some word = rw n at found in
          let before : word_cmp first word ≡ Less = found_among (λ w. word_cmp first w ≡ Less) (comes text after) words word (sorted_head word_cmp first words rise) rest in
          let behind : word_cmp word first ≡ Greater = nat_list_cmp_total.antisymm word first ∙ ap ordering_reverse before in
          rw (n, and_right (begins text first) (is_lt (word_cmp word first)) (ap is_lt behind))
          (next_of text after words word (sorted_tail word_cmp first words rise) rest)
    ]

none_of : (test : List ℕ → Bool) (words : List (List ℕ)) → find test words ≡ None → filter test words ≡ []
none_of test [] none = refl
none_of test (word ∷ words) none =
    elim (cases_Bool (test word)) [
      | inl y ↦
          let here : Some word ≡ None = rw y at none in
          absurd (cc (here))
      | inr n ↦
          let rest : find test words ≡ None = rw n at none in
          rw n (none_of test words rest)
    ]

module _ (words : List (List ℕ)) (text : List ℕ) where
  pub next_after : (after : Option (List ℕ)) (word : List ℕ) → NamesRise words → next_name words text after ≡ Some word
      → words_after text after words ≡ word ∷ words_after text (Some word) words
  next_after after word rise found = next_of text after words word rise found

  pub none_after : (after : Option (List ℕ)) → next_name words text after ≡ None → words_after text after words ≡ []
  none_after after none = none_of (comes text after) words none

  -- at first all words with the text are to come
  pub all_after : words_after text None words ≡ words_with text words
  all_after = all words
    where
      all : (ws : List (List ℕ)) → filter (comes text None) ws ≡ filter (begins text) ws
      all [] = refl
      all (word ∷ ws) =
          elim (cases_Bool (begins text word)) [
            | inl y ↦ rw y (ap (λ rest. word ∷ rest) (all ws))
            | inr n ↦ rw n (all ws)
          ]

-- ---- names that are gathered

-- what was gathered and what is to come are all together
pub gathered_more : {X Y : Type 0} (name : X → Y) (old new : List Y) (word : X) (left rest : List X) (all : List Y) → old ++ map name left ≡ all → left ≡ word ∷ rest → new ≡ old ++ name word ∷ []
    → new ++ map name rest ≡ all
gathered_more name old new word left rest all before is more =
    ap (λ xs. xs ++ map name rest) more ∙ append_assoc old (name word ∷ []) (map name rest) ∙ (ap (λ xs. old ++ map name xs) (sym is) ∙ before)

pub gathered_all : {X Y : Type 0} (name : X → Y) (old : List Y) (left : List X) (all : List Y) → old ++ map name left ≡ all → left ≡ [] → old ≡ all
gathered_all name old left all before none = sym (append-nil old) ∙ (ap (λ xs. old ++ map name xs) (sym none) ∙ before)
