-- The words of a phrase whose equal words share a leaf.
use Rattle.std.proofs.Common.{◌≡◌, inl, inr, ℕ, zero, suc, Bool, true, ◌&&◌, List, [], ◌∷◌, ◌++◌, map, length, get_or, slice_get, Option, Some, refl, sym, ap, ◌∙◌, subst}
use Rattle.std.specs.List.{list_all}
use Rattle.std.proofs.lemmas.Bool.{cases_Bool, false≢true, false_from_ne_true, and_from, and_parts}
use Rattle.std.proofs.lemmas.List.{map-append}
use Rattle.std.proofs.lemmas.List.Folds.{list_all-append}
use Rattle.phrase_match.specs.Turns.{in_turn}
use Rattle.id_iters.specs.Entries.{phrase_has}
use Rattle.id_iters.specs.Held.{Held}
use Rattle.id_iters.specs.Leaves.{has_word, list_names, phrase_ids, word_entries}
use Rattle.id_iters.specs.declared.leaf.Leaf.{Leaf}
use Rattle.id_iters.specs.declared.list_name.ListName.{ListName}
use Rattle.id_iters.specs.declared.list_name.ListName.TheVariants as names
use Rattle.id_iters.specs.declared.phrase.PhraseIter.{PhraseIter}
use Rattle.id_iters.proofs.PhraseLaws.{phrase_needs}
use Rattle.query_plan.specs.Phrases.{AreOfWords}

-- ---- leaves that are read by their places

get_more : {X : Type 0} (xs : List X) (one x : X) (at : ℕ) → slice_get xs at ≡ Some x → slice_get (xs ++ one ∷ []) at ≡ Some x
get_more [] one x at h = absurd (cc (h))
get_more (y ∷ xs) one x zero h = h
get_more (y ∷ xs) one x (suc at) h = get_more xs one x at h

get_last : {X : Type 0} (xs : List X) (one : X) → slice_get (xs ++ one ∷ []) (length xs) ≡ Some one
get_last [] one = refl
get_last (x ∷ xs) one = get_last xs one

all_get_more : {X W : Type 0} (f : W → X) (xs : List X) (one : X) (order : List ℕ) (words : List W) → map (slice_get xs) order ≡ map (λ w. Some (f w)) words
    → map (slice_get (xs ++ one ∷ [])) order ≡ map (λ w. Some (f w)) words
all_get_more f xs one [] [] h = refl
all_get_more f xs one [] (w ∷ words) h = absurd (cc (h))
all_get_more f xs one (at ∷ order) [] h = absurd (cc (h))
all_get_more {X} f xs one (at ∷ order) (w ∷ words) h =
    let first : slice_get xs at ≡ Some (f w) = cc (h) in
    let rest : map (slice_get xs) order ≡ map (λ w. Some (f w)) words = cc (h) in
    ap (λ (x : Option X). x ∷ map (slice_get (xs ++ one ∷ [])) order) (get_more xs one (f w) at first)
    ∙ ap (λ (more : List (Option X)). Some (f w) ∷ more) (all_get_more f xs one order words rest)

mapped_at : {X Y : Type 0} (f : X → List Y) (xs : List X) (at : ℕ) (x : X) → slice_get xs at ≡ Some x → get_or (map f xs) at [] ≡ f x
mapped_at f [] at x h = absurd (cc (h))
mapped_at f (y ∷ xs) zero x h = let same : y ≡ x = cc (h) in ap f same
mapped_at f (y ∷ xs) (suc at) x h = mapped_at f xs at x h

turns_are : {X Y W : Type 0} (f : X → List Y) (g : W → X) (xs : List X) (order : List ℕ) (words : List W) → map (slice_get xs) order ≡ map (λ w. Some (g w)) words
    → in_turn (map f xs) order ≡ map f (map g words)
turns_are f g xs [] [] h = refl
turns_are f g xs [] (w ∷ words) h = absurd (cc (h))
turns_are f g xs (at ∷ order) [] h = absurd (cc (h))
turns_are {X} {Y} f g xs (at ∷ order) (w ∷ words) h =
    let first : slice_get xs at ≡ Some (g w) = cc (h) in
    let rest : map (slice_get xs) order ≡ map (λ w. Some (g w)) words = cc (h) in
    ap (λ (ys : List Y). ys ∷ in_turn (map f xs) order) (mapped_at f xs at (g w) first)
    ∙ ap (λ (more : List (List Y)). f (g w) ∷ more) (turns_are f g xs order words rest)

-- ---- the loop over the words

names_more : (leaves : List Leaf) (leaf : Leaf) → list_names (leaves ++ leaf ∷ []) ≡ list_names leaves ++ leaf.list ∷ []
names_more leaves leaf = map-append (λ (l : Leaf). l.list) leaves (leaf ∷ [])

words_more : {X : Type 0} (f : List ℕ → X) (words : List (List ℕ)) (word : List ℕ) → map f (words ++ word ∷ []) ≡ map f words ++ f word ∷ []
words_more f words word = map-append f words (word ∷ [])

all_before : (test : ListName → Bool) (words : List (List ℕ)) (word : List ℕ) → list_all test (map (λ w. names.Word w) (words ++ word ∷ [])) ≡ true
    → (list_all test (map (λ w. names.Word w) words) ≡ true) × (test (names.Word word) ≡ true)
all_before test words word h =
    let parts = and_parts (list_all test (map (λ w. names.Word w) words)) (test (names.Word word) && true)
    (sym (ap (list_all test) (words_more (λ w. names.Word w) words word) ∙ list_all-append test (map (λ w. names.Word w) words) (names.Word word ∷ [])) ∙ h) in
    (parts.0, (and_parts (test (names.Word word)) true parts.1).0)

pub none_of_words : AreOfWords [] [] []
none_of_words = record { turns = refl; among = λ test h. refl }

-- a word that has a leaf
pub word_again : (words : List (List ℕ)) (leaves : List Leaf) (order : List ℕ) (word : List ℕ) (place : ℕ) → AreOfWords words leaves order
    → slice_get (list_names leaves) place ≡ Some (names.Word word) → AreOfWords (words ++ word ∷ []) leaves (order ++ place ∷ [])
word_again words leaves order word place are there = record {
  turns =
      map-append (slice_get (list_names leaves)) order (place ∷ [])
      ∙ ap (λ (xs : List (Option ListName)). xs ++ slice_get (list_names leaves) place ∷ []) are.turns
      ∙ ap (λ (x : Option ListName). map (λ w. Some (names.Word w)) words ++ x ∷ []) there
      ∙ sym (words_more (λ w. Some (names.Word w)) words word);
  among = λ test h. are.among test (all_before test words word h).0;
}

-- a word that gets one
pub word_more : (words : List (List ℕ)) (leaves more : List Leaf) (order : List ℕ) (word : List ℕ) (leaf : Leaf) → AreOfWords words leaves order
    → leaf.list ≡ names.Word word → more ≡ leaves ++ leaf ∷ [] → AreOfWords (words ++ word ∷ []) more (order ++ length leaves ∷ [])
word_more words leaves more order word leaf are is_word is_more = subst (λ (ls : List Leaf). AreOfWords (words ++ word ∷ []) ls (order ++ length leaves ∷ [])) (sym is_more) (record {
  turns =
      map-append (slice_get (list_names (leaves ++ leaf ∷ []))) order (length leaves ∷ [])
      ∙ ap (λ (ns : List ListName). map (slice_get ns) order ++ slice_get ns (length leaves) ∷ []) (names_more leaves leaf)
      ∙ ap (λ (xs : List (Option ListName)). xs ++ slice_get (list_names leaves ++ leaf.list ∷ []) (length leaves) ∷ [])
      (all_get_more (λ w. names.Word w) (list_names leaves) leaf.list order words are.turns)
      ∙ ap (λ (x : Option ListName). map (λ w. Some (names.Word w)) words ++ x ∷ []) (last_is leaves ∙ ap (λ (n : ListName). Some n) is_word)
      ∙ sym (words_more (λ w. Some (names.Word w)) words word);
  among = λ test h.
      let parts = all_before test words word h in
      ap (list_all test) (names_more leaves leaf)
      ∙ list_all-append test (list_names leaves) (leaf.list ∷ [])
      ∙ and_from (list_all test (list_names leaves)) (test leaf.list && true) (are.among test parts.0)
      (and_from (test leaf.list) true (ap test is_word ∙ parts.1) refl);
})
  where
    last_is : (ls : List Leaf) → slice_get (list_names ls ++ leaf.list ∷ []) (length ls) ≡ Some leaf.list
    last_is [] = refl
    last_is (l ∷ ls) = last_is ls

-- ---- what the phrase has

-- A phrase has what its words have, each with its own list.
pub phrase_has_words : (held : Held) (phrase : PhraseIter) (words : List (List ℕ)) → AreOfWords words phrase.words phrase.order → (id : ℕ)
    → phrase_ids held phrase id ≡ phrase_has phrase.fields phrase.slop phrase.in_order (map (word_entries held) (map (λ w. names.Word w) words)) id
phrase_has_words held phrase words are id =
    ap (λ lists. there && phrase_has phrase.fields phrase.slop phrase.in_order lists id)
    (turns_are (word_entries held) (λ w. names.Word w) (list_names phrase.words) phrase.order words are.turns)
    ∙ elim (cases_Bool there) [
      | inl y ↦ ap (λ b. b && found) y
      | inr n ↦ ap (λ b. b && found) n ∙ sym (phrase_needs held phrase.fields phrase.slop phrase.in_order id (map (λ w. names.Word w) words)
          (false_from_ne_true (list_all (λ name. has_word held name id) (map (λ w. names.Word w) words))
          (λ all. false≢true (sym n ∙ are.among (λ name. has_word held name id) all))))
    ]
  where
    there : Bool
    there = list_all (λ name. has_word held name id) (list_names phrase.words)

    found : Bool
    found = phrase_has phrase.fields phrase.slop phrase.in_order (map (word_entries held) (map (λ w. names.Word w) words)) id
