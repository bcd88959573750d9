-- What a phrase asks of the lists of its words.
use Rattle.std.proofs.Common.{◌≡◌, inl, inr, ℕ, zero, suc, ◌<◌, ◌≤◌, ◌+◌, Bool, true, false, cond, ◌&&◌, ◌||◌, List, [], ◌∷◌, Option, None, Some, map, length, get_or, slice_get, refl, sym, ap, ◌∙◌, subst, arith}
use Rattle.std.specs.Prelude.{nat_eq}
use Rattle.std.specs.List.{AllByRecursion, list_any, list_all}
use Rattle.std.proofs.lemmas.List.Elements.{recursion_from_All}
use Rattle.std.specs.Map.{lookup}
use Rattle.std.specs.Str.{bytes_eq}
use Rattle.std.proofs.lemmas.Bool.{false≢true}
use Rattle.std.proofs.lemmas.Bool.Decides.{eqb_tells}
use Rattle.std.proofs.lemmas.Slice.Eq.{bytes_eq-Decides}
use Rattle.ft_base.specs.declared.query.Fields.{Fields}
use Rattle.phrase_match.specs.Phrase.{rises, some_choice, fits, within}
use Rattle.phrase_match.specs.Places.{AllRise, AllEqualOrApart, AreEqualOrApart}
use Rattle.posting_block.specs.declared.hits.TextHit.{TextHit}
use Rattle.phrase_match.specs.Turns.{in_turn}
use Rattle.id_iters.specs.Entries.{has_entry, hit_codes, codes_at, field_of, places_in, looks_in, phrase_has, stand_in, stand_together}
use Rattle.id_iters.specs.Held.{Held, AreLists}
use Rattle.id_iters.specs.Least.{IsLeastAt, NoneFrom, NoneBetween}
use Rattle.id_iters.specs.Leaves.{has_word, list_names, phrase_ids, word_entries}
use Rattle.id_iters.specs.Places.{AllStandAt, StandAt}
use Rattle.id_iters.specs.declared.leaf.Leaf.{Leaf}
use Rattle.id_iters.specs.declared.list_name.ListName.{ListName}
use Rattle.id_iters.specs.declared.list_name.ListName.TheVariants as names
use Rattle.id_iters.specs.declared.phrase.PhraseIter.{PhraseIter}
use Rattle.id_iters.proofs.LeastLaws.{none_part, none_part_from, none_joined, none_longer, none_step, and_both, and_right, and_first}

-- ---- words that share lists

turn_map : {X Y : Type 0} (f : List X → List Y) → f [] ≡ [] → (lists : List (List X)) (at : ℕ) → get_or (map f lists) at [] ≡ f (get_or lists at [])
turn_map f none [] at = sym none
turn_map f none (xs ∷ lists) zero = refl
turn_map f none (xs ∷ lists) (suc at) = turn_map f none lists at

pub turns_map : {X Y : Type 0} (f : List X → List Y) → f [] ≡ [] → (lists : List (List X)) (order : List ℕ) → in_turn (map f lists) order ≡ map f (in_turn lists order)
turns_map f none lists [] = refl
turns_map {X} {Y} f none lists (at ∷ order) =
    ap (λ (ys : List Y). ys ∷ in_turn (map f lists) order) (turn_map f none lists at)
    ∙ ap (λ (rest : List (List Y)). f (get_or lists at []) ∷ rest) (turns_map f none lists order)

-- words stand together in a field of the first
pub first_stands : (fields : Fields) (slop : Option ℕ) (in_order : Bool) (words : List (List ℕ)) (order : List ℕ) (first : ℕ) → slice_get order 0 ≡ Some first
    → list_any (λ code. stand_in fields slop in_order (in_turn words order) (field_of code)) (get_or words first []) ≡ stand_together fields slop in_order (in_turn words order)
first_stands fields slop in_order words [] first h = absurd (cc (h))
first_stands fields slop in_order words (at ∷ order) first h =
    let same : at ≡ first = cc (h) in
    ap (λ k. list_any (λ code. stand_in fields slop in_order (in_turn words (at ∷ order)) (field_of code)) (get_or words k [])) (sym same)

pub none_stand : (fields : Fields) (slop : Option ℕ) (in_order : Bool) (words : List (List ℕ)) (order : List ℕ) → slice_get order 0 ≡ None
    → false ≡ stand_together fields slop in_order (in_turn words order)
none_stand fields slop in_order words [] h = refl
none_stand fields slop in_order words (at ∷ order) h = absurd (cc (h))

-- ---- a word that a document lacks

no_codes : (id : ℕ) (es : List (ℕ × TextHit)) → has_entry (λ hit. true) es id ≡ false → codes_at es id ≡ []
no_codes id [] h = refl
no_codes id (e ∷ es) h =
    elim (eqb_tells id e.0) [
      | inl i ↦ absurd (false≢true (sym h ∙ ap (λ b. (b && true) || has_entry (λ (hit : TextHit). true) es id) i.0))
      | inr i ↦
          ap (λ b. hit_codes (cond b (Some e.1) (lookup (nat_eq id) es))) i.0
          ∙ no_codes id es (sym (ap (λ b. (b && true) || has_entry (λ (hit : TextHit). true) es id) i.0) ∙ h)
    ]

never : {X : Type 0} (p : X → Bool) (xs : List X) → ((x : X) → p x ≡ false) → list_any p xs ≡ false
never p [] h = refl
never p (x ∷ xs) h = ap (λ b. b || list_any p xs) (h x) ∙ never p xs h

no_choice : (f : ListName → List ℕ) (there : ListName → Bool) → ((n : ListName) → there n ≡ false → f n ≡ []) → (test : List ℕ → Bool) (ns : List ListName)
    → list_all there ns ≡ false → some_choice test (map f ns) ≡ false
no_choice f there empty test [] h = absurd (false≢true (sym h))
no_choice f there empty test (n ∷ ns) h =
    pick (there n) refl (λ (more : list_all there ns ≡ false) place. no_choice f there empty (λ choice. test (place ∷ choice)) ns more)
  where
    pick : (b : Bool) → there n ≡ b → (list_all there ns ≡ false → (place : ℕ) → some_choice (λ choice. test (place ∷ choice)) (map f ns) ≡ false)
        → some_choice test (map f (n ∷ ns)) ≡ false
    pick true e again = never _ (f n) (again (sym (ap (λ b. b && list_all there ns) e) ∙ h))
    pick false e again = ap (λ (l : List ℕ). some_choice test (l ∷ map f ns)) (empty n e)

module _ (held : Held) where
  -- the codes of the words that leaves name
  pub codes_are : (id : ℕ) (words : List Leaf) → map (λ word. codes_at (word_entries held word.list) id) words
      ≡ map (λ entries. codes_at entries id) (map (word_entries held) (list_names words))
  codes_are id [] = refl
  codes_are id (word ∷ words) = ap (λ l. codes_at (word_entries held word.list) id ∷ l) (codes_are id words)

  places_are : (id field : ℕ) (ns : List ListName) → map (places_in field) (map (λ entries. codes_at entries id) (map (word_entries held) ns))
      ≡ map (λ name. places_in field (codes_at (word_entries held name) id)) ns
  places_are id field [] = refl
  places_are id field (n ∷ ns) = ap (λ l. places_in field (codes_at (word_entries held n) id) ∷ l) (places_are id field ns)

  -- words stand together only where a document has each of them
  pub phrase_needs : (fields : Fields) (slop : Option ℕ) (in_order : Bool) (id : ℕ) (ns : List ListName) → list_all (λ name. has_word held name id) ns ≡ false
      → phrase_has fields slop in_order (map (word_entries held) ns) id ≡ false
  phrase_needs fields slop in_order id [] h = refl
  phrase_needs fields slop in_order id (n ∷ ns) h =
      never _ (codes_at (word_entries held n) id) (λ code. and_right (looks_in fields (field_of code)) _
      (ap (λ l. within l slop in_order) (places_are id (field_of code) (n ∷ ns))
      ∙ no_choice (λ name. places_in (field_of code) (codes_at (word_entries held name) id)) (λ name. has_word held name id)
      (λ name none. ap (places_in (field_of code)) (no_codes id (word_entries held name) none)) (fits slop in_order) (n ∷ ns) h))

  -- a phrase with other places has the same ids
  pub same_ids : (old new : PhraseIter) (id : ℕ) → new ≡ record old { words = new.words } → list_names new.words ≡ list_names old.words
      → phrase_ids held new id ≡ phrase_ids held old id
  same_ids old new id same same_names =
      ap (λ (p : PhraseIter). phrase_ids held p id) same
      ∙ ap (λ (ns : List ListName). list_all (λ name. has_word held name id) ns
      && phrase_has old.fields old.slop old.in_order (in_turn (map (word_entries held) ns) old.order) id) same_names

  -- ---- the words that leaves stand at

  all_there : (id : ℕ) (words : List Leaf) → AllByRecursion (λ (leaf : Leaf). StandAt held leaf id) words → list_all (λ name. has_word held name id) (list_names words) ≡ true
  all_there id [] all = refl
  all_there id (word ∷ words) all = and_both (has_word held word.list id) _ all.0.entry (all_there id words all.1)

  pub stands_as : (phrase : PhraseIter) (id : ℕ) → AllStandAt held phrase.words id
      → stand_together phrase.fields phrase.slop phrase.in_order (in_turn (map (λ (word : Leaf). codes_at (word_entries held word.list) id) phrase.words) phrase.order)
      ≡ phrase_ids held phrase id
  stands_as phrase id all =
      ap (λ (lists : List (List ℕ)). stand_together phrase.fields phrase.slop phrase.in_order (in_turn lists phrase.order)) (codes_are id phrase.words)
      ∙ ap (stand_together phrase.fields phrase.slop phrase.in_order) (turns_map (λ entries. codes_at entries id) refl (map (word_entries held) (list_names phrase.words)) phrase.order)
      ∙ ap (λ b. b && phrase_has phrase.fields phrase.slop phrase.in_order (in_turn (map (word_entries held) (list_names phrase.words)) phrase.order) id)
      (sym (all_there id phrase.words (recursion_from_All (λ (leaf : Leaf). StandAt held leaf id) phrase.words all)))

  -- ---- the places of words in one document

  module _ (lists : AreLists held) (id : ℕ) (live : held.live id ≡ true) where
    one_rises : (name : ListName) → rises (codes_at (word_entries held name) id) ≡ true
    one_rises (names.Word text) = lists.rising text id live
    one_rises (names.Tag field text) = refl
    one_rises (names.Range field low) = refl

    two_apart : (name other : ListName) → AreEqualOrApart (codes_at (word_entries held name) id) (codes_at (word_entries held other) id)
    two_apart (names.Word text) (names.Word word) = pick (bytes_eq text word) refl
      where
        pick : (b : Bool) → bytes_eq text word ≡ b → AreEqualOrApart (codes_at (word_entries held (names.Word text)) id) (codes_at (word_entries held (names.Word word)) id)
        pick true e = inl (ap (λ (w : List ℕ). codes_at (word_entries held (names.Word w)) id) ((bytes_eq-Decides text word).0 e))
        pick false e = inr (lists.apart text word id live (λ same. false≢true (sym e ∙ (bytes_eq-Decides text word).1 same)))
    two_apart (names.Word text) (names.Tag field tag) = inr (λ place h. refl)
    two_apart (names.Word text) (names.Range field low) = inr (λ place h. refl)
    two_apart (names.Tag field text) other = inr (λ place h. absurd (false≢true h))
    two_apart (names.Range field low) other = inr (λ place h. absurd (false≢true h))

    all_at : (P : List ℕ → Type 0) (words : List Leaf) → ((name : ListName) → P (codes_at (word_entries held name) id)) → (k : ℕ) (d : List ℕ)
        → k < length (map (λ (word : Leaf). codes_at (word_entries held word.list) id) words)
        → P (get_or (map (λ (word : Leaf). codes_at (word_entries held word.list) id) words) k d)
    all_at P [] h k d l = absurd (omega (arith, l))
    all_at P (w ∷ ws) h zero d l = h w.list
    all_at P (w ∷ ws) h (suc k) d l = all_at P ws h k d (omega (arith, l))

    pub words_rise : (words : List Leaf) → AllRise (map (λ (word : Leaf). codes_at (word_entries held word.list) id) words)
    words_rise words k d l = all_at (λ places. rises places ≡ true) words one_rises k d l

    pub words_apart : (words : List Leaf) → AllEqualOrApart (map (λ (word : Leaf). codes_at (word_entries held word.list) id) words)
    words_apart [] i j d lt l = absurd (omega (arith, l))
    words_apart (w ∷ ws) i zero d lt l = absurd (omega (arith, lt))
    words_apart (w ∷ ws) zero (suc j) d lt l =
        all_at (AreEqualOrApart (codes_at (word_entries held w.list) id)) ws (two_apart w.list) j d (omega (arith, l))
    words_apart (w ∷ ws) (suc i) (suc j) d lt l = words_apart ws i j d (omega (arith, lt)) (omega (arith, l))

  -- ---- the loop over documents that have every word

  module _ (first : PhraseIter) (words : List Leaf) (same : list_names words ≡ list_names first.words) (from next : ℕ)
      (none : NoneBetween (λ id. held.live id && phrase_ids held first id) from next) where
    part : (id : ℕ) → (held.live id && list_all (λ name. has_word held name id) (list_names words)) ≡ false → (held.live id && phrase_ids held first id) ≡ false
    part id h = by_live (held.live id) (list_all (λ name. has_word held name id) (list_names words)) (phrase_ids held first id)
        (λ e. ap (λ b. b && phrase_has first.fields first.slop first.in_order (in_turn (map (word_entries held) (list_names first.words)) first.order) id)
        (ap (list_all (λ name. has_word held name id)) (sym same) ∙ e)) h
      where
        by_live : (a b c : Bool) → (b ≡ false → c ≡ false) → (a && b) ≡ false → (a && c) ≡ false
        by_live true b c k n = k n
        by_live false b c k n = refl

    pub ends : NoneFrom (λ id. held.live id && list_all (λ name. has_word held name id) (list_names words)) next
        → NoneFrom (λ id. held.live id && phrase_ids held first id) from
    ends h = none_joined _ from next none (none_part_from _ _ next part h)

    pub goes_on : (id : ℕ) → IsLeastAt (λ n. held.live n && list_all (λ name. has_word held name n) (list_names words)) next id
        → phrase_ids held first id ≡ false → NoneBetween (λ n. held.live n && phrase_ids held first n) from (id + 1)
    goes_on id h e = none_step _ from next id none (none_part _ _ next id part h.below) (and_right (held.live id) _ e)

    pub finds : (id : ℕ) → from ≤ next → IsLeastAt (λ n. held.live n && list_all (λ name. has_word held name n) (list_names words)) next id
        → phrase_ids held first id ≡ true → IsLeastAt (λ n. held.live n && phrase_ids held first n) from id
    finds id low h e = record {
      reached = omega (arith, low, h.reached);
      passes = and_both (held.live id) _ (and_first (held.live id) _ h.passes) e;
      below = none_longer _ from next id none (none_part _ _ next id part h.below);
    }
