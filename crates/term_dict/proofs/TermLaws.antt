-- What a look-up and a change in the map say of the words that it stands for.
use Rattle.std.proofs.Common.{◌≡◌, ℕ, ◌<◌, Bool, true, false, cond, List, [], ◌∷◌, Option, None, Some, IsSome, IfSome, ◌⊎◌, inl, inr, refl, sym, ap, subst, ◌∙◌}
use Rattle.std.specs.Cmp.{eq_by_cmp_equiv}
use Rattle.std.specs.Cmp.Lexicographic.{slice_cmp, bytes_decides, nat_list_cmp_total, nat_list_eq_equiv}
use Rattle.std.specs.BTreeMap.{is_at}
use Rattle.std.specs.Map.{lookup, IsKeyTest, AreApart, KeepsOthers}
use Rattle.std.specs.Option.{option_map, unwrap_or}
use Rattle.std.specs.Ordering.{is_eq, nat_cmp, eq_by_cmp}
use Rattle.std.specs.Result.{OnOk, OnErr}
use Rattle.std.specs.Str.{bytes_eq}
use Rattle.std.specs.declared.result.Result.{Result}
use Rattle.std.specs.declared.result.Result.TheVariants.{Ok, Err}
use Rattle.std.specs.declared.alloc.Global.{Global}
use Rattle.std.specs.declared.cmp.Ordering.{Ordering}
use Rattle.std.specs.declared.vec.Vec.{Vec}
use Rattle.std.proofs.lemmas.Bool.{cases_Bool, cond-true, cond-false}
use Rattle.std.proofs.lemmas.Map.Text.{is_eq-slice_cmp}
use Rattle.inverted_list.specs.declared.marker.Markers.{Markers}
use Rattle.inverted_list.specs.Listing.{Listing, RisesAbove, last_id, with_entry}
use Rattle.inverted_list.proofs.ReachLaws.{rises_push}
use Rattle.term_dict.specs.Rows.{lists_of}
use Rattle.term_dict.specs.Terms.{Lists, Sets, IdsRise, list_of, entries_of, fresh_list, list_or_fresh}

-- the order of keys, and a key's place against a word
abbrev pub key_cmp : Vec ℕ Global → Vec ℕ Global → Ordering
key_cmp a b = slice_cmp nat_cmp a.items b.items

abbrev pub word_at : List ℕ → Vec ℕ Global → Ordering
word_at word key = slice_cmp nat_cmp word key.items

apart : (word other key : List ℕ) → bytes_eq word other ≡ false → bytes_eq word key ≡ true → bytes_eq other key ≡ false
apart word other key n y = nat_list_eq_equiv.symm other key ∙ sym (nat_list_eq_equiv.congr word key other y) ∙ n

apart_in_order : (word other key : List ℕ) → bytes_eq word other ≡ false → is_eq (slice_cmp nat_cmp word key) ≡ true → is_eq (slice_cmp nat_cmp other key) ≡ false
apart_in_order word other key n y = is_eq-slice_cmp other key ∙ apart word other key n (sym (is_eq-slice_cmp word key) ∙ y)

others_kept : {K X : Type 0} (eq : K → K → Bool) (test : K → Bool) (old new : List (K × X)) → KeepsOthers eq test old new
    → (other : K → Bool) → IsKeyTest eq other → AreApart test other → lookup other new ≡ lookup other old
unfolding KeepsOthers
others_kept eq test old new h = h

-- a word of the map and its list
abbrev pub Row : Type 0 → Type 0
Row P = Vec ℕ Global × Listing P

module _ {P : Type 0} where
  -- the list of a word is what the map finds
  pub list_of-rows : (word : List ℕ) (rows : List (Row P)) → list_of (lists_of rows) word ≡ lookup (is_at (word_at word)) rows
  list_of-rows word [] = refl
  list_of-rows word (row ∷ rows) =
      ap (λ (b : Bool). cond b (Some row.1) (list_of (lists_of rows) word)) (sym (is_eq-slice_cmp word row.0.items))
      ∙ ap (cond (is_eq (word_at word row.0)) (Some row.1)) (list_of-rows word rows)

  -- a change at one word, where all others keep what they have
  pub sets_by_words : (word : List ℕ) (list : Option (Listing P)) (old new : Lists P) → list_of new word ≡ list
      → ((other : List ℕ) → bytes_eq word other ≡ false → list_of new other ≡ list_of old other) → Sets word list old new
  sets_by_words word list old new here others other =
      elim (cases_Bool (bytes_eq word other)) [
        | inl y ↦ subst (λ w. list_of new w ≡ list) ((bytes_decides word other).0 y) here ∙ sym (cond-true (bytes_eq word other) list (list_of old other) y)
        | inr n ↦ others other n ∙ sym (cond-false (bytes_eq word other) list (list_of old other) n)
      ]

  -- a change at one key of the map
  pub sets_rows : (word : List ℕ) (list : Option (Listing P)) (old new : List (Row P)) → lookup (is_at (word_at word)) new ≡ list
      → KeepsOthers (eq_by_cmp key_cmp) (is_at (word_at word)) old new → Sets word list (lists_of old) (lists_of new)
  sets_rows word list old new here kept =
      sets_by_words word list (lists_of old) (lists_of new) (list_of-rows word new ∙ here)
      (λ other n. list_of-rows other new
      ∙ (others_kept _ _ old new kept (is_at (word_at other)) (λ x y. (eq_by_cmp_equiv nat_list_cmp_total).congr other x.items y.items) (λ key. apart_in_order word other key.items n)
      ∙ sym (list_of-rows other old)))

  -- ids go on rising where those of the one list that changed rise
  pub ids_set : (word : List ℕ) (l : Listing P) (old new : Lists P) → IdsRise old → Sets word (Some l) old new → RisesAbove 0 l.entries → IdsRise new
  ids_set word l old new rise sets here other =
      elim (cases_Bool (bytes_eq word other)) [
        | inl y ↦ subst (λ found. IfSome found (λ l. RisesAbove 0 l.entries)) (sym (sets other ∙ cond-true (bytes_eq word other) (Some l) (list_of old other) y)) here
        | inr n ↦ subst (λ found. IfSome found (λ l. RisesAbove 0 l.entries)) (sym (sets other ∙ cond-false (bytes_eq word other) (Some l) (list_of old other) n)) (rise other)
      ]

  -- and where a word is taken out
  pub ids_gone : (word : List ℕ) (old new : Lists P) → IdsRise old → Sets word None old new → IdsRise new
  ids_gone word old new rise sets other =
      elim (cases_Bool (bytes_eq word other)) [
        | inl y ↦ subst (λ found. IfSome found (λ (l : Listing P). RisesAbove 0 l.entries)) (sym (sets other ∙ cond-true (bytes_eq word other) None (list_of old other) y)) tt
        | inr n ↦ subst (λ found. IfSome found (λ (l : Listing P). RisesAbove 0 l.entries)) (sym (sets other ∙ cond-false (bytes_eq word other) None (list_of old other) n)) (rise other)
      ]

  -- what the map lent for a word is the word's list
  pub found : (word : List ℕ) (rows : List (Row P)) (list : Option (Listing P)) → list ≡ lookup (is_at (word_at word)) rows → list_of (lists_of rows) word ≡ list
  found word rows list e = list_of-rows word rows ∙ sym e

  -- so the condition on a word's ids speaks of that list
  pub above_last : (lists : Lists P) (word : List ℕ) (id : ℕ) (l : Listing P) → list_of lists word ≡ Some l → last_id 0 (entries_of lists word) < id → last_id 0 l.entries < id
  above_last lists word id l e h = subst (λ list. last_id 0 (unwrap_or (option_map (λ m. m.entries) list) []) < id) e h

  pub above_none : (lists : Lists P) (word : List ℕ) (id : ℕ) → list_of lists word ≡ None → last_id 0 (entries_of lists word) < id → 0 < id
  above_none lists word id e h = subst (λ (list : Option (Listing P)). last_id 0 (unwrap_or (option_map (λ m. m.entries) list) []) < id) e h

  -- a change that is said in two ways
  pub sets_same : (word : List ℕ) (a b : Listing P) (old new : Lists P) → a ≡ b → Sets word (Some a) old new → Sets word (Some b) old new
  sets_same word a b old new e h = subst (λ l. Sets word (Some l) old new) e h

  -- the ids of a list rise with one more entry
  rises_with : (markers : Markers) (id : ℕ) (hit : P) (list : Option (Listing P)) → IfSome list (λ l. RisesAbove 0 l.entries)
      → last_id 0 (unwrap_or (option_map (λ l. l.entries) list) []) < id → RisesAbove 0 (with_entry (unwrap_or list (fresh_list markers)) id hit).entries
  rises_with markers id hit None rise h = (h, tt)
  rises_with markers id hit (Some l) rise h = rises_push 0 id hit l.entries rise h

  pub ids_added : (lists : Lists P) (word : List ℕ) (markers : Markers) (id : ℕ) (hit : P) → IdsRise lists → last_id 0 (entries_of lists word) < id
      → RisesAbove 0 (with_entry (list_or_fresh lists word markers) id hit).entries
  ids_added lists word markers id hit rise h = rises_with markers id hit (list_of lists word) (rise word) h

  -- so they go on rising, whether the entry came or memory ran out
  pub ids_after : {T E : Type 0} (r : Result T E) (word : List ℕ) (l : Listing P) (old new : List (Row P)) → IdsRise (lists_of old) → RisesAbove 0 l.entries
      → OnOk r (Sets word (Some l) (lists_of old) (lists_of new)) → OnErr r (new ≡ old) → IdsRise (lists_of new)
  ids_after (Ok x) word l old new rise here sets same = ids_set word l (lists_of old) (lists_of new) rise sets here
  ids_after (Err e) word l old new rise here sets same = subst (λ rows. IdsRise (lists_of rows)) (sym same) rise

  -- a word that has a list after a change had one before, or is the word that changed
  pub known_after : (word other : List ℕ) (list : Option (Listing P)) (old new : Lists P) → Sets word list old new → IsSome (list_of new other) → (word ≡ other) ⊎ IsSome (list_of old other)
  known_after word other list old new sets some =
      elim (cases_Bool (bytes_eq word other)) [
        | inl y ↦ inl ((bytes_decides word other).0 y)
        | inr n ↦ inr (subst IsSome (sets other ∙ cond-false (bytes_eq word other) list (list_of old other) n) some)
      ]
