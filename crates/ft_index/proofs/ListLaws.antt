-- What an entry more in one list of a dictionary says of all its lists.
use Rattle.std.specs.Prelude.{◌≡◌, ◌<◌, ◌⊎◌, ℕ, ◌+◌, List, [], ◌∷◌, ◌++◌, Option, None, Some, is_some, if◌then◌else◌, refl}
use Rattle.std.proofs.Common.{sym, ap, ◌∙◌, subst, inl, inr, arith}
use Rattle.std.specs.Cmp.Lexicographic.{bytes_decides}
use Rattle.std.specs.Option.{option_map, unwrap_or}
use Rattle.std.specs.Str.{bytes_eq}
use Rattle.std.proofs.lemmas.Bool.{cases_Bool, cond-true, cond-false}
use Rattle.inverted_list.proofs.ReachLaws.{rises_push}
use Rattle.inverted_list.specs.Listing.{Listing, RisesAbove, last_id, with_entry, marker_of}
use Rattle.inverted_list.specs.declared.marker.Marker.{Marker}
use Rattle.inverted_list.specs.declared.marker.Markers.{Markers}
use Rattle.term_dict.specs.Terms.{Lists, Sets, list_of, entries_of, list_or_fresh, fresh_list}
use Rattle.gc_splice.specs.Growing.{ComesFrom}
use Rattle.ft_index.specs.Markers.{IsGiven, marker_in}
use Rattle.ft_index.specs.UpTo.{RisesUpTo}
use Rattle.gc_splice.proofs.GrowingLaws.{comes_same, comes_entry, comes_fresh}

module _ {P : Type 0} where
  pub last_id-push : (low id : ℕ) (hit : P) (es : List (ℕ × P)) → last_id low (es ++ (id, hit) ∷ []) ≡ id
  last_id-push low id hit [] = refl
  last_id-push low id hit (e ∷ es) = last_id-push e.0 id hit es

  -- an entry of a higher id ends those that rise
  pub up_to-push : (id : ℕ) (hit : P) (es : List (ℕ × P)) → RisesAbove 0 es → last_id 0 es < id → RisesUpTo id (es ++ (id, hit) ∷ [])
  up_to-push id hit es rise above = record { rise = rises_push 0 id hit es rise above; end = rw (last_id-push 0 id hit es) (omega arith) }

  -- the entries of a list that is there or new
  entries-or_fresh : (lists : Lists P) (word : List ℕ) (markers : Markers) → (list_or_fresh lists word markers).entries ≡ entries_of lists word
  entries-or_fresh lists word markers = by_list (list_of lists word)
    where
      by_list : (list : Option (Listing P)) → (unwrap_or list (fresh_list markers)).entries ≡ unwrap_or (option_map (λ l. l.entries) list) []
      by_list None = refl
      by_list (Some l) = refl

  -- the list that a word has once an entry is added
  abbrev pub added_list : Lists P → List ℕ → Markers → ℕ → P → Option (Listing P)
  added_list lists word markers id hit = Some (with_entry (list_or_fresh lists word markers) id hit)

  pub entries-added : (old new : Lists P) (word : List ℕ) (markers : Markers) (id : ℕ) (hit : P) → Sets word (added_list old word markers id hit) old new
      → (other : List ℕ) → entries_of new other ≡ (if bytes_eq word other then entries_of old other ++ (id, hit) ∷ [] else entries_of old other)
  entries-added old new word markers id hit sets other =
      elim (cases_Bool (bytes_eq word other)) [
        | inl y ↦
            let same : word ≡ other = (bytes_decides word other).0 y in
            rw (sets other, y, entries-or_fresh old word markers, same) refl
        | inr n ↦ rw (sets other, n) refl
      ]

  -- another word's list is what it was
  pub list-others : (old new : Lists P) (word : List ℕ) (list : Option (Listing P)) → Sets word list old new → (other : List ℕ) → (other ≡ word) ⊎ (list_of new other ≡ list_of old other)
  list-others old new word list sets other = elim (cases_Bool (bytes_eq word other)) [
    | inl y ↦ inl (sym ((bytes_decides word other).0 y))
    | inr n ↦ inr (sets other ∙ cond-false (bytes_eq word other) list (list_of old other) n)
  ]

  pub list-here : (old new : Lists P) (word : List ℕ) (list : Option (Listing P)) → Sets word list old new → list_of new word ≡ list
  list-here old new word list sets = sets word ∙ cond-true (bytes_eq word word) list (list_of old word) ((bytes_decides word word).1 refl)

  -- a list that is there keeps its marker, and a new one has the marker that is given next
  pub marker-here : (old new : Lists P) (word : List ℕ) (from to : Markers) (id : ℕ) (hit : P) → Sets word (added_list old word from id hit) old new
      → to.next ≡ from.next + (if is_some (list_of old word) then 0 else 1)
      → (marker : Marker) → marker_in (list_of new word) ≡ Some marker → (marker_in (list_of old word) ≡ Some marker) ⊎ IsGiven from to marker
  marker-here old new word from to id hit sets taken marker has =
      by_list (list_of old word) refl (ap marker_in (sym (list-here old new word _ sets)) ∙ has)
    where
      by_list : (list : Option (Listing P)) → list_of old word ≡ list → marker_in (added_list old word from id hit) ≡ Some marker → (marker_in (list_of old word) ≡ Some marker) ⊎ IsGiven from to marker
      by_list None none has =
          let is : ◌≡◌ {A = Option Marker} (Some (marker_of from)) (Some marker) = rw none at has in
          let one : marker_of from ≡ marker = cc (is) in
          let more : to.next ≡ from.next + 1 = rw none at taken in
          inr (record { event = sym (ap (λ (m : Marker). m.event) one); least = omega (arith, ap (λ (m : Marker). m.nth) one); below = omega (arith, ap (λ (m : Marker). m.nth) one, more) })
      by_list (Some l) some has =
          let is : ◌≡◌ {A = Option Marker} (Some l.marker) (Some marker) = rw some at has in
          inl (ap marker_in some ∙ is)

  -- each list grows by the entry, or is made with it, or stays
  pub lists-come : (old new : Lists P) (word : List ℕ) (markers : Markers) (id : ℕ) (hit : P) → Sets word (added_list old word markers id hit) old new
      → (other : List ℕ) → ComesFrom markers.event (list_of old other) (list_of new other)
  lists-come old new word markers id hit sets other = elim (list-others old new word _ sets other) [
    | inl is ↦ subst (λ (name : List ℕ). ComesFrom markers.event (list_of old name) (list_of new name)) (sym is)
        (subst (λ (o : Option (Listing P)). ComesFrom markers.event (list_of old word) o) (sym (list-here old new word _ sets)) (here (list_of old word)))
    | inr same ↦ subst (λ (o : Option (Listing P)). ComesFrom markers.event (list_of old other) o) (sym same) (comes_same markers.event (list_of old other))
  ]
    where
      here : (o : Option (Listing P)) → ComesFrom markers.event o (Some (with_entry (unwrap_or o (fresh_list markers)) id hit))
      here None = comes_fresh markers.event None (with_entry (fresh_list markers) id hit) (omega arith)
      here (Some l) = comes_entry markers.event l id hit
