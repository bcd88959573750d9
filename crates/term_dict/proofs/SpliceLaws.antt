-- What a change of one list makes of the map that holds it, and of the number of all entries.
use Rattle.std.proofs.Common.{◌≡◌, ◌≢◌, ℕ, ◌+◌, ◌≤◌, ◌-◌, Bool, true, cond, List, Option, None, Some, IfSome, IfNone, ◌⊎◌, inl, inr, length, nat_eq, refl, sym, ap, subst, ◌∙◌, arith}
use Rattle.std.specs.BTreeMap.{is_at}
use Rattle.std.specs.Map.{lookup, remove_entry, set_value, KeepsOthers}
use Rattle.std.specs.Ordering.{eq_by_cmp}
use Rattle.std.proofs.lemmas.Bool.{cases_Bool, eqb-true, false≢true}
use Rattle.std.proofs.lemmas.Bool.Decides.{nat_tests}
use Rattle.std.proofs.lemmas.Map.Steps.{set_value_same}
use Rattle.inverted_list.specs.declared.marker.Marker.{Marker}
use Rattle.inverted_list.specs.declared.marker.Markers.{Markers}
use Rattle.inverted_list.specs.Listing.{Listing, RisesAbove}
use Rattle.gc_splice.specs.declared.repair.Repair.{Repair}
use Rattle.gc_splice.specs.declared.splice.Spliced.{Spliced}
use Rattle.gc_splice.specs.declared.splice.Spliced.TheVariants.{Done, Gone}
use Rattle.gc_splice.specs.Splice.{Fits, picture_of, spliced}
use Rattle.gc_splice.proofs.SpliceLaws.{length_spliced}
use Rattle.term_dict.specs.Changes.{Changes, SplicesRow, is_drained}
use Rattle.term_dict.specs.Rows.{lists_of}
use Rattle.term_dict.specs.Splices.{Collects, Splices, removed_by, some_filled}
use Rattle.term_dict.specs.Terms.{Sets, entries_in_all, list_of}
use Rattle.term_dict.proofs.CountLaws.{counted_removed, counted_written}
use Rattle.term_dict.proofs.TermLaws.{Row, found, key_cmp, sets_rows, word_at}

-- what a change of one list makes of what holds that list
module _ {P : Type 0} (Set To : Option (Listing P) → Type 0) (Same As : Type 0) (set : (x : Option (Listing P)) → Set x → To x) (same : Same → As) where
  pub splices_of : (repair : Repair P) (marker : Marker) (l : Listing P) (outcome : Spliced) → Splices Set Same repair marker l outcome → Splices To As repair marker l outcome
  splices_of repair marker l outcome h = record {
    moved = λ n. (same (h.moved n).0, (h.moved n).1);
    done = λ y. (set (some_filled (spliced l repair marker)) (h.done y).0, (h.done y).1);
    blocks = h.blocks;
  }

  pub collects_of : (live : ℕ → Bool) (l : Listing P) (before after : Markers) → Collects live Set Same l before after → Collects live To As l before after
  collects_of live l before after h = record {
    clean = λ y. (same (h.clean y).0, (h.clean y).1);
    dead = λ n. let d = h.dead n in (d.0, d.1, d.2, set (some_filled d.0) d.3, d.4);
  }

abbrev made : ℕ → ℕ → Marker
made event nth = record { event = event; nth = nth }

joined : (a b : Marker) → a.event ≡ b.event → a.nth ≡ b.nth → a ≡ b
joined a b e f = ap (λ event. made event a.nth) e ∙ ap (λ nth. made b.event nth) f

same_eq : (x y : ℕ) → x ≡ y → nat_eq x y ≡ true
same_eq x y e = grind (arith, nat_tests)

-- two markers are the same, or they are not
marker_cases : (a b : Marker) → (a ≡ b) ⊎ (a ≢ b)
marker_cases a b = elim (cases_Bool (nat_eq a.event b.event)) [
  | inr n ↦ inr (λ e. false≢true (sym n ∙ same_eq a.event b.event (ap (λ (m : Marker). m.event) e)))
  | inl y ↦ elim (cases_Bool (nat_eq a.nth b.nth)) [
    | inr n ↦ inr (λ e. false≢true (sym n ∙ same_eq a.nth b.nth (ap (λ (m : Marker). m.nth) e)))
    | inl z ↦ inl (joined a b (eqb-true a.event b.event y) (eqb-true a.nth b.nth z))
  ]
]

module _ {P : Type 0} (word : List ℕ) (rows : List (Row P)) where
  -- what is said of the list that a word has, by what the map lent for the word
  pub at_none : (Q : Listing P → Type 0) → None ≡ lookup (is_at (word_at word)) rows → IfSome (list_of (lists_of rows) word) Q
  at_none Q none = subst (λ found. IfSome found Q) (sym (found word rows None none)) tt

  pub at_some : (l : Listing P) (Q : Listing P → Type 0) → Some l ≡ lookup (is_at (word_at word)) rows → Q l → IfSome (list_of (lists_of rows) word) Q
  at_some l Q some h = subst (λ o. IfSome o Q) (sym (found word rows (Some l) some)) h

  pub not_none : (l : Listing P) (Q : Type 0) → Some l ≡ lookup (is_at (word_at word)) rows → IfNone (list_of (lists_of rows) word) Q
  not_none l Q some = subst (λ (o : Option (Listing P)). IfNone o Q) (sym (found word rows (Some l) some)) tt

  pub of_some : (l : Listing P) (Q : Listing P → Type 0) → Some l ≡ lookup (is_at (word_at word)) rows → IfSome (list_of (lists_of rows) word) Q → Q l
  of_some l Q some h = subst (λ o. IfSome o Q) (found word rows (Some l) some) h

  -- a word whose list has no entry is taken out
  pub drained_sets : (new : List (Row P)) → is_drained (list_of (lists_of rows) word) ≡ true → Sets word None (lists_of rows) (lists_of new)
      → IfSome (list_of (lists_of rows) word) (λ l. Sets word (some_filled l) (lists_of rows) (lists_of new))
  drained_sets new drained sets = by (list_of (lists_of rows) word) drained
    where
      by : (o : Option (Listing P)) → is_drained o ≡ true → IfSome o (λ l. Sets word (some_filled l) (lists_of rows) (lists_of new))
      by None d = tt
      by (Some l) d = subst (λ (b : Bool). Sets word (cond b None (Some l)) (lists_of rows) (lists_of new)) (sym d) sets

  pub drained_count : (new : List (Row P)) → is_drained (list_of (lists_of rows) word) ≡ true → new ≡ remove_entry (is_at (word_at word)) rows
      → entries_in_all (lists_of new) ≡ entries_in_all (lists_of rows)
  drained_count new drained removed = by (lookup (is_at (word_at word)) rows) refl
    where
      by : (o : Option (Listing P)) → o ≡ lookup (is_at (word_at word)) rows → entries_in_all (lists_of new) ≡ entries_in_all (lists_of rows)
      by None e = absurd (false≢true (ap is_drained (sym (found word rows None e)) ∙ drained))
      by (Some l) e =
          let d : is_drained (Some l) ≡ true = ap is_drained (sym (found word rows (Some l) e)) ∙ drained in
          let z : length l.entries ≡ 0 = eqb-true (length l.entries) 0 d in
          let c = counted_removed word rows new l (sym e) removed in
          omega arith

module _ {P : Type 0} where
  -- a list that was written over the one that the map lent
  pub changes : (word : List ℕ) (l k : Listing P) (old new : List (Row P)) → Some l ≡ lookup (is_at (word_at word)) old
      → new ≡ set_value (is_at (word_at word)) old k → lookup (is_at (word_at word)) new ≡ Some k
      → KeepsOthers (eq_by_cmp key_cmp) (is_at (word_at word)) old new → RisesAbove 0 k.entries → Changes word l k old new
  changes word l k old new found written here kept rises = record {
    sets = sets_rows word (Some k) old new here kept;
    same = λ e. written ∙ (ap (λ m. set_value (is_at (word_at word)) old m) e ∙ set_value_same (is_at (word_at word)) old l (sym found));
    counted = counted_written word old new l k (sym found) written;
    rises = rises;
  }

  -- what a repair took out that was laid over a list, once a word is gone that has no entry left
  pub counted_done : (word : List ℕ) (repair : Repair P) (marker : Marker) (found : Option (Listing P)) (old mid new : List (Row P)) (removed : ℕ) (kept : Bool)
      → IfNone found ((◌≡◌ {A = Spliced} (Done removed kept) Gone) × (mid ≡ old)) → IfSome found (λ l. SplicesRow word repair marker l old mid (Done removed kept))
      → IfSome found (λ l. repair.seen ≡ l.marker → (live : ℕ → Bool) × Fits live repair (picture_of l))
      → entries_in_all (lists_of new) ≡ entries_in_all (lists_of mid) → entries_in_all (lists_of new) + removed ≡ entries_in_all (lists_of old)
  counted_done word repair marker None old mid new removed kept gone there fits same = absurd (let no : ⊥ = cc (gone.0) in no)
  counted_done word repair marker (Some l) old mid new removed kept gone there fits same = elim (marker_cases repair.seen l.marker) [
    | inl y ↦ laid y
    | inr n ↦ absurd (let no : ⊥ = cc ((there.2.moved n).1) in no)
  ]
    where
      laid : repair.seen ≡ l.marker → entries_in_all (lists_of new) + removed ≡ entries_in_all (lists_of old)
      laid y =
          let e : there.0 ≡ spliced l repair marker = (there.2.done y).0 in
          let few : length there.0.entries ≤ length l.entries = subst (λ (m : Listing P). length m.entries ≤ length l.entries) (sym e) (length_spliced (fits y).0 l repair marker (there.2.blocks y) (fits y).1) in
          let went : removed ≡ length l.entries - length there.0.entries = ap removed_by (there.2.done y).1 in
          let counted : entries_in_all (lists_of mid) + length l.entries ≡ entries_in_all (lists_of old) + length there.0.entries = there.1.counted in
          omega (arith, few, went, counted, same)
