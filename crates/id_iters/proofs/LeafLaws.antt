-- What a leaf has, by the list that is found.
use Rattle.std.proofs.Common.{◌≡◌, ℕ, ℤ, ◌+◌, Bool, true, ◌&&◌, List, Option, Some, None, Result, Ok, Err, IfOk, IfSome, sym, ap, ◌∙◌, subst}
use Rattle.std.proofs.lemmas.Bool.{false≢true}
use Rattle.inverted_list.specs.Listing.{Listing}
use Rattle.inverted_list.specs.declared.place.Place.{Place}
use Rattle.posting_block.specs.declared.hits.NumHit.{NumHit}
use Rattle.posting_block.specs.declared.hits.TagHit.{TagHit}
use Rattle.posting_block.specs.declared.hits.TextHit.{TextHit}
use Rattle.id_iters.specs.Ahead.{IsAhead}
use Rattle.id_iters.specs.Entries.{counts_in, has_entry, lies_in}
use Rattle.id_iters.specs.Held.{Held, entries_of}
use Rattle.id_iters.specs.Least.{IsLeast}
use Rattle.id_iters.specs.Leaves.{has_word, leaf_has, list_has, word_list}
use Rattle.id_iters.specs.Places.{FitsList, IsSoundIn, LeafReady, StandAt}
use Rattle.id_iters.specs.declared.leaf.Leaf.{Leaf}
use Rattle.id_iters.specs.declared.list_name.ListName.{ListName}
use Rattle.id_iters.specs.declared.list_name.ListName.TheVariants as names
use Rattle.id_iters.proofs.LeastLaws.{and_second}
use Rattle.id_iters.proofs.SeekLaws.{if_answer}

module _ (held : Held) (leaf : Leaf) where
  -- a leaf's ids are those of the entries that are wanted in its list
  pub word_same : (text : List ℕ) (list : Option (Listing TextHit)) → leaf.list ≡ names.Word text → list ≡ held.words text
      → has_entry (counts_in leaf.fields) (entries_of list) ≡ leaf_has held leaf
  word_same text list is found =
      ap (λ (l : Option (Listing TextHit)). has_entry (counts_in leaf.fields) (entries_of l)) found
      ∙ ap (λ (n : ListName). list_has held n leaf.fields leaf.low leaf.high) (sym is)

  pub tag_same : (field : ℕ) (text : List ℕ) (list : Option (Listing TagHit)) → leaf.list ≡ names.Tag field text → list ≡ held.tags field text
      → has_entry (λ (hit : TagHit). true) (entries_of list) ≡ leaf_has held leaf
  tag_same field text list is found =
      ap (λ (l : Option (Listing TagHit)). has_entry (λ (hit : TagHit). true) (entries_of l)) found
      ∙ ap (λ (n : ListName). list_has held n leaf.fields leaf.low leaf.high) (sym is)

  pub range_same : (field : ℕ) (least low high : ℤ) (list : Option (Listing NumHit)) → leaf.list ≡ names.Range field least → list ≡ held.ranges field least
      → low ≡ leaf.low → high ≡ leaf.high → has_entry (lies_in low high) (entries_of list) ≡ leaf_has held leaf
  range_same field least low high list is found low_is high_is =
      ap (λ (n : ℤ). has_entry (lies_in n high) (entries_of list)) low_is
      ∙ ap (λ (n : ℤ). has_entry (lies_in leaf.low n) (entries_of list)) high_is
      ∙ ap (λ (l : Option (Listing NumHit)). has_entry (lies_in leaf.low leaf.high) (entries_of l)) found
      ∙ ap (λ (n : ListName). list_has held n leaf.fields leaf.low leaf.high) (sym is)

  -- a place that is sound in the list found fits the leaf's
  pub word_fits : (text : List ℕ) (list : Option (Listing TextHit)) (place : Place) → leaf.list ≡ names.Word text → list ≡ held.words text
      → IsSoundIn list place → FitsList held leaf.list place
  word_fits text list place is found s =
      subst (λ (n : ListName). FitsList held n place) (sym is) (subst (λ (l : Option (Listing TextHit)). IsSoundIn l place) found s)

  pub tag_fits : (field : ℕ) (text : List ℕ) (list : Option (Listing TagHit)) (place : Place) → leaf.list ≡ names.Tag field text → list ≡ held.tags field text
      → IsSoundIn list place → FitsList held leaf.list place
  tag_fits field text list place is found s =
      subst (λ (n : ListName). FitsList held n place) (sym is) (subst (λ (l : Option (Listing TagHit)). IsSoundIn l place) found s)

  pub range_fits : (field : ℕ) (least : ℤ) (list : Option (Listing NumHit)) (place : Place) → leaf.list ≡ names.Range field least → list ≡ held.ranges field least
      → IsSoundIn list place → FitsList held leaf.list place
  range_fits field least list place is found s =
      subst (λ (n : ListName). FitsList held n place) (sym is) (subst (λ (l : Option (Listing NumHit)). IsSoundIn l place) found s)

  -- what was read of the list tells the same of the leaf
  pub leaf_least : {E : Type 0} (result : Result (Option ℕ) E) (has : ℕ → Bool) (from : ℕ) → has ≡ leaf_has held leaf
      → IfOk result (λ r. IsLeast (λ id. held.live id && has id) from r) → IfOk result (λ r. IsLeast (λ id. held.live id && leaf_has held leaf id) from r)
  leaf_least result has from same h = subst (λ (p : ℕ → Bool). IfOk result (λ r. IsLeast (λ id. held.live id && p id) from r)) same h

  pub leaf_read : {E : Type 0} (result : Result (Option ℕ) E) (has : ℕ → Bool) (place : Place) (ahead : List ℕ) → has ≡ leaf_has held leaf → FitsList held leaf.list place
      → IfOk result (λ r. IfSome r (λ id. IsAhead has place.last (id + 1) ahead))
      → IfOk result (λ r. IfSome r (λ id. LeafReady held (record leaf { place = place; ahead = ahead }) (id + 1)))
  leaf_read result has place ahead same fits h =
      if_answer result (λ id. IsAhead has place.last (id + 1) ahead) (λ id. LeafReady held (record leaf { place = place; ahead = ahead }) (id + 1))
      (λ id a. record { sound = fits; ahead = subst (λ (p : ℕ → Bool). IsAhead p place.last (id + 1) ahead) same a }) h

  word_name : (name : ListName) (place : Place) (id : ℕ) → has_word held name id ≡ true → IsSoundIn (word_list held name) place → FitsList held name place
  word_name (names.Word text) place id h s = s
  word_name (names.Tag field text) place id h s = absurd (false≢true h)
  word_name (names.Range field low) place id h s = absurd (false≢true h)

  pub word_read : {E : Type 0} (result : Result (Option ℕ) E) (list : Option (Listing TextHit)) (place : Place) (ahead : List ℕ) (from : ℕ) → list ≡ word_list held leaf.list
      → IsSoundIn list place
      → IfOk result (λ r. IsLeast (λ id. held.live id && has_entry (λ (hit : TextHit). true) (entries_of list) id) from r)
      → IfOk result (λ r. IfSome r (λ id. IsAhead (has_entry (λ (hit : TextHit). true) (entries_of list)) place.last (id + 1) ahead))
      → IfOk result (λ r. IfSome r (λ id. StandAt held (record leaf { place = place; ahead = ahead }) id))
  word_read (Err e) list place ahead from is sound least h = tt
  word_read (Ok None) list place ahead from is sound least h = tt
  word_read (Ok (Some id)) list place ahead from is sound least h =
      let there : has_word held leaf.list id ≡ true = ap (λ (l : Option (Listing TextHit)). has_entry (λ (hit : TextHit). true) (entries_of l) id) (sym is) ∙ and_second (held.live id) _ least.passes in
      record {
        entry = there;
        ready = record {
          sound = word_name leaf.list place id there (subst (λ (l : Option (Listing TextHit)). IsSoundIn l place) is sound);
          ahead = subst (λ (l : Option (Listing TextHit)). IsAhead (has_entry (λ (hit : TextHit). true) (entries_of l)) place.last (id + 1) ahead) is h;
        };
      }
