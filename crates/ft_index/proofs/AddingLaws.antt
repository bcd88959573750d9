-- How a document's words go into the lists, one after another.
use Rattle.std.specs.Prelude.{◌≡◌, ◌<◌, ℕ, true, false, List, [], ◌∷◌, ◌++◌, Option, None, Some, length, refl}
use Rattle.std.proofs.Common.{Bor, sym, ◌∙◌, subst, inl, inr, arith, append-nil}
use Rattle.std.specs.Cmp.Lexicographic.{bytes_decides, nat_list_eq_equiv}
use Rattle.std.specs.List.{AllByRecursion, IsDistinct}
use Rattle.std.specs.Map.{keys_of, lookup}
use Rattle.std.specs.Str.{bytes_eq}
use Rattle.std.proofs.lemmas.Bool.{cases_Bool, cond-true, cond-false}
use Rattle.inverted_list.specs.Listing.{last_id}
use Rattle.posting_block.specs.declared.hits.TextHit.{TextHit}
use Rattle.term_dict.specs.Terms.{Lists, entries_of}
use Rattle.ft_index.specs.Collected.{AreAddedBut, AreMet, Collected, GrowBy, IsAddedBut, WordGains, codes_of, is_key}
use Rattle.ft_index.specs.Entries.{entry}
use Rattle.ft_index.proofs.CollectedLaws.{same_key}

-- whatever words are left, each list is as it was, but for one entry
pub grown : (left found : Collected) (id : ℕ) (old new : Lists TextHit) → AreAddedBut left found id old new → GrowBy id old new
grown left found id old new added word = by_left (lookup (is_key word) left) (added word)
  where
    by_left : (codes : Option (List ℕ)) → IsAddedBut codes found id old new word → (codes : List ℕ) × (entries_of new word ≡ entries_of old word ++ entry id codes)
    by_left None here = (codes_of found word, here)
    by_left (Some codes) here = ([], here.0 ∙ sym (append-nil (entries_of old word)))

-- a word that differs from all keys is not found
none-left : (word : List ℕ) (key : Bor (List ℕ)) (left : Collected) → bytes_eq word key.now ≡ true → AllByRecursion (λ other. same_key key other ≡ false) (keys_of left) → lookup (is_key word) left ≡ None
none-left word key [] same apart = refl
none-left word key (e ∷ es) same apart =
    let no : is_key word e.0 ≡ false = nat_list_eq_equiv.congr word key.now e.0.now same ∙ apart.0 in
    rw no (none-left word key es same apart.1)

entry-met : (id : ℕ) (codes : List ℕ) → 0 < length codes → entry id codes ≡ (id, record { places = codes }) ∷ []
entry-met id [] some = absurd (omega (arith, some))
entry-met id (code ∷ codes) some = refl

-- the word at the front gets its entry
pub added-next : (key : Bor (List ℕ)) (codes : List ℕ) (left found : Collected) (id : ℕ) (start old new : Lists TextHit)
    → IsDistinct same_key (keys_of ((key, codes) ∷ left)) → AreMet ((key, codes) ∷ left) → AreAddedBut ((key, codes) ∷ left) found id start old
    → WordGains key.now id codes old new → AreAddedBut left found id start new
unfolding IsDistinct
added-next key codes left found id start old new distinct met added entries word =
    elim (cases_Bool (bytes_eq word key.now)) [
      | inl here ↦
          let before = subst (λ (front : Option (List ℕ)). IsAddedBut front found id start old word) (cond-true (bytes_eq word key.now) (Some codes) (lookup (is_key word) left) here) (added word) in
          let turned : bytes_eq key.now word ≡ true = nat_list_eq_equiv.symm key.now word ∙ here in
          let entered : entries_of new word ≡ entries_of start word ++ entry id (codes_of found word) = rw (entries word, turned, before.0, before.1, entry-met id codes met.0) refl in
          subst (λ (front : Option (List ℕ)). IsAddedBut front found id start new word) (sym (none-left word key left here distinct.0)) entered
      | inr away ↦
          let before = subst (λ (front : Option (List ℕ)). IsAddedBut front found id start old word) (cond-false (bytes_eq word key.now) (Some codes) (lookup (is_key word) left) away) (added word) in
          let turned : bytes_eq key.now word ≡ false = nat_list_eq_equiv.symm key.now word ∙ away in
          let same : entries_of new word ≡ entries_of old word = entries word ∙ cond-false (bytes_eq key.now word) _ (entries_of old word) turned in
          same_entries (lookup (is_key word) left) same before
    ]
  where
    same_entries : (front : Option (List ℕ)) → entries_of new word ≡ entries_of old word → IsAddedBut front found id start old word → IsAddedBut front found id start new word
    same_entries None same before = same ∙ before
    same_entries (Some codes) same before = (same ∙ before.0, before.1)

pub rest-distinct : (key : Bor (List ℕ)) (codes : List ℕ) (left : Collected) → IsDistinct same_key (keys_of ((key, codes) ∷ left)) → IsDistinct same_key (keys_of left)
unfolding IsDistinct
rest-distinct key codes left distinct = distinct.1

-- the list of the word at the front ends below the id
pub front-later : (key : Bor (List ℕ)) (codes : List ℕ) (left found : Collected) (id : ℕ) (start old : Lists TextHit) (word : List ℕ) → word ≡ key.now
    → AreAddedBut ((key, codes) ∷ left) found id start old → ((other : List ℕ) → last_id 0 (entries_of start other) < id) → last_id 0 (entries_of old word) < id
front-later key codes left found id start old word named added later =
    let here : bytes_eq word key.now ≡ true = (bytes_decides word key.now).1 named in
    let before = subst (λ (front : Option (List ℕ)). IsAddedBut front found id start old word) (cond-true (bytes_eq word key.now) (Some codes) (lookup (is_key word) left) here) (added word) in
    subst (λ (es : List (ℕ × TextHit)). last_id 0 es < id) (sym before.0) (later word)
