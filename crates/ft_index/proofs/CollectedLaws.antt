-- What one code more says of the words collected.
use Rattle.std.proofs.Common.{◌≡◌, ℕ, Bool, false, cond, Bor, List, [], ◌∷◌, ◌++◌, append-nil, None, Some, IsSome, refl, ap, ◌∙◌, inl, inr, ◌<◌, length, length-append, arith}
use Rattle.std.specs.Cmp.Lexicographic.{bytes_decides, nat_list_eq_equiv}
use Rattle.std.specs.Map.{lookup, set_value}
use Rattle.std.specs.Str.{bytes_eq}
use Rattle.std.proofs.lemmas.Bool.{cases_Bool}
use Rattle.indexmap.specs.IndexMap.{insert_entry}
use Rattle.ft_index.specs.Collected.{AreMet, Collected, codes_of, is_key, one_more}

abbrev pub same_key : Bor (List ℕ) → Bor (List ℕ) → Bool
same_key a b = bytes_eq a.now b.now

-- a word that is written at one key is found there, and the other words as before
lookup-written : (word other : List ℕ) (places : List ℕ) (found : Collected) → IsSome (lookup (is_key word) found)
    → lookup (is_key other) (set_value (is_key word) found places) ≡ cond (bytes_eq other word) (Some places) (lookup (is_key other) found)
lookup-written word other places [] there = absurd (cc (there))
lookup-written word other places (e ∷ es) there =
    elim (cases_Bool (is_key word e.0)) [
      | inl here ↦
          let same : word ≡ e.0.now = (bytes_decides word e.0.now).0 here in
          rw (here, same) (elim (cases_Bool (bytes_eq other e.0.now)) [
            | inl y ↦ rw y refl
            | inr n ↦ rw n refl
          ])
      | inr away ↦
          let deeper : IsSome (lookup (is_key word) es) = rw away at there in
          let others = lookup-written word other places es deeper in
          rw away (elim (cases_Bool (bytes_eq other e.0.now)) [
            | inl y ↦
                let same : other ≡ e.0.now = (bytes_decides other e.0.now).0 y in
                let apart : bytes_eq other word ≡ false = ap (λ w. bytes_eq w word) same ∙ (nat_list_eq_equiv.symm e.0.now word ∙ away) in
                rw (y, apart) refl
            | inr n ↦ rw n others
          ])
    ]

lookup-added : (name : Bor (List ℕ)) (other : List ℕ) (places : List ℕ) (found : Collected) → lookup (is_key name.now) found ≡ None
    → lookup (is_key other) (insert_entry same_key found name places) ≡ cond (bytes_eq other name.now) (Some places) (lookup (is_key other) found)
lookup-added name other places [] none = refl
lookup-added name other places (e ∷ es) none =
    elim (cases_Bool (same_key name e.0)) [
      | inl here ↦ absurd (cc (rw here at none))
      | inr away ↦
          let others = lookup-added name other places es (rw away at none) in
          rw away (elim (cases_Bool (bytes_eq other e.0.now)) [
            | inl y ↦
                let same : other ≡ e.0.now = (bytes_decides other e.0.now).0 y in
                let apart : bytes_eq other name.now ≡ false = ap (λ w. bytes_eq w name.now) same ∙ (nat_list_eq_equiv.symm e.0.now name.now ∙ away) in
                rw (y, apart) refl
            | inr n ↦ rw n others
          ])
    ]

-- a code goes behind those that a word has
pub codes_of-pushed : (word other : List ℕ) (code : ℕ) (places : List ℕ) (found : Collected) → lookup (is_key word) found ≡ Some places
    → codes_of (set_value (is_key word) found (places ++ code ∷ [])) other ≡ codes_of found other ++ one_more word code other
codes_of-pushed word other code places found there =
    let written = lookup-written word other (places ++ code ∷ []) found (rw there refl) in
    elim (cases_Bool (bytes_eq other word)) [
      | inl y ↦
          let same : other ≡ word = (bytes_decides other word).0 y in
          rw (written, y, same, there) refl
      | inr n ↦ rw (written, n, append-nil) refl
    ]

-- a word that was not met gets its first code
pub codes_of-added : (name : Bor (List ℕ)) (other : List ℕ) (code : ℕ) (found : Collected) → lookup (is_key name.now) found ≡ None
    → codes_of (insert_entry same_key found name (code ∷ [])) other ≡ codes_of found other ++ one_more name.now code other
codes_of-added name other code found none =
    let added = lookup-added name other (code ∷ []) found none in
    elim (cases_Bool (bytes_eq other name.now)) [
      | inl y ↦
          let same : other ≡ name.now = (bytes_decides other name.now).0 y in
          rw (added, y, same, none) refl
      | inr n ↦ rw (added, n, append-nil) refl
    ]

-- the same where the map and the codes are known by equations
pub codes_of-first : (name : Bor (List ℕ)) (other : List ℕ) (code : ℕ) (places : List ℕ) (old found : Collected)
    → old ≡ found → places ≡ code ∷ [] → lookup (is_key name.now) found ≡ None
    → codes_of (insert_entry same_key old name places) other ≡ codes_of found other ++ one_more name.now code other
codes_of-first name other code places old found same one none = rw (same, one) (codes_of-added name other code found none)

-- each word goes on having a code
pub met-pushed : (word : List ℕ) (code : ℕ) (places : List ℕ) (found : Collected) → AreMet found → AreMet (set_value (is_key word) found (places ++ code ∷ []))
met-pushed word code places [] met = tt
met-pushed word code places (e ∷ es) met =
    let some : 0 < length (places ++ code ∷ []) = grind (arith, length-append) in
    elim (cases_Bool (is_key word e.0)) [
      | inl here ↦ rw here (some, met.1)
      | inr away ↦ rw away (met.0, met-pushed word code places es met.1)
    ]

pub met-added : (name : Bor (List ℕ)) (code : ℕ) (found : Collected) → AreMet found → AreMet (insert_entry same_key found name (code ∷ []))
met-added name code [] met = (omega arith, tt)
met-added name code (e ∷ es) met =
    elim (cases_Bool (same_key name e.0)) [
      | inl here ↦ rw here (omega arith, met.1)
      | inr away ↦ rw away (met.0, met-added name code es met.1)
    ]

-- the same where the map and the codes are known by equations
pub met-first : (name : Bor (List ℕ)) (code : ℕ) (places : List ℕ) (old found : Collected) → old ≡ found → places ≡ code ∷ []
    → AreMet found → AreMet (insert_entry same_key old name places)
met-first name code places old found same one met = rw (same, one) (met-added name code found met)
