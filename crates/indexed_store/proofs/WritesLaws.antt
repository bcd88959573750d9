-- Hashes that are written: how long they are, and that their values fit.
use Rattle.std.specs.Prelude.{◌≡◌, ◌<◌, ◌≤◌, ◌+◌, ◌*◌, ◌/◌, ℕ, Bool, true, false, cond, not, List, [], ◌∷◌, zero, suc, Some, is_some, length, drop, slice_index_or, refl}
use Rattle.std.proofs.Common.{sym, ap, ◌∙◌, inl, inr, arith, length-drop}
use Rattle.std.specs.List.{All, list_any}
use Rattle.std.specs.Str.{bytes_eq}
use Rattle.std.proofs.lemmas.Bool.{cases_Bool}
use Rattle.std.proofs.lemmas.List.Elements.{All-cons, All-filter, All-head, All-tail}
use Rattle.ft_base.specs.Hash.{Hash, set_field}
use Rattle.ft_base.specs.Space.{doc_of}
use Rattle.ft_base.specs.Docs.{Doc}
use Rattle.ft_base.specs.declared.limits.TheConstants.{MAX_WORD_BYTES}
use Rattle.ft_meaning.specs.Meaning.{ValuesFit}
use Rattle.cmd_parse.specs.Asking.{AreWords}
use Rattle.ft_machine.specs.Reads.{hash_in}
use Rattle.ft_machine.specs.Writes.{set_pairs, without_fields}

abbrev fits_in : List ℕ × List ℕ → Type 0
fits_in field = length field.1 ≤ MAX_WORD_BYTES

-- a field that is set is there, and fits where its value does
pub set-filled : (hash : Hash) (field value : List ℕ) → 0 < length (set_field hash field value)
set-filled [] field value = omega arith
set-filled (pair ∷ hash) field value = elim (cases_Bool (bytes_eq field pair.0)) [ inl y ↦ rw y (omega arith) | inr n ↦ rw n (omega arith) ]

pub set-fits : (hash : Hash) (field value : List ℕ) → ValuesFit hash → length value ≤ MAX_WORD_BYTES → ValuesFit (set_field hash field value)
set-fits [] field value fit fits = All-cons fits_in (field, value) [] fits fit
set-fits (pair ∷ hash) field value fit fits =
    let rest = All-tail fits_in pair hash fit in
    elim (cases_Bool (bytes_eq field pair.0)) [
      | inl y ↦ rw y (All-cons fits_in (pair.0, value) hash fits rest)
      | inr n ↦ rw n (All-cons fits_in pair (set_field hash field value) (All-head fits_in pair hash fit) (set-fits hash field value rest fits))
    ]

pub found-fits : (docs : List Doc) (key : List ℕ) → All (λ (doc : Doc). ValuesFit doc.hash) docs → ValuesFit (hash_in (doc_of docs key))
found-fits [] key fit = λ k d short. absurd (omega (arith, short))
found-fits (doc ∷ docs) key fit = by_test (bytes_eq key doc.key) (found-fits docs key (All-tail (λ (doc : Doc). ValuesFit doc.hash) doc docs fit))
  where
    by_test : (here : Bool) → ValuesFit (hash_in (doc_of docs key)) → ValuesFit (hash_in (cond here (Some doc) (doc_of docs key)))
    by_test true later = All-head (λ (doc : Doc). ValuesFit doc.hash) doc docs fit
    by_test false later = later

-- a document that is there has fields
pub found-filled : (docs : List Doc) (key : List ℕ) → is_some (doc_of docs key) ≡ true → All (λ (doc : Doc). 0 < length doc.hash) docs → 0 < length (hash_in (doc_of docs key))
found-filled [] key there filled = cc (there)
found-filled (doc ∷ docs) key there filled = by_test (bytes_eq key doc.key) there (λ later. found-filled docs key later (All-tail (λ (doc : Doc). 0 < length doc.hash) doc docs filled))
  where
    by_test : (here : Bool) → is_some (cond here (Some doc) (doc_of docs key)) ≡ true → (is_some (doc_of docs key) ≡ true → 0 < length (hash_in (doc_of docs key))) → 0 < length (hash_in (cond here (Some doc) (doc_of docs key)))
    by_test true there later = All-head (λ (doc : Doc). 0 < length doc.hash) doc docs filled
    by_test false there later = later there

-- and what is left of a hash fits where the hash does
pub left-fits : (hash : Hash) (fields : List (List ℕ)) → ValuesFit hash → ValuesFit (without_fields hash fields)
left-fits hash fields fit = All-filter (λ (field : List ℕ × List ℕ). not (list_any (bytes_eq field.0) fields)) fits_in hash fit

set-longer : (hash : Hash) (field value : List ℕ) → length hash ≤ length (set_field hash field value)
set-longer [] field value = omega arith
set-longer (pair ∷ hash) field value = elim (cases_Bool (bytes_eq field pair.0)) [
  | inl y ↦ rw y (omega arith)
  | inr n ↦ rw n (omega (arith, set-longer hash field value))
]

-- a hash with pairs set has no fewer fields
pub pairs-longer : (hash : Hash) (pairs : List (List ℕ)) → length hash ≤ length (set_pairs hash pairs)
pairs-longer hash [] = omega arith
pairs-longer hash (field ∷ []) = omega arith
pairs-longer hash (field ∷ value ∷ pairs) = omega (arith, set-longer hash field value, pairs-longer (set_field hash field value) pairs)

-- and some, where a pair is set
pub pairs-filled : (hash : Hash) (pairs : List (List ℕ)) → 2 ≤ length pairs → 0 < length (set_pairs hash pairs)
pairs-filled hash [] some = absurd (omega (arith, some))
pairs-filled hash (field ∷ []) some = absurd (omega (arith, some))
pairs-filled hash (field ∷ value ∷ pairs) some = omega (arith, set-filled hash field value, pairs-longer (set_field hash field value) pairs)

-- and its values fit where the words do
pub pairs-fit : (hash : Hash) (pairs : List (List ℕ)) → ValuesFit hash → AreWords pairs → ValuesFit (set_pairs hash pairs)
pairs-fit hash [] fit words = fit
pairs-fit hash (field ∷ []) fit words = fit
pairs-fit hash (field ∷ value ∷ pairs) fit words =
    let rest = All-tail (λ word. length word ≤ MAX_WORD_BYTES) field (value ∷ pairs) words in
    pairs-fit (set_field hash field value) pairs (set-fits hash field value fit (All-head (λ word. length word ≤ MAX_WORD_BYTES) value pairs rest)) (All-tail (λ word. length word ≤ MAX_WORD_BYTES) value pairs rest)

pairs-at : (hash : Hash) (pairs : List (List ℕ)) (k : ℕ) → suc k < length pairs
    → set_pairs hash (drop k pairs) ≡ set_pairs (set_field hash (slice_index_or pairs k []) (slice_index_or pairs (suc k) [])) (drop (suc (suc k)) pairs)
pairs-at hash [] k within = absurd (omega (arith, within))
pairs-at hash (field ∷ []) k within = absurd (omega (arith, within))
pairs-at hash (field ∷ value ∷ pairs) zero within = refl
pairs-at hash (word ∷ other ∷ pairs) (suc k) within = pairs-at hash (other ∷ pairs) k (omega (arith, within))

-- the pair at a place is set before those behind it
pub pairs-step : (hash now : Hash) (pairs : List (List ℕ)) (i : ℕ) (field value : List ℕ) → 2 * i + 1 < length pairs → field ≡ slice_index_or pairs (2 * i) [] → value ≡ slice_index_or pairs (2 * i + 1) []
    → now ≡ set_field hash field value → set_pairs now (drop (2 * (i + 1)) pairs) ≡ set_pairs hash (drop (2 * i) pairs)
pairs-step hash now pairs i field value within f v is =
    let one : 2 * i + 1 ≡ suc (2 * i) = omega arith in
    let two : 2 * (i + 1) ≡ suc (suc (2 * i)) = omega arith in
    let set : now ≡ set_field hash (slice_index_or pairs (2 * i) []) (slice_index_or pairs (suc (2 * i)) []) =
    is ∙ (ap (λ (w : List ℕ). set_field hash w value) f ∙ ap (λ (w : List ℕ). set_field hash (slice_index_or pairs (2 * i) []) w) (v ∙ ap (λ (n : ℕ). slice_index_or pairs n []) one)) in
    ap (λ (n : ℕ). set_pairs now (drop n pairs)) two
    ∙ (ap (λ (h : Hash). set_pairs h (drop (suc (suc (2 * i))) pairs)) set ∙ sym (pairs-at hash pairs (2 * i) (omega (arith, within))))

-- less than a pair is left
pub pairs-end : (hash : Hash) (pairs : List (List ℕ)) → length pairs ≤ 1 → set_pairs hash pairs ≡ hash
pairs-end hash [] few = refl
pairs-end hash (field ∷ []) few = refl
pairs-end hash (field ∷ value ∷ pairs) few = absurd (omega (arith, few))

-- all pairs were set
pub pairs-done : (hash now : Hash) (pairs : List (List ℕ)) (i : ℕ) → length pairs / 2 ≤ i → set_pairs now (drop (2 * i) pairs) ≡ set_pairs hash pairs → now ≡ set_pairs hash pairs
pairs-done hash now pairs i most whole = sym (pairs-end now (drop (2 * i) pairs) (omega (arith, length-drop (2 * i) pairs, most))) ∙ whole
