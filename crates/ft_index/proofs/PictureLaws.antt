-- What the pictures of lists say, as they are taken one after another.
use Rattle.std.specs.Prelude.{◌≡◌, ◌<◌, ◌≤◌, ℕ, suc, zero, ◌+◌, ℤ, List, [], ◌∷◌, ◌++◌, map, Option, Some, IfSome, IsSome, drop, length, slice_get, slice_index_or, refl}
use Rattle.std.proofs.Common.{sym, ap, subst, ◌∙◌, inl, inr, arith, append_assoc, append-nil}
use Rattle.std.specs.List.{AllByRecursion, Contains}
use Rattle.std.specs.Map.{keys_of}
use Rattle.std.specs.Option.{option_map}
use Rattle.std.proofs.lemmas.List.{drop_more, map-append}
use Rattle.inverted_list.specs.Listing.{Listing}
use Rattle.numeric_ranges.specs.Ranges.{LowsRise, Rows}
use Rattle.posting_block.specs.declared.hits.NumHit.{NumHit}
use Rattle.id_iters.specs.declared.list_name.ListName.{ListName}
use Rattle.ft_index.specs.declared.snapshots.NamedPicture.{NamedPicture}
use Rattle.ft_index.specs.Lists.{AllLists, rows_of}
use Rattle.ft_index.specs.Picturing.{AreOrdered, NamedLists, all_named, fields_named, shown, slot_named, slots_named, words_named}
use Rattle.ft_index.specs.Snapshots.{AnyListing, NamesRise, PicturesName, names_of, pictured}
use Rattle.ft_index.specs.Snapshots as snapshots
use Rattle.ft_index.proofs.FieldLaws.{below-or-not, decided}
use Rattle.ft_index.proofs.NamedLaws.{IsOwn, all-own, all-unmap}
use Rattle.ft_index.proofs.NamesLaws.{all-among, all-rise}
use Rattle.ft_index.proofs.SlotLaws.{rows-beyond, rows-here}

-- a picture more shows a list more
pub shown-push : (all news : List NamedPicture) (named : NamedPicture) (here : ListName × AnyListing) (rest : NamedLists) → news ≡ all ++ named ∷ [] → shown named ≡ here
    → map shown news ++ rest ≡ map shown all ++ here ∷ rest
shown-push all news named here rest is one =
    ap (λ ps. map shown ps ++ rest) is
    ∙ (ap (λ es. es ++ rest) (map-append shown all (named ∷ []))
    ∙ (append_assoc (map shown all) (shown named ∷ []) rest
    ∙ ap (λ (e : ListName × AnyListing). map shown all ++ e ∷ rest) one))

-- and the pictures of some lists show these
pub shown-more : (all news : List NamedPicture) (more rest : NamedLists) → map shown news ≡ map shown all ++ more → map shown news ++ rest ≡ map shown all ++ (more ++ rest)
shown-more all news more rest is = ap (λ es. es ++ rest) is ∙ append_assoc (map shown all) more rest

pub shown-end : (all : List NamedPicture) (left whole : NamedLists) → left ≡ [] → map shown all ++ left ≡ whole → map shown all ≡ whole
shown-end all left whole none is = sym (append-nil (map shown all)) ∙ (ap (λ es. map shown all ++ es) (sym none) ∙ is)

-- ---- the range at an index

pub row-left : (rows : Rows) (at : ℕ) (low : ℤ) (l : Listing NumHit) → option_map (λ row. row.0) (slice_get rows at) ≡ Some low → option_map (λ row. row.1) (slice_get rows at) ≡ Some l
    → drop at rows ≡ (low, l) ∷ drop (at + 1) rows
row-left [] zero low l begins there = absurd (cc (begins))
row-left [] (suc at) low l begins there = absurd (cc (begins))
row-left (row ∷ rows) zero low l begins there =
    let is_low : row.0 ≡ low = cc (begins) in
    let is_list : row.1 ≡ l = cc (there) in
    ap (λ (n : ℤ). (n, row.1) ∷ rows) is_low ∙ ap (λ (k : Listing NumHit). (low, k) ∷ rows) is_list
row-left (row ∷ rows) (suc at) low l begins there =
    let next : suc (at + 1) ≡ suc at + 1 = omega arith in
    row-left rows at low l begins there ∙ ap (λ (n : ℕ). (low, l) ∷ drop n (row ∷ rows)) next

-- ---- the ranges of a field

-- those of the field at an index, once they are pictured too
pub slot-more : (ranges : List (Option Rows)) (k field : ℕ) (slot other : Option Rows) (all news : List NamedPicture) → k < length ranges → slice_index_or ranges k other ≡ slot → field ≡ k
    → map shown news ≡ map shown all ++ slot_named field slot → map shown news ++ slots_named (k + 1) (drop (k + 1) ranges) ≡ map shown all ++ slots_named k (drop k ranges)
slot-more ranges k field slot other all news within here one is =
    shown-more all news (slot_named field slot) (slots_named (k + 1) (drop (k + 1) ranges)) is
    ∙ (ap (λ (n : ℕ). map shown all ++ (slot_named n slot ++ slots_named (k + 1) (drop (k + 1) ranges))) one
    ∙ ap (λ left. map shown all ++ slots_named k left) (sym (drop_more ranges k other within ∙ ap (λ (first : Option Rows). first ∷ drop (k + 1) ranges) here)))

-- the lows of each field's ranges rise, of one field more
pub rise-more : (ranges : List (Option Rows)) (k : ℕ) (slot other : Option Rows) → k < length ranges → slice_index_or ranges k other ≡ slot → IfSome slot LowsRise
    → ((field : ℕ) → field < k → IfSome (rows_of ranges field) LowsRise) → (field : ℕ) → field < k + 1 → IfSome (rows_of ranges field) LowsRise
rise-more ranges k slot other within here rise before field below = elim (decided field k) [
  | inl is ↦
      subst (λ (n : ℕ). IfSome (rows_of ranges n) LowsRise) (sym is) (subst (λ (found : Option Rows). IfSome found LowsRise) (sym (rows-here ranges k other within ∙ here)) rise)
  | inr away ↦ before field (omega (arith, below, away))
]

pub rise-all : (ranges : List (Option Rows)) (k : ℕ) → length ranges ≤ k → ((field : ℕ) → field < k → IfSome (rows_of ranges field) LowsRise) → (field : ℕ) → IfSome (rows_of ranges field) LowsRise
rise-all ranges k past before field = elim (below-or-not field k) [
  | inl below ↦ before field below
  | inr beyond ↦ subst (λ (found : Option Rows). IfSome found LowsRise) (sym (rows-beyond ranges field (omega (arith, past, beyond)))) tt
]

-- ---- of all lists

-- words, tags and ranges, one kind behind another
pub shown-all : (lists : AllLists) (start words tags all : List NamedPicture) (slots : List (Option Rows)) → start ≡ [] → map shown words ≡ map shown start ++ words_named lists.words
    → map shown tags ≡ map shown words ++ fields_named lists.tags (keys_of lists.tags) → slots ≡ lists.ranges → map shown all ≡ map shown tags ++ slots_named 0 slots → map shown all ≡ all_named lists
shown-all lists start words tags all slots none words_are tags_are slots_are all_are =
    let fields = fields_named lists.tags (keys_of lists.tags) in
    let texts = words_named lists.words in
    all_are
    ∙ (ap (λ es. es ++ slots_named 0 slots) (tags_are ∙ ap (λ es. es ++ fields) (words_are ∙ ap (λ ps. map shown ps ++ texts) none))
    ∙ (append_assoc texts fields (slots_named 0 slots)
    ∙ ap (λ rs. texts ++ (fields ++ slots_named 0 rs)) slots_are))

module _ (lists : AllLists) (all : List NamedPicture) (is : map shown all ≡ all_named lists) where
  keys-shown : (these : List NamedPicture) → keys_of (map shown these) ≡ names_of these
  keys-shown [] = refl
  keys-shown (named ∷ these) = ap (λ ns. named.name ∷ ns) (keys-shown these)

  pub pictures-own : AreOrdered lists → AllByRecursion (PicturesName lists) all
  pictures-own ordered =
      all-unmap shown (IsOwn lists) (PicturesName lists) (λ named own. own) all (subst (AllByRecursion (IsOwn lists)) (sym is) (all-own lists ordered))

  pub pictures-rise : AreOrdered lists → NamesRise (names_of all)
  pictures-rise ordered = subst NamesRise (ap keys_of (sym is) ∙ keys-shown all) (all-rise lists ordered)

  pub pictures-every : (name : ListName) → IsSome (snapshots.list_at lists name) → Contains (names_of all) name
  pictures-every name there = subst (λ ns. Contains ns name) (ap keys_of (sym is) ∙ keys-shown all) (all-among lists name there)
