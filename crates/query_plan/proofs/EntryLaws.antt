-- What the entries of a list have at the id of a live document.
use Rattle.std.proofs.Common.{◌≡◌, ℕ, suc, ◌<◌, ◌≤◌, Bool, true, false, ◌&&◌, ◌||◌, eqb, List, [], ◌∷◌, ◌++◌, map, Option, Some, None, refl, sym, ap, ◌∙◌, subst, inl, inr, arith}
use Rattle.std.specs.Prelude.{nat_eq}
use Rattle.std.specs.List.{All, list_any}
use Rattle.std.specs.Map.{lookup}
use Rattle.std.proofs.Math.Bool.{or-false}
use Rattle.std.proofs.lemmas.Bool.{cases_Bool, false≢true}
use Rattle.std.proofs.lemmas.Bool.Decides.{nat_tests, eqb_tells}
use Rattle.ft_base.specs.declared.definition.IndexDef.{IndexDef}
use Rattle.ft_base.specs.Docs.{Doc}
use Rattle.ft_meaning.specs.Meaning.{ValuesFit}
use Rattle.ft_meaning.specs.Sortable.{sorting_vector}
use Rattle.id_iters.specs.Entries.{has_entry, wanted}
use Rattle.id_iters.proofs.EntryLaws.{has_at_low}
use Rattle.ft_index.specs.Has.{alive}
use Rattle.ft_index.specs.Lists.{Vector, has_id}
use Rattle.inverted_list.specs.Listing.{RisesAbove, last_id}
use Rattle.numeric_ranges.proofs.HalfLaws.{rises_low}
use Rattle.query_plan.specs.Plans.{IsIn}

-- the row of a document
abbrev pub row_of : IndexDef → Doc → ℕ × Vector
row_of def doc = (doc.id, sorting_vector def doc)

-- ids rise, from above a number on
abbrev pub Rise : ℕ → List Doc → Type 0
Rise low [] = Unit {0}
Rise low (doc ∷ docs) = (low < doc.id) × Rise doc.id docs

pub rise_from : (def : IndexDef) (low : ℕ) (docs : List Doc) → RisesAbove low (map (row_of def) docs) → Rise low docs
rise_from def low [] rises = tt
rise_from def low (doc ∷ docs) rises = (rises.0, rise_from def doc.id docs rises.1)

pub above : (low : ℕ) (doc : Doc) (docs : List Doc) → Rise low docs → IsIn doc docs → low < doc.id
above low doc [] rise among = absurd among
above low doc (first ∷ docs) rise (inl same) = omega (arith, rise.0, ap (λ (d : Doc). d.id) same)
above low doc (first ∷ docs) rise (inr among) = omega (arith, rise.0, above first.id doc docs rise.1 among)

pub upto : (def : IndexDef) (low : ℕ) (doc : Doc) (docs : List Doc) → Rise low docs → IsIn doc docs → doc.id ≤ last_id low (map (row_of def) docs)
upto def low doc [] rise among = absurd among
upto def low doc (first ∷ docs) rise (inl same) = omega (arith, ap (λ (d : Doc). d.id) same, last_above first.id docs rise.1)
  where
    last_above : (n : ℕ) (ds : List Doc) → Rise n ds → n ≤ last_id n (map (row_of def) ds)
    last_above n [] r = omega arith
    last_above n (d ∷ ds) r = omega (arith, r.0, last_above d.id ds r.1)
upto def low doc (first ∷ docs) rise (inr among) = upto def first.id doc docs rise.1 among

pub fits : (doc : Doc) (docs : List Doc) → All (λ (d : Doc). ValuesFit d.hash) docs → IsIn doc docs → ValuesFit doc.hash
fits doc [] all among = absurd among
fits doc (first ∷ docs) all (inl same) = subst (λ (d : Doc). ValuesFit d.hash) (sym same) (all 0 first (omega arith))
fits doc (first ∷ docs) all (inr among) = fits doc docs (λ k d less. all (suc k) d (omega (arith, less))) among

pub eqb_itself : (n : ℕ) → eqb n n ≡ true
eqb_itself n = grind (arith, nat_tests)

pub is_live : (def : IndexDef) (doc : Doc) (docs : List Doc) → IsIn doc docs → has_id (map (row_of def) docs) doc.id ≡ true
is_live def doc [] among = absurd among
is_live def doc (first ∷ docs) (inl same) =
    let here : eqb doc.id first.id ≡ true = rw same (eqb_itself first.id) in
    rw here refl
is_live def doc (first ∷ docs) (inr among) =
    elim (cases_Bool (eqb doc.id first.id)) [
      | inl y ↦ rw y refl
      | inr n ↦ rw n (is_live def doc docs among)
    ]

-- a live id is that of a document
pub live_doc : (def : IndexDef) (id : ℕ) (docs : List Doc) → has_id (map (row_of def) docs) id ≡ true → (doc : Doc) × IsIn doc docs × (doc.id ≡ id)
live_doc def id [] live = absurd (false≢true live)
live_doc def id (first ∷ docs) live =
    elim (eqb_tells id first.id) [
      | inl i ↦ (first, inl refl, sym i.1)
      | inr i ↦
          let rest : has_id (map (row_of def) docs) id ≡ true = rw i.0 at live in
          let found = live_doc def id docs rest in (found.0, inr found.1, found.2)
    ]

-- ---- the document of an id

pub missed : (test : Doc → Bool) (low id : ℕ) (docs : List Doc) → Rise low docs → id ≤ low → list_any (λ (doc : Doc). nat_eq id doc.id && test doc) docs ≡ false
missed test low id [] rise below = refl
missed test low id (doc ∷ docs) rise below =
    let other : eqb id doc.id ≡ false = grind (arith, nat_tests) in
    rw other (missed test doc.id id docs rise.1 (omega (arith, below, rise.0)))

-- a test of the document with an id, where there is one
pub one_finds : (test : Doc → Bool) (low : ℕ) (doc : Doc) (docs : List Doc) → Rise low docs → IsIn doc docs
    → list_any (λ (d : Doc). nat_eq doc.id d.id && test d) docs ≡ test doc
one_finds test low doc [] rise among = absurd among
one_finds test low doc (first ∷ docs) rise (inl same) =
    subst (λ (d : Doc). list_any (λ (e : Doc). nat_eq d.id e.id && test e) (first ∷ docs) ≡ test d) (sym same)
    (rw (eqb_itself first.id, missed test first.id first.id docs rise.1 (omega arith)) (or-false (test first)))
one_finds test low doc (first ∷ docs) rise (inr among) =
    let behind = above first.id doc docs rise.1 among in
    let other : eqb doc.id first.id ≡ false = grind (arith, nat_tests, behind) in
    rw other (one_finds test first.id doc docs rise.1 among)

pub none_finds : (def : IndexDef) (test : Doc → Bool) (id : ℕ) (docs : List Doc) → has_id (map (row_of def) docs) id ≡ false
    → list_any (λ (d : Doc). nat_eq id d.id && test d) docs ≡ false
none_finds def test id [] dead = refl
none_finds def test id (first ∷ docs) dead =
    elim (cases_Bool (eqb id first.id)) [
      | inl y ↦
          let live : true ≡ false = rw y at dead in
          absurd (false≢true (sym live))
      | inr n ↦
          let rest : has_id (map (row_of def) docs) id ≡ false = rw n at dead in
          rw n (none_finds def test id docs rest)
    ]

-- ---- entries that are live

module _ {P : Type 0} (live : List (ℕ × Vector)) where
  -- at a live id the live entries have what all have
  pub lookup_alive : (id : ℕ) (es : List (ℕ × P)) → has_id live id ≡ true → lookup (nat_eq id) (alive live es) ≡ lookup (nat_eq id) es
  lookup_alive id [] there = refl
  lookup_alive id (e ∷ es) there =
      elim (eqb_tells id e.0) [
        | inl i ↦
            let here : has_id live e.0 ≡ true = ap (has_id live) (sym i.1) ∙ there in
            rw (here, i.0) refl
        | inr i ↦ elim (cases_Bool (has_id live e.0)) [
          | inl y ↦ rw (y, i.0) (lookup_alive id es there)
          | inr n ↦ rw (n, i.0) (lookup_alive id es there)
        ]
      ]

  pub entry_alive : (wants : P → Bool) (id : ℕ) (es : List (ℕ × P)) → has_id live id ≡ true → has_entry wants (alive live es) id ≡ has_entry wants es id
  entry_alive wants id [] there = refl
  entry_alive wants id (e ∷ es) there =
      elim (eqb_tells id e.0) [
        | inl i ↦
            let here : has_id live e.0 ≡ true = ap (has_id live) (sym i.1) ∙ there in
            rw (here, i.0) (ap (λ b. wants e.1 || b) (entry_alive wants id es there))
        | inr i ↦ elim (cases_Bool (has_id live e.0)) [
          | inl y ↦ rw (y, i.0) (entry_alive wants id es there)
          | inr n ↦ rw (n, i.0) (entry_alive wants id es there)
        ]
      ]

-- ---- entries that come of documents

module _ {P : Type 0} where
  -- the entry of a document with a hit
  abbrev pub entry_of : ℕ → Option P → List (ℕ × P)
  entry_of id None = []
  entry_of id (Some hit) = (id, hit) ∷ []

module _ {P : Type 0} (of : Doc → Option P) where
  -- the entries of the documents that have a hit
  abbrev pub all_entries : List Doc → List (ℕ × P)
  all_entries [] = []
  all_entries (doc ∷ docs) = entry_of doc.id (of doc) ++ all_entries docs

  no_lookup : (low id : ℕ) (docs : List Doc) → Rise low docs → id ≤ low → lookup (nat_eq id) (all_entries docs) ≡ None
  no_lookup low id [] rise below = refl
  no_lookup low id (doc ∷ docs) rise below =
      elim (of doc) as (λ (o : Option P). lookup (nat_eq id) (entry_of doc.id o ++ all_entries docs) ≡ None) [
        | None ↦ no_lookup doc.id id docs rise.1 (omega (arith, below, rise.0))
        | Some hit ↦
            let other : eqb id doc.id ≡ false = grind (arith, nat_tests) in
            rw other (no_lookup doc.id id docs rise.1 (omega (arith, below, rise.0)))
      ]

  pub lookup_entries : (low : ℕ) (doc : Doc) (docs : List Doc) → Rise low docs → IsIn doc docs → lookup (nat_eq doc.id) (all_entries docs) ≡ of doc
  lookup_entries low doc [] rise among = absurd among
  lookup_entries low doc (first ∷ docs) rise (inl same) =
      subst (λ (d : Doc). lookup (nat_eq d.id) (all_entries (first ∷ docs)) ≡ of d) (sym same) (here (of first))
    where
      here : (o : Option P) → lookup (nat_eq first.id) (entry_of first.id o ++ all_entries docs) ≡ o
      here None = no_lookup first.id first.id docs rise.1 (omega arith)
      here (Some hit) = rw (eqb_itself first.id) refl
  lookup_entries low doc (first ∷ docs) rise (inr among) =
      elim (of first) as (λ (o : Option P). lookup (nat_eq doc.id) (entry_of first.id o ++ all_entries docs) ≡ of doc) [
        | None ↦ lookup_entries first.id doc docs rise.1 among
        | Some hit ↦
            let behind = above first.id doc docs rise.1 among in
            let other : eqb doc.id first.id ≡ false = grind (arith, nat_tests, behind) in
            rw other (lookup_entries first.id doc docs rise.1 among)
      ]

  -- their ids rise
  entries_rise : (low : ℕ) (docs : List Doc) → Rise low docs → RisesAbove low (all_entries docs)
  entries_rise low [] rise = tt
  entries_rise low (doc ∷ docs) rise =
      elim (of doc) as (λ (o : Option P). RisesAbove low (entry_of doc.id o ++ all_entries docs)) [
        | None ↦ rises_low low doc.id (all_entries docs) (omega (arith, rise.0)) (entries_rise doc.id docs rise.1)
        | Some hit ↦ (rise.0, entries_rise doc.id docs rise.1)
      ]

  pub has_entries : (wants : P → Bool) (low : ℕ) (doc : Doc) (docs : List Doc) → Rise low docs → IsIn doc docs
      → has_entry wants (all_entries docs) doc.id ≡ wanted wants (of doc)
  has_entries wants low doc docs rise among =
      has_at_low wants low doc.id (all_entries docs) (entries_rise low docs rise) ∙ ap (wanted wants) (lookup_entries low doc docs rise among)
