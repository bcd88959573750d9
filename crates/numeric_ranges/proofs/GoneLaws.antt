-- What is left of entries once some went.
use Rattle.std.proofs.Common.{◌≡◌, ◌≢◌, ◌⊎◌, ◌+◌, ℕ, ◌<◌, ◌≤◌, Bool, true, false, cond, ◌&&◌, [], ◌∷◌, length, inl, inr, refl, sym, ap, subst, ◌∙◌, arith, ℤ}
use Rattle.std.specs.List.{AllByRecursion}
use Rattle.std.proofs.lemmas.Bool.{cases_Bool, false≢true}
use Rattle.std.proofs.lemmas.Bool.Decides.{eqb_tells}
use Rattle.posting_block.specs.declared.hits.NumHit.{NumHit}
use Rattle.inverted_list.specs.declared.marker.Marker.{Marker}
use Rattle.inverted_list.specs.Listing.{Listing}
use Rattle.gc_splice.specs.declared.repair.Repair.{Repair}
use Rattle.gc_splice.specs.declared.splice.Spliced.{Spliced}
use Rattle.gc_splice.specs.declared.splice.Spliced.TheVariants.{Done}
use Rattle.gc_splice.specs.Alive.{Without, alive, all_alive}
use Rattle.gc_splice.specs.Splice.{Fits, SplicesList, picture_of}
use Rattle.gc_splice.proofs.SpliceLaws.{without_list}
use Rattle.gc_splice.proofs.WithoutLaws.{without_same, without_alive, all_without, length_without}
use Rattle.numeric_ranges.specs.Rows.{IsPart, Knows}
use Rattle.numeric_ranges.specs.Splicing.{removed_by}
use Rattle.numeric_ranges.specs.Values.{Entries}
use Rattle.numeric_ranges.specs.declared.spread.Spread.TheVariants.{One}
use Rattle.numeric_ranges.proofs.AddLaws.{Entry}

-- what is true of each entry is true of those that are left
pub all_part : (Q : Entry → Type 0) (es part : Entries) → IsPart es part → AllByRecursion Q es → AllByRecursion Q part
all_part Q es part p h = all_without p.0 Q es part p.1 h

-- no more are left than there were
pub fewer_part : (es part : Entries) → IsPart es part → length part ≤ length es
fewer_part es part p = length_without p.0 es part p.1

pub part_same : (es same : Entries) → same ≡ es → IsPart es same
part_same es same is = ((λ _. true), subst (λ (xs : Entries). Without (λ _. true) es xs) (sym is) (without_same (λ _. true) es))

-- where one value was alone and an entry is left, it still is
pub knows_one : (v : ℤ) (es part : Entries) → IsPart es part → Knows (One v) es → 0 < length part → Knows (One v) part
knows_one v es part p knows some = (some, all_part (λ e. e.1.value ≡ v) es part p knows.1)

-- ---- a splice
same_marker : (a b : Marker) → (a ≡ b) ⊎ (a ≢ b)
same_marker a b = elim (eqb_tells a.event b.event) [
  | inl e ↦ elim (eqb_tells a.nth b.nth) [
    | inl n ↦ inl (ap {B = Marker} (λ (x : ℕ). record { event = x; nth = a.nth }) e.1 ∙ ap {B = Marker} (λ (x : ℕ). record { event = b.event; nth = x }) n.1)
    | inr n ↦ inr (λ same. n.1 (ap (λ (m : Marker). m.nth) same))
  ]
  | inr e ↦ inr (λ same. e.1 (ap (λ (m : Marker). m.event) same))
]

-- what a splice leaves is a part of what there was
pub part_spliced : (repair : Repair NumHit) (marker : Marker) (old new : Listing NumHit) (outcome : Spliced) → SplicesList repair marker old new outcome
    → (repair.seen ≡ old.marker → (live : ℕ → Bool) × Fits live repair (picture_of old)) → IsPart old.entries new.entries
part_spliced repair marker old new outcome s fits = elim (same_marker repair.seen old.marker) [
  | inl same ↦
      let f = fits same in
      (f.0, subst (λ (l : Listing NumHit). Without f.0 old.entries l.entries) (sym (s.done same).0) (without_list f.0 old repair marker (s.blocks same) f.1))
  | inr other ↦ part_same old.entries new.entries (ap (λ (l : Listing NumHit). l.entries) (s.moved other).0)
]

-- where it did nothing, the list is as it was
pub same_undone : (repair : Repair NumHit) (marker : Marker) (old new : Listing NumHit) (outcome : Spliced) → SplicesList repair marker old new outcome
    → ((removed : ℕ) (kept : Bool) → outcome ≢ Done removed kept) → new ≡ old
same_undone repair marker old new outcome s undone = elim (same_marker repair.seen old.marker) [
  | inl same ↦ absurd (undone _ _ (s.done same).1)
  | inr other ↦ (s.moved other).0
]

-- the entries that it took out are those that are missing
pub removed_spliced : (repair : Repair NumHit) (marker : Marker) (old new : Listing NumHit) (outcome : Spliced) → SplicesList repair marker old new outcome
    → length new.entries ≤ length old.entries → length new.entries + removed_by outcome ≡ length old.entries
removed_spliced repair marker old new outcome s fewer = elim (same_marker repair.seen old.marker) [
  | inl same ↦ omega (arith, fewer, ap removed_by (s.done same).1)
  | inr other ↦ omega (arith, ap removed_by (s.moved other).1, ap (λ (l : Listing NumHit). length l.entries) (s.moved other).0)
]

-- ---- a collection
pub part_alive : (live : ℕ → Bool) (es part : Entries) → part ≡ alive live es → IsPart es part
part_alive live es part is = (live, subst (λ (xs : Entries). Without live es xs) (sym is) (without_alive live live es (each es)))
  where
    each : (xs : Entries) → AllByRecursion (λ (e : Entry). live e.0 ≡ true → live e.0 ≡ true) xs
    each [] = tt
    each (x ∷ xs) = ((λ h. h), each xs)

-- a dead entry is missing
pub fewer_alive : (live : ℕ → Bool) (es : Entries) → all_alive live es ≡ false → length (alive live es) < length es
fewer_alive live [] dead = absurd (false≢true (sym dead))
fewer_alive live (e ∷ es) dead =
    elim (cases_Bool (live e.0)) [
      | inl y ↦
          let rest : all_alive live es ≡ false = sym (ap (λ b. b && all_alive live es) y) ∙ dead in
          let is : alive live (e ∷ es) ≡ e ∷ alive live es = ap (λ b. cond b (e ∷ alive live es) (alive live es)) y in
          omega (arith, ap length is, fewer_alive live es rest)
      | inr n ↦
          let is : alive live (e ∷ es) ≡ alive live es = ap (λ b. cond b (e ∷ alive live es) (alive live es)) n in
          omega (arith, ap length is, fewer_part es (alive live es) (part_alive live es (alive live es) refl))
    ]
