-- When an iterator may be asked.
use Rattle.std.specs.Prelude.{◌≡◌, ◌<◌, ◌≤◌, ◌&&◌, ℕ, Bool, true, false, List, Option, None, Some, map, max, nat_le, if◌then◌else◌}
use Rattle.std.specs.List.{All, AllByRecursion}
use Rattle.id_iters.specs.Held.{Held}
use Rattle.id_iters.specs.Least.{IsLeast, NoneBetween}
use Rattle.id_iters.specs.Places.{LeafReady, LeavesReady}
use Rattle.id_iters.specs.Sets.{About, about_ahead, any_has, in_set}
use Rattle.id_iters.specs.Stretch.{Tells, Stretch, limit_of}
use Rattle.id_iters.specs.declared.iter.Ahead.{Ahead}
use Rattle.id_iters.specs.declared.iter.Iter.{Iter}
use Rattle.id_iters.specs.declared.iter.Iter.TheFolds.{rec-Iter, rec-Ahead}
use Rattle.id_iters.specs.declared.iter.Iter.TheOpen as layer

-- A part that keeps its last answer may be asked: the answer is still right, or it lies behind and may be asked again.
abbrev pub Keeps : (ℕ → Bool) → (ℕ → Type 0) → Bool → Option ℕ → ℕ → Type 0
Keeps has ready false next from = ready from
Keeps has ready true None from = IsLeast has from None
Keeps has ready true (Some n) from = (has n ≡ true) × NoneBetween has from n × ((later : ℕ) → n < later → ready later)

-- the kept answer, where it answers `from`
abbrev pub kept_answer : Bool → Option ℕ → ℕ → Option (Option ℕ)
kept_answer false next from = None
kept_answer true None from = Some None
kept_answer true (Some n) from = if nat_le from n then Some (Some n) else None

module _ (held : Held) where
  -- the live ids that some part has
  abbrev pub some_living : List About → ℕ → Bool
  some_living parts id = held.live id && any_has parts id

  -- an iterator may be asked where its parts may be; those of a union are asked beyond what it has read ahead
  abbrev pub ready_step : (X Y : Type 0) → (X → Iter) → (Y → Ahead) → (X → ℕ → Type 0) → (Y → ℕ → Type 0)
      → layer.Iter-F X Y → ℕ → Type 0
  ready_step X Y iter ahead ready keeps (layer.Leaf leaf) from = LeafReady held leaf from
  ready_step X Y iter ahead ready keeps (layer.And parts) from = AllByRecursion (λ part. ready part from) parts
  ready_step X Y iter ahead ready keeps (layer.Or parts stretch) from =
      AllByRecursion (λ part. keeps part (max from (limit_of stretch))) parts
      × Tells (some_living (map (λ part. about_ahead held (ahead part)) parts)) stretch from
  ready_step X Y iter ahead ready keeps (layer.Not part) from = keeps part.value from
  ready_step X Y iter ahead ready keeps (layer.Phrase phrase) from = LeavesReady held phrase.words from
  ready_step X Y iter ahead ready keeps other from = Unit {0}

  abbrev pub keeps_step : (X Y : Type 0) → (X → Iter) → (Y → Ahead) → (X → ℕ → Type 0) → (Y → ℕ → Type 0)
      → layer.Ahead-F X Y → ℕ → Type 0
  keeps_step X Y iter ahead ready keeps part from =
      Keeps (in_set held (iter part.iter)) (ready part.iter) part.asked part.next from

  abbrev pub ReadyAt : Iter → ℕ → Type 0
  ReadyAt = rec-Iter (ℕ → Type 0) (ℕ → Type 0) ready_step keeps_step

  abbrev pub AheadAt : Ahead → ℕ → Type 0
  AheadAt = rec-Ahead (ℕ → Type 0) (ℕ → Type 0) ready_step keeps_step

  -- The iterator may be asked from a number on, or from a higher one.
  pub record Ready (iter : Iter) (from : ℕ) : Type 0 where
    pub later : (number : ℕ) → from ≤ number → ReadyAt iter number

  pub record AheadReady (part : Ahead) (from : ℕ) : Type 0 where
    pub later : (number : ℕ) → from ≤ number → AheadAt part number

  -- The same of the parts of a union and of what it has read ahead.
  pub record UnionReady (parts : List Ahead) (stretch : Stretch) (from : ℕ) : Type 0 where
    pub parts_ready : All (λ part. AheadReady part (max from (limit_of stretch))) parts
    pub tells : Tells (some_living (map (about_ahead held) parts)) stretch from
