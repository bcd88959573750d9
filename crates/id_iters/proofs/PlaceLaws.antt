-- When leaves may be asked.
use Rattle.std.proofs.Common.{◌≡◌, ℕ, ◌<◌, ◌≤◌, ◌+◌, Bool, true, false, cond, ◌&&◌, ◌||◌, List, [], ◌∷◌, Some, refl, arith, IsSome}
use Rattle.std.specs.Prelude.{nat_eq}
use Rattle.std.specs.Map.{lookup}
use Rattle.std.proofs.lemmas.Bool.{false≢true}
use Rattle.id_iters.specs.Entries.{has_entry}
use Rattle.id_iters.specs.Held.{Held}
use Rattle.id_iters.specs.Places.{LeafReady, WordReady, LeavesReady, StandAt, AllStandAt}
use Rattle.id_iters.specs.declared.leaf.Leaf.{Leaf}
use Rattle.id_iters.proofs.ReadAheadLaws.{ahead_later}

-- where an id is had it has a hit
pub hit_there : {P : Type 0} (id : ℕ) (es : List (ℕ × P)) → has_entry (λ hit. true) es id ≡ true → IsSome (lookup (nat_eq id) es)
hit_there id [] h = absurd (false≢true h)
hit_there {P} id (e ∷ es) h = pick (nat_eq id e.0) (hit_there id es) h
  where
    pick : (b : Bool) → (has_entry (λ (hit : P). true) es id ≡ true → IsSome (lookup (nat_eq id) es))
        → ((b && true) || has_entry (λ (hit : P). true) es id) ≡ true → IsSome (cond b (Some e.1) (lookup (nat_eq id) es))
    pick true more k = refl
    pick false more k = more k

module _ (held : Held) where
  pub leaf_waits : (leaf : Leaf) (from to : ℕ) → LeafReady held leaf from → from ≤ to → LeafReady held leaf to
  leaf_waits leaf from to r h = record { sound = r.sound; ahead = ahead_later _ _ from to leaf.ahead r.ahead h }

  pub word_waits : (leaf : Leaf) (from to : ℕ) → WordReady held leaf from → from ≤ to → WordReady held leaf to
  word_waits leaf from to r h = record { sound = r.sound; ahead = ahead_later _ _ from to leaf.ahead r.ahead h }

  pub word_rests : (leaf : Leaf) (id to : ℕ) → StandAt held leaf id → id < to → WordReady held leaf to
  word_rests leaf id to s h = word_waits leaf (id + 1) to s.ready (omega (arith, h))

  pub leaves_rest : (leaves : List Leaf) (id to : ℕ) → AllStandAt held leaves id → id < to → LeavesReady held leaves to
  leaves_rest leaves id to all h = λ k d l. word_rests _ id to (all k d l) h
