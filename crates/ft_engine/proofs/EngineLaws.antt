-- What an engine keeps, and what its callers are told.
use Rattle.std.specs.Prelude.{◌≡◌, ◌≤◌, ℕ, Bool, true, false, map, refl, Option}
use Rattle.std.proofs.Common.{arith}
use Rattle.std.specs.List.{IsDistinct}
use Rattle.std.specs.Str.{bytes_eq}
use Rattle.ft_base.specs.Docs.{Doc}
use Rattle.ft_machine.specs.Step.{last_number, next_number}
use Rattle.indexed_store.specs.Holding.{AllStand, Holding}
use Rattle.ft_engine.specs.Stands.{IsIndexed, stands_of, unused}
use Rattle.ft_engine.specs.declared.last_splice.LastSplice.{LastSplice}

-- what is held is what an engine's callers are told
pub indexed : (held : Holding) (next : ℕ) (pending : Bool) (last : Option LastSplice) → IsDistinct bytes_eq (map (λ (doc : Doc). doc.key) held.space) → ((number : ℕ) → held.next ≤ number → AllStand number held)
    → held.next ≤ unused pending next → IsIndexed (stands_of held next pending last)
indexed held next pending last differ stand earlier =
    let all = stand (unused pending next) earlier in
    record { definitions = refl; keys = differ; documents = all.documents; indexes = all.indexes; apart = all.apart }

-- an event that begins is behind what is held
pub begins : (first next : ℕ) (pending : Bool) → pending ≡ false → next ≤ last_number → first ≤ unused pending next → first ≤ next_number next
begins first next true free number earlier = absurd (cc)
begins first next false free number earlier = omega (arith, number, earlier)

-- where no event is prepared, what is held is before the next one
pub before-event : (first next : ℕ) (pending : Bool) → pending ≡ false → first ≤ unused pending next → first ≤ next
before-event first next true free earlier = absurd (cc)
before-event first next false free earlier = earlier

-- an event that ends is before the next one
pub ends : (first next : ℕ) (pending : Bool) → pending ≡ true → first ≤ unused pending next → first ≤ next_number next
ends first next true prepared earlier = earlier
ends first next false prepared earlier = absurd (cc)
