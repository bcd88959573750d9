-- What a reader finds that reads a list block by block.
use Rattle.std.proofs.Common.{◌≡◌, ℕ, ◌<◌, ◌≤◌, ◌+◌, Bool, ◌&&◌, List, Some, None, max, sym, ap, ◌∙◌, subst, arith}
use Rattle.posting_block.specs.Rising.{RisesAbove, last_id}
use Rattle.inverted_list.specs.Places.{IsBlockFrom}
use Rattle.id_iters.specs.Ahead.{IsAhead, first_of, ids_from, live_from, wanted_ids}
use Rattle.id_iters.specs.Entries.{has_entry}
use Rattle.id_iters.specs.Least.{IsLeastAt, NoneBetween, NoneFrom}
use Rattle.id_iters.proofs.BlockLaws.{Reads, found_block, no_block}
use Rattle.id_iters.proofs.LeastLaws.{least_joined, none_longer}
use Rattle.id_iters.proofs.ReadAheadLaws.{ahead_read, found, live_dropped, used}

-- A block was read behind a place, from a number on.
module _ {P : Type 0} (wants : P → Bool) (es : List (ℕ × P)) (from : ℕ) (some : 1 ≤ from) where
  pub none_there : RisesAbove 0 es → last_id 0 es < from → NoneFrom (has_entry wants es) from
  none_there rises e = no_block wants from es rises some e

  module _ (block : List (ℕ × P)) (filled : List ℕ) (next : ℕ) (rises : RisesAbove 0 es) (is : IsBlockFrom from es block)
      (reached : next ≡ last_id 0 block) where
    reads : Reads wants from es block
    reads = found_block wants from es block rises some is

    last_is : next ≡ last_id 0 block
    last_is = reached

    pub goes_forward : from ≤ next
    goes_forward =
        let far : from ≤ last_id 0 block = reads.forward in
        omega (arith, far, last_is)

    pub reads_ahead : ids_from from filled ≡ wanted_ids wants from block → IsAhead (has_entry wants es) next from (ids_from from filled)
    reads_ahead read =
        subst (λ n. IsAhead (has_entry wants es) n from (ids_from from filled)) (sym last_is)
        (ahead_read (has_entry wants es) (last_id 0 block) from filled (wanted_ids wants from block) read reads.gives)

-- Nothing is left from `from` on up to the place's last, and `start` comes next.
module _ {P : Type 0} (live : ℕ → Bool) (wants : P → Bool) (es : List (ℕ × P)) (from last start : ℕ) (comes : start ≡ max from (last + 1))
    (none : NoneBetween (λ id. live id && has_entry wants es id) from (last + 1)) where
  abbrev wanted : ℕ → Bool
  wanted id = live id && has_entry wants es id

  none_later : NoneBetween wanted from start
  none_later = record { fails = λ id low high. none.fails id low (omega (arith, low, high, comes)) }

  module _ (filled new : List ℕ) (next : ℕ) (ahead : IsAhead (has_entry wants es) next start (ids_from start filled)) (rest : new ≡ live_from live start filled) where
    rest_is : new ≡ live_from live start (ids_from start filled)
    rest_is = rest ∙ sym (live_dropped live start filled)

    pub finds : (id : ℕ) → Some id ≡ first_of new → IsLeastAt wanted from id × IsAhead (has_entry wants es) next (id + 1) new
    finds id e =
        let both = found live (has_entry wants es) next start (ids_from start filled) new id ahead rest_is e in
        (least_joined wanted from start id (omega (arith, comes)) none_later both.0, both.1)

    pub goes_on : None ≡ first_of new → NoneBetween wanted from (next + 1)
    goes_on e = none_longer wanted from start (next + 1) none_later (used live (has_entry wants es) next start (ids_from start filled) new ahead rest_is e)
