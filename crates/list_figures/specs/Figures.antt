-- The repair of a list that is measured.
use Rattle.std.specs.Prelude.{◌≡◌, ◌&&◌, ◌%◌, ℕ, Bool, not, nat_eq, nat_le}
use Rattle.gc_splice.specs.Repaired.{repaired}
use Rattle.gc_splice.specs.declared.repair.Repair.{Repair}
use Rattle.inverted_list.specs.Blocks.{listing}
use Rattle.inverted_list.specs.Listing.{Listing}
use Rattle.inverted_list.specs.declared.picture.Picture.{Picture}

-- whether an id is live where each tenth up to a number is dead
abbrev pub but_tenth : ℕ → ℕ → Bool
but_tenth till id = not (nat_eq (id % 10) 0 && nat_le id till)

-- a repair is that of a picture of the list
abbrev pub IsRepairOf : {P : Type 0} → (ℕ → Bool) → Listing P → Repair P → Type 0
IsRepairOf live l repair = (p : Picture _) × (listing p ≡ l) × (repair ≡ repaired live p)
