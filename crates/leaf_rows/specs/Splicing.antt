-- The repair of a list.
use Rattle.std.specs.Prelude.{◌≡◌, ℕ, List, Bool, true, not, nat_eq, IfSome}
use Rattle.std.specs.List.{list_any}
use Rattle.doc_table.specs.Pages.{has_id}
use Rattle.ft_index.specs.declared.snapshots.Snapshot.{Snapshot}
use Rattle.ft_index.specs.Index.{Index, is_live}
use Rattle.ft_index.specs.Lists.{AllLists}
use Rattle.gc_splice.specs.Repaired.{repaired}
use Rattle.gc_splice.specs.declared.repair.Repair.{Repair}
use Rattle.inverted_list.specs.Blocks.{listing}
use Rattle.inverted_list.specs.Listing.{Listing}
use Rattle.inverted_list.specs.declared.picture.Picture.{Picture}
use Rattle.posting_block.specs.declared.hits.TextHit.{TextHit}
use Rattle.term_dict.specs.Terms.{list_of}

-- whether an id is live where these are dead
abbrev pub live_but : List ℕ → ℕ → Bool
live_but dead id = not (list_any (nat_eq id) dead)

-- a repair is that of a picture of the list
abbrev pub IsRepairOf : {P : Type 0} → (ℕ → Bool) → Listing P → Repair P → Type 0
IsRepairOf live l repair = (p : Picture _) × (listing p ≡ l) × (repair ≡ repaired live p)

-- where there is a list of the word, a repair is that of the list, by what was live in a snapshot
abbrev pub RepairsWord : Snapshot → AllLists → List ℕ → Repair TextHit → Type 0
RepairsWord snapshot lists word repair = IfSome (list_of lists.words word) (λ l. IsRepairOf (has_id snapshot.live) l repair)

-- what is live in an index was live in a snapshot
abbrev pub WereLive : Snapshot → Index → Type 0
WereLive snapshot index = (id : ℕ) → is_live index id ≡ true → has_id snapshot.live id ≡ true
