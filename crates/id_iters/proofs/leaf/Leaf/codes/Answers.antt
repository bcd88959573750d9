use Rattle.std.proofs.Common.{Option, true, ap, sym, ◌∙◌}
use Rattle.std.specs.Option.{option_copied}
use Rattle.inverted_list.specs.Listing.{Listing}
use Rattle.posting_block.specs.declared.hits.TextHit.{TextHit}
use Rattle.id_iters.specs.Entries.{has_entry}
use Rattle.id_iters.specs.Held.{entries_of}
use Rattle.id_iters.proofs.PlaceLaws.{hit_there}
use Rattle.id_iters.proofs.leaf.Leaf.codes.Goals as goal

pub hit-requires : goal.hit-requires
hit-requires g c =
    hit_there c.args.id c.in-Some.list.now.entries
    (ap (λ (l : Option (Listing TextHit)). has_entry (λ (hit : TextHit). true) (entries_of l) c.args.id) (ap option_copied (sym c.in-Some.is) ∙ c.word_list.ensures) ∙ c.requires.entry)
