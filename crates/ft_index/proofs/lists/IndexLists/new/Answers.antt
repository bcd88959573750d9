-- The first lists take their markers as if there had been none before.
use Rattle.std.proofs.Common.{[], sym, subst}
use Rattle.posting_block.specs.declared.hits.TextHit.{TextHit}
use Rattle.term_dict.specs.Tags.{FieldTags}
use Rattle.term_dict.specs.Terms.{Lists}
use Rattle.ft_index.specs.Markers.{AreBefore, AreGiven, MarkersDiffer}
use Rattle.ft_index.proofs.ListsLaws.{first-before, first-differ, first-given}
use Rattle.ft_index.proofs.lists.IndexLists.new.Goals as goal

pub returns-clause-differ : goal.returns-clause-differ
returns-clause-differ c =
    subst (λ (words : Lists TextHit). MarkersDiffer (record { words = words; tags = c.new-2.result; ranges = c.in_ok-ranges.ranges.items })) (sym c.new.ensures)
    (subst (λ (tags : FieldTags). MarkersDiffer (record { words = []; tags = tags; ranges = c.in_ok-ranges.ranges.items })) (sym c.new-2.ensures)
    (first-differ c.args.markers.now c.first_ranges.new.markers c.in_ok-ranges.ranges.items c.in_ok-ranges.ensures.takes))

pub returns-clause-before : goal.returns-clause-before
returns-clause-before c =
    subst (λ (words : Lists TextHit). AreBefore c.first_ranges.new.markers (record { words = words; tags = c.new-2.result; ranges = c.in_ok-ranges.ranges.items })) (sym c.new.ensures)
    (subst (λ (tags : FieldTags). AreBefore c.first_ranges.new.markers (record { words = []; tags = tags; ranges = c.in_ok-ranges.ranges.items })) (sym c.new-2.ensures)
    (first-before c.args.markers.now c.first_ranges.new.markers c.in_ok-ranges.ranges.items c.in_ok-ranges.ensures.takes))

pub returns-clause-given : goal.returns-clause-given
returns-clause-given c =
    subst (λ (words : Lists TextHit). AreGiven c.args.markers.now c.first_ranges.new.markers (record { words = words; tags = c.new-2.result; ranges = c.in_ok-ranges.ranges.items })) (sym c.new.ensures)
    (subst (λ (tags : FieldTags). AreGiven c.args.markers.now c.first_ranges.new.markers (record { words = []; tags = tags; ranges = c.in_ok-ranges.ranges.items })) (sym c.new-2.ensures)
    (first-given c.args.markers.now c.first_ranges.new.markers c.in_ok-ranges.ranges.items c.in_ok-ranges.ensures.takes))
