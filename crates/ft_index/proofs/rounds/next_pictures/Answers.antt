use Rattle.std.proofs.Common.{arith}
use Rattle.ft_index.specs.Lists.{has_id, rows_of}
use Rattle.ft_index.proofs.CollectLaws.{tags-same, thin-same}
use Rattle.ft_index.proofs.ComingLaws.{lists-stay}
use Rattle.ft_index.proofs.PartLaws.{empty-part, no-pictures}
use Rattle.ft_index.proofs.ThinLaws.{slot-same}
use Rattle.ft_index.proofs.rounds.next_pictures.Goals as goal

pub returns-then-number-ge-LAST_EVENT-clause-pictures : goal.returns-then-number-ge-LAST_EVENT-clause-pictures
returns-then-number-ge-LAST_EVENT-clause-pictures c = no-pictures c.args.lists.now c.new.result c.new.ensures

pub returns-then-number-ge-LAST_EVENT-clause-part : goal.returns-then-number-ge-LAST_EVENT-clause-part
returns-then-number-ge-LAST_EVENT-clause-part c = empty-part c.args.lists.now c.new.result c.new.ensures

pub returns-then-number-ge-LAST_EVENT-clause-thin : goal.returns-then-number-ge-LAST_EVENT-clause-thin
returns-then-number-ge-LAST_EVENT-clause-thin c =
    let lists = c.args.lists.now in
    let live = has_id c.args.table.now.live in
    record { words = thin-same live lists.words; tags = tags-same live lists.tags; ranges = λ field. slot-same live (rows_of lists.ranges field) }

pub returns-then-number-ge-LAST_EVENT-clause-comes : goal.returns-then-number-ge-LAST_EVENT-clause-comes
returns-then-number-ge-LAST_EVENT-clause-comes c = lists-stay c.args.markers.now.event c.args.lists.now

pub returns-in_err-sweep-clause-still : goal.returns-in_err-sweep-clause-still
returns-in_err-sweep-clause-still c late = absurd (omega (arith, late, c.if-number-ge-LAST_EVENT.false))

pub returns-clause-still : goal.returns-clause-still
returns-clause-still c late = absurd (omega (arith, late, c.if-number-ge-LAST_EVENT.false))
