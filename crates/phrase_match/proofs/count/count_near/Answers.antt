use Rattle.std.proofs.Common.{◌≤◌, ◌-◌, length, get_or, ltb, take, drop, arith, rules}
use Rattle.std.proofs.lemmas.List.Sorted.{IsPartitionPoint-from_clause, IsPartitionedBy-ltb, IsNonDecreasingBy-take, IsNonDecreasingBy-drop}
use Rattle.phrase_match.proofs.PlacesLaws.{rises_by}
use Rattle.phrase_match.proofs.SearchLaws.{halved}
use Rattle.phrase_match.proofs.count.count_near.Goals as goal
use Rattle.phrase_match.proofs.count.count_near.Goals.{then-doubling-test+else-from-low, else-doubling-test}

pub returns-clause-is : goal.returns-clause-is
returns-clause-is c =
    let list = c.args.list.now in
    let below = c.doubling.below in
    let part = take (c.min-end.result - below) (drop below list) in
    let parted = IsPartitionedBy-ltb (λ x. x) part c.args.low (IsNonDecreasingBy-take (λ x. x) (c.min-end.result - below)
    (drop below list) (IsNonDecreasingBy-drop (λ x. x) below list (rises_by list c.requires))) in
    let point = IsPartitionPoint-from_clause
    (λ y. ltb y c.args.low) part c.partition_point.result c.partition_point.ensures.partitioned parted (λ a r q k. search rules) in
    let too_far : c.doubling.reach ≤ length list → c.args.low ≤ get_or list (c.doubling.reach - 1) 0 =
    elim c.doubling-test.branch [ then-doubling-test+else-from-low w ↦ λ h. omega arith | else-doubling-test w ↦ λ h. absurd (omega arith) ] in
    halved c.args.low below c.doubling.reach c.min-end.result c.partition_point.result list c.requires c.doubling.invariant.short c.doubling.invariant.ahead c.doubling.invariant.passed c.min-end.ensures too_far c.partition_point.ensures.bound point
