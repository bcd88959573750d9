use Rattle.std.proofs.Common.{arith}
use Rattle.std.proofs.lemmas.List.Sorted.{IsNonDecreasingBy-from_sort}
use Rattle.search_exec.proofs.CandidatesLaws.{keys-named}
use Rattle.search_exec.proofs.candidates.NamedIds.of.Goals as goal

pub returns-clause-named : goal.returns-clause-named
returns-clause-named c =
    keys-named c.in_ok-ids.ids.items c.sort_unstable.new.self.items c.args.keys.now c.args.store.now.space c.len-count.ensures.rises c.len-count.ensures.distinct c.in_ok-ids.ensures c.sort_unstable.ensures.permutation

pub returns-clause-behind : goal.returns-clause-behind
returns-clause-behind c = record {
  rise = IsNonDecreasingBy-from_sort (λ id. id) c.sort_unstable.new.self.items c.sort_unstable.ensures.sorted;
  within = omega arith;
  below = λ k d here. absurd (omega (arith, here));
}
