use Rattle.std.proofs.lemmas.List.Sorted.{ranks_by}
use Rattle.row_sort.proofs.SortingLaws.{sorted-permutation, sorted-sorted, sorted-stable, sorted_only}
use Rattle.row_sort.proofs.laws.sorted_is_stable.Goals as goal

pub returns : goal.returns
returns g c = record {
  same = λ order xs. sorted-permutation order xs;
  rises = λ order xs o. sorted-sorted order (ranks_by o (λ x. x)) xs;
  stable = λ order xs o x. sorted-stable order (ranks_by o (λ x. x)) x xs;
  only = λ order xs ys o up ties. sorted_only order (ranks_by o (λ x. x)) xs ys up ties;
}
