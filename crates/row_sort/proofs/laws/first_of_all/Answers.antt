use Rattle.std.proofs.lemmas.List.Sorted.{ranks_by}
use Rattle.row_sort.proofs.SortingLaws.{first-push, first_by_ones}
use Rattle.row_sort.proofs.laws.first_of_all.Goals as goal

pub returns : goal.returns
returns g c = record {
  one = λ order most xs x o. first-push order (ranks_by o (λ x. x)) most xs x;
  all = λ order most xs o. first_by_ones order (ranks_by o (λ x. x)) most xs;
}
