use Rattle.row_sort.proofs.OrderLaws.{value_itself, value_total, row_total}
use Rattle.row_sort.proofs.laws.order_is_lawful.Goals as goal

pub returns : goal.returns
returns g c = record { itself = value_itself; values = value_total; rows = row_total }
