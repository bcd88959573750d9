-- How far a function of the parser is above the functions that it calls at the same level.
use Rattle.std.proofs.Common.{ℕ}
use Rattle.expr_eval.specs.declared.token.Chain.{Chain}
use Rattle.expr_eval.specs.declared.token.Chain.TheVariants.{Ors, Ands, Sums, Products}

abbrev pub rank : Chain → ℕ
rank Products = 4
rank Sums = 8
rank Ands = 15
rank Ors = 19
