use Rattle.list_plan.specs.Parts.{Splits}
use Rattle.list_plan.proofs.parts.split.Given as goal

abbrev pub invariant-parts : goal.invariant-parts
invariant-parts l = Splits l.yielded l.found.items l.denied.items
