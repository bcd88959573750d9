use Rattle.std.proofs.Common.{◌∙◌, ap, arith, subst, sym}
use Rattle.std.specs.Prelude.{List, length}
use Rattle.ft_index.specs.Index.{Index}
use Rattle.indexed_store.specs.Listed.{lists_at}
use Rattle.indexed_store.proofs.ListedLaws.{without-at}
use Rattle.indexed_store.specs.Moving.{IndexesMove}
use Rattle.indexed_store.proofs.MovingLaws.{moves-others}
use Rattle.indexed_store.specs.DefinitionsOf.{definitions_of}
use Rattle.indexed_store.proofs.DroppingLaws.{in_step-others}
use Rattle.indexed_store.proofs.NamedLaws.{others-defined, others-fewer}
use Rattle.indexed_store.proofs.dropping.drop_index.Goals as goal

pub returns-clause-definitions : goal.returns-clause-definitions
returns-clause-definitions c = ap definitions_of c.take_index.ensures.others ∙ others-defined c.args.indexes.now.items c.args.name.now

pub returns-clause-kept : goal.returns-clause-kept
returns-clause-kept c store next step = in_step-others store c.args.indexes.now.items c.take_index.new.indexes.items c.args.name.now next c.take_index.ensures.others step

pub returns-clause-fewer : goal.returns-clause-fewer
returns-clause-fewer c = omega (arith, ap length c.take_index.ensures.others, others-fewer c.args.indexes.now.items c.args.name.now)

pub returns-clause-moves : goal.returns-clause-moves
returns-clause-moves c event = subst (λ (xs : List Index). IndexesMove event c.args.indexes.now.items xs) (sym c.take_index.ensures.others) (moves-others event c.args.indexes.now.items c.args.name.now)

pub returns-clause-lists : goal.returns-clause-lists
returns-clause-lists c other apart = ap (lists_at other) c.take_index.ensures.others ∙ without-at c.args.indexes.now.items c.args.name.now other apart
