-- What is read with so many levels left.
use Rattle.std.specs.Prelude.{ℕ, List}
use Rattle.ft_base.specs.declared.definition.IndexDef.{IndexDef}
use Rattle.ft_base.specs.declared.query.Fields.{Fields}
use Rattle.ft_base.specs.declared.query.Param.{Param}
use Rattle.ft_base.specs.Reading.{◌>>=◌}
use Rattle.query_grammar.specs.Grammar.{Sort, Union}
use Rattle.query_grammar.specs.Reading.{Reader, closed_with, deeper, next_sign, sort_at}

-- what a reader of a sort gives, within fields
abbrev pub reads : IndexDef → List Param → Fields → ℕ → Sort → Reader
reads def params fields levels sort ts = sort_at def params (deeper def params levels) fields sort ts

-- the union in a group, and its closing parenthesis
abbrev pub reads_inside : IndexDef → List Param → Fields → ℕ → Reader
reads_inside def params fields levels ts = reads def params fields levels Union ts >>= λ x. closed_with def params (next_sign x.1) x.0 x.1
