-- What is answered to a text that is no query (docs/QUERY.md): the text of each fault.
use Rattle.std.specs.Prelude.{ℕ, List, ◌++◌, codes}
use Rattle.std.specs.Fmt.{decimal}
use Rattle.ft_base.specs.Memory.{want_of_memory}
use Rattle.query_grammar.specs.declared.fault.QueryFault.{QueryFault}
use Rattle.query_grammar.specs.declared.fault.QueryFault.TheVariants.{Syntax, UnknownField, WrongKind, NoParam, TooDeep, OutOfScope, NoMemory}

abbrev pub query_refusal : QueryFault → List ℕ
query_refusal (Syntax at) = codes "Syntax error at offset " ++ decimal at
query_refusal (UnknownField at) = codes "Unknown field at offset " ++ decimal at
query_refusal (WrongKind at) = codes "Wrong field kind at offset " ++ decimal at
query_refusal (NoParam at) = codes "No such parameter at offset " ++ decimal at
query_refusal (TooDeep at) = codes "Query too deep at offset " ++ decimal at
query_refusal (OutOfScope at) = codes "Not supported at offset " ++ decimal at
query_refusal NoMemory = want_of_memory
