use Rattle.query_lex.proofs.TextSpelled.{one-list, no-fault}
use Rattle.query_lex.proofs.laws.one_list_of_lexemes.Goals as goal

pub returns-clause-one : goal.returns-clause-one
returns-clause-one c = one-list

pub returns-clause-fault : goal.returns-clause-fault
returns-clause-fault c = no-fault
