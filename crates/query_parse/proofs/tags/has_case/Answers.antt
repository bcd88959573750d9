use Rattle.std.proofs.Common.{arith}
use Rattle.std.proofs.lemmas.Grind.{elements}
use Rattle.query_parse.proofs.tags.has_case.Goals as goal

pub returns-in-Tag : goal.returns-in-Tag
returns-in-Tag c = grind (arith, elements)

pub returns-in-Text : goal.returns-in-Text
returns-in-Text c = grind (arith, elements)

pub returns-in-None : goal.returns-in-None
returns-in-None c = grind (arith, elements)
