use Rattle.std.proofs.Common.{◌≡◌, true, false, sym, ◌∙◌, rules, ap}
use Rattle.query_lex.specs.Pieces.{trimmed, front_of, ends_in}
use Rattle.query_lex.proofs.Trimming.{trims, trims-not}
use Rattle.query_lex.proofs.piece.trim.Goals as goal

pub trimming-preserved : goal.trimming-preserved
trimming-preserved c =
    let blank : ends_in 32 c.trimming.piece.items ≡ true = search rules in
    let popped : c.pop.new.self.items ≡ front_of c.trimming.piece.items = search rules in
    ap trimmed popped ∙ trims c.trimming.piece.items blank ∙ c.trimming.invariant

pub returns : goal.returns
returns c =
    let blank : ends_in 32 c.trimming.piece.items ≡ false = search rules in
    sym (trims-not c.trimming.piece.items blank) ∙ c.trimming.invariant
