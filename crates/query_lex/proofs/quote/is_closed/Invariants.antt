use Rattle.std.proofs.Common.{◌≡◌, length}
use Rattle.query_lex.specs.Quotes.{is_closed}
use Rattle.query_lex.proofs.quote.is_closed.Given as goal

-- the quote is closed where what is left of it is
abbrev pub invariant-closing : goal.invariant-closing
invariant-closing l = is_closed l.bytes ≡ is_closed l.rest

abbrev pub decreases-closing : goal.decreases-closing
decreases-closing l = length l.rest
