use Rattle.std.proofs.Common.{refl, rules}
use Rattle.ft_server.proofs.PlayingLaws.{counts_more}
use Rattle.ft_server.proofs.tally.Tally.with.Goals as goal

pub returns : goal.returns
returns c replies counts = counts_more c.args.self _ c.args.reply.now replies refl (rw (c.from.ensures, c.is_error.ensures) refl) c.number_of.ensures refl (search rules) counts
