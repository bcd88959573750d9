use Rattle.ft_server.proofs.CallerLaws.{woven_own}
use Rattle.ft_server.proofs.laws.own_entries.Goals as goal

pub returns : goal.returns
returns c = woven_own
