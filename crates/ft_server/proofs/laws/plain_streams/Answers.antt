use Rattle.ft_server.proofs.PlainLaws as laws
use Rattle.ft_server.proofs.laws.plain_streams.Goals as goal

pub returns : goal.returns
returns c = laws.plain_streams
