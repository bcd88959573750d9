use Rattle.ft_server.proofs.CallerLaws.{called_none}
use Rattle.ft_server.proofs.EndingLaws.{ends_at_once}
use Rattle.ft_server.proofs.connection.serve_connection.Goals as goal

pub returns-in-Err-clause-ends : goal.returns-in-Err-clause-ends
returns-in-Err-clause-ends g c = ends_at_once _ _ (called_none _ _)
