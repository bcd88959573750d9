use Rattle.std.proofs.Common.{◌∙◌}
use Rattle.ft_server.proofs.PlayingLaws.{ends_load}
use Rattle.ft_server.proofs.load.run_load.Goals as goal

pub returns-in-Ok : goal.returns-in-Ok
returns-in-Ok g c given =
    let all = c.in-Ok.ensures in
    ends_load c.args.seed c.args.docs c.write_lines.result c.as_str.result.now _ _ all.0 all.1 (c.as_str.ensures.value ∙ all.2) (c.write_lines.ensures given)
