use Rattle.std.proofs.Common.{rules, sym, ◌∙◌}
use Rattle.turn_gate.proofs.SeatLaws.{logs_at}
use Rattle.turn_gate.proofs.steps.log_entries.Goals as goal

pub fetch_add-requires : goal.fetch_add-requires
fetch_add-requires g c =
    let laws = g.met.T.Told in (
      search rules,
      search rules,
      logs_at _ _ _ _ _ _ _ _ _ c.requires.picked (c.count-added.ensures ∙ sym (laws.sized _ _ _ _)) (laws.own _ _ _ _) c.requires.turn.0 c.requires.turn.1,
    )
