use Rattle.std.proofs.Common.{◌≤◌, Some, subst, sym}
use Rattle.indexed_store.specs.Moving.{IndexesMove}
use Rattle.ft_engine.proofs.EngineLaws.{indexed}
use Rattle.ft_engine.specs.Stands.{Stands}
use Rattle.ft_engine.proofs.engine.Engine.splice.Goals as goal

pub returns-clause-indexed : goal.returns-clause-indexed
returns-clause-indexed c =
    indexed c.self.inside.held c.self.inside.next c.self.inside.pending (Some (record { seen = c.seen_by-seen.result; answer = c.splice_list-answer.result })) c.stand.ensures.keys c.stand.ensures.stand c.self.invariant.earlier

pub returns-clause-moves : goal.returns-clause-moves
returns-clause-moves c = record {
  next = subst (λ (e : Stands). c.args.self.now.next ≤ e.next) (sym c.self.view_is) c.splice_list-answer.ensures.moves.next;
  indexes = subst (λ (e : Stands). IndexesMove c.args.self.now.next c.args.self.now.indexes e.indexes) (sym c.self.view_is) c.splice_list-answer.ensures.moves.indexes;
}
