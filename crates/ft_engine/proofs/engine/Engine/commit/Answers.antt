use Rattle.std.proofs.Common.{◌≡◌, ap, false, subst, sym, ◌∙◌}
use Rattle.indexed_store.specs.Listed.{lists_at, touches}
use Rattle.indexed_store.specs.declared.change.Change.{Change}
use Rattle.ft_engine.specs.Stands.{Stands}
use Rattle.ft_engine.specs.Stepping.{Moves}
use Rattle.indexed_store.specs.Moving.{IndexesMove}
use Rattle.std.specs.Prelude.{List}
use Rattle.ft_index.specs.Index.{Index}
use Rattle.ft_engine.proofs.engine.Engine.commit.Goals as goal

pub returns-clause-moves : goal.returns-clause-moves
returns-clause-moves c =
    let inside = c.self.inside in
    subst (λ (e : Stands). Moves e c.end.new.self) c.self.view_is (record {
      next = c.end.ensures.later;
      indexes = subst (λ (xs : List Index). IndexesMove inside.next inside.held.indexes xs) (sym (ap (λ (e : Stands). e.indexes) c.end.ensures.ended)) c.make.ensures.moves;
    })

pub returns-clause-lists : goal.returns-clause-lists
returns-clause-lists c = λ name apart.
    ap (λ (e : Stands). lists_at name e.indexes) c.end.ensures.ended
    ∙ (c.make.ensures.lists name (subst (λ (change : Change). touches change name ≡ false) (sym c.prepared.view_is) apart) ∙ ap (λ (e : Stands). lists_at name e.indexes) c.self.view_is)
