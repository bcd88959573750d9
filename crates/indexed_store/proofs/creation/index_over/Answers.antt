use Rattle.std.specs.Prelude.{◌+◌, []}
use Rattle.std.proofs.Common.{◌∙◌, sym, subst}
use Rattle.std.proofs.lemmas.Result.{IfOk-weaker}
use Rattle.indexed_store.specs.Filling.{HasTaken}
use Rattle.indexed_store.specs.Standing.{AreOfEvent, IndexStands, markers_at}
use Rattle.indexed_store.proofs.creation.index_over.Goals as goal

pub filled-requires-clause-none : goal.filled-requires-clause-none
filled-requires-clause-none c =
    let made = c.in_ok-index.ensures in
    subst (HasTaken c.new.new.markers []) (sym c.count_from.ensures) (record {
      stands = made.none;
      sound = record { kept = made.sound.kept; waits = made.sound.waits; counted = c.requires.counted };
      before = made.before;
      given = λ marker has. (made.given marker has).event ∙ sym made.event;
    })

pub returns-clause-stands : goal.returns-clause-stands
returns-clause-stands c =
    IfOk-weaker c.filled.result _ _ (λ index stands. subst (λ event. IndexStands c.filled.new.store.space (event + 1) (markers_at (event + 1)) index) c.in_ok-index.ensures.event stands) c.filled.ensures.stands

pub returns-clause-given : goal.returns-clause-given
returns-clause-given c = IfOk-weaker c.filled.result _ _ (λ index given. subst (λ event. AreOfEvent event index) c.in_ok-index.ensures.event given) c.filled.ensures.given
