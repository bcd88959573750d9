use Rattle.std.proofs.Common.{◌∙◌, Bool, ℕ, ap, not, sym, subst}
use Rattle.id_iters.specs.Ready.{AheadReady}
use Rattle.id_iters.specs.Sets.{About, about_ahead}
use Rattle.id_iters.specs.declared.iter.Ahead.{Ahead}
use Rattle.id_iters.proofs.Layers.{about_not}
use Rattle.id_iters.proofs.SeekLaws.{not_ready}
use Rattle.id_iters.proofs.iter.Iter.of_other.Goals as goal

pub returns-clause-set : goal.returns-clause-set
returns-clause-set c = λ held.
    let others : About → ℕ → Bool = λ x id. not (x.has id) in
    ap (λ (x : About). x.has) (about_not held c.in_ok-boxed.boxed)
    ∙ ap (λ (a : Ahead). others (about_ahead held a)) c.in_ok-boxed.ensures.ok
    ∙ ap others (c.new-ahead.ensures.set held)

pub returns-clause-ready : goal.returns-clause-ready
returns-clause-ready c = λ held from ready.
    not_ready held c.in_ok-boxed.boxed from
    (subst (λ (a : Ahead). AheadReady held a from) (sym c.in_ok-boxed.ensures.ok) (c.new-ahead.ensures.ready held from ready))
