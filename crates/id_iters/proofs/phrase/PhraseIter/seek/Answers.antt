use Rattle.std.proofs.Common.{arith, ◌&&◌, ◌+◌, ◌∙◌, ℕ, Option, sym, ap, subst}
use Rattle.std.proofs.lemmas.Grind.{common_steps}
use Rattle.std.specs.List.{list_all}
use Rattle.id_iters.specs.Least.{IsLeast}
use Rattle.id_iters.specs.Leaves.{has_word, list_names}
use Rattle.id_iters.specs.Places.{AllStandAt}
use Rattle.std.specs.Prelude.{IfSome}
use Rattle.id_iters.specs.declared.phrase.PhraseIter.{PhraseIter}
use Rattle.id_iters.proofs.PlaceLaws.{leaves_rest}
use Rattle.id_iters.proofs.PhraseLaws.{ends, finds, goes_on, same_ids}
use Rattle.id_iters.proofs.phrase.PhraseIter.seek.Goals as goal

pub returns-then-branch-clause-least : goal.returns-then-branch-clause-least
returns-then-branch-clause-least g c =
    let held = g.T.Lists.held c.args.lists.now in
    let least = subst (λ (o : Option ℕ). IsLeast (λ id. held.live id && list_all (λ name. has_word held name id) (list_names c.met.self.words)) c.met.next o) c.in-Some.is c.in_ok-id.ensures.least in
    let same = same_ids held c.args.self.now (record c.met.self { words = c.meet.new.words }) c.in-Some.id
    (ap (λ (p : PhraseIter). record p { words = c.meet.new.words }) c.met.invariant.same) (c.in_ok-id.ensures.names ∙ c.met.invariant.names) in
    finds held c.args.self.now c.met.self.words c.met.invariant.names c.args.from c.met.next c.met.invariant.none c.in-Some.id c.met.invariant.low least
    (sym same ∙ sym c.in_ok-stands.ensures ∙ c.if-branch.true)

pub met-preserved : goal.met-preserved
met-preserved g c =
    let held = g.T.Lists.held c.args.lists.now in
    let least = subst (λ (o : Option ℕ). IsLeast (λ id. held.live id && list_all (λ name. has_word held name id) (list_names c.met.self.words)) c.met.next o) c.in-Some.is c.in_ok-id.ensures.least in
    let same = same_ids held c.args.self.now (record c.met.self { words = c.meet.new.words }) c.in-Some.id
    (ap (λ (p : PhraseIter). record p { words = c.meet.new.words }) c.met.invariant.same) (c.in_ok-id.ensures.names ∙ c.met.invariant.names) in
    record {
      same = ap (λ (p : PhraseIter). record p { words = c.meet.new.words }) c.met.invariant.same;
      names = c.in_ok-id.ensures.names ∙ c.met.invariant.names;
      ready = leaves_rest held c.meet.new.words c.in-Some.id (c.in-Some.id + 1)
          (subst (λ (o : Option ℕ). IfSome o (λ id. AllStandAt held c.meet.new.words id)) c.in-Some.is c.in_ok-id.ensures.at) (omega arith);
      low = omega (arith, c.met.invariant.low, least.reached);
      none = goes_on held c.args.self.now c.met.self.words c.met.invariant.names c.args.from c.met.next c.met.invariant.none c.in-Some.id least
          (sym same ∙ sym c.in_ok-stands.ensures ∙ c.if-branch.false);
      counts = omega (arith, c.met.invariant.counts, c.meet.ensures.counts);
    }

pub returns-clause-least : goal.returns-clause-least
returns-clause-least g c =
    let held = g.T.Lists.held c.args.lists.now in
    ends held c.args.self.now c.met.self.words c.met.invariant.names c.args.from c.met.next c.met.invariant.none
    (subst (λ (o : Option ℕ). IsLeast (λ id. held.live id && list_all (λ name. has_word held name id) (list_names c.met.self.words)) c.met.next o) c.in_default.is c.in_ok-id.ensures.least)
