use Rattle.std.proofs.Common.{arith, ◌&&◌, ℕ, Option, IfSome, ap, subst}
use Rattle.std.proofs.lemmas.Grind.{common_steps}
use Rattle.id_iters.specs.Least.{IsLeast}
use Rattle.id_iters.specs.Leaves.{has_word}
use Rattle.id_iters.specs.Places.{StandAt, WordReady}
use Rattle.id_iters.specs.declared.leaf.Leaf.{Leaf}
use Rattle.id_iters.proofs.LoopLaws.{set_same, nothing, all_agree, leads, agrees}
use Rattle.id_iters.proofs.PlaceLaws.{word_waits, word_rests}
use Rattle.id_iters.proofs.phrase.meet.Goals as goal

pub returns-in_default-2-clause-least : goal.returns-in_default-2-clause-least
returns-in_default-2-clause-least g c =
    let held = g.T.Lists.held c.args.lists.now in
    nothing (λ (leaf : Leaf). leaf.list) (has_word held) held.live (WordReady held) (StandAt held)
    c.args.words.now c.words.words c.args.from c.words.id c.words.lead c.words.at c.get_mut.result.now c.words.invariant.agreed
    (omega (arith, c.words-test.true, c.len.ensures)) c.get_mut.ensures.value
    (subst (λ (o : Option ℕ). IsLeast (λ id. held.live id && has_word held c.get_mut.result.now.list id) c.words.id o) c.in_default-2.is c.in_ok-next.ensures.least)

pub returns-in_default-2-clause-names : goal.returns-in_default-2-clause-names
returns-in_default-2-clause-names g c =
    set_same (λ (leaf : Leaf). leaf.list) c.words.words c.args.words.now c.words.at c.get_mut.result.now c.seek_word.new.self
    c.get_mut.ensures.value (ap (λ (leaf : Leaf). leaf.list) c.in_ok-next.ensures.same) c.words.invariant.agreed.same

pub words-preserved-then-id-next : goal.words-preserved-then-id-next
words-preserved-then-id-next g c =
    let held = g.T.Lists.held c.args.lists.now in
    record {
      agreed = leads (λ (leaf : Leaf). leaf.list) (has_word held) held.live (WordReady held) (StandAt held) (word_waits held) (word_rests held)
          c.args.words.now c.words.words c.args.from c.words.id c.words.lead c.words.at c.in-Some-2.next c.get_mut.result.now c.seek_word.new.self
          c.words.invariant.agreed (omega (arith, c.words-test.true, c.len.ensures)) c.get_mut.ensures.value (ap (λ (leaf : Leaf). leaf.list) c.in_ok-next.ensures.same)
          (subst (λ (o : Option ℕ). IsLeast (λ id. held.live id && has_word held c.get_mut.result.now.list id) c.words.id o) c.in-Some-2.is c.in_ok-next.ensures.least)
          (subst (λ (o : Option ℕ). IfSome o (λ id. StandAt held c.seek_word.new.self id)) c.in-Some-2.is c.in_ok-next.ensures.at)
          c.if-id-next.true;
      counts = omega (arith, c.words.invariant.counts, c.seek_word.ensures.counts);
    }

pub words-preserved : goal.words-preserved
words-preserved g c =
    let held = g.T.Lists.held c.args.lists.now in
    record {
      agreed = agrees (λ (leaf : Leaf). leaf.list) (has_word held) held.live (WordReady held) (StandAt held)
          c.args.words.now c.words.words c.args.from c.words.id c.words.lead c.words.at c.in-Some-2.next c.get_mut.result.now c.seek_word.new.self
          c.words.invariant.agreed (omega (arith, c.words-test.true, c.len.ensures)) c.get_mut.ensures.value (ap (λ (leaf : Leaf). leaf.list) c.in_ok-next.ensures.same)
          (subst (λ (o : Option ℕ). IsLeast (λ id. held.live id && has_word held c.get_mut.result.now.list id) c.words.id o) c.in-Some-2.is c.in_ok-next.ensures.least)
          (subst (λ (o : Option ℕ). IfSome o (λ id. StandAt held c.seek_word.new.self id)) c.in-Some-2.is c.in_ok-next.ensures.at)
          c.if-id-next.false c.if-at-lead.false;
      counts = omega (arith, c.words.invariant.counts, c.seek_word.ensures.counts);
    }

pub returns-clause-least : goal.returns-clause-least
returns-clause-least g c =
    let held = g.T.Lists.held c.args.lists.now in
    all_agree (λ (leaf : Leaf). leaf.list) (has_word held) held.live (WordReady held) (StandAt held)
    c.args.words.now c.words.words c.args.from c.words.id c.words.lead c.words.at c.words.invariant.agreed (omega (arith, c.words-test.false, c.len.ensures))

pub words-smaller-then-id-next : goal.words-smaller-then-id-next
words-smaller-then-id-next g c = grind (arith, common_steps)
