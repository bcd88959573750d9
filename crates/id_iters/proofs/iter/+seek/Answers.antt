use Rattle.std.proofs.Common.{rules, arith, ◌≡◌, ◌<◌, ◌≤◌, ◌+◌, ℕ, length, subst, sym, refl, ◌∙◌, ap, Box, Global, length-set, Option, IfSome}
use Rattle.std.proofs.lemmas.Grind.{common_steps}
use Rattle.id_iters.specs.declared.iter.Iter.{Iter}
use Rattle.id_iters.specs.Least.{IsLeast}
use Rattle.id_iters.specs.Places.{LeafReady, LeavesReady}
use Rattle.id_iters.specs.Ready.{Ready, AheadReady, UnionReady}
use Rattle.id_iters.specs.Stretch.{base_of, limit_of}
use Rattle.id_iters.proofs.UnionLaws.{marked_more}
use Rattle.id_iters.specs.Sets.{About, in_set, about, about_ahead}
use Rattle.id_iters.proofs.Layers.{about_inner}
use Rattle.id_iters.proofs.PartLaws.{depth_in, tries}
use Rattle.id_iters.proofs.SeekLaws.{kept_answers, not_kept_ready, ahead_asked, leaf_sound, leaf_ready, phrase_sound, phrase_ready, and_parts_at, or_union_at, not_part_at, deep_and, deep_or, deep_not, not_same, if_answer, on_same, ready_later, and_ready, or_ready, not_ready}
use Rattle.std.specs.Box.{with_value}
use Rattle.id_iters.specs.declared.iter.Iter.TheVariants as variant
use Rattle.std.specs.List.{All}
use Rattle.id_iters.specs.declared.iter.Ahead.{Ahead}
use Rattle.id_iters.proofs.LoopLaws.{set_same, leads, agrees, nothing, all_agree}
use Rattle.id_iters.proofs.iter.+seek.Goals as goal

pub Ahead::seek-returns-in-Some-clause-least : goal.Ahead::seek-returns-in-Some-clause-least
Ahead::seek-returns-in-Some-clause-least g t c =
    kept_answers (g.T.Lists.held c.args.lists.now) c.args.self.now c.args.from c.in-Some.answer c.requires.ready (sym c.kept.ensures ∙ c.in-Some.is)

pub Ahead::seek-seek-requires : goal.Ahead::seek-seek-requires
Ahead::seek-seek-requires g t c κs within =
    let held = g.T.Lists.held c.args.lists.now in
    let ready : Ready held c.args.self.now.iter c.args.from = not_kept_ready held c.args.self.now c.args.from c.requires.ready (sym c.kept.ensures ∙ c.in_default.is) in
    let deep : (about_ahead held c.args.self.now).depth ≡ (about held c.args.self.now.iter).depth = ap (λ a. a.depth) (about_inner held c.args.self.now) in
    search rules

pub Ahead::seek-returns-clause-ready : goal.Ahead::seek-returns-clause-ready
Ahead::seek-returns-clause-ready g t c =
    ahead_asked (g.T.Lists.held c.args.lists.now) c.seek.new.self _ c.in_ok-self.field-0 c.args.from c.in_ok-self.ensures.same c.in_ok-self.ensures.least c.in_ok-self.ensures.ready

pub Iter::seek-seek-requires-clause-ready : goal.Iter::seek-seek-requires-clause-ready
Iter::seek-seek-requires-clause-ready g t c =
    leaf_sound (g.T.Lists.held c.args.lists.now) c.args.self.now c.in-Leaf.leaf _ c.args.from c.in-Leaf.is c.in-Leaf.leaf-is c.requires.ready

pub Iter::seek-seek_all-requires : goal.Iter::seek-seek_all-requires
Iter::seek-seek_all-requires g t c κs within =
    let held = g.T.Lists.held c.args.lists.now in
    let ready = and_parts_at held c.args.self.now c.in-And.parts _ c.args.from c.in-And.is c.in-And.parts-is c.requires.ready in
    let deep = deep_and held c.args.self.now c.in-And.parts _ c.in-And.is c.in-And.parts-is in
    search (rules, ready, deep)

pub Iter::seek-seek_some-requires : goal.Iter::seek-seek_some-requires
Iter::seek-seek_some-requires g t c κs within =
    let held = g.T.Lists.held c.args.lists.now in
    let ready = or_union_at held c.args.self.now c.in-Or.parts _ c.in-Or.stretch _ c.args.from c.in-Or.is c.in-Or.parts-is c.in-Or.stretch-is c.requires.ready in
    let deep = deep_or held c.args.self.now c.in-Or.parts _ c.in-Or.stretch c.in-Or.is c.in-Or.parts-is in
    search (rules, ready, deep)

pub Iter::seek-seek_other-requires : goal.Iter::seek-seek_other-requires
Iter::seek-seek_other-requires g t c κs within =
    let held = g.T.Lists.held c.args.lists.now in
    let ready = not_part_at held c.args.self.now c.in-Not.part _ c.deref_mut.result.now c.args.from c.in-Not.is c.in-Not.part-is c.deref_mut.ensures.value c.requires.ready in
    let deep = deep_not held c.args.self.now c.in-Not.part _ c.deref_mut.result.now c.in-Not.is c.in-Not.part-is c.deref_mut.ensures.value in
    search (rules, ready, deep)

pub Iter::seek-returns-in-Leaf-clause-ready : goal.Iter::seek-returns-in-Leaf-clause-ready
Iter::seek-returns-in-Leaf-clause-ready g t c =
    let held = g.T.Lists.held c.args.lists.now in
    let h = if_answer c.seek.result (λ id. LeafReady held c.seek.new.self (id + 1)) (λ id. Ready held (variant.Leaf c.seek.new.self) (id + 1)) (λ id h. leaf_ready held c.seek.new.self (id + 1) h) c.seek.ensures.ready in
    search (rules, h)

pub Iter::seek-seek-requires-in-Phrase-clause-ready : goal.Iter::seek-seek-requires-in-Phrase-clause-ready
Iter::seek-seek-requires-in-Phrase-clause-ready g t c =
    phrase_sound (g.T.Lists.held c.args.lists.now) c.args.self.now c.in-Phrase.phrase _ c.args.from c.in-Phrase.is c.in-Phrase.phrase-is c.requires.ready

pub Iter::seek-returns-in-Phrase-clause-ready : goal.Iter::seek-returns-in-Phrase-clause-ready
Iter::seek-returns-in-Phrase-clause-ready g t c =
    let held = g.T.Lists.held c.args.lists.now in
    let h = if_answer c.seek-in-Phrase.result (λ id. LeavesReady held c.seek-in-Phrase.new.self.words (id + 1)) (λ id. Ready held (variant.Phrase c.seek-in-Phrase.new.self) (id + 1)) (λ id h. phrase_ready held c.seek-in-Phrase.new.self (id + 1) h) c.seek-in-Phrase.ensures.ready in
    search (rules, h)

pub Iter::seek-returns-in-And-clause-ready : goal.Iter::seek-returns-in-And-clause-ready
Iter::seek-returns-in-And-clause-ready g t c =
    let held = g.T.Lists.held c.args.lists.now in
    let h = if_answer c.seek_all.result (λ id. All (λ p. Ready held p (id + 1)) c.seek_all.new.parts) (λ id. Ready held (variant.And c.seek_all.new.parts) (id + 1)) (λ id h. and_ready held c.seek_all.new.parts (id + 1) h) c.seek_all.ensures.ready in
    search (rules, h)

pub Iter::seek-returns-in-Or-clause-ready : goal.Iter::seek-returns-in-Or-clause-ready
Iter::seek-returns-in-Or-clause-ready g t c =
    let held = g.T.Lists.held c.args.lists.now in
    let h = if_answer c.seek_some.result (λ id. UnionReady held c.seek_some.new.parts c.seek_some.new.stretch (id + 1)) (λ id. Ready held (variant.Or c.seek_some.new.parts c.seek_some.new.stretch) (id + 1)) (λ id h. or_ready held c.seek_some.new.parts c.seek_some.new.stretch (id + 1) h) c.seek_some.ensures.ready in
    search (rules, h)

pub Iter::seek-returns-in-Not-clause-same : goal.Iter::seek-returns-in-Not-clause-same
Iter::seek-returns-in-Not-clause-same g t c =
    let held = g.T.Lists.held c.args.lists.now in
    let part = c.in-Not.part in
    let h = on_same c.seek_other.result (about_ahead held c.seek_other.new.part ≡ about_ahead held c.deref_mut.result.now) (about held (variant.Not (with_value part c.seek_other.new.part)) ≡ about held c.args.self.now)
    (λ h. not_same held c.args.self.now part part c.deref_mut.result.now c.seek_other.new.part c.in-Not.is refl (c.deref_mut.ensures.value ∙ ap (λ (b : Box Ahead Global). b.value) c.in-Not.part-is) h) c.seek_other.ensures.same in
    search (rules, h, c.in-Not.part-is)

pub Iter::seek-returns-in-Not-clause-ready : goal.Iter::seek-returns-in-Not-clause-ready
Iter::seek-returns-in-Not-clause-ready g t c =
    let held = g.T.Lists.held c.args.lists.now in
    let part = c.in-Not.part in
    let h = if_answer c.seek_other.result (λ id. AheadReady held c.seek_other.new.part (id + 1)) (λ id. Ready held (variant.Not (with_value part c.seek_other.new.part)) (id + 1))
    (λ id h. not_ready held (with_value part c.seek_other.new.part) (id + 1) h) c.seek_other.ensures.ready in
    search (rules, h, c.in-Not.part-is)

pub seek_any-seek-requires : goal.seek_any-seek-requires
seek_any-seek-requires g t c κs within =
    let held = g.T.Lists.held c.args.lists.now in
    let tried = c.parts.invariant.tried in
    let in' : c.parts.at < length c.parts.parts = omega (arith, c.parts-test.true, c.parts.invariant.long) in
    let ready : AheadReady held c.get_mut.result.now c.args.from = subst (λ (a : Ahead). AheadReady held a c.args.from) (sym c.get_mut.ensures.value) (tried.ready c.parts.at c.get_mut.result.now in') in
    let deep = depth_in (about_ahead held) c.parts.parts c.args.parts.now c.parts.at c.get_mut.result.now in' c.get_mut.ensures.value tried.same in
    search (rules, ready, deep)

pub seek_any-parts-preserved : goal.seek_any-parts-preserved
seek_any-parts-preserved g t c =
    let held = g.T.Lists.held c.args.lists.now in
    let in' : c.parts.at < length c.parts.parts = omega (arith, c.parts-test.true, c.parts.invariant.long) in
    record {
      long = length-set c.parts.parts c.parts.at c.seek.new.self ∙ c.parts.invariant.long;
      tried = rw c.lesser-best.ensures (tries held c.args.parts.now c.parts.parts c.args.from c.parts.at c.parts.best c.in_ok-answer.answer c.get_mut.result.now c.seek.new.self c.parts.invariant.tried in' c.get_mut.ensures.value c.in_ok-answer.ensures.same c.in_ok-answer.ensures.least c.in_ok-answer.ensures.ready);
      counts = omega (arith, c.parts.invariant.counts, c.seek.ensures.counts);
    }

pub seek_all-seek-requires : goal.seek_all-seek-requires
seek_all-seek-requires g t c κs within =
    let held = g.T.Lists.held c.args.lists.now in
    let a = c.parts.invariant.agreed in
    let in' : c.parts.at < length c.parts.parts = omega (arith, c.parts-test.true, c.len.ensures) in
    let ready : Ready held c.get_mut.result.now c.parts.id = subst (λ (i : Iter). Ready held i c.parts.id) (sym c.get_mut.ensures.value) (a.rest c.parts.at c.get_mut.result.now (omega arith) in' c.if-at-lead.false) in
    let deep = depth_in (about held) c.parts.parts c.args.parts.now c.parts.at c.get_mut.result.now in' c.get_mut.ensures.value a.same in
    search (rules, ready, deep)

pub seek_all-returns-in_default-2-clause-least : goal.seek_all-returns-in_default-2-clause-least
seek_all-returns-in_default-2-clause-least g t c =
    let held = g.T.Lists.held c.args.lists.now in
    nothing (about held) (λ (a : About). a.has) held.live (Ready held) (λ (i : Iter) id. Ready held i (id + 1)) c.args.parts.now c.parts.parts c.args.from c.parts.id c.parts.lead c.parts.at c.get_mut.result.now c.parts.invariant.agreed (omega (arith, c.parts-test.true, c.len.ensures)) c.get_mut.ensures.value
    (subst (λ (o : Option ℕ). IsLeast (in_set held c.get_mut.result.now) c.parts.id o) c.in_default-2.is c.in_ok-next.ensures.least)

pub seek_all-returns-in_default-2-clause-same : goal.seek_all-returns-in_default-2-clause-same
seek_all-returns-in_default-2-clause-same g t c =
    set_same (about (g.T.Lists.held c.args.lists.now)) c.parts.parts c.args.parts.now c.parts.at c.get_mut.result.now c.seek.new.self c.get_mut.ensures.value c.in_ok-next.ensures.same c.parts.invariant.agreed.same

pub seek_all-parts-preserved-then-id-next : goal.seek_all-parts-preserved-then-id-next
seek_all-parts-preserved-then-id-next g t c =
    let held = g.T.Lists.held c.args.lists.now in
    record {
      agreed = leads (about held) (λ (a : About). a.has) held.live (Ready held) (λ (i : Iter) id. Ready held i (id + 1)) (ready_later held) (λ i id to r h. ready_later held i (id + 1) to r (omega (arith, h))) c.args.parts.now c.parts.parts c.args.from c.parts.id c.parts.lead c.parts.at c.in-Some-2.next c.get_mut.result.now c.seek.new.self c.parts.invariant.agreed (omega (arith, c.parts-test.true, c.len.ensures)) c.get_mut.ensures.value c.in_ok-next.ensures.same
          (subst (λ (o : Option ℕ). IsLeast (in_set held c.get_mut.result.now) c.parts.id o) c.in-Some-2.is c.in_ok-next.ensures.least)
          (subst (λ (o : Option ℕ). IfSome o (λ id. Ready held c.seek.new.self (id + 1))) c.in-Some-2.is c.in_ok-next.ensures.ready)
          c.if-id-next.true;
      counts = omega (arith, c.parts.invariant.counts, c.seek.ensures.counts);
    }

pub seek_all-parts-preserved : goal.seek_all-parts-preserved
seek_all-parts-preserved g t c =
    let held = g.T.Lists.held c.args.lists.now in
    record {
      agreed = agrees (about held) (λ (a : About). a.has) held.live (Ready held) (λ (i : Iter) id. Ready held i (id + 1)) c.args.parts.now c.parts.parts c.args.from c.parts.id c.parts.lead c.parts.at c.in-Some-2.next c.get_mut.result.now c.seek.new.self c.parts.invariant.agreed (omega (arith, c.parts-test.true, c.len.ensures)) c.get_mut.ensures.value c.in_ok-next.ensures.same
          (subst (λ (o : Option ℕ). IsLeast (in_set held c.get_mut.result.now) c.parts.id o) c.in-Some-2.is c.in_ok-next.ensures.least)
          (subst (λ (o : Option ℕ). IfSome o (λ id. Ready held c.seek.new.self (id + 1))) c.in-Some-2.is c.in_ok-next.ensures.ready)
          c.if-id-next.false c.if-at-lead.false;
      counts = omega (arith, c.parts.invariant.counts, c.seek.ensures.counts);
    }

pub seek_all-returns-clause-least : goal.seek_all-returns-clause-least
seek_all-returns-clause-least g t c =
    let held = g.T.Lists.held c.args.lists.now in
    all_agree (about held) (λ (a : About). a.has) held.live (Ready held) (λ (i : Iter) id. Ready held i (id + 1)) c.args.parts.now c.parts.parts c.args.from c.parts.id c.parts.lead c.parts.at c.parts.invariant.agreed (omega (arith, c.parts-test.false, c.len.ensures))

pub fill-mark-requires : goal.fill-mark-requires
fill-mark-requires g t c κs within =
    let held = g.T.Lists.held c.args.lists.now in
    let m = c.parts.invariant.marked in
    let in' : c.parts.at < length c.parts.parts = omega (arith, c.parts-test.true, c.parts.invariant.long) in
    let ready : AheadReady held c.get_mut.result.now c.args.from = subst (λ (a : Ahead). AheadReady held a c.args.from) (sym c.get_mut.ensures.value) (m.rest c.parts.at c.get_mut.result.now (omega arith) in') in
    let base : base_of c.parts.stretch ≤ c.args.from = m.base in
    let limit : c.args.from < limit_of c.parts.stretch = m.limit in
    let deep = depth_in (about_ahead held) c.parts.parts c.args.parts.now c.parts.at c.get_mut.result.now in' c.get_mut.ensures.value m.same in
    search (rules, ready, base, limit, deep)

pub fill-parts-preserved : goal.fill-parts-preserved
fill-parts-preserved g t c =
    let held = g.T.Lists.held c.args.lists.now in
    let in' : c.parts.at < length c.parts.parts = omega (arith, c.parts-test.true, c.parts.invariant.long) in
    record {
      long = length-set c.parts.parts c.parts.at c.mark.new.part ∙ c.parts.invariant.long;
      marked = marked_more held c.args.parts.now c.parts.parts c.parts.stretch c.mark.new.stretch c.args.from c.parts.at c.get_mut.result.now c.mark.new.part c.parts.invariant.marked in' c.get_mut.ensures.value
          c.in_ok-mark.ensures.same c.in_ok-mark.ensures.ready c.in_ok-mark.ensures.base c.in_ok-mark.ensures.limit c.in_ok-mark.ensures.has;
      counts = omega (arith, c.parts.invariant.counts, c.mark.ensures.counts);
    }

pub mark-returns-then-limit-id-clause-has : goal.mark-returns-then-limit-id-clause-has
mark-returns-then-limit-id-clause-has g t c = grind (arith, common_steps)

pub mark-ids-preserved : goal.mark-ids-preserved
mark-ids-preserved g t c = grind (arith, common_steps)

pub mark-returns-clause-has : goal.mark-returns-clause-has
mark-returns-clause-has g t c = grind (arith, common_steps)

pub fill-returns-clause-ready : goal.fill-returns-clause-ready
fill-returns-clause-ready g t c = grind (arith, common_steps)

pub seek_all-parts-smaller-then-id-next : goal.seek_all-parts-smaller-then-id-next
seek_all-parts-smaller-then-id-next g t c = grind (arith, common_steps)

pub seek_any-returns-clause-least : goal.seek_any-returns-clause-least
seek_any-returns-clause-least g t c = grind (arith, common_steps)

pub seek_some-returns-clause-least : goal.seek_some-returns-clause-least
seek_some-returns-clause-least g t c = grind (arith, common_steps)

pub seek_some-returns-clause-ready : goal.seek_some-returns-clause-ready
seek_some-returns-clause-ready g t c = grind (arith, common_steps)
