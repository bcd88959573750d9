use Rattle.std.proofs.Common.{sym, length, ◌≢◌, arith}
use Rattle.std.proofs.lemmas.Grind.{common_steps}
use Rattle.std.proofs.lemmas.Bool.{eqb-true, eqb-false}
use Rattle.query_plan.proofs.PlanLaws.{no_words_tell, phrase_tells}
use Rattle.query_plan.proofs.phrases.plan_phrase.Goals as goal

pub returns-then-is_empty-clause-set : goal.returns-then-is_empty-clause-set
returns-then-is_empty-clause-set g c =
    let held = g.T.Lists.held c.args.sources.now.lists.now in
    no_words_tell c.args.sources.now.def.now held (g.T.Lists.named c.args.sources.now.lists.now) c.args.phrase.now.fields.now c.args.phrase.now.words.now c.args.phrase.now.slop
    c.args.phrase.now.in_order _ (eqb-true (length c.args.phrase.now.words.now) 0 (sym c.if-is_empty.ensures)) (c.plan_no_words.ensures.set held)

pub returns-clause-set : goal.returns-clause-set
returns-clause-set g c =
    let held = g.T.Lists.held c.args.sources.now.lists.now in
    let some : length c.args.phrase.now.words.now ≢ 0 = eqb-false (length c.args.phrase.now.words.now) 0 (sym c.if-is_empty.ensures) in
    phrase_tells c.args.sources.now.def.now held (g.T.Lists.named c.args.sources.now.lists.now) c.in_ok-iter.iter
    c.args.phrase.now.fields.now c.args.phrase.now.words.now c.args.phrase.now.slop
    c.args.phrase.now.in_order _ (omega (arith, some)) (c.of_phrase.ensures.set held) c.in_ok-iter.ensures.words c.in_ok-iter.ensures.fields c.in_ok-iter.ensures.slop c.in_ok-iter.ensures.in_order

pub returns-clause-free : goal.returns-clause-free
returns-clause-free g c = grind (arith, common_steps)
