use Rattle.std.proofs.Common.{◌∙◌, ap, sym, subst, arith}
use Rattle.std.proofs.lemmas.Grind.{common_steps}
use Rattle.std.specs.Prelude.{◌<◌, ◌≤◌, ◌+◌, length, vec_capacity}
use Rattle.ft_machine.specs.PlainCommands.{most_counted}
use Rattle.indexed_store.proofs.CountingLaws.{few-more, noted-none, noted-some}
use Rattle.indexed_store.proofs.counting.note_ids.Goals.{in-Some+in_ok-push, in_default}
use Rattle.indexed_store.proofs.counting.note_ids.Goals as goal

pub loop-i-preserved : goal.loop-i-preserved
loop-i-preserved c =
    let docs = c.args.store.now.space in
    let keys = c.args.keys.now in
    let within : c.loop-i.i < length keys = omega (arith, c.loop-i-test.true, c.len-i-end.ensures) in
    elim c.match-has.branch [
      | in-Some+in_ok-push w ↦ record {
        noted = ap (λ v. v.items) w.ids-is ∙ noted-some docs keys c.loop-i.i c.word.result.now c.loop-i.ids.items w.push.new.self.items w.in-Some.id within c.word.ensures c.loop-i.invariant.noted (sym w.in-Some.is ∙ c.has.ensures) w.in_ok-push.ensures.items;
        few = subst (λ v. length v.items ≤ c.loop-i.i + 1) (sym w.ids-is) (few-more c.loop-i.ids.items w.push.new.self.items w.in-Some.id c.loop-i.i c.loop-i.invariant.few w.in_ok-push.ensures.items);
        room = subst (λ v. most_counted ≤ vec_capacity v) (sym w.ids-is) (omega (arith, c.loop-i.invariant.room, w.in_ok-push.ensures.capacity));
      }
      | in_default w ↦ record {
        noted = ap (λ v. v.items) w.ids-is ∙ noted-none docs keys c.loop-i.i c.word.result.now c.loop-i.ids.items within c.word.ensures c.loop-i.invariant.noted (sym w.in_default.is ∙ c.has.ensures);
        few = subst (λ v. length v.items ≤ c.loop-i.i + 1) (sym w.ids-is) (omega (arith, c.loop-i.invariant.few));
        room = subst (λ v. most_counted ≤ vec_capacity v) (sym w.ids-is) c.loop-i.invariant.room;
      }
    ]

pub returns-clause-ok : goal.returns-clause-ok
returns-clause-ok c = grind (arith, common_steps)
