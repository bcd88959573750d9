use Rattle.std.proofs.Common.{◌-◌, ◌+◌, arith}
use Rattle.load_maker.proofs.StepLaws.{next_grows, next_whole, text_grows, text_whole}
use Rattle.load_maker.proofs.drawing.put_text.Goals as goal

pub loop-count-preserved : goal.loop-count-preserved
loop-count-preserved c =
    let now = c.loop-count in
    record {
      some = omega arith;
      text = text_grows (8 - now.count) (8 - (now.count + 1)) now.rng _ now.out.items _ _ (omega arith) c.in_ok-put_next_word.ensures.word c.in_ok-put_next_word.ensures.next now.invariant.text;
      next = next_grows (8 - now.count) (8 - (now.count + 1)) now.rng _ _ (omega arith) c.in_ok-put_next_word.ensures.next now.invariant.next;
    }

pub returns-clause-text : goal.returns-clause-text
returns-clause-text c =
    let now = c.loop-count in
    text_whole (8 - now.count) c.args.rng.now _ now.rng c.args.out.now.items _ now.out.items (omega arith) c.in_ok-put_drawn_word.ensures.word c.in_ok-put_drawn_word.ensures.next now.invariant.text

pub returns-clause-next : goal.returns-clause-next
returns-clause-next c =
    let now = c.loop-count in
    next_whole (8 - now.count) c.args.rng.now _ now.rng (omega arith) c.in_ok-put_drawn_word.ensures.next now.invariant.next
