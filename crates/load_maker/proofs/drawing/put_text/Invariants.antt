use Rattle.std.proofs.Common.{◌≡◌, ◌≤◌, ◌-◌, ◌++◌}
use Rattle.load_maker.specs.Load.{text_words}
use Rattle.load_maker.proofs.StepLaws.{behind}
use Rattle.load_maker.proofs.drawing.put_text.Given as goal

abbrev pub invariant-loop-count : goal.invariant-loop-count
invariant-loop-count l = record {
  some : 1 ≤ l.count;
  text : l.out.items ++ behind (text_words (8 - l.count) l.rng).0 ≡ l.initial.out.items ++ behind (text_words 7 l.initial.rng).0;
  next : (text_words (8 - l.count) l.rng).1 ≡ (text_words 7 l.initial.rng).1;
}
