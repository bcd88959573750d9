use Rattle.std.proofs.Common.{◌≡◌, map}
use Rattle.query_grammar.specs.Shape.{shape_of}
use Rattle.query_parse.specs.Words.{word_in}
use Rattle.query_parse.proofs.phrases.words_in.Given as goal

-- the words of the parts so far
abbrev pub invariant-loop-part : goal.invariant-loop-part
invariant-loop-part l = l.words.items ≡ map (λ q. word_in (shape_of q)) l.yielded
