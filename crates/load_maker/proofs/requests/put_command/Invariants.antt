use Rattle.std.proofs.Common.{◌≡◌, ◌++◌, drop, map}
use Rattle.ft_base.specs.Reply.{joined}
use Rattle.resp_wire.specs.Request.{bulk}
use Rattle.load_maker.proofs.requests.put_command.Given as goal

-- what is written and what is left are the whole
abbrev pub invariant-loop-word : goal.invariant-loop-word
invariant-loop-word l =
    l.out.items ++ joined (map bulk (map (λ word. word.now) (drop l.word-index l.words))) ≡ l.initial.out.items ++ joined (map bulk (map (λ word. word.now) l.words))
