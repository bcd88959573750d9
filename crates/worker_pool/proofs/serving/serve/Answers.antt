use Rattle.std.proofs.Common.{◌≡◌, inl, inr, sym, ◌∙◌}
use Rattle.ft_server.specs.declared.exit.Exit.TheVariants as exit
use Rattle.worker_pool.proofs.serving.serve.Goals as goal

pub returns-in-Some-clause-usage : goal.returns-in-Some-clause-usage
returns-in-Some-clause-usage g c is = elim c.in-Some.ensures [
  | inl other ↦ other.1
  | inr memory ↦ absurd (let bad : exit.Usage ≡ exit.NoMemory = sym is ∙ memory in cc)
]
