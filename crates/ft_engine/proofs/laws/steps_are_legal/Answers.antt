use Rattle.std.proofs.Common.{[]}
use Rattle.ft_engine.proofs.SteppingLaws.{history, legal, opened-number}
use Rattle.ft_engine.specs.Stands.{opened}
use Rattle.ft_engine.proofs.laws.steps_are_legal.Goals as goal

pub returns-clause-legal : goal.returns-clause-legal
returns-clause-legal c = λ first entries engine most leads. legal first [] entries (opened first) engine (opened-number first most) leads

pub returns-clause-history : goal.returns-clause-history
returns-clause-history c = λ first entries engine most leads.
    let made = history first [] entries (opened first) engine [] (opened-number first most) tt leads in
    record { clean = made.0; history = made.1; are = made.2 }
