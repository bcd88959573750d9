-- Transactions (Redis: MULTI, EXEC, DISCARD), as a table: what becomes of a command, and the session afterwards.
use Rattle.std.specs.Prelude.{ℕ, List, [], ◌∷◌, ◌++◌}
use Rattle.ft_base.specs.declared.name_fit.NameFit.{NameFit}
use Rattle.ft_base.specs.declared.name_fit.NameFit.TheVariants as fit
use Rattle.tx_session.specs.Names.{name_of}
use Rattle.tx_session.specs.declared.kinds.Name.{Name}
use Rattle.tx_session.specs.declared.kinds.Name.TheVariants.{Quit, Multi, Exec, Discard, Other}
use Rattle.tx_session.specs.declared.kinds.Phase.{Phase}
use Rattle.tx_session.specs.declared.kinds.Phase.TheVariants.{Idle, Open, Broken}
use Rattle.tx_session.specs.declared.kinds.TxText.{TxText}
use Rattle.tx_session.specs.declared.kinds.TxText.TheVariants.{Done, Queued, Nested, NoExec, NoDiscard, Abort, Nothing, Unknown, Arity}

-- the words of a command
abbrev pub Command : Type 0
Command = List (List ℕ)

-- What becomes of a command: it is executed by itself; this is said and nothing executed; or these are executed, side by side.
pub data Fate : Type 0 where
  One : Fate
  Say : (text : TxText) → Fate
  Block : (commands : List Command) → Fate

pub record Session : Type 0 where
  pub phase : Phase
  -- the commands that wait for EXEC
  pub queue : List Command

abbrev pub idle : Session
idle = record { phase = Idle; queue = [] }

abbrev pub opened : List Command → Session
opened queue = record { phase = Open; queue = queue }

abbrev pub broken : Session
broken = record { phase = Broken; queue = [] }

-- a line of the table
pub record Row : Type 0 where
  pub fate : Fate
  pub after : Session

abbrev pub row : Fate → Session → Row
row fate after = record { fate = fate; after = after }

-- EXEC of an open session
abbrev pub block : List Command → Fate
block [] = Say Nothing
block (command ∷ commands) = Block (command ∷ commands)

abbrev pub at_idle : Name → NameFit → Row
at_idle Multi fit.Arity = row (Say Arity) idle
at_idle Exec fit.Arity = row (Say Arity) idle
at_idle Discard fit.Arity = row (Say Arity) idle
at_idle Multi _ = row (Say Done) (opened [])
at_idle Exec _ = row (Say NoExec) idle
at_idle Discard _ = row (Say NoDiscard) idle
at_idle Quit _ = row One idle
at_idle Other _ = row One idle

abbrev pub at_open : NameFit → Name → Command → List Command → Row
at_open fit.Unknown name words queue = row (Say Unknown) broken
at_open fit.Arity name words queue = row (Say Arity) broken
at_open fit.Fits Multi words queue = row (Say Nested) (opened queue)
at_open fit.Fits Discard words queue = row (Say Done) idle
at_open fit.Fits Exec words queue = row (block queue) idle
at_open fit.Fits Quit words queue = row (Say Queued) (opened (queue ++ words ∷ []))
at_open fit.Fits Other words queue = row (Say Queued) (opened (queue ++ words ∷ []))

-- EXEC of a broken session executes nothing, and nothing is kept for it.
abbrev pub at_broken : NameFit → Name → Row
at_broken fit.Unknown name = row (Say Unknown) broken
at_broken fit.Arity name = row (Say Arity) broken
at_broken fit.Fits Multi = row (Say Nested) broken
at_broken fit.Fits Discard = row (Say Done) idle
at_broken fit.Fits Exec = row (Say Abort) idle
at_broken fit.Fits Quit = row (Say Queued) broken
at_broken fit.Fits Other = row (Say Queued) broken

-- a command that is not QUIT
abbrev pub other : Phase → Name → NameFit → Command → List Command → Row
other Idle name judged words queue = at_idle name judged
other Open name judged words queue = at_open judged name words queue
other Broken name judged words queue = at_broken judged name

-- The line of any command: QUIT ends a session from anywhere.
abbrev pub line : Name → NameFit → Command → Session → Row
line Quit judged words old = row One idle
line name judged words old = other old.phase name judged words old.queue

-- The line of a command whose name and number of words were judged so.
abbrev pub line_of : Command → NameFit → Session → Row
line_of words judged old = line (name_of words) judged words old
