-- What a reader of the code answers, against what reading gives.
use Rattle.std.specs.Prelude.{◌≡◌, ℕ, List, Option, Some, None, Result, Ok, Err}
use Rattle.query_lex.specs.declared.fault.LexFault.{LexFault}
use Rattle.query_lex.specs.declared.fault.LexFault.TheVariants as answers
use Rattle.query_lex.specs.declared.fault.Stop.{Stop}
use Rattle.query_lex.specs.declared.fault.Stop.TheVariants.{Fault, NoMemory}
use Rattle.query_lex.specs.Reading.{Next}

-- the code stops where reading does; running out of memory says nothing of the bytes
abbrev pub Stops : {A : Type 0} → Stop → Result A Stop → Type 0
Stops NoMemory read = Unit {0}
Stops (Fault cause left) read = read ≡ Err (Fault cause left)

-- seen by view, what was read is what reading gives
abbrev pub Gives : {X A : Type 0} → (X → A) → Result X Stop → Result A Stop → Type 0
Gives view (Ok x) read = read ≡ Ok (view x)
Gives view (Err stop) read = Stops stop read

-- the same of what comes next in a run
abbrev pub GivesNext : {X A : Type 0} → (X → A × List ℕ) → Result (Option X) Stop → Next A → Type 0
GivesNext view (Ok None) read = read ≡ Ok None
GivesNext view (Ok (Some x)) read = read ≡ Ok (Some (view x))
GivesNext view (Err stop) read = Stops stop read

-- A fault is the one that the text has; running out of memory says nothing of it.
abbrev pub IsFaultOf : {A : Type 0} → LexFault → Result A LexFault → Type 0
IsFaultOf answers.NoMemory read = Unit {0}
IsFaultOf (answers.OpenQuote at) read = read ≡ Err (answers.OpenQuote at)
IsFaultOf (answers.LoneEscape at) read = read ≡ Err (answers.LoneEscape at)
