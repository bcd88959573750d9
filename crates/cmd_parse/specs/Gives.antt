-- What a reader of the code answers, against what reading gives.
use Rattle.std.specs.Prelude.{◌≡◌, Result, Ok, Err}
use Rattle.cmd_parse.specs.declared.stop.Stop.{Stop}
use Rattle.cmd_parse.specs.declared.stop.Stop.TheVariants.{Fault, NoMemory}

-- the code stops where reading does; running out of memory says nothing of the words
abbrev pub Stops : {A : Type 0} → Stop → Result A Stop → Type 0
Stops NoMemory read = Unit {0}
Stops (Fault cause left) read = read ≡ Err (Fault cause left)

-- seen by view, what was read is what reading gives
abbrev pub Gives : {X A : Type 0} → (X → A) → Result X Stop → Result A Stop → Type 0
Gives view (Ok x) read = read ≡ Ok (view x)
Gives view (Err stop) read = Stops stop read

-- the same of an answer that leaves no words and needs no memory: seen by view, it is the other one
abbrev pub IsSeen : {X A E : Type 0} → (X → A) → Result X E → Result A E → Type 0
IsSeen view (Ok x) given = given ≡ Ok (view x)
IsSeen view (Err e) given = given ≡ Err e
