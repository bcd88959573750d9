-- What a reader of the code answers, against what reading gives.
use Rattle.std.specs.Prelude.{◌≡◌, Result, Ok, Err, Option, Some, None}
use Rattle.ft_schema.specs.declared.fault.SchemaFault.{SchemaFault}
use Rattle.ft_schema.specs.declared.fault.SchemaFault.TheVariants as answers
use Rattle.ft_schema.specs.declared.fault.Stop.{Stop}
use Rattle.ft_schema.specs.declared.fault.Stop.TheVariants.{Fault, NoMemory}

-- the code stops where reading does; running out of memory says nothing of the words
abbrev pub Stops : {A : Type 0} → Stop → Result A Stop → Type 0
Stops NoMemory read = Unit {0}
Stops (Fault cause left) read = read ≡ Err (Fault cause left)

-- seen by view, what was read is what reading gives
abbrev pub Gives : {X A : Type 0} → (X → A) → Result X Stop → Result A Stop → Type 0
Gives view (Ok x) read = read ≡ Ok (view x)
Gives view (Err stop) read = Stops stop read

-- seen by view, what was found is what reading gives
abbrev pub GivesSome : {X A : Type 0} → (X → A) → Option X → Option A → Type 0
GivesSome view (Some x) read = read ≡ Some (view x)
GivesSome view None read = read ≡ None

-- A fault is the one that the words have; running out of memory says nothing of them.
abbrev pub IsFaultOf : {A : Type 0} → SchemaFault → Result A SchemaFault → Type 0
IsFaultOf answers.NoMemory read = Unit {0}
IsFaultOf (answers.BadOption at) read = read ≡ Err (answers.BadOption at)
IsFaultOf (answers.BadKind at) read = read ≡ Err (answers.BadKind at)
IsFaultOf (answers.DuplicateField at) read = read ≡ Err (answers.DuplicateField at)
IsFaultOf (answers.TooManyFields at) read = read ≡ Err (answers.TooManyFields at)
IsFaultOf (answers.BadNumber at) read = read ≡ Err (answers.BadNumber at)
IsFaultOf (answers.OutOfScope at) read = read ≡ Err (answers.OutOfScope at)
