-- What a reader of the code answers, against what reading gives.
use Rattle.std.specs.Prelude.{◌≡◌, ℕ, List, Option, Some, None, Result, Ok, Err, option_to_list}
use denote.Ref.{Bor}
use Rattle.ft_base.specs.declared.definition.IndexDef.{IndexDef}
use Rattle.ft_base.specs.declared.query.Param.{Param}
use Rattle.ft_base.specs.declared.query.Query.{Query}
use Rattle.query_lex.specs.declared.lexeme.Lexeme.{Lexeme}
use Rattle.query_grammar.specs.Reading as reading
use Rattle.query_grammar.specs.Reading.{closed_with, next_sign}
use Rattle.query_grammar.specs.Values.{param_of}
use Rattle.query_grammar.specs.declared.fault.QueryFault.{QueryFault}
use Rattle.query_grammar.specs.declared.fault.QueryFault.TheVariants.{NoParam}
use Rattle.query_parse.specs.declared.stop.Stop.{Stop}
use Rattle.query_parse.specs.declared.stop.Stop.TheVariants.{Broken, Found, Cut, NoMemory}

-- The code stops where reading does; running out of memory says nothing of the lexemes.
abbrev pub Stops : {A : Type 0} → Stop → Result A reading.Stop → Type 0
Stops NoMemory read = Unit {0}
Stops (Broken rest) read = read ≡ Err (reading.Broken rest.now)
Stops (Found fault rest) read = read ≡ Err (reading.Found fault rest.now)
Stops (Cut fault rest) read = read ≡ Err (reading.Cut fault rest.now)

-- seen by view, what was read is what reading gives
abbrev pub Gives : {X A : Type 0} → (X → A) → Result X Stop → Result A reading.Stop → Type 0
Gives view (Ok x) read = read ≡ Ok (view x)
Gives view (Err stop) read = Stops stop read

-- the same of a part, or of none
abbrev pub GivesPart : Result (Option Query × Bor (List Lexeme)) Stop → Result (List Query × List Lexeme) reading.Stop → Type 0
GivesPart = Gives (λ x. (option_to_list x.0, x.1.now))

-- The union of these sides is what a group holds, if the group ends here. Neither an index nor parameters change that.
abbrev pub GivesClosed : List Query → List Lexeme → Result (Option Query × Bor (List Lexeme)) Stop → Type 0
GivesClosed sides ts read = (def : IndexDef) (params : List Param) → GivesPart read (closed_with def params (next_sign ts) sides ts)

-- The code stops at this fault, settled by the lexeme before these.
abbrev pub IsFound : Stop → QueryFault → List Lexeme → Type 0
IsFound NoMemory fault behind = ⊥
IsFound (Broken rest) fault behind = ⊥
IsFound (Found found rest) fault behind = (found ≡ fault) × (rest.now ≡ behind)
IsFound (Cut found rest) fault behind = ⊥

-- This is a parameter's value; or there is none, which is the fault at an offset.
abbrev pub GivesValue : List Param → List ℕ → ℕ → List Lexeme → Result (Bor (List ℕ)) Stop → Type 0
GivesValue params name at behind (Ok value) = param_of params name ≡ Some value.now
GivesValue params name at behind (Err stop) = (param_of params name ≡ None) × IsFound stop (NoParam at) behind
