-- What a command gives that has a query: by the tree of the query's text what that gives, by its first fault why it is no
-- query.
use Rattle.std.specs.Prelude.{◌≡◌, ◌≢◌, ℕ, List, Option, Some, None, Result, Ok, Err}
use Rattle.ft_base.specs.declared.definition.IndexDef.{IndexDef}
use Rattle.ft_base.specs.declared.query.Param.{Param}
use Rattle.ft_base.specs.declared.query.Query.{Query}
use Rattle.ft_base.specs.declared.reply.Reply.TheVariants.{Fault}
use Rattle.query_grammar.specs.Answer.{IsAnswer}
use Rattle.query_grammar.specs.Refusals.{query_refusal}
use Rattle.query_grammar.specs.declared.fault.QueryFault.{QueryFault}
use Rattle.query_grammar.specs.declared.fault.QueryFault.TheVariants.{NoMemory}
use Rattle.ft_machine.specs.Definitions.{Defined}
use Rattle.ft_machine.specs.Indexes.{unknown_index}
use Rattle.ft_machine.specs.Machine.{Outcome, State, answered, just}

-- what a query gives, or the refusal of its fault
abbrev pub query_gives : (Query → Outcome) → State → Result Query QueryFault → Outcome
query_gives given state (Ok query) = given query
query_gives given state (Err fault) = answered (Fault (query_refusal fault)) state

-- An outcome is that of a query's text, with these parameters, in an index.
pub record IsOutcomeOf (def : IndexDef) (params : List Param) (query : List ℕ) (given : Query → Outcome) (state : State) (outcome : Outcome) : Type 0 where
  pub answer : Result Query QueryFault
  pub read : answer ≢ Err NoMemory
  pub text : IsAnswer def params query answer
  pub same : outcome ≡ query_gives given state answer

-- what may be given, where there is the index or none
abbrev pub queried : Option Defined → List Param → List ℕ → (IndexDef → Query → Outcome) → State → Outcome → Type 0
queried None params query given state outcome = just (answered (Fault unknown_index) state) outcome
queried (Some index) params query given state outcome = IsOutcomeOf index.def params query (given index.def) state outcome
