-- A command that has a query does what it asks, where its reply is that of the query in the index of the name.
use Rattle.std.specs.Prelude.{◌≡◌, ◌≢◌, ◌⊎◌, ℕ, List, Option, None, Some, Result, Ok, Err, find, refl}
use Rattle.std.proofs.Common.{sym, ap, ◌∙◌, inl, inr, subst}
use Rattle.std.specs.Option.{option_map}
use Rattle.cmd_parse.specs.Read.{Asked}
use Rattle.ft_base.specs.Memory.{out_of_memory}
use Rattle.ft_base.specs.Reply.{spelling}
use Rattle.ft_base.specs.declared.definition.IndexDef.{IndexDef}
use Rattle.ft_base.specs.declared.query.Param.{Param}
use Rattle.ft_base.specs.declared.query.Query.{Query}
use Rattle.ft_base.specs.declared.reply.Reply.{Reply}
use Rattle.ft_base.specs.declared.reply.Reply.TheVariants.{Fault}
use Rattle.ft_index.specs.Index.{Index}
use Rattle.ft_machine.proofs.Stepping.{gives, wants}
use Rattle.ft_machine.specs.Answering.{IsOutcomeOf, queried}
use Rattle.ft_machine.specs.Definitions.{Defined, index_of}
use Rattle.ft_machine.specs.Indexes.{unknown_index}
use Rattle.ft_machine.specs.Machine.{Outcome, State, answered}
use Rattle.ft_machine.specs.Step.{Does, MayWant, given}
use Rattle.indexed_store.proofs.NamedLaws.{index_of-named}
use Rattle.indexed_store.specs.DefinitionsOf.{defined, definitions_of}
use Rattle.indexed_store.specs.Named.{is_named}
use Rattle.query_grammar.specs.Answer.{IsAnswer}
use Rattle.query_grammar.specs.Refusals.{query_refusal}
use Rattle.query_grammar.specs.declared.fault.QueryFault.{QueryFault}
use Rattle.query_grammar.specs.declared.fault.QueryFault.TheVariants.{Syntax, UnknownField, WrongKind, NoParam, TooDeep, OutOfScope, NoMemory}

-- the index of a name among the definitions, by the one among the indexes
pub named : (indexes : List Index) (state : State) (name : List ℕ) (index : Option Index) → state.definitions ≡ definitions_of indexes
    → find (is_named name) indexes ≡ index → index_of state.definitions name ≡ option_map defined index
named indexes state name index same there =
    ap (λ (defs : List Defined). index_of defs name) same ∙ (index_of-named indexes name ∙ ap (option_map defined) there)

-- What a command asks that has a query: an index's name, the text with its parameters, and what it gives by the event's
-- number, the state, the index and the query.
pub record Queried : Type 0 where
  pub asks : Asked
  pub name : List ℕ
  pub params : List Param
  pub query : List ℕ
  pub outcome : ℕ → State → IndexDef → Query → Outcome

-- it gives what the query does, and memory may run out
pub record IsQuery (what : Queried) (number : ℕ) (state : State) : Type 0 where
  pub gives : (outcome : Outcome) → queried (index_of state.definitions what.name) what.params what.query (what.outcome number state) state outcome → given what.asks number state outcome
  pub may : MayWant what.asks

-- a fault other than out of memory
abbrev IsKnown : QueryFault → Type 0
IsKnown fault = let answer : Result Query QueryFault = Err fault in answer ≢ Err NoMemory

module _ (what : Queried) (number : ℕ) (state : State) (is : IsQuery what number state) (indexes : List Index) (same : state.definitions ≡ definitions_of indexes) where
  abbrev Found : Index → Type 0
  Found index = find (is_named what.name) indexes ≡ Some index

  abbrev Given : Option Defined → Outcome → Type 0
  Given index outcome = queried index what.params what.query (what.outcome number state) state outcome

  -- there is no such index
  pub queries-none : (written : List ℕ) → find (is_named what.name) indexes ≡ None → written ≡ spelling (Fault unknown_index) → Does what.asks number state written state
  queries-none written none said =
      let outcome = answered (Fault unknown_index) state in
      gives what.asks number state outcome written state
      (is.gives outcome (subst (λ (i : Option Defined). Given i outcome) (sym (named indexes state what.name None same none)) refl)) said refl

  -- an index is there, and this is given by the query's text in it
  queries-index : (index : Index) (outcome : Outcome) → Found index → IsOutcomeOf index.def what.params what.query (what.outcome number state index.def) state outcome → given what.asks number state outcome
  queries-index index outcome there answer =
      is.gives outcome (subst (λ (i : Option Defined). Given i outcome) (sym (named indexes state what.name (Some index) same there)) answer)

  -- the query has a tree, and this is what it gives
  pub queries-given : (index : Index) (def : IndexDef) (query : Query) → Found index → def ≡ index.def → IsAnswer def what.params what.query (Ok query)
      → given what.asks number state (what.outcome number state index.def query)
  queries-given index def query there its answer =
      queries-index index (what.outcome number state index.def query) there (record {
        answer = Ok query;
        read = λ wrong. cc;
        text = subst (λ (d : IndexDef). IsAnswer d what.params what.query (Ok query)) its answer;
        same = refl;
      })

  -- The query has a tree, and the reply that it gives was answered, or out of memory.
  pub queries-found : (index : Index) (def : IndexDef) (written : List ℕ) (query : Query) (reply : Reply) → Found index → def ≡ index.def
      → IsAnswer def what.params what.query (Ok query) → what.outcome number state index.def query ≡ answered reply state
      → (written ≡ spelling reply) ⊎ (written ≡ spelling out_of_memory) → Does what.asks number state written state
  queries-found index def written query reply there its answer is_reply (inl said) =
      gives what.asks number state (answered reply state) written state
      (subst (λ (outcome : Outcome). given what.asks number state outcome) is_reply (queries-given index def query there its answer)) said refl
  queries-found index def written query reply there its answer is_reply (inr want) = wants what.asks number state written is.may want

  queries-fault : (index : Index) (def : IndexDef) (written : List ℕ) (fault : QueryFault) → Found index → def ≡ index.def → IsKnown fault
      → IsAnswer def what.params what.query (Err fault) → written ≡ spelling (Fault (query_refusal fault)) → Does what.asks number state written state
  queries-fault index def written fault there its known answer said =
      let outcome = answered (Fault (query_refusal fault)) state in
      gives what.asks number state outcome written state
      (queries-index index outcome there (record {
        answer = Err fault;
        read = known;
        text = subst (λ (d : IndexDef). IsAnswer d what.params what.query (Err fault)) its answer;
        same = refl;
      })) said refl

  -- The text is no query, and its fault was answered, or out of memory.
  pub queries-fault_of : (index : Index) (def : IndexDef) (written : List ℕ) (fault : QueryFault) → Found index → def ≡ index.def
      → IsAnswer def what.params what.query (Err fault) → written ≡ spelling (Fault (query_refusal fault)) → Does what.asks number state written state
  queries-fault_of index def written NoMemory there its answer said = wants what.asks number state written is.may said
  queries-fault_of index def written (Syntax at) there its answer said = queries-fault index def written (Syntax at) there its (λ wrong. cc) answer said
  queries-fault_of index def written (UnknownField at) there its answer said = queries-fault index def written (UnknownField at) there its (λ wrong. cc) answer said
  queries-fault_of index def written (WrongKind at) there its answer said = queries-fault index def written (WrongKind at) there its (λ wrong. cc) answer said
  queries-fault_of index def written (NoParam at) there its answer said = queries-fault index def written (NoParam at) there its (λ wrong. cc) answer said
  queries-fault_of index def written (TooDeep at) there its answer said = queries-fault index def written (TooDeep at) there its (λ wrong. cc) answer said
  queries-fault_of index def written (OutOfScope at) there its answer said = queries-fault index def written (OutOfScope at) there its (λ wrong. cc) answer said
