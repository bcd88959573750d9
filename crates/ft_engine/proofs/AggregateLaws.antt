-- An aggregate is a command that has a query; and what is made of the documents of a set.
use Rattle.std.specs.Prelude.{◌≡◌, ℕ, List, Option, None, Result, Ok, Err, IfOk, IsTrue, OnOk, length}
use Rattle.std.proofs.Common.{ap, ◌∙◌}
use Rattle.agg_pipeline.specs.declared.step.Step.{Step}
use Rattle.cmd_parse.specs.Aggregating.{Aggregating}
use Rattle.cmd_parse.specs.Asked.{Aggregate}
use Rattle.cmd_parse.specs.declared.aggregate_words.CursorSpec.{CursorSpec}
use Rattle.ft_base.specs.Reply.{fits_wire}
use Rattle.ft_base.specs.declared.definition.IndexDef.{IndexDef}
use Rattle.ft_base.specs.Docs.{Doc}
use Rattle.ft_base.specs.declared.query.Query.{Query}
use Rattle.ft_base.specs.declared.reply.Reply.{Reply}
use Rattle.ft_machine.specs.Aggregating.{aggregate_reply, aggregate_rows, rows_reply}
use Rattle.ft_machine.specs.Machine.{State, answered}
use Rattle.ft_machine.specs.Opening.{aggregate_gives}
use Rattle.ft_meaning.specs.Holds.{found_of}
use Rattle.hash_store.specs.Store.{Store, reads_after}
use Rattle.ft_engine.proofs.AnsweringLaws.{IsQuery, Queried}
use Rattle.ft_engine.specs.Reading.{TellsRows}

-- an aggregate, as a command that has a query
abbrev pub aggregate_query : Aggregating → Queried
aggregate_query what = record { asks = Aggregate what; name = what.index; params = what.params; query = what.query; outcome = aggregate_gives what what.cursor }

pub is-aggregate : (what : Aggregating) (number : ℕ) (state : State) → IsQuery (aggregate_query what) number state
is-aggregate what number state = record { gives = λ outcome x. x; may = tt }

-- without a cursor it gives all rows
pub gives-all : (what : Aggregating) (cursor : Option CursorSpec) (number : ℕ) (state : State) (docs : List Doc) (def : IndexDef) (query : Query) → cursor ≡ None → state.space ≡ docs
    → aggregate_gives what cursor number state def query ≡ answered (aggregate_reply what docs def query) state
gives-all what cursor number state docs def query none all =
    ap (λ (c : Option CursorSpec). aggregate_gives what c number state def query) none ∙ ap (λ (ds : List Doc). answered (aggregate_reply what ds def query) state) all

-- the rows of the documents of a set are those of the documents that were found, by the index's definition and all the steps
pub rows-by : {E : Type 0} (what : Aggregating) (query : Query) (given : List Step) (def same : IndexDef) (docs : List Doc) (old new : Store) (made : Result Reply E) → given ≡ what.steps → def ≡ same → docs ≡ found_of query same old.space
    → IfOk made (λ reply. reply ≡ rows_reply (aggregate_rows what.load given def docs)) → IfOk made (λ reply. IsTrue (fits_wire reply)) → OnOk made (new.reads ≡ reads_after old.reads (length docs))
    → IfOk made (TellsRows what query same old new)
rows-by what query given def same docs old new (Ok reply) lent its all is fits reads = record {
  told = is ∙ (ap (λ (s : List Step). rows_reply (aggregate_rows what.load s def docs)) lent
      ∙ (ap (λ (d : IndexDef). rows_reply (aggregate_rows what.load what.steps d docs)) its ∙ ap (λ (ds : List Doc). rows_reply (aggregate_rows what.load what.steps same ds)) all));
  fits = fits;
  reads = reads ∙ ap (λ (ds : List Doc). reads_after old.reads (length ds)) all;
}
rows-by what query given def same docs old new (Err e) lent its all is fits reads = tt
