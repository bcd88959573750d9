-- A search is a command that has a query; what is shown of the documents of a set; and what a plan reads of an index.
use Rattle.std.specs.Prelude.{◌≡◌, ◌<◌, ℕ, List, Result, Ok, Err, Some, IfOk, IsTrue, OnOk, find, length, refl}
use Rattle.std.proofs.Common.{sym, ap, arith, subst}
use Rattle.std.proofs.lemmas.List.Elements.{All-filter}
use Rattle.cmd_parse.specs.Read.{Search}
use Rattle.cmd_parse.specs.Searching.{Searching}
use Rattle.ft_base.specs.declared.definition.IndexDef.{IndexDef}
use Rattle.ft_base.specs.Docs.{Doc}
use Rattle.ft_base.specs.declared.query.Query.{Query}
use Rattle.ft_base.specs.Reply.{fits_wire}
use Rattle.ft_base.specs.declared.reply.Reply.{Reply}
use Rattle.ft_index.specs.Has.{Has}
use Rattle.ft_index.specs.Index.{Index}
use Rattle.ft_index.specs.Lists.{held_of, named_of}
use Rattle.ft_meaning.specs.Meaning.{ValuesFit}
use Rattle.ft_meaning.specs.Member.{member, members}
use Rattle.query_plan.specs.Finds.{AreOf, IsKept}
use Rattle.ft_machine.specs.Counted.{in_order}
use Rattle.ft_machine.specs.Machine.{State, answered}
use Rattle.ft_machine.specs.Searching.{search_reply}
use Rattle.ft_machine.specs.Shown.{found_reply}
use Rattle.ft_machine.specs.Step.{last_number}
use Rattle.hash_store.specs.Store.{Store, reads_after}
use Rattle.indexed_store.proofs.HoldingLaws.{in_step-until}
use Rattle.indexed_store.proofs.NamedLaws.{named-has}
use Rattle.indexed_store.specs.Named.{is_named}
use Rattle.indexed_store.specs.Standing.{IndexStands, InStep, markers_at}
use Rattle.ft_engine.specs.Exactness.{Shows}
use Rattle.ft_engine.specs.Reading.{AreReadable, IsReadable}
use Rattle.doc_reads.specs.Ids.{docs_of}
use Rattle.doc_reads.specs.Pages.{reads_for}
use Rattle.ft_engine.proofs.AnsweringLaws.{IsQuery, Queried}

-- a search, as a command that has a query
abbrev pub search_query : Searching → Queried
search_query what = record { asks = Search what; name = what.index; params = what.params; query = what.query; outcome = λ number state def query. answered (search_reply what state.space def query) state }

pub is-search : (what : Searching) (number : ℕ) (state : State) → IsQuery (search_query what) number state
is-search what number state = record { gives = λ outcome x. x; may = tt }

-- what is shown of the documents is what it gives
pub gives-shown : (what : Searching) (number : ℕ) (state : State) (docs : List Doc) (def : IndexDef) (query : Query) → state.space ≡ docs
    → (search_query what).outcome number state def query ≡ answered (search_reply what docs def query) state
gives-shown what number state docs def query all = ap (λ (ds : List Doc). answered (search_reply what ds def query) state) all

-- What is shown of the documents of a set is shown of those that were found, by the index's definition, and so is what is read.
pub shown-by : {E : Type 0} (what : Searching) (def same : IndexDef) (docs found : List Doc) (old new : ℕ) (made : Result Reply E) → def ≡ same → docs ≡ found
    → IfOk made (λ reply. reply ≡ found_reply what def (in_order what.sort def (docs_of what.keys docs))) → IfOk made (λ reply. IsTrue (fits_wire reply))
    → OnOk made (new ≡ reads_after old (reads_for what def (length (docs_of what.keys docs)))) → IfOk made (Shows what same (docs_of what.keys found) old new)
shown-by what def same docs found old new (Ok reply) its all is fits reads =
    subst (λ (docs : List Doc). Shows what same (docs_of what.keys docs) old new reply) all
    (subst (λ (d : IndexDef). Shows what d (docs_of what.keys docs) old new reply) its (record { shown = is; fits = fits; reads = reads }))
shown-by what def same docs found old new (Err e) its all is fits reads = tt

index-kept : (index : Index) (docs : List Doc) → IsReadable index docs → IsKept index.table.live (members index.def docs)
index-kept index docs readable = record {
  rise = readable.sound.kept.rise;
  end = omega (arith, readable.sound.kept.end, readable.few);
  fit = All-filter (member index.def) (λ (doc : Doc). ValuesFit doc.hash) docs readable.values;
}

-- what a plan reads of an index is its lists, and those are of its members
pub index-read : (index : Index) (def : IndexDef) (docs : List Doc) → def ≡ index.def → IsReadable index docs
    → AreOf def (held_of index.lists index.table.live) (named_of index.lists index.table.live) (members index.def docs)
index-read index def docs same readable = record {
  lists = index.lists;
  live = index.table.live;
  same = refl;
  names = refl;
  kept = index-kept index docs readable;
  has = subst (λ (d : IndexDef). Has d index.table.live index.lists (members index.def docs)) (sym same) readable.stands;
}

-- an index of a store before the last event
pub readable : (store : Store) (indexes : List Index) (name : List ℕ) (index : Index) → AreReadable store indexes → Some index ≡ find (is_named name) indexes → IsReadable index store.space
readable store indexes name index step found =
    let stands = named-has (IndexStands store.space last_number (markers_at last_number)) indexes name index step.stand (sym found) in
    record { stands = stands.documents; sound = stands.sound; few = omega (arith, stands.earlier); values = step.documents.fit }

-- the same of the store and the indexes that are held, as they are lent
pub readable-held : (store : Store) (indexes lent : List Index) (next number : ℕ) → lent ≡ indexes → next ≡ number → number < last_number → InStep store indexes next → AreReadable store lent
readable-held store indexes lent next number same is before step =
    subst (AreReadable store) (sym same) (in_step-until store indexes next last_number (omega (arith, is, before)) step)
