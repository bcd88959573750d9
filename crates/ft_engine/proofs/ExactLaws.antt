-- What is read for a search and for an aggregate, and what is told of an index, exactly.
use Rattle.std.specs.Prelude.{◌≡◌, ◌≤◌, ℕ, List, Option, None, Some, Result, Ok, Err, IfOk, find, refl}
use Rattle.std.proofs.Common.{ap, ◌∙◌, inl, inr, subst}
use Rattle.cmd_parse.specs.Aggregating.{Aggregating}
use Rattle.cmd_parse.specs.Searching.{Searching}
use Rattle.cmd_parse.specs.Asked.{Asked, Plain, Search, Aggregate}
use Rattle.cmd_parse.specs.declared.aggregate_words.CursorSpec.{CursorSpec}
use Rattle.cmd_parse.specs.declared.command.Verb.TheVariants.{Info}
use Rattle.ft_base.specs.Words.{first}
use Rattle.ft_base.specs.Reply.{spelling}
use Rattle.ft_base.specs.declared.definition.IndexDef.{IndexDef}
use Rattle.ft_base.specs.Docs.{Doc}
use Rattle.ft_base.specs.declared.query.Query.{Query}
use Rattle.ft_base.specs.declared.reply.Reply.{Reply}
use Rattle.ft_index.specs.Index.{Index}
use Rattle.ft_base.specs.Memory.{want_of_memory}
use Rattle.ft_machine.specs.Step.{Told}
use Rattle.ft_engine.specs.Exactness.{IsRefusal, ReadsAll, ReadsFew, ReadsFound, ReadsRows, Shows, TellsEntries, TellsExactly, TellsOf}
use Rattle.ft_engine.specs.Reading.{TellsRows}
use Rattle.ft_engine.specs.Told.{TellsIndex}
use Rattle.ft_machine.specs.Info.{info_reply}
use Rattle.ft_machine.specs.declared.counts.Counts.{Counts}
use Rattle.ft_index.specs.Lists.{AllLists}
use Rattle.ft_index.specs.Records.{CountsJust, all_entries}
use Rattle.indexed_store.specs.Named.{is_named}
use Rattle.ft_meaning.specs.Holds.{found_of}
use Rattle.hash_store.specs.Store.{Store}

-- what a search found was answered, or out of memory
pub reads-found : {E : Type 0} (what : Searching) (def : IndexDef) (docs : List Doc) (written : List ℕ) (made : Result Reply E) (old new : ℕ)
    → IfOk made (Shows what def docs old new) → old ≤ new → Told made written → ReadsRows what written old new
reads-found what def docs written (Ok reply) old new shows rises (inl said) = inl (record { def = def; found = docs; shown = said ∙ ap spelling shows.shown; reads = shows.reads })
reads-found what def docs written (Ok reply) old new shows rises (inr want) = inr (inr (want, rises))
reads-found what def docs written (Err e) old new shows rises want = inr (inr (want, rises))

-- the rows of what an aggregate found were answered, or out of memory
pub reads-made : {E : Type 0} (what : Aggregating) (query : Query) (def : IndexDef) (written : List ℕ) (made : Result Reply E) (old new : Store)
    → IfOk made (TellsRows what query def old new) → old.reads ≤ new.reads → Told made written → ReadsFound what written old.reads new.reads
reads-made what query def written (Ok reply) old new tells rises (inl said) =
    inl (record { def = def; found = found_of query def old.space; made = said ∙ ap spelling tells.told; reads = tells.reads })
reads-made what query def written (Ok reply) old new tells rises (inr want) = inr (inr (want, rises))
reads-made what query def written (Err e) old new tells rises want = inr (inr (want, rises))

-- an aggregate that reads no more where it has no cursor
pub reads-all : (what : Aggregating) (written : List ℕ) (old new : ℕ) → (what.cursor ≡ None → ReadsFound what written old new) → ReadsFew (Aggregate what) written old new
reads-all what written old new reads = by_cursor what.cursor refl
  where
    by_cursor : (cursor : Option CursorSpec) → what.cursor ≡ cursor → ReadsAll cursor what written old new
    by_cursor None none = reads none
    by_cursor (Some cursor) some = tt

-- a command that is refused reads nothing for a search or an aggregate
pub reads-refused : (asks : Asked) (written : List ℕ) (old new : ℕ) → IsRefusal written → new ≡ old → ReadsFew asks written old new
reads-refused (Search what) written old new refused same = inr (inl (refused, same))
reads-refused (Aggregate what) written old new refused same = by_cursor what.cursor
  where
    by_cursor : (cursor : Option CursorSpec) → ReadsAll cursor what written old new
    by_cursor None = inr (inl (refused, same))
    by_cursor (Some cursor) = tt
reads-refused _ written old new refused same = tt

-- and tells of no index
pub tells-refused : (asks : Asked) (indexes : List Index) (written : List ℕ) → IsRefusal written → TellsExactly asks indexes written
tells-refused (Plain Info args) indexes written refused = of_index (find (is_named (first args)) indexes)
  where
    of_index : (found : Option Index) → TellsOf found written
    of_index None = tt
    of_index (Some index) = inr refused
tells-refused _ indexes written refused = tt

-- what is told by the counts of an index
pub entries-of : {E : Type 0} (index : Index) (def : IndexDef) (lists : AllLists) (made : Result Reply E) (counts : Counts) → def ≡ index.def → lists ≡ index.lists → counts.records ≡ all_entries lists → CountsJust lists (Some counts.records)
    → IfOk made (λ reply. reply ≡ info_reply def counts) → IfOk made (λ reply. TellsEntries index reply)
entries-of index def lists (Err e) counts its of_lists count just made = tt
entries-of index def lists (Ok reply) counts its of_lists count just made = record {
  counts = counts;
  same = made ∙ ap (λ (d : IndexDef). info_reply d counts) its;
  records = count ∙ ap all_entries of_lists;
  just = subst (λ (ls : AllLists). CountsJust ls (Some counts.records)) of_lists just;
}

-- it was answered, or out of memory
pub tells-told : {E : Type 0} (index : Index) (cursors : ℕ) (made : Result Reply E) (written : List ℕ) → IfOk made (TellsIndex index cursors) → Told made written → TellsOf (Some index) written
tells-told index cursors (Ok reply) written tells (inl said) = inl (reply, tells.exact, said)
tells-told index cursors (Ok reply) written tells (inr want) = inr (want_of_memory, want)
tells-told index cursors (Err e) written tells want = inr (want_of_memory, want)
