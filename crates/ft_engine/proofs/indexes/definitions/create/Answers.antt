use Rattle.std.proofs.Common.{◌∙◌, ap, subst, sym, arith, length, List, ℕ, [], refl, inl, inr}
use Rattle.std.specs.Prelude.{is_some}
use Rattle.std.proofs.lemmas.List.{length-map}
use Rattle.std.specs.List.{All}
use Rattle.ft_index.specs.Index.{Index}
use Rattle.ft_machine.specs.Definitions.{index_of}
use Rattle.ft_engine.proofs.IndexCommandLaws.{create-done, create-full, create-taken, named-known, prepares-stays, prepares-wanting, stays-same}
use Rattle.indexed_store.specs.DefinitionsOf.{defined, definitions_of}
use Rattle.indexed_store.specs.Holding.{state_of}
use Rattle.indexed_store.specs.Standing.{AreApart}
use Rattle.reply_buffer.proofs.Spellings.{ok_written}
use Rattle.ft_engine.proofs.indexes.definitions.create.Goals as goal

pub returns-then-is_some-clause-prepares : goal.returns-then-is_some-clause-prepares
returns-then-is_some-clause-prepares c =
    let held = c.args.held.now in
    let known = named-known held.indexes (definitions_of held.indexes) c.as_slice.result.now c.index_named.result refl c.index_named.ensures ∙ (sym c.is_some.ensures ∙ c.if-is_some.true) in
    prepares-stays _ held held _ (stays-same held) refl
    (create-taken c.args.def held.next (state_of held) _ (ap (λ (w : List ℕ). is_some (index_of (definitions_of held.indexes) w)) (sym c.as_slice.ensures) ∙ known) c.set_fault.ensures.bytes)

pub returns-then-index_count-ge-MOST_INDEXES-clause-prepares : goal.returns-then-index_count-ge-MOST_INDEXES-clause-prepares
returns-then-index_count-ge-MOST_INDEXES-clause-prepares c =
    let held = c.args.held.now in
    let known = named-known held.indexes (definitions_of held.indexes) c.as_slice.result.now c.index_named.result refl c.index_named.ensures ∙ (sym c.is_some.ensures ∙ c.if-is_some.false) in
    prepares-stays _ held held _ (stays-same held) refl
    (create-full c.args.def held.next (state_of held) _ (ap (λ (w : List ℕ). is_some (index_of (definitions_of held.indexes) w)) (sym c.as_slice.ensures) ∙ known)
    (omega (arith, length-map held.indexes defined, c.index_count.ensures, c.if-index_count-ge-MOST_INDEXES.true)) c.set_fault-then-index_count-ge-MOST_INDEXES.ensures.bytes)

pub returns-in-Ok-clause-prepares : goal.returns-in-Ok-clause-prepares
returns-in-Ok-clause-prepares c =
    let held = c.args.held.now in
    let made = c.in-Ok.ensures.made in
    let known = named-known held.indexes (definitions_of held.indexes) c.as_slice.result.now c.index_named.result refl c.index_named.ensures ∙ (sym c.is_some.ensures ∙ c.if-is_some.false) in
    record {
      does = create-done c.args.def held.next (state_of held) _ c.in-Ok.index (ap (λ (w : List ℕ). is_some (index_of (definitions_of held.indexes) w)) (sym c.as_slice.ensures) ∙ known)
          (omega (arith, length-map held.indexes defined, c.index_count.ensures, c.if-index_count-ge-MOST_INDEXES.false)) made.same made.failures (ok_written [] _ refl c.set_short.ensures.bytes);
      stays = c.in-Ok.ensures.stays;
      ready = (
        omega (arith, ap (λ (is : List Index). length is) c.in-Ok.ensures.indexes, c.index_count.ensures, c.if-index_count-ge-MOST_INDEXES.false),
        made.stands,
        subst (All (AreApart c.in-Ok.index)) (sym c.in-Ok.ensures.indexes) made.apart,
        made.given,
      );
      enters = inr (inl c.in-Ok.ensures.indexes);
    }

pub returns-in-Err-clause-prepares : goal.returns-in-Err-clause-prepares
returns-in-Err-clause-prepares c = prepares-wanting _ _ _ _ tt c.in-Err.ensures.stays c.in-Err.ensures.indexes c.set_no_memory.ensures.bytes
