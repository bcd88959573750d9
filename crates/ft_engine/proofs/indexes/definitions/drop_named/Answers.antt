use Rattle.std.proofs.Common.{◌∙◌, ap, sym, arith, List, ℕ, [], refl, inl, inr}
use Rattle.std.specs.Prelude.{is_some, not}
use Rattle.ft_machine.specs.Definitions.{index_of}
use Rattle.ft_engine.proofs.IndexCommandLaws.{drop-one, drop-two, drop-unknown, named-known, prepares-stays, stays-same}
use Rattle.indexed_store.specs.DefinitionsOf.{definitions_of}
use Rattle.indexed_store.specs.Holding.{state_of}
use Rattle.reply_buffer.proofs.Spellings.{ok_written}
use Rattle.ft_engine.proofs.indexes.definitions.drop_named.Goals as goal

pub returns-then-is_none-clause-prepares : goal.returns-then-is_none-clause-prepares
returns-then-is_none-clause-prepares c =
    let held = c.args.held.now in
    let known = named-known held.indexes (definitions_of held.indexes) c.word-name.result.now c.index_named.result refl c.index_named.ensures ∙ (c.is_none.ensures ∙ ap not c.if-is_none.true) in
    prepares-stays _ held held _ (stays-same held) refl
    (drop-unknown c.args.args.now held.next (state_of held) _ (ap (λ (w : List ℕ). is_some (index_of (definitions_of held.indexes) w)) (sym c.word-name.ensures) ∙ known) c.set_fault.ensures.bytes)

pub returns-then-len-eq1-clause-prepares : goal.returns-then-len-eq1-clause-prepares
returns-then-len-eq1-clause-prepares c =
    let held = c.args.held.now in
    let known = named-known held.indexes (definitions_of held.indexes) c.word-name.result.now c.index_named.result refl c.index_named.ensures ∙ (c.is_none.ensures ∙ ap not c.if-is_none.false) in
    record {
      does = drop-one c.args.args.now held.next (state_of held) _ c.word-name.result.now (ap (λ (w : List ℕ). is_some (index_of (definitions_of held.indexes) w)) (sym c.word-name.ensures) ∙ known)
          (omega (arith, c.len.ensures, c.if-len-eq1.true)) c.word-name.ensures (ok_written [] _ refl c.set_short.ensures.bytes);
      stays = stays-same held;
      ready = known;
      enters = inr (inl refl);
    }

pub returns-clause-prepares : goal.returns-clause-prepares
returns-clause-prepares c =
    let held = c.args.held.now in
    let known = named-known held.indexes (definitions_of held.indexes) c.word-name.result.now c.index_named.result refl c.index_named.ensures ∙ (c.is_none.ensures ∙ ap not c.if-is_none.false) in
    record {
      does = drop-two c.args.args.now held.next (state_of held) _ c.word-name.result.now (ap (λ (w : List ℕ). is_some (index_of (definitions_of held.indexes) w)) (sym c.word-name.ensures) ∙ known)
          (omega (arith, c.len.ensures, c.if-len-eq1.false, c.requires.words.0)) c.word-name.ensures (ok_written [] _ refl c.set_short.ensures.bytes);
      stays = stays-same held;
      ready = known;
      enters = inr (inl refl);
    }
