use Rattle.std.proofs.Common.{◌≡◌, ◌∙◌, ap, sym, refl, true, false, [], List, ℕ}
use Rattle.std.specs.Prelude.{is_some}
use Rattle.cmd_parse.specs.Read.{Plain}
use Rattle.cmd_parse.specs.declared.command.Verb.TheVariants.{Rename}
use Rattle.ft_base.specs.Space.{doc_of}
use Rattle.ft_base.specs.Words.{first}
use Rattle.indexed_store.specs.Holding.{state_of}
use Rattle.ft_engine.proofs.PlainLaws.{renamed-none, renamed-same, same-words}
use Rattle.ft_engine.proofs.PreparedLaws.{prepares-same, prepares-wanting, rename-prepares}
use Rattle.reply_buffer.proofs.Spellings.{ok_written}
use Rattle.ft_engine.proofs.hashes.renaming.rename.Goals as goal

pub returns-then-not-has-clause-prepares : goal.returns-then-not-has-clause-prepares
returns-then-not-has-clause-prepares c =
    let docs = c.args.held.now.space in
    let absent : is_some (doc_of docs (first c.args.args.now)) ≡ false = ap (λ (key : List ℕ). is_some (doc_of docs key)) (sym c.word-from.ensures) ∙ (sym c.has.ensures ∙ c.if-not-has.true) in
    prepares-same (Plain Rename c.args.args.now) c.args.held.now c.args.held.now _ refl
    (renamed-none c.args.args.now c.args.held.now.next (state_of c.args.held.now) _ absent c.set_fault.ensures.bytes)

pub returns-then-eq-clause-prepares : goal.returns-then-eq-clause-prepares
returns-then-eq-clause-prepares c =
    let docs = c.args.held.now.space in
    let there : is_some (doc_of docs (first c.args.args.now)) ≡ true = ap (λ (key : List ℕ). is_some (doc_of docs key)) (sym c.word-from.ensures) ∙ (sym c.has.ensures ∙ c.if-not-has.false) in
    prepares-same (Plain Rename c.args.args.now) c.args.held.now c.args.held.now _ refl
    (renamed-same c.args.args.now c.args.held.now.next (state_of c.args.held.now) _ there
    (same-words c.word-from.result.now c.word-to.result.now _ _ c.eq.result true c.word-from.ensures c.word-to.ensures c.eq.ensures c.if-eq.true) (ok_written [] _ refl c.set_short.ensures.bytes))

pub returns-in-Ok-clause-prepares : goal.returns-in-Ok-clause-prepares
returns-in-Ok-clause-prepares c =
    rename-prepares c.args.args.now c.args.held.now _ _ c.word-from.result c.word-to.result.now c.in-Ok.put c.eq.result c.word-from.ensures c.word-to.ensures
    (sym c.has.ensures ∙ c.if-not-has.false) c.eq.ensures c.if-eq.false c.in-Ok.ensures.waits c.copy_under.ensures.stays (ok_written [] _ refl c.set_short-in-Ok.ensures.bytes)

pub returns-in-Err-clause-prepares : goal.returns-in-Err-clause-prepares
returns-in-Err-clause-prepares c = prepares-wanting (Plain Rename c.args.args.now) c.args.held.now _ _ tt c.copy_under.ensures.stays c.set_no_memory.ensures.bytes
