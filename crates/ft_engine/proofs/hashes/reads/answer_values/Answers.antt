use Rattle.std.proofs.Common.{◌∙◌, ap, refl, List, ℕ}
use Rattle.cmd_parse.specs.declared.command.Verb.TheVariants.{Hget, Hmget, Hgetall, Hkeys, Hvals}
use Rattle.ft_base.specs.Hash.{get_field, in_turn}
use Rattle.ft_base.specs.Space.{doc_of}
use Rattle.ft_base.specs.declared.reply.Reply.{Reply}
use Rattle.ft_base.specs.declared.reply.Reply.TheVariants.{Array}
use Rattle.ft_base.specs.Words.{first, second}
use Rattle.ft_machine.specs.Reads.{hash_in, names, value_reply, values}
use Rattle.indexed_store.specs.Holding.{state_of}
use Rattle.ft_engine.proofs.ReadLaws.{told-plain}
use Rattle.ft_engine.proofs.hashes.reads.answer_values.Goals as goal

pub returns-in-Hget-clause-does : goal.returns-in-Hget-clause-does
returns-in-Hget-clause-does c =
    let told : List ℕ → List ℕ → Reply = λ (key field : List ℕ). value_reply (get_field (hash_in (doc_of c.args.held.now.space key)) field) in
    told-plain c.args.verb Hget c.args.args.now c.args.held.now.next (state_of c.args.held.now) _ c.hget.result _ (told (first c.args.args.now) (second c.args.args.now)) c.in-Hget.is tt refl
    (ap (λ (key : List ℕ). told key c.word-in-Hget.result.now) c.word.ensures ∙ ap (λ (field : List ℕ). told (first c.args.args.now) field) c.word-in-Hget.ensures) c.hget.ensures.reply c.set_made.ensures.told

pub returns-in-Hmget-clause-does : goal.returns-in-Hmget-clause-does
returns-in-Hmget-clause-does c =
    told-plain c.args.verb Hmget c.args.args.now c.args.held.now.next (state_of c.args.held.now) _ c.hmget.result _ _ c.in-Hmget.is tt refl refl c.hmget.ensures.reply c.set_made-in-Hmget.ensures.told

pub returns-in-Hgetall-clause-does : goal.returns-in-Hgetall-clause-does
returns-in-Hgetall-clause-does c =
    let told : List ℕ → Reply = λ (key : List ℕ). Array (in_turn (hash_in (doc_of c.args.held.now.space key))) in
    told-plain c.args.verb Hgetall c.args.args.now c.args.held.now.next (state_of c.args.held.now) _ c.hgetall.result _ (told (first c.args.args.now)) c.in-Hgetall.is tt refl
    (ap told c.word-in-Hgetall.ensures) c.hgetall.ensures.reply c.set_made-in-Hgetall.ensures.told

pub returns-in-Hkeys-clause-does : goal.returns-in-Hkeys-clause-does
returns-in-Hkeys-clause-does c =
    let told : List ℕ → Reply = λ (key : List ℕ). Array (names (hash_in (doc_of c.args.held.now.space key))) in
    told-plain c.args.verb Hkeys c.args.args.now c.args.held.now.next (state_of c.args.held.now) _ c.hkeys.result _ (told (first c.args.args.now)) c.in-Hkeys.is tt refl
    (ap told c.word-in-Hkeys.ensures) c.hkeys.ensures.reply c.set_made-in-Hkeys.ensures.told

pub returns-in-Hvals-clause-does : goal.returns-in-Hvals-clause-does
returns-in-Hvals-clause-does c =
    let told : List ℕ → Reply = λ (key : List ℕ). Array (values (hash_in (doc_of c.args.held.now.space key))) in
    told-plain c.args.verb Hvals c.args.args.now c.args.held.now.next (state_of c.args.held.now) _ c.hvals.result _ (told (first c.args.args.now)) c.in-Hvals.is tt refl
    (ap told c.word-in-Hvals.ensures) c.hvals.ensures.reply c.set_made-in-Hvals.ensures.told
