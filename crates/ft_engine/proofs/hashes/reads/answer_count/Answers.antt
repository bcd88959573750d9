use Rattle.std.specs.Prelude.{Bool, is_some, pos}
use Rattle.std.proofs.Common.{◌∙◌, ap, length, List, ℕ}
use Rattle.cmd_parse.specs.declared.command.Verb.TheVariants.{Hlen, Hexists, Exists, TypeOf, Dbsize}
use Rattle.ft_base.specs.Hash.{get_field}
use Rattle.ft_base.specs.Space.{doc_of}
use Rattle.ft_base.specs.declared.reply.Reply.TheVariants.{Line, Number}
use Rattle.ft_base.specs.Words.{first}
use Rattle.ft_machine.specs.Machine.{answered}
use Rattle.ft_machine.specs.Reads.{hash_in, kind_of, one_if}
use Rattle.indexed_store.specs.Holding.{state_of}
use Rattle.ft_engine.proofs.PlainLaws.{stays-plain}
use Rattle.ft_engine.proofs.hashes.reads.answer_count.Goals as goal

pub returns-in-Hlen-clause-does : goal.returns-in-Hlen-clause-does
returns-in-Hlen-clause-does c =
    let state = state_of c.args.held.now in
    stays-plain c.args.verb Hlen c.args.args.now c.args.held.now.next state _ (Number (pos c.hlen.result)) c.in-Hlen.is
    (ap (λ (n : ℕ). answered (Number (pos n)) state) (c.hlen.ensures.count ∙ ap (λ (key : List ℕ). length (hash_in (doc_of c.args.held.now.space key))) c.word.ensures)) c.set_number.ensures.bytes

pub returns-in-Hexists-clause-does : goal.returns-in-Hexists-clause-does
returns-in-Hexists-clause-does c =
    let state = state_of c.args.held.now in
    let there : List ℕ → List ℕ → Bool = λ (key field : List ℕ). is_some (get_field (hash_in (doc_of c.args.held.now.space key)) field) in
    stays-plain c.args.verb Hexists c.args.args.now c.args.held.now.next state _ (one_if c.has_field.result) c.in-Hexists.is
    (ap (λ (so : Bool). answered (one_if so) state) (c.has_field.ensures.there ∙ (ap (λ (key : List ℕ). there key c.word-in-Hexists-2.result.now) c.word-in-Hexists.ensures ∙ ap (λ (field : List ℕ). there (first c.args.args.now) field) c.word-in-Hexists-2.ensures)))
    c.set_flag.ensures.bytes

pub returns-in-Exists-clause-does : goal.returns-in-Exists-clause-does
returns-in-Exists-clause-does c =
    let state = state_of c.args.held.now in
    stays-plain c.args.verb Exists c.args.args.now c.args.held.now.next state _ (Number (pos c.present.result)) c.in-Exists.is
    (ap (λ (n : ℕ). answered (Number (pos n)) state) c.present.ensures) c.set_number-in-Exists.ensures.bytes

pub returns-in-TypeOf-clause-does : goal.returns-in-TypeOf-clause-does
returns-in-TypeOf-clause-does c =
    let state = state_of c.args.held.now in
    let doc = doc_of c.args.held.now.space c.word-in-TypeOf.result.now in
    stays-plain c.args.verb TypeOf c.args.args.now c.args.held.now.next state _ (Line (kind_of doc)) c.in-TypeOf.is
    (ap (λ (key : List ℕ). answered (Line (kind_of (doc_of c.args.held.now.space key))) state) c.word-in-TypeOf.ensures) (c.set_kind.ensures.bytes doc c.has.ensures)

pub returns-in-Dbsize-clause-does : goal.returns-in-Dbsize-clause-does
returns-in-Dbsize-clause-does c =
    let state = state_of c.args.held.now in
    stays-plain c.args.verb Dbsize c.args.args.now c.args.held.now.next state _ (Number (pos c.len.result)) c.in-Dbsize.is
    (ap (λ (n : ℕ). answered (Number (pos n)) state) c.len.ensures) c.set_number-in-Dbsize.ensures.bytes
