use Rattle.std.proofs.Common.{◌∙◌, ap, of_z, sym, to_z, w64}
use Rattle.cmd_parse.specs.Read.{Plain}
use Rattle.cmd_parse.specs.declared.command.Verb.TheVariants.{Hincrby}
use Rattle.ft_base.specs.Number.{int_of}
use Rattle.ft_base.specs.Words.{first, second}
use Rattle.indexed_store.specs.Holding.{state_of}
use Rattle.indexed_store.proofs.PreparingLaws.{prepares-read}
use Rattle.ft_engine.proofs.BehindLaws.{stays-behind}
use Rattle.ft_engine.proofs.PlainLaws.{increment-fits, not-number, overflows, same-field, sum-is, too-wide, value-fits}
use Rattle.ft_engine.proofs.PreparedLaws.{hincrby-prepares, prepares-wanting}
use Rattle.ft_engine.proofs.hashes.incrementing.hincrby.Goals as goal

pub returns-in_default-number_of-clause-prepares : goal.returns-in_default-number_of-clause-prepares
returns-in_default-number_of-clause-prepares c =
    let value = sym (same-field c.args.held.now.space c.word-key.result.now (first c.args.args.now) c.word-field.result.now (second c.args.args.now) c.word-key.ensures c.word-field.ensures) ∙ (sym c.number_of.ensures.number ∙ c.in_default-number_of.is) in
    let increment = sym (ap int_of c.word.ensures) ∙ (sym c.read_int.ensures.exact ∙ c.in-Some.is) in
    prepares-read (Plain Hincrby c.args.args.now) c.args.held.now c.number_of.new.self _ c.number_of.ensures.stays
    (not-number c.args.args.now c.args.held.now.next (state_of c.args.held.now) _ c.in-Some.by value increment c.set_fault.ensures.bytes)

pub returns-in_default-checked_add-clause-prepares : goal.returns-in_default-checked_add-clause-prepares
returns-in_default-checked_add-clause-prepares c =
    let value = sym (same-field c.args.held.now.space c.word-key.result.now (first c.args.args.now) c.word-field.result.now (second c.args.args.now) c.word-key.ensures c.word-field.ensures) ∙ (sym c.number_of.ensures.number ∙ c.in-Some-number_of.is) in
    let increment = sym (ap int_of c.word.ensures) ∙ (sym c.read_int.ensures.exact ∙ c.in-Some.is) in
    prepares-read (Plain Hincrby c.args.args.now) c.args.held.now c.number_of.new.self _ c.number_of.ensures.stays
    (overflows c.args.args.now c.args.held.now.next (state_of c.args.held.now) _ c.in-Some-number_of.old c.in-Some.by value increment
    (too-wide c.in-Some-number_of.old c.in-Some.by (value-fits _ c.in-Some-number_of.old value) (increment-fits _ c.in-Some.by increment) c.in_default-checked_add.ensures) c.set_fault-in_default-checked_add.ensures.bytes)

pub returns-in-Ok-clause-prepares : goal.returns-in-Ok-clause-prepares
returns-in-Ok-clause-prepares c =
    let value = sym (same-field c.args.held.now.space c.word-key.result.now (first c.args.args.now) c.word-field.result.now (second c.args.args.now) c.word-key.ensures c.word-field.ensures) ∙ (sym c.number_of.ensures.number ∙ c.in-Some-number_of.is) in
    let increment = sym (ap int_of c.word.ensures) ∙ (sym c.read_int.ensures.exact ∙ c.in-Some.is) in
    let sum = sum-is c.in-Some-number_of.old c.in-Some.by c.in-Some-checked_add.sum (value-fits _ c.in-Some-number_of.old value) (increment-fits _ c.in-Some.by increment) c.in-Some-checked_add.ensures.0 c.in-Some-checked_add.ensures.1 in
    hincrby-prepares c.args.args.now c.args.held.now c.number_of.new.self c.set_number.new.held _ c.word-key.result.now c.word-field.result.now c.in-Some-number_of.old c.in-Some.by (to_z w64 (of_z w64 c.in-Some-checked_add.sum)) c.in-Ok.put
    c.word-key.ensures c.word-field.ensures value increment sum c.number_of.ensures.stays c.in-Ok.ensures.waits c.set_number.ensures.stays c.set_signed.ensures.bytes

pub returns-in-Err-clause-prepares : goal.returns-in-Err-clause-prepares
returns-in-Err-clause-prepares c =
    prepares-wanting (Plain Hincrby c.args.args.now) c.args.held.now _ _ tt
    (stays-behind c.args.held.now c.number_of.new.self _ c.number_of.ensures.stays c.set_number.ensures.stays) c.set_no_memory.ensures.bytes
