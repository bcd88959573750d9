use Rattle.std.proofs.Common.{◌<◌, sym, subst, length, w64}
use Rattle.std.proofs.lemmas.Int.{to_z-of_z}
use Rattle.ft_base.specs.Hash.{Hash}
use Rattle.ft_meaning.specs.Meaning.{ValuesFit}
use Rattle.indexed_store.proofs.WritesLaws.{set-filled, set-fits}
use Rattle.ft_engine.proofs.BehindLaws.{stays-behind, stays-read, waits-number}
use Rattle.ft_engine.proofs.hashes.incrementing.set_number.Goals as goal

pub prepare_hash-requires-clause-filled : goal.prepare_hash-requires-clause-filled
prepare_hash-requires-clause-filled c = subst (λ (hash : Hash). 0 < length hash) (sym c.in_ok-set_to.ensures.set.set) (set-filled c.in_ok-hash.hash c.args.field.now _)

pub prepare_hash-requires-clause-values : goal.prepare_hash-requires-clause-values
prepare_hash-requires-clause-values c =
    subst ValuesFit (sym c.in_ok-set_to.ensures.set.set) (set-fits c.in_ok-hash.hash c.args.field.now _ c.in_ok-hash.ensures.fits c.in_ok-set_to.ensures.set.short)

pub returns-clause-stays : goal.returns-clause-stays
returns-clause-stays c = stays-behind c.args.held.now c.copy_of.new.self c.prepare_hash.new.self c.copy_of.ensures.stays c.prepare_hash.ensures.stays

pub returns-in_err-hash-clause-stays : goal.returns-in_err-hash-clause-stays
returns-in_err-hash-clause-stays c = stays-read c.args.held.now c.copy_of.new.self c.copy_of.ensures.stays

pub returns-in_err-set_to-clause-stays : goal.returns-in_err-set_to-clause-stays
returns-in_err-set_to-clause-stays c = stays-read c.args.held.now c.copy_of.new.self c.copy_of.ensures.stays

pub returns-clause-waits : goal.returns-clause-waits
returns-clause-waits c =
    waits-number c.args.key.now c.args.field.now _ c.args.number c.in_ok-hash.hash c.set_to.new.hash c.prepare_hash.result c.args.held.now c.copy_of.new.self c.prepare_hash.new.self (to_z-of_z w64 c.args.number c.ranges.number)
    c.copy_of.ensures.stays c.in_ok-hash.ensures.hash c.in_ok-set_to.ensures.set c.prepare_hash.ensures.waits
