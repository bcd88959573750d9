use Rattle.ft_engine.proofs.BehindLaws.{stays-behind, stays-read, waits-after}
use Rattle.ft_engine.proofs.hashes.setting.set_fields.Goals as goal

pub returns-in_err-put-clause-stays : goal.returns-in_err-put-clause-stays
returns-in_err-put-clause-stays c = stays-behind c.args.held.now c.copy_with.new.held c.prepare_hash.new.self c.copy_with.ensures.stays c.prepare_hash.ensures.stays

pub returns-clause-stays : goal.returns-clause-stays
returns-clause-stays c = stays-behind c.args.held.now c.copy_with.new.held c.prepare_hash.new.self c.copy_with.ensures.stays c.prepare_hash.ensures.stays

pub returns-in_err-hash-clause-stays : goal.returns-in_err-hash-clause-stays
returns-in_err-hash-clause-stays c = stays-read c.args.held.now c.copy_with.new.held c.copy_with.ensures.stays

pub returns-clause-waits : goal.returns-clause-waits
returns-clause-waits c =
    waits-after c.args.key.now c.in_ok-hash.hash _ c.in_ok-put.put c.args.held.now c.copy_with.new.held c.prepare_hash.new.self c.copy_with.ensures.stays c.in_ok-hash.ensures.hash c.in_ok-put.ensures.waits
