use Rattle.ft_engine.proofs.BehindLaws.{stays-behind, stays-read, waits-made}
use Rattle.ft_engine.proofs.hashes.renaming.copy_under.Goals as goal

pub returns-clause-stays : goal.returns-clause-stays
returns-clause-stays c = stays-behind c.args.held.now c.copy_of.new.self c.prepare_hash.new.self c.copy_of.ensures.stays c.prepare_hash.ensures.stays

pub returns-in_err-hash-clause-stays : goal.returns-in_err-hash-clause-stays
returns-in_err-hash-clause-stays c = stays-read c.args.held.now c.copy_of.new.self c.copy_of.ensures.stays

pub returns-clause-waits : goal.returns-clause-waits
returns-clause-waits c =
    waits-made c.args.to.now c.in_ok-hash.hash _ c.prepare_hash.result c.args.held.now c.copy_of.new.self c.prepare_hash.new.self c.copy_of.ensures.stays c.in_ok-hash.ensures.hash c.prepare_hash.ensures.waits
