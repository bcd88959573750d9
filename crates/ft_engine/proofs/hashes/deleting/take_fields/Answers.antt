use Rattle.std.proofs.Common.{arith}
use Rattle.ft_engine.proofs.BehindLaws.{stays-behind, stays-read}
use Rattle.ft_engine.proofs.PreparedLaws.{takes-some}
use Rattle.ft_engine.proofs.hashes.deleting.take_fields.Goals as goal

pub returns-in_err-put-clause-stays : goal.returns-in_err-put-clause-stays
returns-in_err-put-clause-stays c = stays-behind c.args.held.now c.left_of.new.self c.prepare_hash.new.self c.left_of.ensures.stays c.prepare_hash.ensures.stays

pub returns-clause-stays : goal.returns-clause-stays
returns-clause-stays c = stays-behind c.args.held.now c.left_of.new.self c.prepare_hash.new.self c.left_of.ensures.stays c.prepare_hash.ensures.stays

pub returns-in_err-before-clause-stays : goal.returns-in_err-before-clause-stays
returns-in_err-before-clause-stays c = stays-read c.args.held.now c.left_of.new.self c.left_of.ensures.stays

pub returns-then-gone-eq0-clause-stays : goal.returns-then-gone-eq0-clause-stays
returns-then-gone-eq0-clause-stays c = stays-read c.args.held.now c.left_of.new.self c.left_of.ensures.stays

pub returns-then-len-eq0-clause-stays : goal.returns-then-len-eq0-clause-stays
returns-then-len-eq0-clause-stays c = stays-read c.args.held.now c.left_of.new.self c.left_of.ensures.stays

pub returns-clause-change : goal.returns-clause-change
returns-clause-change c =
    takes-some c.args.key.now c.args.fields.now c.in_ok-before.before _ c.in_ok-put.put c.in_ok-before.left c.args.held.now c.left_of.new.self c.prepare_hash.new.self c.in_ok-before.ensures.before c.in_ok-before.ensures.left
    (omega (arith, c.len.ensures)) (omega arith) (omega arith) c.left_of.ensures.stays c.in_ok-put.ensures.waits
