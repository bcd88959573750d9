use Rattle.indexed_store.proofs.PreparingLaws.{prepares-read}
use Rattle.ft_engine.proofs.CollectionLaws.{collects-other, quiet-nothing}
use Rattle.ft_engine.proofs.plain.prepare_plain.Goals as goal

pub returns-in_default : goal.returns-in_default
returns-in_default c = record {
  prepares = prepares-read _ c.args.held.now c.answer_plain.new.held _ c.answer_plain.ensures.stays c.answer_plain.ensures.does;
  records = c.answer_plain.ensures.records;
  collects = collects-other c.args.verb c.args.args.now c.answer_plain.new.held.indexes c.answer_plain.new.reply.bytes c.in_default.not-Debug;
  quiet = quiet-nothing c.args.verb c.args.args.now;
  room = c.answer_plain.ensures.room;
}
