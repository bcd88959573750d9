use Rattle.id_iters.proofs.ReadAheadLaws.{on_both, on_ok, read_all, read_wanted}
use Rattle.id_iters.proofs.reading.read_ids.Goals as goal

pub returns-then-takes_all : goal.returns-then-takes_all
returns-then-takes_all g c =
    on_both c.read_all.result _ _ _
    (read_all (g.H.HitTest.wants c.args.test.now) g.P.Payload.valid (c.takes_all.ensures c.if-takes_all.true) c.args.from c.args.block.now c.read_all.new.ids.items c.read_all.ensures.rises)
    c.read_all.ensures.fits c.read_all.ensures.ids

pub returns-else-takes_all : goal.returns-else-takes_all
returns-else-takes_all g c =
    on_ok c.read_wanted.result _ _ (read_wanted (g.H.HitTest.wants c.args.test.now) c.args.from c.args.block.now c.read_wanted.new.ids.items) c.read_wanted.ensures
