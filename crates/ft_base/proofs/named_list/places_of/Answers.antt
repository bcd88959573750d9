use Rattle.std.proofs.Common.{ap, ◌∙◌}
use Rattle.ft_base.proofs.NamedLaws.{finds-item}
use Rattle.ft_base.proofs.named_list.places_of.Goals as goal

pub loop-i-preserved : goal.loop-i-preserved
loop-i-preserved g c =
    finds-item g.T.HasName.name_of c.args.items.now c.loop-i.i c.index-items-i.result c.name.result.now c.loop-i.places c.note.new.self c.loop-i-test.true c.loop-i.invariant
    (c.name.ensures ∙ ap g.T.HasName.name_of c.index-items-i.is) c.in_ok-note.ensures
