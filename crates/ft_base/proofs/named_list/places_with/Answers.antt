use Rattle.ft_base.proofs.NamedLaws.{finds-named}
use Rattle.ft_base.proofs.named_list.places_with.Goals as goal

pub returns-in_ok-noted-in-Some : goal.returns-in_ok-noted-in-Some
returns-in_ok-noted-in-Some g c =
    finds-named g.T.HasName.name_of c.args.items.now c.args.item.now c.name.result.now c.in-Some.places.value c.in_ok-noted-in-Some.field-0.value
    (rw c.in-Some.is at c.requires) c.name.ensures c.in_ok-noted-in-Some.ensures

pub returns-in_ok-noted-in-None-2 : goal.returns-in_ok-noted-in-None-2
returns-in_ok-noted-in-None-2 g c =
    finds-named g.T.HasName.name_of c.args.items.now c.args.item.now c.name-in-None-2.result.now c.in_ok-places-in-None-2.places.value c.in_ok-noted-in-None-2.field-0.value
    c.in_ok-places-in-None-2.ensures c.name-in-None-2.ensures c.in_ok-noted-in-None-2.ensures
