use Rattle.std.proofs.Common.{ap, map, sym, ◌∙◌, subst}
use Rattle.std.specs.Option.{is_some}
use Rattle.ft_base.specs.Named.{IsNoted, Places, noted_at, noted_of}
use Rattle.ft_base.proofs.NamedLaws.{noted-lookup, noted-there, noted-new}
use Rattle.ft_base.proofs.places.Places.note.Goals as goal

pub returns-then-contains_key : goal.returns-then-contains_key
returns-then-contains_key c =
    noted-there c.args.self.now c.args.name.now c.args.place
    (ap (λ places. is_some (noted_at places c.args.name.now)) (sym c.self.view_is) ∙ ap is_some (noted-lookup c.self.inside.first.entries c.args.name.now) ∙ sym c.contains_key.ensures ∙ c.if-contains_key.true)

pub returns : goal.returns
returns c =
    subst (λ (old : Places). IsNoted c.args.name.now c.args.place old (map noted_of c.insert.new.self.entries)) c.self.view_is
    (noted-new c.self.inside.first.entries c.insert.new.self.entries c.in_ok-name.name c.args.name.now c.args.place c.in_ok-name.ensures.items
    (ap is_some (noted-lookup c.self.inside.first.entries c.args.name.now) ∙ sym c.contains_key.ensures ∙ c.if-contains_key.false)
    c.in_ok-insert.ensures.entries)
