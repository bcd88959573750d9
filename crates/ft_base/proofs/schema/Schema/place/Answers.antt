use Rattle.std.proofs.Common.{◌<◌, List, Option, length, ℕ, subst, sym}
use Rattle.std.specs.Option.{IfSome}
use Rattle.ft_base.specs.Named.{place_of}
use Rattle.ft_base.specs.declared.definition.Field.{Field}
use Rattle.ft_base.proofs.NamedLaws.{place-within}
use Rattle.ft_base.proofs.schema.Schema.place.Goals as goal

pub returns-clause-within : goal.returns-clause-within
returns-clause-within c =
    let place : Option ℕ = place_of (λ (field : Field). field.alias) c.self.inside.fields c.args.alias.now in
    let within : IfSome place (λ i. i < length c.args.self.now) =
    subst (λ (fields : List Field). IfSome place (λ i. i < length fields)) c.self.view_is (place-within _ c.self.inside.fields) in
    subst (λ (found : Option ℕ). IfSome found (λ i. i < length c.args.self.now)) (sym c.place.ensures) within
