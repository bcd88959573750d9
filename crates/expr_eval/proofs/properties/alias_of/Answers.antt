use Rattle.std.proofs.Common.{◌≡◌, ◌∙◌, ℕ, cond, List, [], ◌∷◌, Some, refl, ap}
use Rattle.std.specs.List.{find}
use Rattle.std.specs.Str.{bytes_eq}
use Rattle.ft_base.specs.declared.definition.Field.{Field}
use Rattle.ft_base.proofs.NamedLaws.{turned}
use Rattle.expr_eval.specs.Properties.{alias_of}
use Rattle.expr_eval.proofs.properties.alias_of.Goals as goal

-- the first field of an alias
first-field : (fields : List Field) (name : List ℕ) → find (λ (field : Field). bytes_eq name field.alias) fields ≡ alias_of fields name
first-field [] name = refl
first-field (f ∷ fields) name =
    ap (λ b. cond b (Some f) (find (λ (field : Field). bytes_eq name field.alias) fields)) (turned name f.alias)
    ∙ ap (cond (bytes_eq f.alias name) (Some f)) (first-field fields name)

pub returns : goal.returns
returns c = c.get.ensures ∙ first-field c.args.fields.now c.args.name.now
