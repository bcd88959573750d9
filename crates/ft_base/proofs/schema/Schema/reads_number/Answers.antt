use Rattle.std.proofs.Common.{◌≡◌, ◌∙◌, ◌&&◌, ℕ, Bool, true, false, cond, List, [], ◌∷◌, map, refl, ap}
use Rattle.std.specs.Prelude.{◌||◌, filter}
use Rattle.std.specs.List.{list_any}
use Rattle.std.specs.Str.{bytes_eq}
use Rattle.ft_base.specs.Kinds.{is_numeric}
use Rattle.ft_base.specs.Numerics.{numeric_names}
use Rattle.ft_base.specs.declared.definition.Field.{Field}
use Rattle.ft_base.proofs.NamedLaws.{turned}
use Rattle.ft_base.proofs.schema.Schema.reads_number.Goals as goal

abbrev reads : List ℕ → Field → Bool
reads name field = is_numeric field.kind && bytes_eq field.name name

-- a name is one of those that NUMERIC fields read where such a field reads it
any-numeric : (name : List ℕ) (fields : List Field) → list_any (λ other. bytes_eq name other) (numeric_names fields) ≡ list_any (reads name) fields
any-numeric name [] = refl
any-numeric name (f ∷ fs) = by_test (is_numeric f.kind) (any-numeric name fs)
  where
    by_test : (b : Bool) → list_any (λ other. bytes_eq name other) (numeric_names fs) ≡ list_any (reads name) fs
        → list_any (λ other. bytes_eq name other) (map (λ (field : Field). field.name) (cond b (f ∷ filter (λ (field : Field). is_numeric field.kind) fs) (filter (λ (field : Field). is_numeric field.kind) fs)))
        ≡ ((b && bytes_eq f.name name) || list_any (reads name) fs)
    by_test true others =
        ap (λ b. b || list_any (λ other. bytes_eq name other) (numeric_names fs)) (turned name f.name)
        ∙ ap (λ b. bytes_eq f.name name || b) others
    by_test false others = others

pub returns : goal.returns
returns c =
    c.has.ensures
    ∙ ap (list_any (λ other. bytes_eq c.args.name.now other)) c.self.invariant
    ∙ any-numeric c.args.name.now c.self.inside.fields
    ∙ ap (list_any (reads c.args.name.now)) c.self.view_is
