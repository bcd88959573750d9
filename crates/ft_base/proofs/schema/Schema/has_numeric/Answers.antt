use Rattle.std.proofs.Common.{◌≡◌, ◌∙◌, ◌&&◌, Bool, true, false, cond, List, [], ◌∷◌, Some, None, refl, ap, sym}
use Rattle.std.specs.Prelude.{◌||◌}
use Rattle.std.specs.List.{find, list_any}
use Rattle.std.specs.Option.{option_copied}
use Rattle.std.specs.Str.{bytes_eq}
use Rattle.ft_base.specs.Kinds.{is_numeric}
use Rattle.ft_base.specs.declared.definition.Field.{Field}
use Rattle.ft_base.proofs.schema.Schema.has_numeric.Goals as goal

-- a NUMERIC field passes a test where the first one that passes it is NUMERIC
numeric-there : (passes : Field → Bool) (fields : List Field) (field : Field) → find passes fields ≡ Some field → is_numeric field.kind ≡ true
    → list_any (λ (other : Field). is_numeric other.kind && passes other) fields ≡ true
numeric-there passes [] field found numeric = absurd cc
numeric-there passes (f ∷ fs) field found numeric = by_test (passes f) (is_numeric f.kind) refl found (λ there. numeric-there passes fs field there numeric)
  where
    by_test : (passed number : Bool) → is_numeric f.kind ≡ number → cond passed (Some f) (find passes fs) ≡ Some field
        → (find passes fs ≡ Some field → list_any (λ (other : Field). is_numeric other.kind && passes other) fs ≡ true)
        → ((number && passed) || list_any (λ (other : Field). is_numeric other.kind && passes other) fs) ≡ true
    by_test true true is found behind = refl
    by_test true false is found behind =
        let same : f ≡ field = cc in
        let clash : false ≡ true = sym is ∙ (ap (λ (other : Field). is_numeric other.kind) same ∙ numeric) in
        cc
    by_test false true is found behind = behind found
    by_test false false is found behind = behind found

-- and none where none passes it
numeric-none : (passes : Field → Bool) (fields : List Field) → find passes fields ≡ None → list_any (λ (other : Field). is_numeric other.kind && passes other) fields ≡ false
numeric-none passes [] none = refl
numeric-none passes (f ∷ fs) none = by_test (passes f) (is_numeric f.kind) none (λ there. numeric-none passes fs there)
  where
    by_test : (passed number : Bool) → cond passed (Some f) (find passes fs) ≡ None
        → (find passes fs ≡ None → list_any (λ (other : Field). is_numeric other.kind && passes other) fs ≡ false)
        → ((number && passed) || list_any (λ (other : Field). is_numeric other.kind && passes other) fs) ≡ false
    by_test true number none behind = absurd cc
    by_test false true none behind = behind none
    by_test false false none behind = behind none

pub returns-in-Some : goal.returns-in-Some
returns-in-Some c =
    let is : option_copied c.get.result ≡ Some c.in-Some.field.now = ap option_copied c.in-Some.is in
    sym (numeric-there (λ (field : Field). bytes_eq c.args.alias.now field.alias) c.args.self.now c.in-Some.field.now (sym c.get.ensures ∙ is) (sym c.is_numeric.ensures ∙ c.if-is_numeric.true))

pub returns-in-None : goal.returns-in-None
returns-in-None c = sym (numeric-none (λ (field : Field). bytes_eq c.args.alias.now field.alias) c.args.self.now (sym c.get.ensures ∙ ap option_copied c.in-None.is))
