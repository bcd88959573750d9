-- Whether a query holds, by the answers of the parts in it; and which fields have no number.
use Rattle.std.proofs.Common.{◌≡◌, ℕ, Bool, true, false, not, List, Option, None, refl, sym, ap, ◌∙◌}
use Rattle.std.specs.List.{list_all, list_any}
use Rattle.std.proofs.lemmas.List.Folds.{list_all-map}
use Rattle.ft_base.specs.Kinds.{is_numeric}
use Rattle.ft_base.specs.declared.definition.FieldKind.{FieldKind}
use Rattle.ft_base.specs.declared.definition.FieldKind.TheVariants as kinds
use Rattle.ft_base.specs.declared.query.Query.{Query}
use Rattle.ft_base.specs.declared.query.Query.TheFolds.{fold-roll-Query}
use Rattle.ft_base.specs.declared.query.Query.TheOpen as layer
use Rattle.ft_base.specs.declared.query.Query.TheVariants as query
use Rattle.ft_base.proofs.AnyLaws.{any_map}
use Rattle.ft_meaning.specs.Holds.{Has, holds_by, holds_step, value_number}

pub holds-Empty : (has : Has) → holds_by has query.Empty ≡ false
holds-Empty has = ap (holds_by has) (sym query.rolls-Empty) ∙ fold-roll-Query Bool (holds_step has) layer.Empty

pub holds-All : (has : Has) → holds_by has query.All ≡ true
holds-All has = ap (holds_by has) (sym query.rolls-All) ∙ fold-roll-Query Bool (holds_step has) layer.All

pub holds-And : (has : Has) (parts : List Query) → holds_by has (query.And parts) ≡ list_all (holds_by has) parts
holds-And has parts =
    ap (holds_by has) (sym (query.rolls-And parts))
    ∙ (fold-roll-Query Bool (holds_step has) (layer.And parts) ∙ list_all-map (λ met. met) (holds_by has) parts)

pub holds-Or : (has : Has) (parts : List Query) → holds_by has (query.Or parts) ≡ list_any (holds_by has) parts
holds-Or has parts =
    ap (holds_by has) (sym (query.rolls-Or parts))
    ∙ (fold-roll-Query Bool (holds_step has) (layer.Or parts) ∙ any_map (λ met. met) (holds_by has) parts)

pub holds-Not : (has : Has) (part : Query) → holds_by has (query.Not part) ≡ not (holds_by has part)
holds-Not has part = ap (holds_by has) (sym (query.rolls-Not part)) ∙ fold-roll-Query Bool (holds_step has) (layer.Not part)

pub holds-Optional : (has : Has) (part : Query) → holds_by has (query.Optional part) ≡ true
holds-Optional has part = ap (holds_by has) (sym (query.rolls-Optional part)) ∙ fold-roll-Query Bool (holds_step has) (layer.Optional part)

-- a field that is not NUMERIC has no number
pub value_number-none : (kind : FieldKind) (value : Option (List ℕ)) → is_numeric kind ≡ false → value_number kind value ≡ None
value_number-none kinds.Numeric value other = absurd (cc (other))
value_number-none kinds.Text value other = refl
value_number-none (kinds.Tag separator case) value other = refl
