-- Which fields of an index a part of a query names.
use Rattle.std.specs.Prelude.{ℕ, Bool, true, ◌==◌}
use Rattle.std.specs.List.{list_any}
use Rattle.ft_base.specs.declared.query.Fields.{Fields}
use Rattle.ft_base.specs.declared.query.Fields.TheVariants.{All, Named}

-- whether the field with this number is one of them
abbrev pub is_named : Fields → ℕ → Bool
is_named All number = true
is_named (Named numbers) number = list_any (λ named. named == number) numbers
