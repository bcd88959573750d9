-- An index that words define has the serial that it was given.
use Rattle.std.specs.Prelude.{◌≡◌, ℕ, List, [], ◌∷◌, Result, Ok, Err, IfOk, codes, refl}
use Rattle.std.proofs.Common.{subst}
use Rattle.ft_base.specs.declared.definition.IndexDef.{IndexDef}
use Rattle.ft_base.specs.Reading.{◌>>=◌}
use Rattle.ft_schema.specs.declared.fault.Stop.{Stop}
use Rattle.ft_schema.specs.Fields.{fields_at}
use Rattle.ft_schema.specs.Names.{Word}
use Rattle.ft_schema.specs.Options.{options_at}
use Rattle.ft_schema.specs.Schema.{index_at, keyword_at}

-- what holds of all that a reading may go on to holds of what it gives
goes-on : {A B : Type 0} (P : B → Type 0) (read : Result A Stop) (next : A → Result B Stop) → ((a : A) → IfOk (next a) P) → IfOk (read >>= next) P
goes-on P (Ok a) next each = each a
goes-on P (Err stop) next each = tt

index-serial : (serial : ℕ) (words : List Word) → IfOk (index_at serial words) (λ index. index.serial ≡ serial)
unfolding index_at
index-serial serial [] = tt
index-serial serial (name ∷ words) =
    let P : IndexDef → Type 0 = λ index. index.serial ≡ serial in
    goes-on P (options_at words) _ (λ options. goes-on P (keyword_at (codes "SCHEMA") options.1) _ (λ rest. goes-on P (fields_at rest) _ (λ fields. refl)))

-- the index that words define
pub index-is_numbered : (serial : ℕ) (words : List Word) (index : IndexDef) → index_at serial words ≡ Ok index → index.serial ≡ serial
index-is_numbered serial words index is = subst (λ (read : Result IndexDef Stop). IfOk read (λ index. index.serial ≡ serial)) is (index-serial serial words)
