-- Values within a query: those that a command's PARAMS give, and the values of attributes.
use Rattle.std.specs.Prelude.{ℕ, ℤ, pos, negsuc, ◌^◌, List, [], ◌∷◌, Bool, true, false, nat_lt, codes, Option, Some, None, is_some, if◌then◌else◌}
use Rattle.std.specs.Str.{bytes_eq}
use Rattle.ft_base.specs.Names.{is_name}
use Rattle.ft_base.specs.Number.{int_of}
use Rattle.ft_base.specs.Weight.{is_weight}
use Rattle.ft_base.specs.declared.query.Param.{Param}
use Rattle.query_lex.specs.declared.lexeme.LexKind.{LexKind}
use Rattle.query_lex.specs.declared.lexeme.LexKind.TheVariants as kinds

-- the value of a name, where the command gives it one
abbrev pub param_of : List Param → List ℕ → Option (List ℕ)
param_of [] name = None
param_of (param ∷ params) name = if bytes_eq name param.name then Some param.value else param_of params name

-- a slop: a whole number below 2^32 in its one spelling
abbrev pub below_limit : Option ℤ → Option ℕ
below_limit None = None
below_limit (Some (negsuc n)) = None
below_limit (Some (pos n)) = if nat_lt n (2 ^ 32) then Some n else None

abbrev pub slop_of : List ℕ → Option ℕ
slop_of text = below_limit (int_of text)

-- `true` and `false` in any case
abbrev pub flag_of : List ℕ → Option Bool
flag_of text = if is_name text (codes "true") then Some true else (if is_name text (codes "false") then Some false else None)

-- whether a value is one that an attribute of this name may have; of an unknown name each is
abbrev pub fits_attribute : List ℕ → List ℕ → Bool
fits_attribute name value =
    if bytes_eq name (codes "slop") then is_some (slop_of value)
    else (if bytes_eq name (codes "inorder") then is_some (flag_of value)
    else (if bytes_eq name (codes "weight") then is_weight value
    else true))

-- what a lexeme stands for as a value: its own bytes, or what the command gives to its name
abbrev pub value_of : List Param → LexKind → Option (List ℕ)
value_of params (kinds.Raw text) = Some text
value_of params (kinds.Param name) = param_of params name
value_of params other = None

-- whether a lexeme may stand for a value
abbrev pub is_value : LexKind → Bool
is_value (kinds.Raw text) = true
is_value (kinds.Param name) = true
is_value other = false

-- whether a value passes a test, where there is one; one that is not given has a fault of its own
abbrev pub passes : (List ℕ → Bool) → Option (List ℕ) → Bool
passes test None = true
passes test (Some value) = test value
