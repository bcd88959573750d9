-- What the table says of a name, and that what a row lets through is lawful for its verb.
use Rattle.std.proofs.Common.{◌≡◌, ℕ, List, [], ◌∷◌, true, false, Some, IfSome, option_map, map, drop, length, get_or, refl, rules, ◌+◌, ◌<◌, Bor, add-one, drop-cons}
use Rattle.std.specs.List.{find}
use Rattle.std.specs.Prelude.{if◌then◌else◌}
use Rattle.cmd_parse.specs.declared.table.Form.{Form}
use Rattle.cmd_parse.specs.Commands.{commands, form_in, form_of}
use Rattle.ft_base.specs.Names.{is_name}
use Rattle.cmd_parse.specs.Lawful.{IsLawfulForm}

-- a row of the code's table, whose name is lent
abbrev Row : Type 0
Row = Bor (List ℕ) × Form

abbrev rows_of : List Row → List (List ℕ × Form)
rows_of rows = map (λ row. (row.0.now, row.1)) rows

-- a row with the name is the first one from its place on
pub form_in-here : (word : List ℕ) (rows : List Row) (i : ℕ) (d : Row) → i < length rows → is_name word (get_or rows i d).0.now ≡ true
    → form_in (rows_of (drop i rows)) word ≡ Some (get_or rows i d).1
form_in-here word rows i d within named = rw (drop-cons rows i d, named) refl

-- a row with another name is passed over
pub form_in-past : (word : List ℕ) (rows : List Row) (i : ℕ) (d : Row) → i < length rows → is_name word (get_or rows i d).0.now ≡ false
    → form_in (rows_of (drop i rows)) word ≡ form_in (rows_of (drop (i + 1) rows)) word
form_in-past word rows i d within other = rw (add-one i, drop-cons rows i d, other) refl

-- a fact of each row's form
abbrev EachForm : List (List ℕ × Form) → Type 0
EachForm [] = Unit {0}
EachForm (row ∷ rows) = IsLawfulForm row.1 × EachForm rows

-- what is found is one of the rows
found : (word : List ℕ) (rows : List (List ℕ × Form)) → EachForm rows → IfSome (form_in rows word) IsLawfulForm
found word [] each = tt
found word (row ∷ rows) each =
    elim (is_name word row.0) as (λ b. IfSome (option_map (λ (r : List ℕ × Form). r.1) (if b then Some row else find (λ r. is_name word r.0) rows)) IsLawfulForm)
    [ true ↦ each.0 | false ↦ found word rows each.1 ]

each_form : EachForm commands
each_form = search rules depth 80

pub lawful_form : (word : List ℕ) → IfSome (form_of word) IsLawfulForm
lawful_form word = found word commands each_form
