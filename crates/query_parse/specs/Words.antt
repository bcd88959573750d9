-- Parts that are one word: the word and its fields, and parts that are words in the same fields.
use Rattle.std.specs.Prelude.{ℕ, List, [], Option, Some, None, Bool, true, false}
use Rattle.ft_base.specs.declared.query.Fields.{Fields}
use Rattle.ft_base.specs.declared.query.Fields.TheVariants.{All}
use Rattle.query_grammar.specs.Shape.{same_fields, Shape, One, Several, Else}

-- the word that a part is; no bytes where it is none
abbrev pub word_in : Shape → List ℕ
word_in (One fields word) = word
word_in (Several fields words) = []
word_in Else = []

-- the fields of the word that a part is, if it is one
abbrev pub fields_of : Shape → Option Fields
fields_of (One fields word) = Some fields
fields_of (Several fields words) = None
fields_of Else = None

-- these fields; all of them where the part is no word
abbrev pub fields_in : Shape → Fields
fields_in (One fields word) = fields
fields_in (Several fields words) = All
fields_in Else = All

-- whether a part is one word
abbrev pub is_one : Shape → Bool
is_one (One fields word) = true
is_one (Several fields words) = false
is_one Else = false

-- whether two parts are words in the same fields
abbrev pub alike : Shape → Shape → Bool
alike (One fields word) (One others next) = same_fields fields others
alike (One fields word) (Several others words) = false
alike (One fields word) Else = false
alike (Several fields words) shape = false
alike Else shape = false
