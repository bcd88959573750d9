-- How long the name of a command is whose number of words is wrong.
use Rattle.std.proofs.Common.{◌≡◌, ◌≤◌, ℕ, List, [], ◌∷◌, length, map, true, Option, Some, None, Err, inl, inr, sym, ap, ◌∙◌, subst, arith, rules}
use Rattle.std.specs.Prelude.{IfSome, slice_index_or}
use Rattle.std.specs.Char.{to_ascii_lowercase}
use Rattle.std.proofs.lemmas.Bool.{cases_Bool}
use Rattle.std.proofs.lemmas.List.{length-map}
use Rattle.std.proofs.lemmas.Slice.Eq.{bytes_eq-Decides}
use Rattle.cmd_parse.specs.Commands.{commands, form_of, form_in}
use Rattle.ft_base.specs.Names.{is_name}
use Rattle.cmd_parse.specs.Read.{read, read_as}
use Rattle.cmd_parse.specs.Reading.{IsReading}
use Rattle.cmd_parse.specs.declared.command.CmdFault.{CmdFault}
use Rattle.cmd_parse.specs.declared.command.CmdFault.TheVariants.{Arity}
use Rattle.cmd_parse.specs.declared.table.Form.{Form}

abbrev EachShort : List (List ℕ × Form) → Type 0
EachShort [] = Unit {0}
EachShort (row ∷ rows) = (length row.0 ≤ 12) × EachShort rows

each_short : EachShort commands
each_short = search rules depth 80

-- a word that is a name is as long as the name
name-length : (word name : List ℕ) → is_name word name ≡ true → length word ≡ length name
name-length word name same =
    let lowered : map to_ascii_lowercase word ≡ map to_ascii_lowercase name = (bytes_eq-Decides (map to_ascii_lowercase word) (map to_ascii_lowercase name)).0 same in
    sym (length-map word to_ascii_lowercase) ∙ (ap length lowered ∙ length-map name to_ascii_lowercase)

-- a word that names a row is short
named-short : (word : List ℕ) (rows : List (List ℕ × Form)) → EachShort rows → IfSome (form_in rows word) (λ form. length word ≤ 12)
named-short word [] each = tt
named-short word (row ∷ rows) each = elim (cases_Bool (is_name word row.0)) [
  | inl y ↦ rw y (omega (arith, name-length word row.0 y, each.0))
  | inr n ↦ rw n (named-short word rows each.1)
]

short-arity : (name : List ℕ) (serial : ℕ) (args : List (List ℕ)) (form : Option Form) → IfSome form (λ form. length name ≤ 12) → read_as form serial name args ≡ Err Arity → length name ≤ 12
short-arity name serial args None short wrong = cc
short-arity name serial args (Some form) short wrong = short

-- the name of a command whose number of words is wrong
pub arity-short : (words : List (List ℕ)) (serial : ℕ) → read serial words ≡ Err Arity → length (slice_index_or words 0 []) ≤ 12
arity-short [] serial wrong = cc
arity-short (name ∷ args) serial wrong = short-arity name serial args (form_of name) (named-short name commands each_short) wrong

pub refused-short : (words : List (List ℕ)) (serial : ℕ) (fault : CmdFault) → IsReading serial words (Err fault) → fault ≡ Arity → length (slice_index_or words 0 []) ≤ 12
refused-short words serial fault reads is =
    let wrong : IsReading serial words (Err Arity) = subst (λ (f : CmdFault). IsReading serial words (Err f)) is reads in
    arity-short words serial wrong
