-- Reading has a fault of the name or of the number of words just where the table has.
use Rattle.std.proofs.Common.{◌≡◌, ◌≤◌, ◌<◌, ℕ, suc, Bool, true, false, List, [], ◌∷◌, length, Option, Some, None, Result, Ok, Err, IfSome, refl, sym, ap, ◌∙◌, arith}
use Rattle.std.specs.Prelude.{slice_index_or, if◌then◌else◌}
use Rattle.std.proofs.lemmas.Bool.{leb-true}
use Rattle.ft_base.specs.declared.definition.Field.{Field}
use Rattle.ft_base.specs.declared.definition.IndexDef.{IndexDef}
use Rattle.ft_base.specs.declared.name_fit.NameFit.{NameFit}
use Rattle.ft_base.specs.declared.name_fit.NameFit.TheVariants.{Fits, Unknown, Arity}
use Rattle.ft_schema.specs.Schema.{alter, create}
use Rattle.ft_schema.specs.declared.fault.SchemaFault.{SchemaFault}
use Rattle.cmd_parse.specs.Aggregate.{all_parts_at}
use Rattle.cmd_parse.specs.Aggregating.{aggregate, aggregate_with}
use Rattle.cmd_parse.specs.Asked.{Asked}
use Rattle.cmd_parse.specs.Commands.{fits, form_of}
use Rattle.cmd_parse.specs.Cursor.{cursor_at, cursor_with}
use Rattle.cmd_parse.specs.Fits.{fit_of, is_of_session, name_fit}
use Rattle.cmd_parse.specs.Given.{Given}
use Rattle.cmd_parse.specs.Lawful.{IsLawfulForm}
use Rattle.cmd_parse.specs.Read.{aggregated, altered, asked_as, created, plain, plain_or, read_as, searched}
use Rattle.cmd_parse.specs.Search.{options_at}
use Rattle.cmd_parse.specs.Searching.{placed, search, search_with}
use Rattle.cmd_parse.specs.declared.aggregate_parts.Parts.{Parts}
use Rattle.cmd_parse.specs.declared.command.CmdFault.{CmdFault}
use Rattle.cmd_parse.specs.declared.command.CmdFault.TheVariants as fault
use Rattle.cmd_parse.specs.declared.command.Verb.{Verb}
use Rattle.cmd_parse.specs.declared.stop.Cause.TheVariants as causes
use Rattle.cmd_parse.specs.declared.stop.Stop.{Stop}
use Rattle.cmd_parse.specs.declared.stop.Stop.TheVariants as stops
use Rattle.cmd_parse.specs.declared.table.Form.{Form}
use Rattle.cmd_parse.specs.declared.table.Form.TheVariants.{Between, AtLeast, InPairs, Create, Alter}
use Rattle.cmd_parse.specs.declared.table.Form.TheVariants as form
use Rattle.cmd_parse.proofs.TableLaws.{lawful_form}

-- what the table says
abbrev table_fit : Option Form → ℕ → NameFit
table_fit None count = Unknown
table_fit (Some form) count = if fits form count then Fits else Arity

-- the first fault of a plain command's arguments is neither of the two
plain_or-fits : (found : Option CmdFault) (verb : Verb) (args : List (List ℕ)) → ((fault : CmdFault) → found ≡ Some fault → fit_of (Err fault) ≡ Fits) → fit_of (plain_or found verb args) ≡ Fits
plain_or-fits None verb args is = refl
plain_or-fits (Some fault) verb args is = is fault refl

first_fault-fits : (verb : Verb) (args : List (List ℕ)) → fit_of (plain verb args) ≡ Fits
first_fault-fits verb args = grind arith

created-fits : (read : Result IndexDef SchemaFault) → fit_of (created read) ≡ Fits
created-fits (Ok index) = refl
created-fits (Err fault) = refl

altered-fits : (index : List ℕ) (read : Result (List Field) SchemaFault) → fit_of (altered index read) ≡ Fits
altered-fits index (Ok fields) = refl
altered-fits index (Err fault) = refl

placed-fits : (total : ℕ) (stop : Stop) → fit_of (Err (placed total stop)) ≡ Fits
placed-fits total stops.NoMemory = refl
placed-fits total (stops.Fault causes.Syntax left) = refl
placed-fits total (stops.Fault causes.Limit left) = refl
placed-fits total (stops.Fault causes.OutOfScope left) = refl

search_with-fits : (total : ℕ) (index query : List ℕ) (read : Result Given Stop) → fit_of (searched (search_with total index query read)) ≡ Fits
search_with-fits total index query (Ok given) = refl
search_with-fits total index query (Err stop) = placed-fits total stop

search-fits : (words : List (List ℕ)) → 3 ≤ length words → fit_of (searched (search words)) ≡ Fits
search-fits [] long = absurd (omega (arith, long))
search-fits (name ∷ []) long = absurd (omega (arith, long))
search-fits (name ∷ index ∷ []) long = absurd (omega (arith, long))
search-fits (name ∷ index ∷ query ∷ options) long =
    let total = length (name ∷ index ∷ query ∷ options) in search_with-fits total index query (options_at total options)

aggregate_with-fits : (index query : List ℕ) (words : List (List ℕ)) (read : Result Parts Stop) → fit_of (aggregated (aggregate_with index query words read)) ≡ Fits
aggregate_with-fits index query words (Ok parts) = refl
aggregate_with-fits index query words (Err stop) = placed-fits (length words) stop

aggregate-fits : (words : List (List ℕ)) → 3 ≤ length words → fit_of (aggregated (aggregate words)) ≡ Fits
aggregate-fits [] long = absurd (omega (arith, long))
aggregate-fits (name ∷ []) long = absurd (omega (arith, long))
aggregate-fits (name ∷ index ∷ []) long = absurd (omega (arith, long))
aggregate-fits (name ∷ index ∷ query ∷ parts) long = aggregate_with-fits index query (name ∷ index ∷ query ∷ parts) (all_parts_at parts)

cursor_with-fits : (total : ℕ) (read : Result Asked Stop) → fit_of (cursor_with total read) ≡ Fits
cursor_with-fits total (Ok asked) = refl
cursor_with-fits total (Err stop) = placed-fits total stop

-- a lawful number of words has no fault of these two
asked-fits : (form : Form) (serial : ℕ) (name : List ℕ) (args : List (List ℕ)) → IsLawfulForm form → fits form (suc (length args)) ≡ true → fit_of (asked_as form serial name args) ≡ Fits
asked-fits (Between verb least most) serial name args lawful may = first_fault-fits verb args
asked-fits (AtLeast verb least) serial name args lawful may = first_fault-fits verb args
asked-fits (InPairs verb least) serial name args lawful may = first_fault-fits verb args
asked-fits (Create least) serial name args lawful may = created-fits (create (name ∷ args) serial)
asked-fits (Alter least) serial name args lawful may = altered-fits (slice_index_or args 0 []) (alter (name ∷ args))
asked-fits (form.Search least) serial name args lawful may = search-fits (name ∷ args) (omega (arith, lawful, leb-true least (suc (length args)) may))
asked-fits (form.Aggregate least) serial name args lawful may = aggregate-fits (name ∷ args) (omega (arith, lawful, leb-true least (suc (length args)) may))
asked-fits (form.Cursor least) serial name args lawful may = cursor_with-fits (suc (length args)) (cursor_at args)

form-fits : (form : Form) (serial : ℕ) (name : List ℕ) (args : List (List ℕ)) → IsLawfulForm form → fit_of (read_as (Some form) serial name args) ≡ table_fit (Some form) (suc (length args))
form-fits form serial name args lawful = by_test (fits form (suc (length args))) refl
  where
    by_test : (test : Bool) → fits form (suc (length args)) ≡ test
        → fit_of (if test then asked_as form serial name args else Err fault.Arity) ≡ (if test then Fits else Arity)
    by_test true may = asked-fits form serial name args lawful may
    by_test false may = refl

found-fits : (found : Option Form) (serial : ℕ) (name : List ℕ) (args : List (List ℕ)) → IfSome found IsLawfulForm → fit_of (read_as found serial name args) ≡ table_fit found (suc (length args))
found-fits None serial name args lawful = refl
found-fits (Some form) serial name args lawful = form-fits form serial name args lawful

-- Of a name that is none of the three, the fit is that of the table.
by_table : (serial : ℕ) (words : List (List ℕ)) → 0 < length words → is_of_session (slice_index_or words 0 []) ≡ false
    → name_fit serial words ≡ table_fit (form_of (slice_index_or words 0 [])) (length words)
by_table serial [] some other = absurd (omega (arith, some))
by_table serial (name ∷ args) some other = rw other (found-fits (form_of name) serial name args (lawful_form name))

-- A name that the table has, with a number of words that it lets through.
pub fits_by_table : (serial : ℕ) (words : List (List ℕ)) (name : List ℕ) (form : Form) (count : ℕ) → 0 < length words → name ≡ slice_index_or words 0 []
    → is_of_session name ≡ false → form_of name ≡ Some form → count ≡ length words → fits form count ≡ true → name_fit serial words ≡ Fits
fits_by_table serial words name form count some named other found counted may =
    by_table serial words some (ap is_of_session (sym named) ∙ other)
    ∙ (ap (λ (n : List ℕ). table_fit (form_of n) (length words)) (sym named) ∙ (ap (λ (f : Option Form). table_fit f (length words)) found
    ∙ (ap (λ (n : ℕ). if fits form n then Fits else Arity) (sym counted) ∙ ap (λ (b : Bool). if b then Fits else Arity) may)))
