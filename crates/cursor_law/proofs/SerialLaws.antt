-- An index that words ask for has the serial that they are read with.
use Rattle.std.specs.Prelude.{◌≡◌, ℕ, suc, List, [], ◌∷◌, length, drop, cond, Bool, true, false, slice_index_or, Option, Some, None, Result, Ok, Err, IfOk, codes, refl}
use Rattle.std.proofs.Common.{subst}
use Rattle.cmd_parse.specs.Aggregating.{Aggregating, aggregate}
use Rattle.cmd_parse.specs.Asked.{Asked, CursorRead, CursorDel}
use Rattle.cmd_parse.specs.Commands.{fits, form_of}
use Rattle.cmd_parse.specs.Cursor.{asked_by, cursor, cursor_at, cursor_with, rows_at, subcommand_at}
use Rattle.cmd_parse.specs.Lawful.{HasSerial}
use Rattle.cmd_parse.specs.Read.{aggregated, altered, asked_as, created, first_fault, plain_or, read, read_as, searched}
use Rattle.cmd_parse.specs.Search.{is_at_end}
use Rattle.cmd_parse.specs.Searching.{Searching, search}
use Rattle.cmd_parse.specs.Words.{number_at, word_at}
use Rattle.cmd_parse.specs.declared.command.CmdFault.{CmdFault}
use Rattle.cmd_parse.specs.declared.command.CmdFault.TheVariants.{Arity}
use Rattle.cmd_parse.specs.declared.command.Verb.{Verb}
use Rattle.cmd_parse.specs.declared.cursor.Subcommand.{Subcommand}
use Rattle.cmd_parse.specs.declared.cursor.Subcommand.TheVariants as subcommand
use Rattle.cmd_parse.specs.declared.stop.Stop.{Stop}
use Rattle.cmd_parse.specs.declared.table.Form.{Form}
use Rattle.cmd_parse.specs.declared.table.Form.TheVariants.{Between, AtLeast, InPairs, Create, Alter}
use Rattle.cmd_parse.specs.declared.table.Form.TheVariants as form
use Rattle.ft_base.specs.Reading.{◌>>=◌}
use Rattle.ft_base.specs.declared.definition.Field.{Field}
use Rattle.ft_base.specs.declared.definition.IndexDef.{IndexDef}
use Rattle.ft_schema.specs.Fields.{fields_at}
use Rattle.ft_schema.specs.Options.{options_at}
use Rattle.ft_schema.specs.Schema.{alter, create, index_at, keyword_at, placed}
use Rattle.ft_schema.specs.declared.fault.SchemaFault.{SchemaFault}
use Rattle.ft_schema.specs.declared.fault.Stop.{Stop as SchemaStop}

module _ (serial : ℕ) where
  abbrev Says : Result Asked CmdFault → Type 0
  Says read = IfOk read (HasSerial serial)

  if-says : (b : Bool) (read : Result Asked CmdFault) → Says read → Says (cond b read (Err Arity))
  if-says true read is = is
  if-says false read is = tt

  plain-says : (fault : Option CmdFault) (verb : Verb) (args : List (List ℕ)) → Says (plain_or fault verb args)
  plain-says None verb args = tt
  plain-says (Some fault) verb args = tt

  -- what holds of all that a reading may go on to holds of what it gives
  goes-on : {A B E : Type 0} (P : B → Type 0) (read : Result A E) (next : A → Result B E) → ((a : A) → IfOk (next a) P) → IfOk (read >>= next) P
  goes-on P (Ok a) next each = each a
  goes-on P (Err stop) next each = tt

  abbrev IsNumbered : IndexDef → Type 0
  IsNumbered index = index.serial ≡ serial

  index-says : (words : List (List ℕ)) → IfOk (index_at serial words) IsNumbered
  unfolding index_at
  index-says [] = tt
  index-says (name ∷ words) =
      goes-on IsNumbered (options_at words) _ (λ options. goes-on IsNumbered (keyword_at (codes "SCHEMA") options.1) _ (λ rest. goes-on IsNumbered (fields_at rest) _ (λ fields. refl)))

  placed-says : (total : ℕ) (read : Result IndexDef SchemaStop) → IfOk read IsNumbered → Says (created (placed total read))
  placed-says total (Ok index) is = is
  placed-says total (Err stop) is = tt

  created-says : (words : List (List ℕ)) → Says (created (create words serial))
  unfolding create
  created-says words = placed-says (length words) (index_at serial (drop 1 words)) (index-says (drop 1 words))

  altered-says : (name : List ℕ) (read : Result (List Field) SchemaFault) → Says (altered name read)
  altered-says name (Ok fields) = tt
  altered-says name (Err fault) = tt

  searched-says : (read : Result Searching CmdFault) → Says (searched read)
  searched-says (Ok what) = tt
  searched-says (Err fault) = tt

  aggregated-says : (read : Result Aggregating CmdFault) → Says (aggregated read)
  aggregated-says (Ok what) = tt
  aggregated-says (Err fault) = tt

  unless-says : (b : Bool) (asks : Asked) (stop : Stop) → HasSerial serial asks → let read : Result Asked Stop = cond b (Ok asks) (Err stop) in IfOk read (HasSerial serial)
  unless-says true asks stop is = is
  unless-says false asks stop is = tt

  asked-says : (name : Subcommand) (index : List ℕ) (id : ℕ) (words : List (List ℕ)) → IfOk (asked_by name index id words) (HasSerial serial)
  asked-says subcommand.Read index id words = goes-on (HasSerial serial) (rows_at words) _ (λ count. unless-says (is_at_end count.1) (CursorRead index id count.0) _ tt)
  asked-says subcommand.Del index id words = unless-says (is_at_end words) (CursorDel index id) _ tt

  with-says : (total : ℕ) (read : Result Asked Stop) → IfOk read (HasSerial serial) → Says (cursor_with total read)
  with-says total (Ok asks) is = is
  with-says total (Err stop) is = tt

  cursor-says : (words : List (List ℕ)) → Says (cursor words)
  cursor-says words = with-says (length words) (cursor_at (drop 1 words))
      (goes-on (HasSerial serial) (subcommand_at (drop 1 words)) _ (λ name. goes-on (HasSerial serial) (word_at name.1) _ (λ index. goes-on (HasSerial serial) (number_at index.1) _ (λ id. asked-says name.0 index.0 id.0 id.1))))

  form-says : (f : Form) (name : List ℕ) (args : List (List ℕ)) → Says (asked_as f serial name args)
  form-says (Between verb least most) name args = plain-says (first_fault verb args) verb args
  form-says (AtLeast verb least) name args = plain-says (first_fault verb args) verb args
  form-says (InPairs verb least) name args = plain-says (first_fault verb args) verb args
  form-says (Create least) name args = created-says (name ∷ args)
  form-says (Alter least) name args = altered-says (slice_index_or args 0 []) (alter (name ∷ args))
  form-says (form.Search least) name args = searched-says (search (name ∷ args))
  form-says (form.Aggregate least) name args = aggregated-says (aggregate (name ∷ args))
  form-says (form.Cursor least) name args = cursor-says (name ∷ args)

  found-says : (f : Option Form) (name : List ℕ) (args : List (List ℕ)) → Says (read_as f serial name args)
  found-says None name args = tt
  found-says (Some f) name args = if-says (fits f (suc (length args))) _ (form-says f name args)

  words-says : (words : List (List ℕ)) → Says (read serial words)
  words-says [] = tt
  words-says (name ∷ args) = found-says (form_of name) name args

pub read-serial : (serial : ℕ) (words : List (List ℕ)) (asks : Asked) → read serial words ≡ Ok asks → HasSerial serial asks
read-serial serial words asks is = subst (λ (r : Result Asked CmdFault). IfOk r (HasSerial serial)) is (words-says serial words)
