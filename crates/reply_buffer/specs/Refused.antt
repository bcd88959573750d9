-- The bytes of a refusal: each is an error, whose text is that of what is wrong.
use Rattle.std.specs.Prelude.{◌≡◌, ◌≤◌, ℕ, List, length}
use Rattle.cmd_parse.specs.Refusals.{refusal}
use Rattle.cmd_parse.specs.declared.command.CmdFault.{CmdFault}
use Rattle.cmd_parse.specs.declared.command.CmdFault.TheVariants.{Arity}
use Rattle.ft_base.specs.Reply.{spelling}
use Rattle.ft_base.specs.declared.reply.Reply.TheVariants.{Fault}
use Rattle.ft_machine.specs.Searching.{unknown_field}
use Rattle.ft_schema.specs.Refusals.{schema_refusal}
use Rattle.ft_schema.specs.declared.fault.SchemaFault.{SchemaFault}
use Rattle.query_grammar.specs.Refusals.{query_refusal}
use Rattle.query_grammar.specs.declared.fault.QueryFault.{QueryFault}

-- of the words of a command of this name, which ask nothing
abbrev pub refused : List ℕ → CmdFault → List ℕ
refused name fault = spelling (Fault (refusal name fault))

-- where their number is wrong: the text has the name
abbrev pub wrong_number : List ℕ → List ℕ
wrong_number name = refused name Arity

-- so the name must be short
abbrev pub HasShortName : List ℕ → CmdFault → Type 0
HasShortName name fault = fault ≡ Arity → length name ≤ 12

-- of words that are no schema
abbrev pub schema_refused : SchemaFault → List ℕ
schema_refused fault = spelling (Fault (schema_refusal fault))

-- of a text that is no query
abbrev pub query_refused : QueryFault → List ℕ
query_refused fault = spelling (Fault (query_refusal fault))

-- of a name at a word, which is no field's
abbrev pub field_refused : ℕ → List ℕ
field_refused at = spelling (Fault (unknown_field at))
