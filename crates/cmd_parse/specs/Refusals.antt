-- What is answered to words that ask nothing (docs/COMMANDS.md): the text of each fault.
use Rattle.std.specs.Prelude.{ℕ, List, ◌++◌, codes}
use Rattle.std.specs.Fmt.{decimal}
use Rattle.ft_base.specs.Memory.{want_of_memory}
use Rattle.ft_schema.specs.Refusals.{schema_refusal}
use Rattle.std.specs.Str.{str_to_ascii_lowercase}
use Rattle.cmd_parse.specs.declared.command.CmdFault.{CmdFault}
use Rattle.cmd_parse.specs.declared.command.CmdFault.TheVariants.{Unknown, Arity, Syntax, Limit, OutOfScope, NotInteger, BadDb, Schema, NoMemory}

-- the text for a command of this name whose words ask nothing
abbrev pub refusal : List ℕ → CmdFault → List ℕ
refusal name Unknown = codes "ERR unknown command"
refusal name Arity = codes "ERR wrong number of arguments for '" ++ str_to_ascii_lowercase name ++ codes "' command"
refusal name (Syntax at) = codes "ERR syntax error at word " ++ decimal at
refusal name (Limit at) = codes "ERR limit exceeded at word " ++ decimal at
refusal name (OutOfScope at) = codes "ERR not supported at word " ++ decimal at
refusal name NotInteger = codes "ERR value is not an integer or out of range"
refusal name BadDb = codes "ERR DB index is out of range"
refusal name (Schema fault) = schema_refusal fault
refusal name NoMemory = want_of_memory
