-- What is answered to words that are no schema (docs/COMMANDS.md, FT.CREATE): the text of each fault.
use Rattle.std.specs.Prelude.{ℕ, List, ◌++◌, codes}
use Rattle.std.specs.Fmt.{decimal}
use Rattle.ft_base.specs.Memory.{want_of_memory}
use Rattle.ft_schema.specs.declared.fault.SchemaFault.{SchemaFault}
use Rattle.ft_schema.specs.declared.fault.SchemaFault.TheVariants.{BadOption, BadKind, DuplicateField, TooManyFields, BadNumber, OutOfScope, NoMemory}

abbrev pub schema_refusal : SchemaFault → List ℕ
schema_refusal (BadOption at) = codes "ERR bad option at word " ++ decimal at
schema_refusal (BadKind at) = codes "ERR bad field type at word " ++ decimal at
schema_refusal (DuplicateField at) = codes "ERR duplicate field at word " ++ decimal at
schema_refusal (TooManyFields at) = codes "ERR too many fields at word " ++ decimal at
schema_refusal (BadNumber at) = codes "ERR bad number at word " ++ decimal at
schema_refusal (OutOfScope at) = codes "ERR not supported at word " ++ decimal at
schema_refusal NoMemory = want_of_memory
