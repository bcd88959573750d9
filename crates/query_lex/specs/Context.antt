-- Where a lexeme stands: in the text, there directly behind a colon or an arrow, in brackets or in braces.
use Rattle.std.specs.Prelude.{Bool, true, false, Option, Some, None}
use Rattle.query_lex.specs.declared.context.Context.{Context}
use Rattle.query_lex.specs.declared.context.Context.TheVariants.{Text, AfterColon, AfterArrow, Range, Tags, Attributes}
use Rattle.query_lex.specs.declared.lexeme.LexKind.{LexKind}
use Rattle.query_lex.specs.declared.lexeme.LexKind.TheVariants as kinds
use Rattle.query_lex.specs.declared.lexeme.Sign.{Sign}
use Rattle.query_lex.specs.declared.lexeme.Sign.TheVariants as signs

-- whether it is within brackets or braces
abbrev pub is_enclosed : Context → Bool
is_enclosed Range = true
is_enclosed Tags = true
is_enclosed Attributes = true
is_enclosed context = false

-- behind a lexeme that opens and closes nothing
abbrev pub behind : Context → Context
behind Range = Range
behind Tags = Tags
behind Attributes = Attributes
behind context = Text

-- a colon in the braces of attributes opens nothing
abbrev pub behind_colon : Context → Context
behind_colon Range = Range
behind_colon Tags = Tags
behind_colon Attributes = Attributes
behind_colon context = AfterColon

abbrev pub behind_sign : Context → Sign → Context
behind_sign context signs.Colon = behind_colon context
behind_sign context signs.Arrow = AfterArrow
behind_sign context signs.RangeOpen = Range
behind_sign context signs.TagOpen = Tags
behind_sign context signs.AttrOpen = Attributes
behind_sign context signs.RangeClose = Text
behind_sign context signs.TagClose = Text
behind_sign context signs.AttrClose = Text
behind_sign context other = behind context

-- Where the next lexeme stands. What only separates leaves it, so blanks may stand behind a colon and an arrow.
abbrev pub context_behind : Context → Option LexKind → Context
context_behind context None = context
context_behind context (Some (kinds.Sign sign)) = behind_sign context sign
context_behind context (Some other) = behind context
