-- One step of what is read one after another.
use Rattle.std.specs.Prelude.{List, [], ◌∷◌, Bool, true, false, Option, Some, Ok, Err, if◌then◌else◌}
use Rattle.ft_base.specs.declared.definition.IndexDef.{IndexDef}
use Rattle.ft_base.specs.declared.query.Fields.{Fields}
use Rattle.ft_base.specs.declared.query.Param.{Param}
use Rattle.ft_base.specs.declared.query.Query.{Query}
use Rattle.ft_base.specs.declared.query.TagPart.{TagPart}
use Rattle.query_lex.specs.declared.lexeme.Lexeme.{Lexeme}
use Rattle.query_lex.specs.declared.lexeme.Sign.{Sign}
use Rattle.query_lex.specs.declared.lexeme.Sign.TheVariants as signs
use Rattle.query_grammar.specs.Faults.{faults_at}
use Rattle.query_grammar.specs.Grammar.{is_tag}
use Rattle.query_grammar.specs.Meaning.{atom_parts, tag_part}
use Rattle.query_grammar.specs.Reading.{Read, Broken, unless}

-- the part that a lexeme is by itself, which these follow
abbrev pub single_of : IndexDef → List Param → Fields → Lexeme → List Lexeme → Read (List Query)
single_of def params fields t ts = unless (faults_at params t) ts (Ok (atom_parts def.stops.words params fields t.kind, ts))

-- the tag that comes next
abbrev pub tag_at : List Param → Bool → List Lexeme → Read TagPart
tag_at params case [] = Err (Broken [])
tag_at params case (t ∷ ts) = if is_tag t.kind then unless (faults_at params t) ts (Ok (tag_part params case t.kind, ts)) else Err (Broken (t ∷ ts))

-- whether a sign closes tags
abbrev pub ends_tags : Option Sign → Bool
ends_tags (Some signs.TagClose) = true
ends_tags other = false

-- whether a sign closes a group
abbrev pub ends_group : Option Sign → Bool
ends_group (Some signs.Close) = true
ends_group other = false
