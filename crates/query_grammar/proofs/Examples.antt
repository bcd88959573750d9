-- What the definitions say of a few texts.
use Rattle.std.proofs.Common.{◌≡◌, ℕ, List, [], ◌∷◌, length, true, false, Result, Ok, Err, Some, refl, ap, ap₂, ◌∙◌, pos}
use Rattle.std.specs.Prelude.{codes}
use Rattle.ft_base.specs.Number.{int_of}
use Rattle.ft_base.specs.declared.definition.FieldKind.TheVariants as field_kind
use Rattle.ft_base.specs.declared.definition.IndexDef.{IndexDef}
use Rattle.query_grammar.specs.Answer.{lex_place}
use Rattle.query_grammar.specs.Shape.{Shape, One, Several, Else, shape_of, together}
use Rattle.ft_base.specs.declared.query.Fields.TheVariants.{All, Named}
use Rattle.ft_base.specs.declared.query.Query.{Query}
use Rattle.ft_base.specs.declared.query.Query.TheVariants as tree
use Rattle.query_lex.specs.Lexemes.{lexemes, lexed, lexeme_at}
use Rattle.query_lex.specs.Pieces.{next_of_tag, piece_at}
use Rattle.query_lex.specs.Quotes.{next_quoted, quote_at}
use Rattle.query_lex.specs.Raw.{next_raw, raw_at}
use Rattle.query_lex.specs.Reading.{run_at}
use Rattle.query_lex.specs.Roles.{sign_role, text_role, range_role, tag_role, attribute_role}
use Rattle.query_lex.specs.Words.{next_letter, word_at, param_at}
use Rattle.query_lex.specs.declared.lexeme.Lexeme.{Lexeme}
use Rattle.query_lex.specs.declared.fault.LexFault.{LexFault}
use Rattle.query_grammar.specs.declared.fault.QueryFault.{QueryFault}
use Rattle.query_grammar.specs.declared.fault.QueryFault.TheVariants.{Syntax, UnknownField, WrongKind, NoParam, TooDeep, OutOfScope}
use Rattle.query_grammar.specs.Values.{below_limit, slop_of}
use Rattle.query_grammar.specs.Reading.{answer_of, whole_at, joined_at, chain_at, atom_at, pairs_at, part_at, name_at, names_at, value_at, range_at, tags_at, unary_at}
use Rattle.query_grammar.proofs.Blocks.{one_spelled}
use Rattle.query_grammar.proofs.Shapes.{shape-And, shape-Not, shape-Word}

-- an index of a TEXT field t, a NUMERIC field n and a TAG field g, with one stop word
abbrev def : IndexDef
def = record {
  name = codes "ix";
  serial = 1;
  prefixes = [];
  stops = record { words = codes "the" ∷ [] };
  fields = record { name = codes "t"; alias = codes "t"; kind = field_kind.Text; sortable = false; unf = false; noindex = false }
      ∷ record { name = codes "n"; alias = codes "n"; kind = field_kind.Numeric; sortable = false; unf = false; noindex = false }
      ∷ record { name = codes "g"; alias = codes "g"; kind = field_kind.Tag 44 false; sortable = false; unf = false; noindex = false }
      ∷ [];
}

abbrev read : ℕ → Result (List Lexeme) LexFault → Result Query QueryFault
read end (Ok ts) = answer_of end (whole_at def (record { name = codes "five"; value = codes "5" } ∷ []) ts)
read end (Err fault) = Err (Syntax (lex_place def [] fault))

-- what is read of a text, with a parameter that is 5
abbrev shown : List ℕ → Result Query QueryFault
shown text = read (length text) (lexemes text)

abbrev word : List ℕ → Query
word text = tree.Word All text

-- words side by side, and sides of a union
unions :
    (shown (codes "hello world | \"goodbye\" moon") ≡ Ok (tree.Or (tree.And (word (codes "hello") ∷ word (codes "world") ∷ []) ∷ tree.And (word (codes "goodbye") ∷ word (codes "moon") ∷ []) ∷ [])))
    × (shown (codes "Hello -world ~moon*") ≡ Ok (tree.And (word (codes "hello") ∷ tree.Not (word (codes "world")) ∷ tree.Optional (tree.Prefix All (codes "moon")) ∷ [])))
    × (shown (codes "(a) ((b)) *") ≡ Ok (tree.And (word (codes "a") ∷ word (codes "b") ∷ tree.All ∷ [])))
    × (shown (codes "\"big red cat\"") ≡ Ok (tree.Phrase All (codes "big" ∷ codes "red" ∷ codes "cat" ∷ []) (Some 0) true))
unfolding lexemes lexed lexeme_at next_of_tag piece_at next_quoted quote_at next_raw raw_at run_at sign_role text_role range_role tag_role attribute_role next_letter word_at param_at int_of whole_at joined_at chain_at atom_at pairs_at part_at name_at names_at value_at range_at tags_at unary_at
unions = (refl, refl, refl, refl)

-- what is cut, and what is left
stop_words :
    (shown (codes "") ≡ Ok tree.Empty)
    × (shown (codes "the") ≡ Ok tree.Empty)
    × (shown (codes "-the") ≡ Ok tree.Empty)
    × (shown (codes "()") ≡ Ok tree.Empty)
    × (shown (codes "the cat") ≡ Ok (word (codes "cat")))
unfolding lexemes lexed lexeme_at next_of_tag piece_at next_quoted quote_at next_raw raw_at run_at sign_role text_role range_role tag_role attribute_role next_letter word_at param_at int_of whole_at joined_at chain_at atom_at pairs_at part_at name_at names_at value_at range_at tags_at unary_at
stop_words = (refl, refl, refl, refl, refl)

-- fields, of which the inner name decides
fields :
    (shown (codes "@t:x") ≡ Ok (tree.Word (Named (0 ∷ [])) (codes "x")))
    × (shown (codes "@t:(x @t|t:$five)") ≡ Ok (tree.And (tree.Word (Named (0 ∷ [])) (codes "x") ∷ tree.Word (Named (0 ∷ 0 ∷ [])) (codes "5") ∷ [])))
unfolding lexemes lexed lexeme_at next_of_tag piece_at next_quoted quote_at next_raw raw_at run_at sign_role text_role range_role tag_role attribute_role next_letter word_at param_at int_of whole_at joined_at chain_at atom_at pairs_at part_at name_at names_at value_at range_at tags_at unary_at
fields = (refl, refl)

-- an empty range stays an ordinary part
ranges :
    (shown (codes "@n:[(5 10]") ≡ Ok (tree.Range 1 (pos 6) (pos 10)))
    × (shown (codes "@n:[$five +INF]") ≡ Ok (tree.Range 1 (pos 5) (pos 9223372036854775807)))
    × (shown (codes "@n:[5 1]") ≡ Ok tree.Empty)
    × (shown (codes "-@n:[5 1]") ≡ Ok (tree.Not tree.Empty))
unfolding lexemes lexed lexeme_at next_of_tag piece_at next_quoted quote_at next_raw raw_at run_at sign_role text_role range_role tag_role attribute_role next_letter word_at param_at int_of whole_at joined_at chain_at atom_at pairs_at part_at name_at names_at value_at range_at tags_at unary_at
ranges = (refl, refl, refl, refl)

-- tags in lower case
tags :
    (shown (codes "@g:{ZZ | a*}") ≡ Ok (tree.Tags 2 (record { text = codes "zz"; prefix = false } ∷ record { text = codes "a"; prefix = true } ∷ [])))
unfolding lexemes lexed lexeme_at next_of_tag piece_at next_quoted quote_at next_raw raw_at run_at sign_role text_role range_role tag_role attribute_role next_letter word_at param_at int_of whole_at joined_at chain_at atom_at pairs_at part_at name_at names_at value_at range_at tags_at unary_at
tags = refl

-- the first fault, and of several at one offset the least number
faults :
    (shown (codes "@u:x") ≡ Err (UnknownField 1))
    × (shown (codes "@t:[1 2]") ≡ Err (WrongKind 3))
    × (shown (codes "@n:(a") ≡ Err (WrongKind 3))
    × (shown (codes "@n|t:[1 2]") ≡ Err (Syntax 5))
    × (shown (codes "$p") ≡ Err (NoParam 0))
    × (shown (codes "%x%") ≡ Err (OutOfScope 0))
    × (shown (codes "@%:x") ≡ Err (UnknownField 1))
    × (shown (codes "(a") ≡ Err (Syntax 2))
    × (shown (codes "a $p )") ≡ Err (NoParam 2))
    × (shown (codes "x=>{$foo:1;") ≡ Err (OutOfScope 4))
    × (shown (codes "the=>{$inorder:1}") ≡ Err (Syntax 15))
    × (shown (codes "the=>{$inorder:True;$inorder:true}") ≡ Err (Syntax 20))
    × (shown (codes "@n:[1 x]") ≡ Err (Syntax 6))
unfolding lexemes lexed lexeme_at next_of_tag piece_at next_quoted quote_at next_raw raw_at run_at sign_role text_role range_role tag_role attribute_role next_letter word_at param_at int_of whole_at joined_at chain_at atom_at pairs_at part_at name_at names_at value_at range_at tags_at unary_at
faults = (refl, refl, refl, refl, refl, refl, refl, refl, refl, refl, refl, refl, refl)

-- a level too many
levels :
    (shown (codes "(((((((((((((((((((((((((((((((((") ≡ Err (TooDeep 32))
    × (shown (codes "((((((((((((((((((((((((((((((((") ≡ Err (Syntax 32))
unfolding lexemes lexed lexeme_at next_of_tag piece_at next_quoted quote_at next_raw raw_at run_at sign_role text_role range_role tag_role attribute_role next_letter word_at param_at int_of whole_at joined_at chain_at atom_at pairs_at part_at name_at names_at value_at range_at tags_at unary_at
levels = (refl, refl)

-- ---- attributes, which ask for the shape of a tree

one_slop : slop_of (codes "1") ≡ Some 1
one_slop = ap below_limit one_spelled

pair_shape : (a b : Query) (x y : Shape) → shape_of a ≡ x → shape_of b ≡ y → shape_of (tree.And (a ∷ b ∷ [])) ≡ together (x ∷ y ∷ [])
pair_shape a b x y e f = shape-And (a ∷ b ∷ []) ∙ ap₂ (λ (x y : Shape). together (x ∷ y ∷ [])) e f

words_shape : (a b : List ℕ) → shape_of (tree.And (word a ∷ word b ∷ [])) ≡ Several All (a ∷ b ∷ [])
words_shape a b = pair_shape (word a) (word b) (One All a) (One All b) (shape-Word All a) (shape-Word All b)

group_shape : (a : List ℕ) (q : Query) (bs : List (List ℕ)) → shape_of q ≡ Several All bs → shape_of (tree.And (word a ∷ q ∷ [])) ≡ Else
group_shape a q bs e = pair_shape (word a) q (One All a) (Several All bs) (shape-Word All a) e

denied_shape : (a : List ℕ) (q : Query) → shape_of (tree.And (word a ∷ tree.Not q ∷ [])) ≡ Else
denied_shape a q = pair_shape (word a) (tree.Not q) (One All a) Else (shape-Word All a) (shape-Not q)

-- a phrase of a group of words
phrase : shown (codes "(x z)=>{$slop:1}") ≡ Ok (tree.Phrase All (codes "x" ∷ codes "z" ∷ []) (Some 1) false)
unfolding lexemes lexed lexeme_at next_of_tag piece_at next_quoted quote_at next_raw raw_at run_at sign_role text_role range_role tag_role attribute_role next_letter word_at param_at whole_at joined_at chain_at atom_at pairs_at part_at name_at names_at value_at range_at tags_at unary_at
phrase = rw (one_spelled, words_shape (codes "x") (codes "z"), one_slop) refl

-- a group that is no phrase, told at the arrow
no_phrase : shown (codes "(x (y z))=>{$slop:1}") ≡ Err (OutOfScope 9)
unfolding lexemes lexed lexeme_at next_of_tag piece_at next_quoted quote_at next_raw raw_at run_at sign_role text_role range_role tag_role attribute_role next_letter word_at param_at whole_at joined_at chain_at atom_at pairs_at part_at name_at names_at value_at range_at tags_at unary_at
no_phrase = rw (one_spelled, group_shape (codes "x") (tree.And (word (codes "y") ∷ word (codes "z") ∷ [])) (codes "y" ∷ codes "z" ∷ []) (words_shape (codes "y") (codes "z"))) refl

-- also where an attribute before that has a fault
arrow_first : shown (codes "(x -y)=>{$foo:1;$slop:1}") ≡ Err (OutOfScope 6)
unfolding lexemes lexed lexeme_at next_of_tag piece_at next_quoted quote_at next_raw raw_at run_at sign_role text_role range_role tag_role attribute_role next_letter word_at param_at whole_at joined_at chain_at atom_at pairs_at part_at name_at names_at value_at range_at tags_at unary_at
arrow_first = rw (one_spelled, denied_shape (codes "x") (word (codes "y"))) refl

-- a value that its name does not have
wrong_value : shown (codes "x=>{$inorder:1}") ≡ Err (Syntax 13)
unfolding lexemes lexed lexeme_at next_of_tag piece_at next_quoted quote_at next_raw raw_at run_at sign_role text_role range_role tag_role attribute_role next_letter word_at param_at whole_at joined_at chain_at atom_at pairs_at part_at name_at names_at value_at range_at tags_at unary_at
wrong_value = rw (shape-Word All (codes "x")) refl

-- a fault of the lexemes stands at its own place
lone_escape : shown (codes "hello\\") ≡ Err (Syntax 5)
unfolding lexemes lexed lexeme_at next_of_tag piece_at next_quoted quote_at next_raw raw_at run_at sign_role text_role range_role tag_role attribute_role next_letter word_at param_at int_of whole_at joined_at chain_at atom_at pairs_at part_at name_at names_at value_at range_at tags_at unary_at
lone_escape = refl
