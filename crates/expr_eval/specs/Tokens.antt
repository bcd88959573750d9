-- The tokens of an expression's text (RediSearch, FT.AGGREGATE): from the left, each the longest that begins there.
use Rattle.std.specs.Prelude.{ℕ, zero, suc, ℤ, ◌-◌, List, [], ◌∷◌, ◌++◌, length, map, take, drop, position, unwrap_or, Bool, true, false, ◌||◌, ◌&&◌, not, nat_le, ◌==◌, codes, Option, Some, None, if◌then◌else◌}
use Rattle.ft_base.specs.Names.{is_name}
use Rattle.ft_base.specs.Number.{int_of}
use Rattle.expr_eval.specs.declared.lexer.InText.{InText}
use Rattle.expr_eval.specs.declared.lexer.InText.TheVariants.{Taken, Escapes, Ends}
use Rattle.expr_eval.specs.declared.token.Kind.{Kind}
use Rattle.expr_eval.specs.declared.token.Kind.TheVariants.{Number, Text, Property, Name, Open, Close, Bang, Sign, Bad}
use Rattle.expr_eval.specs.declared.token.Token.{Token}
use Rattle.expr_eval.specs.declared.tree.Func.TheVariants.{Lower, Upper, Strlen, Abs, Exists}
use Rattle.expr_eval.specs.declared.tree.Op.TheVariants.{Or, And, Equal, Differ, AtMost, AtLeast, Below, Above, Plus, Minus, Times}

-- 0 to 9
abbrev pub is_digit : ℕ → Bool
is_digit b = nat_le 48 b && nat_le b 57

-- ASCII letters, digits and `_`
abbrev pub is_of_name : ℕ → Bool
is_of_name b = is_digit b || ((nat_le 65 b && nat_le b 90) || ((b == 95) || (nat_le 97 b && nat_le b 122)))

-- how many bytes come first that are so
abbrev pub run_length : (ℕ → Bool) → List ℕ → ℕ
run_length is_so bytes = unwrap_or (position (λ b. not (is_so b)) bytes) (length bytes)

-- a token, and the bytes behind it
abbrev pub Lexed : Type 0
Lexed = Kind × List ℕ

-- digits are a number where they are its canonical spelling, and it has 64 bits
abbrev pub number_of : Option ℤ → Kind
number_of None = Bad
number_of (Some k) = Number k

-- a whole run of digits
abbrev pub number_at : ℕ → List ℕ → Lexed
number_at b rest = (number_of (int_of (b ∷ take (run_length is_digit rest) rest)), drop (run_length is_digit rest) rest)

-- the function of a name, in any case of A to Z
abbrev pub function_of : List ℕ → Kind
function_of name =
    if is_name name (codes "lower") then Name Lower
    else (if is_name name (codes "upper") then Name Upper
    else (if is_name name (codes "strlen") then Name Strlen
    else (if is_name name (codes "abs") then Name Abs
    else (if is_name name (codes "exists") then Name Exists
    else Bad))))

-- a whole run of a name's bytes
abbrev pub name_at : ℕ → List ℕ → Lexed
name_at b rest = (function_of (b ∷ take (run_length is_of_name rest) rest), drop (run_length is_of_name rest) rest)

-- an `@` without a name begins no token
abbrev pub property_of : List ℕ → Kind
property_of [] = Bad
property_of (b ∷ name) = Property (b ∷ name)

-- what stands behind an `@`
abbrev pub property_at : List ℕ → Lexed
property_at rest = (property_of (take (run_length is_of_name rest) rest), drop (run_length is_of_name rest) rest)

-- What a byte of an open text does. A backslash takes the next byte as it is.
abbrev pub in_text : ℕ → Bool → ℕ → InText
in_text quote true b = Taken
in_text quote false b = if b == quote then Ends else (if b == 92 then Escapes else Taken)

-- the bytes of a text and those behind it, none where it has no end
abbrev pub Inside : Type 0
Inside = Option (List ℕ × List ℕ)

-- a byte before the others of a text
abbrev pub with_byte : ℕ → Inside → Inside
with_byte b None = None
with_byte b (Some x) = Some (b ∷ x.0, x.1)

-- a text from a byte on that does this
abbrev pub text_with : InText → ℕ → List ℕ → (Bool → Inside) → Inside
text_with Taken b rest others = with_byte b (others false)
text_with Escapes b rest others = others true
text_with Ends b rest others = Some ([], rest)

-- What stands in a text, and the bytes behind its quote; none where it has no end.
abbrev pub text_in : ℕ → Bool → List ℕ → Inside
text_in quote escaped [] = None
text_in quote escaped (b ∷ rest) = text_with (in_text quote escaped b) b rest (λ next. text_in quote next rest)

-- a text without an end is no token, and takes all bytes
abbrev pub text_of : Inside → Lexed
text_of None = (Bad, [])
text_of (Some x) = (Text x.0, x.1)

-- whether this very byte comes next
abbrev pub is_at : ℕ → List ℕ → Bool
is_at byte [] = false
is_at byte (b ∷ rest) = b == byte

-- a sign of two bytes where its second follows, else what the first is alone
abbrev pub pair_at : ℕ → Kind → Kind → List ℕ → Lexed
pair_at second both alone rest = if is_at second rest then (both, drop 1 rest) else (alone, rest)

-- ( ) + - * and the signs of two bytes; any other byte begins no token
unfoldable pub sign_of : ℕ → List ℕ → Lexed
sign_of b rest =
    if b == 40 then (Open, rest)
    else (if b == 41 then (Close, rest)
    else (if b == 43 then (Sign Plus, rest)
    else (if b == 45 then (Sign Minus, rest)
    else (if b == 42 then (Sign Times, rest)
    else (if b == 33 then pair_at 61 (Sign Differ) Bang rest
    else (if b == 60 then pair_at 61 (Sign AtMost) (Sign Below) rest
    else (if b == 62 then pair_at 61 (Sign AtLeast) (Sign Above) rest
    else (if b == 61 then pair_at 61 (Sign Equal) Bad rest
    else (if b == 124 then pair_at 124 (Sign Or) Bad rest
    else (if b == 38 then pair_at 38 (Sign And) Bad rest
    else (Bad, rest)))))))))))

-- the token that a byte begins which is no blank
unfoldable pub kind_at : ℕ → List ℕ → Lexed
kind_at b rest =
    if is_digit b then number_at b rest
    else (if is_of_name b then name_at b rest
    else (if b == 64 then property_at rest
    else (if (b == 34) || (b == 39) then text_of (text_in b false rest)
    else sign_of b rest)))

-- a token that is there
abbrev pub told : Lexed → Option Kind × List ℕ
told x = (Some x.0, x.1)

-- The token that a byte begins, or none for a blank; and the bytes behind.
abbrev pub token_at : ℕ → List ℕ → Option Kind × List ℕ
token_at b rest = if b == 32 then (None, rest) else told (kind_at b rest)

-- a token at the place of its first byte, where there is one
abbrev pub at_place : ℕ → Option Kind → List Token
at_place at None = []
at_place at (Some kind) = record { at = at; kind = kind } ∷ []

-- The tokens that stand there, of a text of so many bytes. Each step takes a byte at least.
abbrev pub tokens_in : ℕ → ℕ → List ℕ → List Token
tokens_in zero total bytes = []
tokens_in (suc n) total [] = []
tokens_in (suc n) total (b ∷ rest) = at_place (total - length (b ∷ rest)) (token_at b rest).0 ++ tokens_in n total (token_at b rest).1

-- the tokens of a text
unfoldable pub tokens_of : List ℕ → List Token
tokens_of text = tokens_in (length text) (length text) text

-- what the tokens are, without their places
abbrev pub kinds : List Token → List Kind
kinds = map (λ t. t.kind)
