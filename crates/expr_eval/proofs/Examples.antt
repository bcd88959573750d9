-- What the definitions say of a few texts and values.
use Rattle.std.proofs.Common.{◌≡◌, ℕ, ◌-◌, List, [], ◌∷◌, ◌++◌, length, false, Result, Ok, Err, Some, None, refl, ap, subst, pos, negsuc, arith}
use Rattle.std.proofs.lemmas.List.{length-append}
use Rattle.std.specs.Prelude.{codes}
use Rattle.ft_base.specs.declared.definition.FieldKind.TheVariants as kind
use Rattle.ft_base.specs.declared.definition.IndexDef.{IndexDef}
use Rattle.ft_base.specs.declared.row.Row.{Row}
use Rattle.ft_base.specs.declared.row.Value.TheVariants as value
use Rattle.expr_eval.specs.declared.fault.ExprFault.TheVariants as answer
use Rattle.expr_eval.specs.declared.token.Kind.{Kind}
use Rattle.expr_eval.specs.declared.token.Kind.TheVariants as token
use Rattle.expr_eval.specs.declared.tree.Expr.{Expr}
use Rattle.expr_eval.specs.declared.tree.Expr.TheVariants as tree
use Rattle.expr_eval.specs.declared.tree.Func.TheVariants.{Upper, Strlen, Abs, Exists}
use Rattle.expr_eval.specs.declared.tree.Op.TheVariants.{Or, And, Equal, Below, Plus, Minus, Times}
use Rattle.expr_eval.specs.Answer.{IsTree, IsFault, most_levels, place}
use Rattle.expr_eval.specs.Properties.{property_value}
use Rattle.expr_eval.specs.Reading.{Stop, Syntax, sign_at, others_at, chain_at, closed_at, group_at, item_at, signed_at, comparison_at, negation_at, whole_at}
use Rattle.expr_eval.specs.Tokens.{kinds, tokens_of, kind_at, sign_of}
use Rattle.expr_eval.specs.Values.{Nothing, Number, Bytes, called, denied, joined, negated}
use Rattle.expr_eval.proofs.Faults.{Found, whole_answers}

abbrev read : List ℕ → Result Expr Stop
read text = whole_at most_levels (kinds (tokens_of text))

-- what reading finds, the text spells
spelled : (text : List ℕ) (a : Expr) → read text ≡ Ok a → IsTree text a
spelled text a e = subst (λ (r : Result Expr Stop). Found most_levels (kinds (tokens_of text)) r) e (whole_answers most_levels (kinds (tokens_of text)))

before : (ts front rest : List Kind) → ts ≡ front ++ rest → length ts - length rest ≡ length front
before ts front rest e = let l : length ts ≡ length (front ++ rest) = ap length e in omega (arith, length-append front rest)

-- where it stops, the text has its fault
broken : (text : List ℕ) (rest : List Kind) → read text ≡ Err (Syntax rest) → IsFault text (answer.Syntax (place (tokens_of text) (length (kinds (tokens_of text)) - length rest) (length text)))
broken text rest e =
    let h = subst (λ (r : Result Expr Stop). Found most_levels (kinds (tokens_of text)) r) e (whole_answers most_levels (kinds (tokens_of text))) in
    (h.0, rest, h.1, ap (λ (n : ℕ). place (tokens_of text) n (length text)) (before (kinds (tokens_of text)) h.0 rest h.1), h.2)

abbrev prop : List ℕ → Expr
prop name = tree.Prop name

-- products before sums, sums before comparisons, and chains from the left
binding :
    IsTree (codes "@n * @b + @c") (tree.Binary Plus (tree.Binary Times (prop (codes "n")) (prop (codes "b"))) (prop (codes "c")))
    × IsTree (codes "@a - @b - @c") (tree.Binary Minus (tree.Binary Minus (prop (codes "a")) (prop (codes "b"))) (prop (codes "c")))
    × IsTree (codes "@a - -@b") (tree.Binary Minus (prop (codes "a")) (tree.Neg (prop (codes "b"))))
    × IsTree (codes "!@a == @b") (tree.Not (tree.Binary Equal (prop (codes "a")) (prop (codes "b"))))
    × IsTree (codes "@a || @b && @c") (tree.Binary Or (prop (codes "a")) (tree.Binary And (prop (codes "b")) (prop (codes "c"))))
    × IsTree (codes "STRLEN('it\\'s')") (tree.Call Strlen (tree.Text (codes "it's")))
unfolding tokens_of kind_at sign_of whole_at chain_at others_at sign_at item_at signed_at comparison_at negation_at group_at closed_at
binding = (
  spelled (codes "@n * @b + @c") (tree.Binary Plus (tree.Binary Times (prop (codes "n")) (prop (codes "b"))) (prop (codes "c"))) refl,
  spelled (codes "@a - @b - @c") (tree.Binary Minus (tree.Binary Minus (prop (codes "a")) (prop (codes "b"))) (prop (codes "c"))) refl,
  spelled (codes "@a - -@b") (tree.Binary Minus (prop (codes "a")) (tree.Neg (prop (codes "b")))) refl,
  spelled (codes "!@a == @b") (tree.Not (tree.Binary Equal (prop (codes "a")) (prop (codes "b")))) refl,
  spelled (codes "@a || @b && @c") (tree.Binary Or (prop (codes "a")) (tree.Binary And (prop (codes "b")) (prop (codes "c")))) refl,
  spelled (codes "STRLEN('it\\'s')") (tree.Call Strlen (tree.Text (codes "it's"))) refl,
)

-- the first token that no expression goes on with, or the text's end
faults :
    IsFault (codes "@m >") (answer.Syntax 4)
    × IsFault (codes "@a + 'b") (answer.Syntax 5)
    × IsFault (codes "@a == @b == @c") (answer.Syntax 9)
    × IsFault (codes "floor(@a)") (answer.Syntax 0)
    × IsFault (codes "@a @b 'c") (answer.Syntax 3)
    × IsFault (codes "(@a") (answer.Syntax 3)
unfolding tokens_of kind_at sign_of whole_at chain_at others_at sign_at item_at signed_at comparison_at negation_at group_at closed_at
faults = (
  broken (codes "@m >") [] refl,
  broken (codes "@a + 'b") (token.Bad ∷ []) refl,
  broken (codes "@a == @b == @c") (token.Sign Equal ∷ token.Property (codes "c") ∷ []) refl,
  broken (codes "floor(@a)") (token.Bad ∷ token.Open ∷ token.Property (codes "a") ∷ token.Close ∷ []) refl,
  broken (codes "@a @b 'c") (token.Property (codes "b") ∷ token.Bad ∷ []) refl,
  broken (codes "(@a") [] refl,
)

-- the ends of 64 bits
ends :
    (joined Plus (Number (pos 9223372036854775807)) (Number (pos 1)) ≡ None)
    × (joined Minus (Number (negsuc 9223372036854775806)) (Number (pos 1)) ≡ Some (negsuc 9223372036854775807))
    × (joined Times (Number (pos 4611686018427387904)) (Number (pos 2)) ≡ None)
    × (negated (Number (negsuc 9223372036854775807)) ≡ None)
    × (called Abs (Number (negsuc 9223372036854775807)) ≡ value.Null)
    × (called Abs (Number (negsuc 4)) ≡ value.Num (pos 5))
ends = (refl, refl, refl, refl, refl, refl)

-- values of other kinds
kinds_of_values :
    (joined Equal Nothing Nothing ≡ None)
    × (joined Below (Number (pos 1)) (Bytes (codes "a")) ≡ None)
    × (joined Below (Bytes (codes "10")) (Bytes (codes "9")) ≡ Some (pos 1))
    × (joined Plus (Bytes (codes "1")) (Number (pos 1)) ≡ None)
    × (joined Or (Bytes (codes "1")) (Number (pos 0)) ≡ Some (pos 0))
    × (denied Nothing ≡ pos 1)
    × (called Exists Nothing ≡ value.Num (pos 0))
    × (called Upper (Bytes (codes "aZ{")) ≡ value.Text (codes "AZ{"))
    × (called Strlen (Number (pos 12)) ≡ value.Null)
kinds_of_values = (refl, refl, refl, refl, refl, refl, refl, refl, refl)

-- an index of a TEXT field n under the alias a
abbrev index : IndexDef
index = record {
  name = codes "ix";
  serial = 1;
  prefixes = [];
  stops = record { words = [] };
  fields = record { name = codes "n"; alias = codes "a"; kind = kind.Text; sortable = false; unf = false; noindex = false } ∷ [];
}

-- a row with a cell, and a document whose hash has the fields n and a
abbrev row : Row
row = record {
  doc = Some (record { id = 1; key = codes "d"; hash = (codes "n", codes "five") ∷ (codes "a", codes "ten") ∷ (codes "m", codes "one") ∷ [] });
  cells = record { name = codes "m"; value = value.Num (pos 7) } ∷ [];
}

-- the cell, else the field of the alias, else the field of that name, else Null
properties :
    (property_value (codes "m") row index ≡ value.Num (pos 7))
    × (property_value (codes "a") row index ≡ value.Text (codes "five"))
    × (property_value (codes "n") row index ≡ value.Text (codes "five"))
    × (property_value (codes "x") row index ≡ value.Null)
properties = (refl, refl, refl, refl)
