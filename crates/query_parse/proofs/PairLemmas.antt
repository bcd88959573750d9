-- What is asked of attributes as contracts see them, asked of them as the code has them.
use Rattle.std.proofs.Common.{◌≡◌, ◌≤◌, ℕ, List, [], ◌∷◌, ◌++◌, length, drop, get_or, cond, true, false, refl, ap, sym, ◌∙◌, append-nil, arith}
use Rattle.std.specs.Prelude.{Option, Some, None, option_to_list}
use Rattle.query_parse.specs.Blocks.{and_one}
use Rattle.ft_base.specs.declared.definition.IndexDef.{IndexDef}
use Rattle.ft_base.specs.declared.query.Param.{Param}
use Rattle.query_lex.specs.declared.lexeme.Lexeme.{Lexeme}
use Rattle.query_lex.specs.declared.lexeme.LexKind.TheVariants as kinds
use Rattle.query_grammar.specs.Form as form
use Rattle.query_grammar.specs.Grammar.{has_name}
use Rattle.query_grammar.specs.Reading.{Block, Open, behind_name, name_in, named_pair, names_of, next_sign, pair_with, sign_in}
use Rattle.query_parse.specs.Seen.{pair_of, pairs_of}
use Rattle.query_parse.specs.declared.blocks.Pair.{Pair}

-- one attribute more
pub pairs-of-more : (pairs : List Pair) (pair : Pair) → pairs_of (pairs ++ pair ∷ []) ≡ pairs_of pairs ++ pair_of pair ∷ []
pairs-of-more [] pair = refl
pairs-of-more (first ∷ pairs) pair = ap (λ (seen : List form.Pair). pair_of first ∷ seen) (pairs-of-more pairs pair)

-- one attribute more, or none
pub pairs-of-one : (pairs : List Pair) (pair : Option Pair) → pairs_of (pairs ++ option_to_list pair) ≡ and_one (pairs_of pairs) pair
pairs-of-one pairs None = ap pairs_of (append-nil pairs)
pairs-of-one pairs (Some pair) = pairs-of-more pairs pair

module _ (def : IndexDef) (params : List Param) (others : List form.Pair → List Lexeme → Block def params) (before : List form.Pair) where
  -- the name of an attribute comes next
  pub name-comes : (ts : List Lexeme) (t : Lexeme) (name : List ℕ) → 1 ≤ length ts → t ≡ get_or ts 0 t → t.kind ≡ kinds.Param name
      → pair_with def params others before (next_sign ts) ts
      ≡ cond (has_name (names_of def params before) name) (Open before ts) (behind_name def params others before t.at name (next_sign (drop 1 ts)) (drop 1 ts))
  name-comes [] t name some first is = absurd (omega (arith, some))
  name-comes (u ∷ us) t name some first is =
      let kind : u.kind ≡ kinds.Param name = ap (λ (x : Lexeme). x.kind) (sym first) ∙ is in
      let at : u.at ≡ t.at = ap (λ (x : Lexeme). x.at) (sym first) in
      ap (λ k. pair_with def params others before (sign_in k) (u ∷ us)) kind
      ∙ (ap (λ k. named_pair def params others before (name_in k) (u ∷ us)) kind
      ∙ ap (λ p. cond (has_name (names_of def params before) name) (Open before (u ∷ us)) (behind_name def params others before p name (next_sign us) us)) at)

  -- the same by whether it came before
  pub name-again : (ts : List Lexeme) (t : Lexeme) (name : List ℕ) → 1 ≤ length ts → t ≡ get_or ts 0 t → t.kind ≡ kinds.Param name → has_name (names_of def params before) name ≡ true
      → Open before ts ≡ pair_with def params others before (next_sign ts) ts
  name-again ts t name some first is again =
      sym (name-comes ts t name some first is ∙ ap (λ a. cond a (Open before ts) (behind_name def params others before t.at name (next_sign (drop 1 ts)) (drop 1 ts))) again)

  pub name-new : (ts : List Lexeme) (t : Lexeme) (name : List ℕ) → 1 ≤ length ts → t ≡ get_or ts 0 t → t.kind ≡ kinds.Param name → has_name (names_of def params before) name ≡ false
      → behind_name def params others before t.at name (next_sign (drop 1 ts)) (drop 1 ts) ≡ pair_with def params others before (next_sign ts) ts
  name-new ts t name some first is again =
      sym (name-comes ts t name some first is ∙ ap (λ a. cond a (Open before ts) (behind_name def params others before t.at name (next_sign (drop 1 ts)) (drop 1 ts))) again)
