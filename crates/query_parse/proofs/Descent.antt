-- How one rule of the grammar goes over into the next.
use Rattle.std.proofs.Common.{◌≡◌, ℕ, suc, List, [], drop, Bool, true, false, cond, Option, None, Some, Result, Ok, Err, refl, ap, sym, ◌∙◌, subst}
use Rattle.ft_base.specs.Kinds.{is_text}
use Rattle.ft_base.specs.declared.definition.IndexDef.{IndexDef}
use Rattle.ft_base.specs.declared.query.Fields.{Fields}
use Rattle.ft_base.specs.declared.query.Fields.TheVariants as asked
use Rattle.ft_base.specs.declared.query.Param.{Param}
use Rattle.ft_base.specs.declared.query.Query.{Query}
use Rattle.ft_base.specs.Reading.{◌>>=◌}
use Rattle.query_lex.specs.declared.lexeme.Lexeme.{Lexeme}
use Rattle.query_lex.specs.declared.lexeme.Sign.{Sign}
use Rattle.query_lex.specs.declared.lexeme.Sign.TheVariants as signs
use Rattle.query_grammar.specs.Answer.{place_of}
use Rattle.query_grammar.specs.Faults.{has_other}
use Rattle.query_grammar.specs.Grammar.{Sort, Part, Union}
use Rattle.query_grammar.specs.declared.fault.QueryFault.TheVariants.{WrongKind}
use Rattle.query_grammar.specs.Reading.{Reader, Deeper, Broken, Found, atom_at, begins_atom, behind_atom, behind_names, closed_with, comes, deeper, field_at, group_at, inside_at, is_quote_kind, names_at, next_sign, part_at, part_target, target_with, unless_other}
use Rattle.query_grammar.specs.Reading as reading
use Rattle.query_parse.specs.declared.stop.Stop.{Stop}
use Rattle.query_parse.specs.Gives.{Gives}
use Rattle.query_parse.specs.Reads.{reads, reads_inside}
use Rattle.query_parse.specs.Steps.{ends_group}

-- what gives a reading gives one that is the same
pub gives-same : {X A : Type 0} (view : X → A) (result : Result X Stop) (r s : Result A reading.Stop) → s ≡ r → Gives view result r → Gives view result s
gives-same {X} {A} view result r s e gives = subst (λ (read : Result A reading.Stop). Gives view result read) (sym e) gives

module _ (def : IndexDef) (params : List Param) where
  -- names and their colon
  pub field-read : (levels n at : ℕ) (ts us : List Lexeme) (numbers : List ℕ)
      → levels ≡ suc n → names_at def params [] ts ≡ Ok (numbers, us) → next_sign us ≡ Some signs.Colon
      → field_at def params (deeper def params levels) at ts ≡ target_with def params (λ fields sort. reads def params fields n sort) numbers (next_sign (drop 1 us)) (drop 1 us)
  field-read levels n at ts us numbers level named colon =
      ap (λ k. field_at def params (deeper def params k) at ts) level
      ∙ (ap (λ r. r >>= λ x. behind_names def params (λ fields sort. reads def params fields n sort) x.0 (next_sign x.1) x.1) named
      ∙ ap (λ s. behind_names def params (λ fields sort. reads def params fields n sort) numbers s us) colon)

  -- a part within fields, which may be of another kind
  pub target-broken : (inner : Fields → Sort → Reader) (numbers : List ℕ) (ts : List Lexeme) → begins_atom def params (next_sign ts) ts ≡ false
      → part_target def params inner numbers ts ≡ Err (Broken ts)
  target-broken inner numbers ts begins =
      ap (λ b. cond b (unless_other def params is_text numbers ts (inner (asked.Named numbers) Part ts)) (Err (Broken ts))) begins

  pub target-other : (inner : Fields → Sort → Reader) (numbers : List ℕ) (ts : List Lexeme) → begins_atom def params (next_sign ts) ts ≡ true
      → has_other is_text def.fields (asked.Named numbers) ≡ true → part_target def params inner numbers ts ≡ Err (Found (WrongKind (place_of 0 ts)) (drop 1 ts))
  target-other inner numbers ts begins other =
      ap (λ b. cond b (unless_other def params is_text numbers ts (inner (asked.Named numbers) Part ts)) (Err (Broken ts))) begins
      ∙ ap (λ b. cond b (Err (Found (WrongKind (place_of 0 ts)) (drop 1 ts))) (inner (asked.Named numbers) Part ts)) other

  pub target-read : (inner : Fields → Sort → Reader) (numbers : List ℕ) (ts : List Lexeme) → begins_atom def params (next_sign ts) ts ≡ true
      → has_other is_text def.fields (asked.Named numbers) ≡ false → part_target def params inner numbers ts ≡ inner (asked.Named numbers) Part ts
  target-read inner numbers ts begins other =
      ap (λ b. cond b (unless_other def params is_text numbers ts (inner (asked.Named numbers) Part ts)) (Err (Broken ts))) begins
      ∙ ap (λ b. cond b (Err (Found (WrongKind (place_of 0 ts)) (drop 1 ts))) (inner (asked.Named numbers) Part ts)) other

  -- a part and what stands behind it
  pub part-read : (d : Deeper def params) (fields : Fields) (ts us : List Lexeme) (left : List Query) (is : Bool)
      → atom_at def params d fields ts ≡ Ok (left, us) → is ≡ comes (is_quote_kind def params) ts
      → part_at def params d fields ts ≡ behind_atom def params is left (next_sign us) us
  unfolding part_at
  part-read d fields ts us left is read quote =
      ap (λ r. r >>= λ x. behind_atom def params (comes (is_quote_kind def params) ts) x.0 (next_sign x.1) x.1) read
      ∙ ap (λ q. behind_atom def params q left (next_sign us) us) (sym quote)

  -- the union in a group
  pub inside-read : (fields : Fields) (levels : ℕ) (ts us : List Lexeme) (sides : List Query) → reads def params fields levels Union ts ≡ Ok (sides, us)
      → reads_inside def params fields levels ts ≡ closed_with def params (next_sign us) sides us
  inside-read fields levels ts us sides read = ap (λ r. r >>= λ x. closed_with def params (next_sign x.1) x.0 x.1) read

  not-closed : (inner : Fields → Sort → Reader) (fields : Fields) (s : Option Sign) (ts : List Lexeme) → ends_group s ≡ false
      → inside_at def params inner fields s ts ≡ (inner fields Union ts >>= λ x. closed_with def params (next_sign x.1) x.0 x.1)
  not-closed inner fields None ts e = refl
  not-closed inner fields (Some signs.Star) ts e = refl
  not-closed inner fields (Some signs.Open) ts e = refl
  not-closed inner fields (Some signs.Close) ts e = absurd cc
  not-closed inner fields (Some signs.Pipe) ts e = refl
  not-closed inner fields (Some signs.Minus) ts e = refl
  not-closed inner fields (Some signs.Tilde) ts e = refl
  not-closed inner fields (Some signs.At) ts e = refl
  not-closed inner fields (Some signs.Colon) ts e = refl
  not-closed inner fields (Some signs.Arrow) ts e = refl
  not-closed inner fields (Some signs.RangeOpen) ts e = refl
  not-closed inner fields (Some signs.RangeClose) ts e = refl
  not-closed inner fields (Some signs.TagOpen) ts e = refl
  not-closed inner fields (Some signs.TagClose) ts e = refl
  not-closed inner fields (Some signs.AttrOpen) ts e = refl
  not-closed inner fields (Some signs.AttrClose) ts e = refl
  not-closed inner fields (Some signs.Semi) ts e = refl
  not-closed inner fields (Some signs.Stray) ts e = refl

  is-closed : (inner : Fields → Sort → Reader) (fields : Fields) (s : Option Sign) (ts : List Lexeme) → ends_group s ≡ true
      → inside_at def params inner fields s ts ≡ Ok ([], drop 1 ts)
  is-closed inner fields None ts e = absurd cc
  is-closed inner fields (Some signs.Star) ts e = absurd cc
  is-closed inner fields (Some signs.Open) ts e = absurd cc
  is-closed inner fields (Some signs.Close) ts e = refl
  is-closed inner fields (Some signs.Pipe) ts e = absurd cc
  is-closed inner fields (Some signs.Minus) ts e = absurd cc
  is-closed inner fields (Some signs.Tilde) ts e = absurd cc
  is-closed inner fields (Some signs.At) ts e = absurd cc
  is-closed inner fields (Some signs.Colon) ts e = absurd cc
  is-closed inner fields (Some signs.Arrow) ts e = absurd cc
  is-closed inner fields (Some signs.RangeOpen) ts e = absurd cc
  is-closed inner fields (Some signs.RangeClose) ts e = absurd cc
  is-closed inner fields (Some signs.TagOpen) ts e = absurd cc
  is-closed inner fields (Some signs.TagClose) ts e = absurd cc
  is-closed inner fields (Some signs.AttrOpen) ts e = absurd cc
  is-closed inner fields (Some signs.AttrClose) ts e = absurd cc
  is-closed inner fields (Some signs.Semi) ts e = absurd cc
  is-closed inner fields (Some signs.Stray) ts e = absurd cc

  -- a group that is not empty, and one that is
  pub group-read : (fields : Fields) (levels n at : ℕ) (ts : List Lexeme) → levels ≡ suc n → ends_group (next_sign ts) ≡ false
      → group_at def params (deeper def params levels) fields at ts ≡ reads_inside def params fields n ts
  group-read fields levels n at ts level unclosed =
      ap (λ k. group_at def params (deeper def params k) fields at ts) level
      ∙ not-closed (λ more sort. reads def params more n sort) fields (next_sign ts) ts unclosed

  pub group-empty : (fields : Fields) (levels n at : ℕ) (ts : List Lexeme) → levels ≡ suc n → ends_group (next_sign ts) ≡ true
      → group_at def params (deeper def params levels) fields at ts ≡ Ok ([], drop 1 ts)
  group-empty fields levels n at ts level closed =
      ap (λ k. group_at def params (deeper def params k) fields at ts) level
      ∙ is-closed (λ more sort. reads def params more n sort) fields (next_sign ts) ts closed
