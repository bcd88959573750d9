-- A reading of parts with their attributes, of fields and so of every sort stays as it is when lexemes come behind.
use Rattle.std.proofs.Common.{◌≡◌, ◌⊎◌, ℕ, zero, suc, ◌≤◌, Bool, true, false, cond, List, [], ◌∷◌, ◌++◌, length, Option, Some, None, Ok, Err, refl, sym, ap, subst, ◌∙◌, slice_get, arith}
use Rattle.ft_base.specs.Kinds.{is_numeric, is_tag as is_tag_kind, is_text}
use Rattle.ft_base.specs.declared.definition.FieldKind.{FieldKind}
use Rattle.ft_base.specs.declared.definition.IndexDef.{IndexDef}
use Rattle.ft_base.specs.declared.query.Fields.{Fields}
use Rattle.ft_base.specs.declared.query.Fields.TheVariants as asked_of
use Rattle.ft_base.specs.declared.query.Param.{Param}
use Rattle.ft_base.specs.declared.query.Query.{Query}
use Rattle.ft_base.specs.declared.query.Query.TheVariants as tree
use Rattle.ft_base.specs.declared.query.TagPart.{TagPart}
use Rattle.ft_base.specs.Reading.{◌>>=◌}
use Rattle.query_lex.specs.declared.lexeme.Lexeme.{Lexeme}
use Rattle.query_lex.specs.declared.lexeme.Sign.{Sign}
use Rattle.query_lex.specs.declared.lexeme.Sign.TheVariants as signs
use Rattle.query_grammar.specs.declared.fault.QueryFault.{QueryFault}
use Rattle.query_grammar.specs.declared.fault.QueryFault.TheVariants.{WrongKind}
use Rattle.query_grammar.specs.Faults.{attribute_faults, faults_at, has_other}
use Rattle.query_grammar.specs.Form.{Pair}
use Rattle.query_grammar.specs.Grammar.{Sort, Union, Inter, Unary, Part, Atom, is_atom, sign}
use Rattle.query_grammar.specs.Meaning.{any_of, atom_parts, attributed, case_of, denied, optional}
use Rattle.query_grammar.specs.Reading.{Broken, Found, Cut, Read, Reader, Block, Closed, Open, Deeper, atom_at, atom_with, begins_atom, behind_arrow, behind_atom, behind_names, broken_by, chain_at, closed_with, comes, deeper, field_at, group_at, inside_at, is_quote_kind, names_at, next_sign, pairs_at, part_at, part_target, range_at, range_target, sign_in, signed_at, single_at, sort_at, tags_at, tags_target, target_with, unary_at, unary_with, unless, unless_other, with_block}
use Rattle.query_grammar.proofs.Chains.{Leaves, read_leaves}
use Rattle.query_grammar.proofs.Growing.{BlockKeeps, Grown, block_keeps}
use Rattle.query_grammar.proofs.Keeps.{FarBy, Keeping, KeepsBy, ends_of, keeps_along, keeps_bind, keeps_ok, keeps_unless, keeps_wider, names_keep, nil_broken, nil_ok, range_keeps, tags_keep}
use Rattle.query_grammar.proofs.Low.{Low, arrow_low, behind_atom_low, behind_names_low, closed_low, inside_low, reach, read_low, target_low}
use Rattle.query_grammar.proofs.Signs.{sign_front}
use Rattle.query_grammar.proofs.Sound.{Sides, Parts}
use Rattle.query_grammar.proofs.Targets.{LeadNames, MoreNames, names_spelled}
use Rattle.query_grammar.proofs.Enclosed.{LeadTags, ReadTags, tags_spelled}
use Rattle.query_grammar.proofs.Stable.{KeepsAll, chain_keeps, cut_block, first_told, grown_nil, reach_block}

module _ (def : IndexDef) (params : List Param) (more : List Lexeme) where
  -- ---- attributes

  more_cut : (f : QueryFault) (r : Read (List Query)) (m : List Lexeme) → (m ≡ [] → r ≡ Err (Cut f [])) → (reach r ≤ length m) ⊎ (r ≡ Err (Cut f m)) → FarBy def params {A = List Query} (Err (Cut f m)) [] m r
  more_cut f r [] h l = h refl
  more_cut f r (t ∷ m) h l = l

  more_reach : (r : Read (List Query)) (m : List Lexeme) → (m ≡ [] → r ≡ Err (Broken [])) → reach r ≤ length m → KeepsBy def params {A = List Query} (Err (Broken m)) [] m r
  more_reach r [] h l = h refl
  more_reach r (t ∷ m) h l = l

  block_is : (p : ℕ) (quote : Bool) (qs : List Query) (pairs : List Pair) (b : Block def params) (fs : List QueryFault) → attribute_faults params p pairs qs ≡ fs → Grown def params pairs more b → more ≡ []
      → with_block def params p quote qs b ≡ Err (broken_by def params fs [])
  block_is p quote qs pairs b fs e g n =
      let same : b ≡ Open pairs [] = grown_nil def params [] pairs b (subst (λ (m : List Lexeme). Grown def params pairs m b) n g) in
      ap (λ (x : Block def params). with_block def params p quote qs x) same ∙ ap (λ (xs : List QueryFault). Err (broken_by def params xs [])) e

  open_keeps : (p q : ℕ) (quote : Bool) (qs : List Query) (us : List Lexeme) (pairs : List Pair) (b : Block def params) (fs : List QueryFault) → attribute_faults params p pairs qs ≡ fs
      → pairs_at def params [] us ≡ Open pairs [] → Grown def params pairs more b
      → KeepsAll def params more (sign p signs.Arrow ∷ sign q signs.AttrOpen ∷ us) (Err (broken_by def params fs [])) (with_block def params p quote qs b)
  open_keeps p q quote qs us pairs b [] e r g = more_reach (with_block def params p quote qs b) more (block_is p quote qs pairs b [] e g) (reach_block def params more p quote qs pairs b e g)
  open_keeps p q quote qs us pairs b (f ∷ fs) e r g =
      (more_cut f (with_block def params p quote qs b) more (block_is p quote qs pairs b (f ∷ fs) e g) (cut_block def params more p quote qs pairs b f fs e g), first_told def params more p q quote qs us pairs b f fs e r g)

  cut_keeps : (ts : List Lexeme) (t : Lexeme) (rest : List Lexeme) (fs : List QueryFault) → KeepsAll def params more ts (Err (broken_by def params fs (t ∷ rest))) (Err (broken_by def params fs (t ∷ rest ++ more)))
  cut_keeps ts t rest [] = refl
  cut_keeps ts t rest (f ∷ fs) = (refl, tt)

  with_block_keeps : (p q : ℕ) (quote : Bool) (qs : List Query) (us : List Lexeme) (b c : Block def params) → pairs_at def params [] us ≡ b → BlockKeeps def params more b c
      → KeepsAll def params more (sign p signs.Arrow ∷ sign q signs.AttrOpen ∷ us) (with_block def params p quote qs b) (with_block def params p quote qs c)
  with_block_keeps p q quote qs us (Closed pairs rest) c r h = rw h
      (keeps_unless def params {A = List Query} (sign p signs.Arrow ∷ sign q signs.AttrOpen ∷ us) more (attribute_faults params p pairs qs) rest (Ok (attributed params quote pairs qs, rest)) (Ok (attributed params quote pairs qs, rest ++ more))
      (keeps_ok def params {A = List Query} (sign p signs.Arrow ∷ sign q signs.AttrOpen ∷ us) more (attributed params quote pairs qs) rest (Ok (attributed params quote pairs qs, rest ++ more)) refl))
  with_block_keeps p q quote qs us (Open pairs []) c r h = open_keeps p q quote qs us pairs c (attribute_faults params p pairs qs) refl r h
  with_block_keeps p q quote qs us (Open pairs (t ∷ rest)) c r h = rw h (cut_keeps (sign p signs.Arrow ∷ sign q signs.AttrOpen ∷ us) t rest (attribute_faults params p pairs qs))

  behind_arrow_keeps : (p : ℕ) (quote : Bool) (qs : List Query) (ts : List Lexeme) → KeepsAll def params more (sign p signs.Arrow ∷ ts) (behind_arrow def params p quote qs (next_sign ts) ts) (behind_arrow def params p quote qs (next_sign (ts ++ more)) (ts ++ more))
  behind_arrow_keeps p quote qs [] = nil_broken def params {A = List Query} (λ ts. behind_arrow def params p quote qs (next_sign ts) ts) (λ ts. arrow_low def params p quote qs ts (next_sign ts) refl) refl (sign p signs.Arrow ∷ []) more
  behind_arrow_keeps p quote qs (t ∷ ts) = by_sign (next_sign (t ∷ ts)) refl
    where
      by_sign : (o : Option Sign) → next_sign (t ∷ ts) ≡ o → KeepsAll def params more (sign p signs.Arrow ∷ t ∷ ts) (behind_arrow def params p quote qs o (t ∷ ts)) (behind_arrow def params p quote qs o (t ∷ ts ++ more))
      by_sign (Some signs.AttrOpen) e = subst (λ (x : List Lexeme). KeepsAll def params more (sign p signs.Arrow ∷ x) (with_block def params p quote qs (pairs_at def params [] ts)) (with_block def params p quote qs (pairs_at def params [] (ts ++ more))))
          (sym (sign_front (t ∷ ts) signs.AttrOpen e)) (with_block_keeps p t.at quote qs ts (pairs_at def params [] ts) (pairs_at def params [] (ts ++ more)) refl (block_keeps def params more ts))
      by_sign o e = refl

  behind_atom_keeps : (quote : Bool) (qs : List Query) → Keeping def params more {A = List Query} (λ ts. behind_atom def params quote qs (next_sign ts) ts)
  behind_atom_keeps quote qs [] = nil_ok def params {A = List Query} (λ ts. behind_atom def params quote qs (next_sign ts) ts) (λ ts. behind_atom_low def params quote qs ts (next_sign ts) refl) qs refl [] more
  behind_atom_keeps quote qs (t ∷ ts) = by_sign (next_sign (t ∷ ts)) refl
    where
      by_sign : (o : Option Sign) → next_sign (t ∷ ts) ≡ o → KeepsAll def params more (t ∷ ts) (behind_atom def params quote qs o (t ∷ ts)) (behind_atom def params quote qs o (t ∷ ts ++ more))
      by_sign (Some signs.Arrow) e = subst (λ (x : List Lexeme). KeepsAll def params more x (behind_arrow def params t.at quote qs (next_sign ts) ts) (behind_arrow def params t.at quote qs (next_sign (ts ++ more)) (ts ++ more)))
          (sym (sign_front (t ∷ ts) signs.Arrow e)) (behind_arrow_keeps t.at quote qs ts)
      by_sign o e = refl

  -- ---- one level

  abbrev DeeperKeeps : Deeper def params → Type 0
  DeeperKeeps None = Unit {0}
  DeeperKeeps (Some inner) = (fields : Fields) (s : Sort) → Keeping def params more {A = List Query} (inner fields s)

  module _ (inner : Fields → Sort → Reader) (keep : (fields : Fields) (s : Sort) → Keeping def params more {A = List Query} (inner fields s)) (low : (fields : Fields) (s : Sort) → Low (inner fields s))
      (nil : (fields : Fields) (s : Sort) → inner fields s [] ≡ Err (Broken [])) (leaves : (fields : Fields) (s : Sort) → Leaves (inner fields s)) where
    inner_ends : (fields : Fields) (s : Sort) (ts : List Lexeme) (qs : List Query) (rest : List Lexeme) → inner fields s ts ≡ Ok (qs, rest) → (front : List Lexeme) × (ts ≡ front ++ rest)
    inner_ends fields s ts qs rest e = let h = leaves fields s ts rest qs e in (h.0, h.1)

    closed_keeps : (qs : List Query) → Keeping def params more {A = List Query} (λ ts. closed_with def params (next_sign ts) qs ts)
    closed_keeps qs [] = nil_broken def params {A = List Query} (λ ts. closed_with def params (next_sign ts) qs ts) (λ ts. closed_low def params qs ts (next_sign ts) refl) refl [] more
    closed_keeps qs (t ∷ ts) = by_sign (sign_in t.kind)
      where
        by_sign : (o : Option Sign) → KeepsAll def params more (t ∷ ts) (closed_with def params o qs (t ∷ ts)) (closed_with def params o qs (t ∷ ts ++ more))
        by_sign (Some signs.Close) = keeps_ok def params {A = List Query} (t ∷ ts) more (any_of qs) ts (Ok (any_of qs, ts ++ more)) refl
        by_sign o = refl

    inside_keeps : (fields : Fields) → Keeping def params more {A = List Query} (λ ts. inside_at def params inner fields (next_sign ts) ts)
    inside_keeps fields [] = keeps_along def params {A = List Query} [] more (Err (Broken [])) (inside_at def params inner fields (next_sign more) more) (inside_at def params inner fields None []) (inside_at def params inner fields (next_sign more) more)
        nothing refl (nil_broken def params {A = List Query} (λ ts. inside_at def params inner fields (next_sign ts) ts) (λ ts. inside_low def params inner low fields ts (next_sign ts) refl) nothing [] more)
      where
        nothing : inside_at def params inner fields None [] ≡ Err (Broken [])
        nothing = ap (λ (r : Read (List Query)). r >>= λ x. closed_with def params (next_sign x.1) x.0 x.1) (nil fields Union)
    inside_keeps fields (t ∷ ts) = by_sign (sign_in t.kind)
      where
        by_sign : (o : Option Sign) → KeepsAll def params more (t ∷ ts) (inside_at def params inner fields o (t ∷ ts)) (inside_at def params inner fields o (t ∷ ts ++ more))
        by_sign (Some signs.Close) = keeps_ok def params {A = List Query} (t ∷ ts) more [] ts (Ok ([], ts ++ more)) refl
        by_sign o = keeps_bind def params {A = List Query} {B = List Query} (t ∷ ts) more (λ x. closed_with def params (next_sign x.1) x.0 x.1) (λ x. closed_with def params (next_sign x.1) x.0 x.1)
            (λ qs rest. closed_low def params qs rest (next_sign rest) refl) (λ qs rest. closed_low def params qs rest (next_sign rest) refl) (inner fields Union (t ∷ ts)) (inner fields Union (t ∷ ts ++ more)) (keep fields Union (t ∷ ts))
            (inner_ends fields Union (t ∷ ts)) (λ qs rest e. closed_keeps qs rest)

    made_keeps : (make : List Query → List Query) (fields : Fields) (ts : List Lexeme) → KeepsAll def params more ts (inner fields Unary ts >>= λ x. Ok (make x.0, x.1)) (inner fields Unary (ts ++ more) >>= λ x. Ok (make x.0, x.1))
    made_keeps make fields ts = keeps_bind def params {A = List Query} {B = List Query} ts more (λ x. Ok (make x.0, x.1)) (λ x. Ok (make x.0, x.1)) (λ x rest. omega arith) (λ x rest. omega arith) (inner fields Unary ts) (inner fields Unary (ts ++ more)) (keep fields Unary ts)
        (inner_ends fields Unary ts) (λ qs rest e. keeps_ok def params {A = List Query} rest more (make qs) rest (Ok (make qs, rest ++ more)) refl)

    -- ---- targets

    other_keeps : (test : FieldKind → Bool) (numbers : List ℕ) (t : Lexeme) (ts : List Lexeme) (r s : Read (List Query)) → KeepsAll def params more (t ∷ ts) r s
        → KeepsAll def params more (t ∷ ts) (unless_other def params test numbers (t ∷ ts) r) (unless_other def params test numbers (t ∷ ts ++ more) s)
    other_keeps test numbers t ts r s h = by_test (has_other test def.fields (asked_of.Named numbers))
      where
        by_test : (b : Bool) → KeepsAll def params more (t ∷ ts) (cond b (Err (Found (WrongKind t.at) ts)) r) (cond b (Err (Found (WrongKind t.at) (ts ++ more))) s)
        by_test true = refl
        by_test false = h

    range_target_keeps : (numbers : List ℕ) (t : Lexeme) (ts : List Lexeme) → KeepsAll def params more (t ∷ ts) (range_target def params numbers (t ∷ ts)) (range_target def params numbers (t ∷ ts ++ more))
    range_target_keeps [] t ts = refl
    range_target_keeps (k ∷ []) t ts = other_keeps is_numeric (k ∷ []) t ts (range_at def params k ts) (range_at def params k (ts ++ more)) (keeps_wider def params {A = List Query} (t ∷ []) ts more (range_at def params k ts) (range_at def params k (ts ++ more)) (range_keeps def params more k ts))
    range_target_keeps (k ∷ j ∷ numbers) t ts = refl

    tags_target_keeps : (numbers : List ℕ) (t : Lexeme) (ts : List Lexeme) → KeepsAll def params more (t ∷ ts) (tags_target def params numbers (t ∷ ts)) (tags_target def params numbers (t ∷ ts ++ more))
    tags_target_keeps [] t ts = refl
    tags_target_keeps (k ∷ []) t ts = other_keeps is_tag_kind (k ∷ []) t ts (tags_at def params (case_of (slice_get def.fields k)) [] ts >>= λ x. Ok (tree.Tags k x.0 ∷ [], x.1)) (tags_at def params (case_of (slice_get def.fields k)) [] (ts ++ more) >>= λ x. Ok (tree.Tags k x.0 ∷ [], x.1))
        (keeps_wider def params {A = List Query} (t ∷ []) ts more (tags_at def params (case_of (slice_get def.fields k)) [] ts >>= λ x. Ok (tree.Tags k x.0 ∷ [], x.1)) (tags_at def params (case_of (slice_get def.fields k)) [] (ts ++ more) >>= λ x. Ok (tree.Tags k x.0 ∷ [], x.1))
        (keeps_bind def params {A = List TagPart} {B = List Query} ts more (λ x. Ok (tree.Tags k x.0 ∷ [], x.1)) (λ x. Ok (tree.Tags k x.0 ∷ [], x.1)) (λ x rest. omega arith) (λ x rest. omega arith)
        (tags_at def params (case_of (slice_get def.fields k)) [] ts) (tags_at def params (case_of (slice_get def.fields k)) [] (ts ++ more)) (tags_keep def params more (case_of (slice_get def.fields k)) ts)
        (λ x rest e. let h = ends_of def params (ReadTags def params 0 (case_of (slice_get def.fields k)) []) (LeadTags def params 0) ts (tags_at def params (case_of (slice_get def.fields k)) [] ts) (tags_spelled def params 0 (case_of (slice_get def.fields k)) ts) x rest e in (h.0, h.1))
        (λ x rest e. keeps_ok def params {A = List Query} rest more (tree.Tags k x ∷ []) rest (Ok (tree.Tags k x ∷ [], rest ++ more)) refl)))
    tags_target_keeps (k ∷ j ∷ numbers) t ts = refl

    part_target_keeps : (numbers : List ℕ) (t : Lexeme) (ts : List Lexeme) → KeepsAll def params more (t ∷ ts) (part_target def params inner numbers (t ∷ ts)) (part_target def params inner numbers (t ∷ ts ++ more))
    part_target_keeps numbers t ts = by_sign (sign_in t.kind)
      where
        by_test : (b : Bool) → KeepsAll def params more (t ∷ ts) (cond b (unless_other def params is_text numbers (t ∷ ts) (inner (asked_of.Named numbers) Part (t ∷ ts))) (Err (Broken (t ∷ ts))))
            (cond b (unless_other def params is_text numbers (t ∷ ts ++ more) (inner (asked_of.Named numbers) Part (t ∷ ts ++ more))) (Err (Broken (t ∷ ts ++ more))))
        by_test true = other_keeps is_text numbers t ts (inner (asked_of.Named numbers) Part (t ∷ ts)) (inner (asked_of.Named numbers) Part (t ∷ ts ++ more)) (keep (asked_of.Named numbers) Part (t ∷ ts))
        by_test false = refl

        by_sign : (o : Option Sign) → KeepsAll def params more (t ∷ ts)
            (cond (begins_atom def params o (t ∷ ts)) (unless_other def params is_text numbers (t ∷ ts) (inner (asked_of.Named numbers) Part (t ∷ ts))) (Err (Broken (t ∷ ts))))
            (cond (begins_atom def params o (t ∷ ts ++ more)) (unless_other def params is_text numbers (t ∷ ts ++ more) (inner (asked_of.Named numbers) Part (t ∷ ts ++ more))) (Err (Broken (t ∷ ts ++ more))))
        by_sign (Some signs.Open) = by_test true
        by_sign o = by_test (is_atom t.kind)

    target_keeps : (numbers : List ℕ) → Keeping def params more {A = List Query} (λ ts. target_with def params inner numbers (next_sign ts) ts)
    target_keeps numbers [] = nil_broken def params {A = List Query} (λ ts. target_with def params inner numbers (next_sign ts) ts) (target_low def params inner low numbers) refl [] more
    target_keeps numbers (t ∷ ts) = by_sign (sign_in t.kind)
      where
        by_sign : (o : Option Sign) → KeepsAll def params more (t ∷ ts) (target_with def params inner numbers o (t ∷ ts)) (target_with def params inner numbers o (t ∷ ts ++ more))
        by_sign (Some signs.RangeOpen) = range_target_keeps numbers t ts
        by_sign (Some signs.TagOpen) = tags_target_keeps numbers t ts
        by_sign o = part_target_keeps numbers t ts

    behind_names_keeps : (numbers : List ℕ) → Keeping def params more {A = List Query} (λ ts. behind_names def params inner numbers (next_sign ts) ts)
    behind_names_keeps numbers [] = nil_broken def params {A = List Query} (λ ts. behind_names def params inner numbers (next_sign ts) ts) (λ ts. behind_names_low def params inner low numbers ts (next_sign ts) refl) refl [] more
    behind_names_keeps numbers (t ∷ ts) = by_sign (sign_in t.kind)
      where
        by_sign : (o : Option Sign) → KeepsAll def params more (t ∷ ts) (behind_names def params inner numbers o (t ∷ ts)) (behind_names def params inner numbers o (t ∷ ts ++ more))
        by_sign (Some signs.Colon) = keeps_wider def params {A = List Query} (t ∷ []) ts more (target_with def params inner numbers (next_sign ts) ts) (target_with def params inner numbers (next_sign (ts ++ more)) (ts ++ more)) (target_keeps numbers ts)
        by_sign o = refl

    names_then_keeps : Keeping def params more {A = List Query} (λ ts. names_at def params [] ts >>= λ x. behind_names def params inner x.0 (next_sign x.1) x.1)
    names_then_keeps ts = keeps_bind def params {A = List ℕ} {B = List Query} ts more (λ x. behind_names def params inner x.0 (next_sign x.1) x.1) (λ x. behind_names def params inner x.0 (next_sign x.1) x.1)
        (λ ks rest. behind_names_low def params inner low ks rest (next_sign rest) refl) (λ ks rest. behind_names_low def params inner low ks rest (next_sign rest) refl) (names_at def params [] ts) (names_at def params [] (ts ++ more)) (names_keep def params more ts)
        (λ x rest e. let h = ends_of def params (MoreNames def params 0 []) (LeadNames def params 0) ts (names_at def params [] ts) (names_spelled def params 0 ts) x rest e in (h.0, h.1))
        (λ ks rest e. behind_names_keeps ks rest)

  -- ---- all sorts

  pub sort_nil : (d : Deeper def params) (fields : Fields) (s : Sort) → sort_at def params d fields s [] ≡ Err (Broken [])
  unfolding chain_at unary_at part_at atom_at
  sort_nil d fields Atom = refl
  sort_nil d fields Part = refl
  sort_nil d fields Unary = refl
  sort_nil d fields Inter = refl
  sort_nil d fields Union = refl

  abbrev inner_of : ℕ → Fields → Sort → Reader
  inner_of n fields s = sort_at def params (deeper def params n) fields s

  group_keeps : (n : ℕ) → DeeperKeeps (deeper def params n) → (fields : Fields) (p : ℕ) (ts : List Lexeme) → KeepsAll def params more ts (group_at def params (deeper def params n) fields p ts) (group_at def params (deeper def params n) fields p (ts ++ more))
  group_keeps zero h fields p ts = refl
  group_keeps (suc n) h fields p ts = inside_keeps (λ fields s. inner_of n fields s) h (λ fields s. read_low def params fields n s) (λ fields s. sort_nil (deeper def params n) fields s) (λ fields s. read_leaves def params fields n s) fields ts

  signed_keeps : (make : List Query → List Query) (n : ℕ) → DeeperKeeps (deeper def params n) → (fields : Fields) (p : ℕ) (ts : List Lexeme)
      → KeepsAll def params more ts (signed_at def params make (deeper def params n) fields p ts) (signed_at def params make (deeper def params n) fields p (ts ++ more))
  signed_keeps make zero h fields p ts = refl
  signed_keeps make (suc n) h fields p ts = made_keeps (λ fields s. inner_of n fields s) h (λ fields s. read_low def params fields n s) (λ fields s. sort_nil (deeper def params n) fields s) (λ fields s. read_leaves def params fields n s) make fields ts

  field_keeps : (n : ℕ) → DeeperKeeps (deeper def params n) → (p : ℕ) (ts : List Lexeme) → KeepsAll def params more ts (field_at def params (deeper def params n) p ts) (field_at def params (deeper def params n) p (ts ++ more))
  field_keeps zero h p ts = refl
  field_keeps (suc n) h p ts = names_then_keeps (λ fields s. inner_of n fields s) h (λ fields s. read_low def params fields n s) (λ fields s. sort_nil (deeper def params n) fields s) (λ fields s. read_leaves def params fields n s) ts

  sort_end : (n : ℕ) (fields : Fields) (s : Sort) → KeepsAll def params more [] (sort_at def params (deeper def params n) fields s []) (sort_at def params (deeper def params n) fields s more)
  sort_end n fields s = subst (λ (r : Read (List Query)). KeepsAll def params more [] r (sort_at def params (deeper def params n) fields s more)) (sym (sort_nil (deeper def params n) fields s))
      (nil_broken def params {A = List Query} (sort_at def params (deeper def params n) fields s) (read_low def params fields n s) (sort_nil (deeper def params n) fields s) [] more)

  module _ (n : ℕ) (h : DeeperKeeps (deeper def params n)) where
    abbrev here : Deeper def params
    here = deeper def params n

    single_keeps : (fields : Fields) (t : Lexeme) (ts : List Lexeme) → KeepsAll def params more (t ∷ ts) (single_at def params fields t ts) (single_at def params fields t (ts ++ more))
    single_keeps fields t ts = by_test (is_atom t.kind)
      where
        by_test : (b : Bool) → KeepsAll def params more (t ∷ ts) (cond b (unless (faults_at params t) ts (Ok (atom_parts def.stops.words params fields t.kind, ts))) (Err (Broken (t ∷ ts))))
            (cond b (unless (faults_at params t) (ts ++ more) (Ok (atom_parts def.stops.words params fields t.kind, ts ++ more))) (Err (Broken (t ∷ ts ++ more))))
        by_test true = keeps_unless def params {A = List Query} (t ∷ ts) more (faults_at params t) ts (Ok (atom_parts def.stops.words params fields t.kind, ts)) (Ok (atom_parts def.stops.words params fields t.kind, ts ++ more))
            (keeps_ok def params {A = List Query} (t ∷ ts) more (atom_parts def.stops.words params fields t.kind) ts (Ok (atom_parts def.stops.words params fields t.kind, ts ++ more)) refl)
        by_test false = refl

    atom_keeps : (fields : Fields) → Keeping def params more {A = List Query} (atom_at def params here fields)
    unfolding atom_at
    atom_keeps fields [] = sort_end n fields Atom
    atom_keeps fields (t ∷ ts) = by_sign (sign_in t.kind)
      where
        by_sign : (o : Option Sign) → KeepsAll def params more (t ∷ ts) (atom_with def params here fields o t ts) (atom_with def params here fields o t (ts ++ more))
        by_sign (Some signs.Open) = keeps_wider def params {A = List Query} (t ∷ []) ts more (group_at def params here fields t.at ts) (group_at def params here fields t.at (ts ++ more)) (group_keeps n h fields t.at ts)
        by_sign o = single_keeps fields t ts

    part_keeps : (fields : Fields) → Keeping def params more {A = List Query} (part_at def params here fields)
    unfolding part_at
    part_keeps fields [] = sort_end n fields Part
    part_keeps fields (t ∷ ts) = keeps_bind def params {A = List Query} {B = List Query} (t ∷ ts) more (λ x. behind_atom def params (comes (is_quote_kind def params) (t ∷ ts)) x.0 (next_sign x.1) x.1) (λ x. behind_atom def params (comes (is_quote_kind def params) (t ∷ ts)) x.0 (next_sign x.1) x.1)
        (λ qs rest. behind_atom_low def params (comes (is_quote_kind def params) (t ∷ ts)) qs rest (next_sign rest) refl) (λ qs rest. behind_atom_low def params (comes (is_quote_kind def params) (t ∷ ts)) qs rest (next_sign rest) refl)
        (atom_at def params here fields (t ∷ ts)) (atom_at def params here fields (t ∷ ts ++ more)) (atom_keeps fields (t ∷ ts))
        (λ qs rest e. let l = read_leaves def params fields n Atom (t ∷ ts) rest qs e in (l.0, l.1))
        (λ qs rest e. behind_atom_keeps (comes (is_quote_kind def params) (t ∷ ts)) qs rest)

    unary_keeps : (fields : Fields) → Keeping def params more {A = List Query} (unary_at def params here fields)
    unfolding unary_at
    unary_keeps fields [] = sort_end n fields Unary
    unary_keeps fields (t ∷ ts) = by_sign (sign_in t.kind)
      where
        by_sign : (o : Option Sign) → KeepsAll def params more (t ∷ ts) (unary_with def params here fields o (t ∷ ts)) (unary_with def params here fields o (t ∷ ts ++ more))
        by_sign (Some signs.Minus) = keeps_wider def params {A = List Query} (t ∷ []) ts more (signed_at def params denied here fields t.at ts) (signed_at def params denied here fields t.at (ts ++ more)) (signed_keeps denied n h fields t.at ts)
        by_sign (Some signs.Tilde) = keeps_wider def params {A = List Query} (t ∷ []) ts more (signed_at def params optional here fields t.at ts) (signed_at def params optional here fields t.at (ts ++ more)) (signed_keeps optional n h fields t.at ts)
        by_sign (Some signs.At) = keeps_wider def params {A = List Query} (t ∷ []) ts more (field_at def params here t.at ts) (field_at def params here t.at (ts ++ more)) (field_keeps n h t.at ts)
        by_sign o = part_keeps fields (t ∷ ts)

    inter_keeps : (fields : Fields) → Keeping def params more {A = List Query} (sort_at def params here fields Inter)
    inter_keeps fields = chain_keeps def params more (unary_at def params here fields) Parts (read_leaves def params fields n Unary) (read_low def params fields n Unary) (unary_keeps fields)

    sort_keeps : (fields : Fields) (s : Sort) → Keeping def params more {A = List Query} (sort_at def params here fields s)
    sort_keeps fields Atom = atom_keeps fields
    sort_keeps fields Part = part_keeps fields
    sort_keeps fields Unary = unary_keeps fields
    sort_keeps fields Inter = inter_keeps fields
    sort_keeps fields Union = chain_keeps def params more (sort_at def params here fields Inter) Sides (read_leaves def params fields n Inter) (read_low def params fields n Inter) (inter_keeps fields)

  levels_keep : (n : ℕ) → DeeperKeeps (deeper def params n)
  levels_keep zero = tt
  levels_keep (suc n) = λ fields s. sort_keeps n (levels_keep n) fields s

  pub read_keeps : (fields : Fields) (n : ℕ) (s : Sort) → Keeping def params more {A = List Query} (sort_at def params (deeper def params n) fields s)
  read_keeps fields n s = sort_keeps n (levels_keep n) fields s
