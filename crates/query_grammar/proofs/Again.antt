-- What is spelled is read, and where its form has faults, the first of them is found.
use Rattle.std.proofs.Common.{◌≡◌, ℕ, zero, suc, Bool, true, false, cond, IsTrue, ◌||◌, List, [], ◌∷◌, ◌++◌, Option, Some, None, Ok, refl, ap, ◌∙◌, append_assoc}
use Rattle.ft_base.specs.declared.definition.IndexDef.{IndexDef}
use Rattle.ft_base.specs.declared.query.Fields.{Fields}
use Rattle.ft_base.specs.declared.query.Param.{Param}
use Rattle.ft_base.specs.declared.query.Query.{Query}
use Rattle.ft_base.specs.Reading.{◌>>=◌}
use Rattle.query_lex.specs.declared.lexeme.Lexeme.{Lexeme}
use Rattle.query_lex.specs.declared.lexeme.LexKind.{LexKind}
use Rattle.query_lex.specs.declared.lexeme.LexKind.TheVariants as kinds
use Rattle.query_lex.specs.declared.lexeme.Sign.{Sign}
use Rattle.query_lex.specs.declared.lexeme.Sign.TheVariants as signs
use Rattle.query_grammar.specs.declared.fault.QueryFault.{QueryFault}
use Rattle.query_grammar.specs.Faults.{faults_at, faults_of}
use Rattle.query_grammar.specs.Form.{Form, Single, EmptyGroup, Group, Both, Side, Either, Denied, Optional as OptionalForm}
use Rattle.query_grammar.specs.Grammar.{Sort, Union, Inter, Unary, Part, Atom, is_atom, sign}
use Rattle.query_grammar.specs.Meaning.{all_of, atom_parts, denied, optional, parts_of}
use Rattle.query_grammar.specs.Reading.{Read, Reader, atom_at, atom_with, bar_at, begins_by_sign, chain_at, closed_with, deeper, inside_at, joined_at, next_sign, sign_in, sort_at, unary_at, unary_comes, unless}
use Rattle.query_grammar.proofs.AgainParts.{bare, bare_bind, bare_unless, told, told_append}
use Rattle.query_grammar.proofs.Chains.{Begun, begun_append, joined_none, joined_some, read_leaves}
use Rattle.query_grammar.proofs.Sound.{Sides, Parts}

-- no attributes come
abbrev pub is_arrow : Option Sign → Bool
is_arrow (Some signs.Arrow) = true
is_arrow other = false

abbrev pub Quiet : List Lexeme → Type 0
Quiet rest = is_arrow (next_sign rest) ≡ false

-- nothing behind goes on with a sentence of the sort; or only with another part or side of it
abbrev pub Calm : Sort → List Lexeme → Type 0
Calm Union rest = (unary_comes rest ≡ None) × (bar_at rest ≡ None) × Quiet rest
Calm Inter rest = (unary_comes rest ≡ None) × Quiet rest
Calm Unary rest = Quiet rest
Calm Part rest = Quiet rest
Calm Atom rest = Unit {0}

abbrev pub Ready : Sort → List Lexeme → Type 0
Ready Union rest = (unary_comes rest ≡ None) × Quiet rest
Ready Inter rest = Quiet rest
Ready Unary rest = Quiet rest
Ready Part rest = Quiet rest
Ready Atom rest = Unit {0}

ready : (s : Sort) (rest : List Lexeme) → Calm s rest → Ready s rest
ready Union rest h = (h.0, h.2)
ready Inter rest h = h.1
ready Unary rest h = h
ready Part rest h = h
ready Atom rest h = tt

begun_kind : (k : LexKind) → IsTrue (begins_by_sign (sign_in k) || is_atom k) → is_arrow (sign_in k) ≡ false
begun_kind (kinds.Sign signs.Arrow) h = absurd cc
begun_kind other h = refl

begun_quiet : (ts rest : List Lexeme) → Begun ts → Quiet (ts ++ rest)
begun_quiet [] rest h = absurd h
begun_quiet (t ∷ ts) rest h = begun_kind t.kind h

next_part : (ts : List Lexeme) → Begun ts → unary_comes ts ≡ Some ts
next_part [] h = absurd h
next_part (t ∷ ts) h = ap (λ (b : Bool). cond {A = Option (List Lexeme)} b (Some (t ∷ ts)) None) h

module _ (def : IndexDef) (params : List Param) where
  abbrev pub reads : Fields → ℕ → Sort → Reader
  reads fields n s = sort_at def params (deeper def params n) fields s

  abbrev pub After : Fields → ℕ → Sort → List Query → Reader
  After fields n Union qs rest = joined_at bar_at (reads fields n Inter) all_of qs rest
  After fields n Inter qs rest = joined_at unary_comes (reads fields n Unary) (λ x. x) qs rest
  After fields n Unary qs rest = Ok (qs, rest)
  After fields n Part qs rest = Ok (qs, rest)
  After fields n Atom qs rest = Ok (qs, rest)

  settled : (fields : Fields) (n : ℕ) (s : Sort) (qs : List Query) (rest : List Lexeme) → Calm s rest → After fields n s qs rest ≡ Ok (qs, rest)
  settled fields n Union qs rest h = joined_none def params (reads fields n Inter) Sides (read_leaves def params fields n Inter) qs rest h.1
  settled fields n Inter qs rest h = joined_none def params (reads fields n Unary) Parts (read_leaves def params fields n Unary) qs rest h.0
  settled fields n Unary qs rest h = refl
  settled fields n Part qs rest h = refl
  settled fields n Atom qs rest h = refl

  abbrev pub faults_in : Fields → ℕ → Form → List QueryFault
  faults_in fields n a = faults_of def params fields n a

  abbrev pub parts_in : Fields → Form → List Query
  parts_in fields a = parts_of def params fields a

  abbrev pub Agains : Sort → List Lexeme → Form → Type 0
  Agains s ts a = (fields : Fields) (n : ℕ) (rest : List Lexeme) → Ready s rest → bare (reads fields n s (ts ++ rest)) ≡ told (faults_in fields n a) (bare (After fields n s (parts_in fields a) rest))

  pub done : (s : Sort) (ts : List Lexeme) (a : Form) → Agains s ts a → (fields : Fields) (n : ℕ) (rest : List Lexeme) → Calm s rest → bare (reads fields n s (ts ++ rest)) ≡ told (faults_in fields n a) (Ok (parts_in fields a, rest))
  done s ts a ih fields n rest h = ih fields n rest (ready s rest h) ∙ ap (λ (r : Read (List Query)). told (faults_in fields n a) (bare r)) (settled fields n s (parts_in fields a) rest h)

  -- a reading, and what is done with it
  pub then : (s : Sort) (ts : List Lexeme) (a : Form) → Agains s ts a → (fields : Fields) (n : ℕ) (rest : List Lexeme) → Calm s rest → (k : List Query × List Lexeme → Read (List Query))
      → bare (reads fields n s (ts ++ rest) >>= k) ≡ told (faults_in fields n a) (bare (k (parts_in fields a, rest)))
  then s ts a ih fields n rest h k = bare_bind (faults_in fields n a) (reads fields n s (ts ++ rest)) (parts_in fields a, rest) k (done s ts a ih fields n rest h)

  -- ---- chains

  pub one_side_again : (ts : List Lexeme) (a : Form) → Agains Inter ts a → Agains Union ts (Side a)
  unfolding chain_at
  one_side_again ts a ih fields n rest h = then Inter ts a ih fields n rest h (λ x. joined_at bar_at (reads fields n Inter) all_of (all_of x.0) x.1)

  pub one_part_again : (ts : List Lexeme) (a : Form) → Agains Unary ts a → Agains Inter ts a
  unfolding chain_at
  one_part_again ts a ih fields n rest h = then Unary ts a ih fields n rest h (λ x. joined_at unary_comes (reads fields n Unary) (λ x. x) x.0 x.1)

  pub sides_again : (p : ℕ) (ts us : List Lexeme) (a b : Form) → Agains Union ts a → Agains Inter us b → Agains Union (ts ++ sign p signs.Pipe ∷ us) (Either a b)
  sides_again p ts us a b ihd ihe fields n rest h =
      ap (λ (x : List Lexeme). bare (reads fields n Union x)) (append_assoc ts (sign p signs.Pipe ∷ us) rest)
      ∙ ihd fields n (sign p signs.Pipe ∷ us ++ rest) (refl, refl)
      ∙ ap (λ (r : Read (List Query)). told (faults_in fields n a) r)
      (ap bare (joined_some def params (reads fields n Inter) Sides (read_leaves def params fields n Inter) (parts_in fields a) (sign p signs.Pipe ∷ us ++ rest) (us ++ rest) refl)
      ∙ then Inter us b ihe fields n rest h (λ x. joined_at bar_at (reads fields n Inter) all_of (parts_in fields a ++ all_of x.0) x.1))
      ∙ told_append (faults_in fields n a) (faults_in fields n b) (bare (joined_at bar_at (reads fields n Inter) all_of (parts_in fields a ++ all_of (parts_in fields b)) rest))

  pub parts_again : (ts us : List Lexeme) (a b : Form) → Begun us → Agains Inter ts a → Agains Unary us b → Agains Inter (ts ++ us) (Both a b)
  parts_again ts us a b o ihd ihe fields n rest h =
      ap (λ (x : List Lexeme). bare (reads fields n Inter x)) (append_assoc ts us rest)
      ∙ ihd fields n (us ++ rest) (begun_quiet us rest o)
      ∙ ap (λ (r : Read (List Query)). told (faults_in fields n a) r)
      (ap bare (joined_some def params (reads fields n Unary) Parts (read_leaves def params fields n Unary) (parts_in fields a) (us ++ rest) (us ++ rest) (next_part (us ++ rest) (begun_append us rest o)))
      ∙ then Unary us b ihe fields n rest h (λ x. joined_at unary_comes (reads fields n Unary) (λ x. x) (parts_in fields a ++ x.0) x.1))
      ∙ told_append (faults_in fields n a) (faults_in fields n b) (bare (joined_at unary_comes (reads fields n Unary) (λ x. x) (parts_in fields a ++ parts_in fields b) rest))

  -- ---- signs and groups

  pub minus_again : (p : ℕ) (ts : List Lexeme) (a : Form) → Agains Unary ts a → Agains Unary (sign p signs.Minus ∷ ts) (Denied p a)
  unfolding unary_at
  minus_again p ts a ih fields zero rest h = refl
  minus_again p ts a ih fields (suc n) rest h = then Unary ts a ih fields n rest h (λ x. Ok (denied x.0, x.1))

  pub tilde_again : (p : ℕ) (ts : List Lexeme) (a : Form) → Agains Unary ts a → Agains Unary (sign p signs.Tilde ∷ ts) (OptionalForm p a)
  unfolding unary_at
  tilde_again p ts a ih fields zero rest h = refl
  tilde_again p ts a ih fields (suc n) rest h = then Unary ts a ih fields n rest h (λ x. Ok (optional x.0, x.1))

  pub single_again : (t : Lexeme) → IsTrue (is_atom t.kind) → Agains Atom (t ∷ []) (Single t)
  unfolding atom_at
  single_again t h fields n rest r = ap bare (atom_is t.kind h) ∙ bare_unless (faults_at params t) rest (atom_parts def.stops.words params fields t.kind, rest)
    where
      atom_is : (k : LexKind) → is_atom k ≡ true → atom_with def params (deeper def params n) fields (sign_in k) (record { at = t.at; kind = k }) rest
          ≡ unless (faults_at params (record { at = t.at; kind = k })) rest (Ok (atom_parts def.stops.words params fields k, rest))
      atom_is (kinds.Sign signs.Star) h = refl
      atom_is (kinds.Sign other) h = absurd cc
      atom_is (kinds.Raw text) h = absurd cc
      atom_is (kinds.Tag text prefix) h = absurd cc
      atom_is other h = refl

  pub empty_again : (p q : ℕ) → Agains Atom (sign p signs.Open ∷ sign q signs.Close ∷ []) (EmptyGroup p)
  unfolding atom_at
  empty_again p q fields zero rest h = refl
  empty_again p q fields (suc n) rest h = refl

  -- the first lexeme of a union is no closing parenthesis
  inside_union : (inner : Fields → Sort → Reader) (fields : Fields) (ts rest : List Lexeme) → Begun ts
      → inside_at def params inner fields (next_sign (ts ++ rest)) (ts ++ rest) ≡ (inner fields Union (ts ++ rest) >>= λ x. closed_with def params (next_sign x.1) x.0 x.1)
  inside_union inner fields [] rest h = absurd h
  inside_union inner fields (t ∷ ts) rest h = by_kind t.kind h
    where
      by_kind : (k : LexKind) → IsTrue (begins_by_sign (sign_in k) || is_atom k)
          → inside_at def params inner fields (sign_in k) (t ∷ ts ++ rest) ≡ (inner fields Union (t ∷ ts ++ rest) >>= λ x. closed_with def params (next_sign x.1) x.0 x.1)
      by_kind (kinds.Sign signs.Close) h = absurd cc
      by_kind other h = refl

  pub group_again : (p q : ℕ) (ts : List Lexeme) (a : Form) → Begun ts → Agains Union ts a → Agains Atom (sign p signs.Open ∷ ts ++ sign q signs.Close ∷ []) (Group p a)
  unfolding atom_at
  group_again p q ts a o ih fields zero rest h = refl
  group_again p q ts a o ih fields (suc n) rest h =
      ap (λ (x : List Lexeme). bare (inside_at def params (λ fields s. reads fields n s) fields (next_sign x) x)) (append_assoc ts (sign q signs.Close ∷ []) rest)
      ∙ ap bare (inside_union (λ fields s. reads fields n s) fields ts (sign q signs.Close ∷ rest) o)
      ∙ then Union ts a ih fields n (sign q signs.Close ∷ rest) (refl, refl, refl) (λ x. closed_with def params (next_sign x.1) x.0 x.1)
