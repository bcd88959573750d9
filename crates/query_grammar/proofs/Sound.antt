-- What is read of parts, side by side or in a union, is spelled and has no fault; where reading stops at a fault, what was
-- read begins a sentence that has it first, or none before its end.
use Rattle.std.proofs.Common.{◌≡◌, ℕ, zero, suc, List, [], ◌∷◌, ◌++◌, length, drop, Bool, true, false, cond, Option, Some, None, refl, sym, ap, subst, ◌∙◌, append_assoc, append-nil}
use Rattle.ft_base.specs.declared.definition.IndexDef.{IndexDef}
use Rattle.ft_base.specs.declared.query.Fields.{Fields}
use Rattle.ft_base.specs.declared.query.Param.{Param}
use Rattle.ft_base.specs.declared.query.Query.{Query}
use Rattle.ft_base.specs.Reading.{◌>>=◌}
use Rattle.query_lex.specs.declared.lexeme.Lexeme.{Lexeme}
use Rattle.query_lex.specs.declared.lexeme.Sign.{Sign}
use Rattle.query_lex.specs.declared.lexeme.Sign.TheVariants as signs
use Rattle.query_grammar.specs.declared.fault.QueryFault.{QueryFault}
use Rattle.query_grammar.specs.Answer.{place_of}
use Rattle.query_grammar.specs.Faults.{faults_of}
use Rattle.query_grammar.specs.Form.{Form, Both, Side, Either}
use Rattle.query_grammar.specs.Grammar.{Sort, Union, Inter, Unary, Spells, one_side, sides, one_part, parts, sign}
use Rattle.query_grammar.specs.Meaning.{all_of, parts_of}
use Rattle.query_grammar.specs.Reading.{Stop, Reader, bar_at, begins_unary, behind_bar, chain_at, joined_at, joined_in, joined_with, next_sign, same, unary_comes}
use Rattle.query_grammar.proofs.Signs.{Late, asked, sign_front}
use Rattle.query_grammar.proofs.Targets.{Spelled, bind_spelled}

-- sides of a union, or parts side by side
pub data Chain : Type 0 where
  Sides : Chain
  Parts : Chain

abbrev pub joint : Chain → List Lexeme → Option (List Lexeme)
joint Sides = bar_at
joint Parts = unary_comes

abbrev pub side : Chain → List Query → List Query
side Sides = all_of
side Parts = same

abbrev pub operand : Chain → Sort
operand Sides = Inter
operand Parts = Unary

abbrev pub chained : Chain → Sort
chained Sides = Union
chained Parts = Inter

abbrev pub join_form : Chain → Form → Form → Form
join_form Sides a b = Either a b
join_form Parts a b = Both a b

abbrev pub first_form : Chain → Form → Form
first_form Sides a = Side a
first_form Parts a = a

module _ (def : IndexDef) (params : List Param) where
  pub join_parts : (fields : Fields) (c : Chain) (a b : Form) → parts_of def params fields (join_form c a b) ≡ parts_of def params fields a ++ side c (parts_of def params fields b)
  join_parts fields Sides a b = refl
  join_parts fields Parts a b = refl

  pub first_parts : (fields : Fields) (c : Chain) (a : Form) → parts_of def params fields (first_form c a) ≡ side c (parts_of def params fields a)
  first_parts fields Sides a = refl
  first_parts fields Parts a = refl

  pub first_faults : (fields : Fields) (n : ℕ) (c : Chain) (a : Form) → faults_of def params fields n (first_form c a) ≡ faults_of def params fields n a
  first_faults fields n Sides a = refl
  first_faults fields n Parts a = refl

  pub join_faults : (fields : Fields) (n : ℕ) (c : Chain) (a b : Form) → faults_of def params fields n (join_form c a b) ≡ faults_of def params fields n a ++ faults_of def params fields n b
  join_faults fields n Sides a b = refl
  join_faults fields n Parts a b = refl

  -- the lexemes between what was read and the next operand
  pub record HasJoint (c : Chain) (ts us : List Lexeme) : Type 0 where
    pub between : List Lexeme
    pub is : ts ≡ between ++ us
    pub joins : (front vs : List Lexeme) (a b : Form) → Spells params (chained c) front a → Spells params (operand c) vs b → Spells params (chained c) ((front ++ between) ++ vs) (join_form c a b)

  bar_is : (ts us : List Lexeme) (o : Option Sign) → next_sign ts ≡ o → behind_bar o ts ≡ Some us → HasJoint Sides ts us
  bar_is ts us (Some signs.Pipe) e h = let same : drop 1 ts ≡ us = cc in record {
    between = sign (place_of 0 ts) signs.Pipe ∷ [];
    is = sign_front ts signs.Pipe e ∙ ap (λ (x : List Lexeme). sign (place_of 0 ts) signs.Pipe ∷ x) same;
    joins = λ front vs a b d e. subst (λ (x : List Lexeme). Spells params Union x (Either a b)) (simp append_assoc) (sides (place_of 0 ts) d e);
  }
  bar_is ts us o e h = absurd cc

  pub joint_is : (c : Chain) (ts us : List Lexeme) → joint c ts ≡ Some us → HasJoint c ts us
  joint_is Sides ts us e = bar_is ts us (next_sign ts) refl e
  joint_is Parts ts us e = by_test (begins_unary ts) e
    where
      by_test : (b : Bool) → cond {A = Option (List Lexeme)} b (Some ts) None ≡ Some us → HasJoint Parts ts us
      by_test true e = let same : ts ≡ us = cc in record { between = []; is = same; joins = λ front vs a b d e. subst (λ (x : List Lexeme). Spells params Inter (x ++ vs) (Both a b)) (sym (append-nil front)) (parts d e) }
      by_test false e = absurd cc

  pub single : (c : Chain) (ts : List Lexeme) (a : Form) → Spells params (operand c) ts a → Spells params (chained c) ts (first_form c a)
  single Sides ts a d = one_side d
  single Parts ts a d = one_part d

  module _ (end : ℕ) where
    pub record IsPart (fields : Fields) (n : ℕ) (s : Sort) (front : List Lexeme) (qs : List Query) : Type 0 where
      pub form : Form
      pub spells : Spells params s front form
      pub value : parts_of def params fields form ≡ qs
      pub clean : faults_of def params fields n form ≡ []

    pub record LeadPart (fields : Fields) (n : ℕ) (s : Sort) (stop : Stop) (front : List Lexeme) : Type 0 where
      pub others : List Lexeme
      pub form : Form
      pub spells : Spells params s (front ++ others) form
      pub late : Late end others
      pub holds : asked end stop (faults_of def params fields n form)

    abbrev pub Reads : Fields → ℕ → Sort → Reader → Type 0
    Reads fields n s r = (ts : List Lexeme) → Spelled (IsPart fields n s) (LeadPart fields n s) ts (r ts)

    module _ (fields : Fields) (n : ℕ) (c : Chain) (next : Reader) (next_reads : Reads fields n (operand c) next) where
      abbrev faults_here : Form → List QueryFault
      faults_here a = faults_of def params fields n a

      abbrev parts_here : Form → List Query
      parts_here a = parts_of def params fields a

      behind : (between front : List Lexeme) (a : Form) → ((vs : List Lexeme) (b : Form) → Spells params (operand c) vs b → Spells params (chained c) ((front ++ between) ++ vs) (join_form c a b)) → faults_here a ≡ []
          → (stop : Stop) (after : List Lexeme) → LeadPart fields n (operand c) stop after → LeadPart fields n (chained c) stop ((front ++ between) ++ after)
      behind between front a j z stop after w = record {
        others = w.others;
        form = join_form c a w.form;
        spells = subst (λ (x : List Lexeme). Spells params (chained c) x (join_form c a w.form)) (sym (append_assoc (front ++ between) after w.others)) (j (after ++ w.others) w.form w.spells);
        late = w.late;
        holds = subst (λ (fs : List QueryFault). asked end stop fs) (sym (join_faults fields n c a w.form ∙ ap (λ (fs : List QueryFault). fs ++ faults_here w.form) z)) w.holds;
      }

      abbrev Follows : (List Query → Reader) → Type 0
      Follows others = (front ts : List Lexeme) (a : Form) → Spells params (chained c) front a → faults_here a ≡ [] → Spelled (IsPart fields n (chained c)) (LeadPart fields n (chained c)) (front ++ ts) (others (parts_here a) ts)

      joined_spelled : (others : List Query → Reader) → Follows others → (front ts : List Lexeme) (a : Form) (found : Option (List Lexeme)) → joint c ts ≡ found → Spells params (chained c) front a → faults_here a ≡ []
          → Spelled (IsPart fields n (chained c)) (LeadPart fields n (chained c)) (front ++ ts) (joined_with others next (side c) (parts_here a) ts found)
      joined_spelled others ih front ts a None e d z = record { front = front; parts = refl; is = record { form = a; spells = d; value = refl; clean = z } }
      joined_spelled others ih front ts a (Some us) e d z =
          let h = joint_is c ts us e in
          let whole : (front ++ h.between) ++ us ≡ front ++ ts = append_assoc front h.between us ∙ ap (λ (x : List Lexeme). front ++ x) (sym h.is) in
          subst (λ (x : List Lexeme). Spelled (IsPart fields n (chained c)) (LeadPart fields n (chained c)) x (next us >>= λ x. others (parts_here a ++ side c x.0) x.1)) whole
          (bind_spelled (IsPart fields n (operand c)) (IsPart fields n (chained c)) (LeadPart fields n (operand c)) (LeadPart fields n (chained c)) (front ++ h.between) us
          (λ x. others (parts_here a ++ side c x.0) x.1) (next us) (next_reads us)
          (behind h.between front a (λ vs b s. h.joins front vs a b d s) z)
          (λ qs more rest t.
          let none : faults_here (join_form c a t.form) ≡ [] = join_faults fields n c a t.form ∙ rw (z, t.clean) refl in
          let same : parts_here (join_form c a t.form) ≡ parts_here a ++ side c qs = join_parts fields c a t.form ∙ ap (λ (v : List Query). parts_here a ++ side c v) t.value in
          subst (λ (v : List Query). Spelled (IsPart fields n (chained c)) (LeadPart fields n (chained c)) (((front ++ h.between) ++ more) ++ rest) (others v rest)) same
          (ih ((front ++ h.between) ++ more) rest (join_form c a t.form) (h.joins front more a t.form d t.spells) none)))

      others_spelled : (fuel : ℕ) → Follows (joined_in (joint c) next (side c) fuel)
      others_spelled zero front ts a d z = record { front = front; parts = refl; is = record { form = a; spells = d; value = refl; clean = z } }
      others_spelled (suc fuel) front ts a d z = joined_spelled (λ qs us. joined_in (joint c) next (side c) fuel qs us) (others_spelled fuel) front ts a (joint c ts) refl d z

      pub chain_spelled : Reads fields n (chained c) (chain_at (joint c) next (side c))
      unfolding chain_at joined_at
      chain_spelled ts = bind_spelled (IsPart fields n (operand c)) (IsPart fields n (chained c)) (LeadPart fields n (operand c)) (LeadPart fields n (chained c)) [] ts
          (λ x. joined_at (joint c) next (side c) (side c x.0) x.1) (next ts) (next_reads ts)
          (λ stop front w. record {
            others = w.others;
            form = first_form c w.form;
            spells = single c (front ++ w.others) w.form w.spells;
            late = w.late;
            holds = subst (λ (fs : List QueryFault). asked end stop fs) (sym (first_faults fields n c w.form)) w.holds;
          })
          (λ qs front rest t.
          let same : parts_here (first_form c t.form) ≡ side c qs = first_parts fields c t.form ∙ ap (λ (v : List Query). side c v) t.value in
          subst (λ (v : List Query). Spelled (IsPart fields n (chained c)) (LeadPart fields n (chained c)) (front ++ rest) (joined_at (joint c) next (side c) v rest)) same
          (others_spelled (suc (length rest)) front rest (first_form c t.form) (single c front t.form t.spells) (first_faults fields n c t.form ∙ t.clean)))
