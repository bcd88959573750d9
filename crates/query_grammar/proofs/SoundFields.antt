-- Sound for fields whose target is a part.
use Rattle.std.proofs.Common.{◌≡◌, ℕ, suc, ◌<◌, List, [], ◌∷◌, ◌++◌, length, Bool, true, false, cond, IsTrue, Option, Some, Ok, Err, refl, sym, ap, subst, ◌∙◌, append_assoc, append-nil, arith}
use Rattle.std.specs.List.{flat_map}
use Rattle.ft_base.specs.Kinds.{is_text}
use Rattle.ft_base.specs.declared.definition.FieldKind.{FieldKind}
use Rattle.ft_base.specs.declared.definition.IndexDef.{IndexDef}
use Rattle.ft_base.specs.declared.query.Fields.{Fields}
use Rattle.ft_base.specs.declared.query.Fields.TheVariants as asked_of
use Rattle.ft_base.specs.declared.query.Param.{Param}
use Rattle.ft_base.specs.declared.query.Query.{Query}
use Rattle.ft_base.specs.Reading.{◌>>=◌}
use Rattle.query_lex.specs.declared.lexeme.Lexeme.{Lexeme}
use Rattle.query_lex.specs.declared.lexeme.LexKind.TheVariants as kinds
use Rattle.query_lex.specs.declared.lexeme.Sign.{Sign}
use Rattle.query_lex.specs.declared.lexeme.Sign.TheVariants as signs
use Rattle.query_grammar.specs.declared.fault.QueryFault.{QueryFault}
use Rattle.query_grammar.specs.declared.fault.QueryFault.TheVariants.{WrongKind}
use Rattle.query_grammar.specs.Faults.{faults_of, has_other, kind_faults, name_faults, needs, one_if, start_of}
use Rattle.query_grammar.specs.Form.{Form, Single, EmptyGroup, Named}
use Rattle.query_grammar.specs.Grammar.{Sort, Unary, Part, Names, last, more, Spells, bare, attributed, field as of_field, single as by_itself, empty_group, group, is_field_name, sign}
use Rattle.query_grammar.specs.Meaning.{fields_of}
use Rattle.query_grammar.specs.Reading.{Stop, Broken, Found, Read, Reader, begins_atom, next_sign, part_target, unless_other}
use Rattle.query_grammar.proofs.Signs.{AtEnd, FirstIs, Late, asked, asked_more, at_end_append, at_end_if, late_append, lexeme, rest_of, sign_front}
use Rattle.query_grammar.proofs.Sound.{IsPart, LeadPart, Reads}
use Rattle.query_grammar.proofs.Targets.{Spelled, LeadNames, bind_spelled, numbers_of}

-- what is read is part of something else, behind other lexemes
pub map_spelled : {A B : Type 0} (T : List Lexeme → A → Type 0) (U : List Lexeme → B → Type 0) (L M : Stop → List Lexeme → Type 0) (before ts : List Lexeme) (g : A → B) (r : Read A)
    → Spelled T L ts r
    → ((stop : Stop) (front : List Lexeme) → L stop front → M stop (before ++ front))
    → ((x : A) (front : List Lexeme) → T front x → U (before ++ front) (g x))
    → Spelled U M (before ++ ts) (r >>= λ x. Ok (g x.0, x.1))
map_spelled T U L M before ts g r h w v = bind_spelled T U L M before ts (λ x. Ok (g x.0, x.1)) r h w (λ x front rest t. record { front = before ++ front; parts = refl; is = v x front t })

has_names : {ts names : List Lexeme} → Names ts names → 0 < length names
has_names (last t h) = omega arith
has_names (more t p h d) = omega arith

-- the one name of a field
pub record OneName (ts names : List Lexeme) : Type 0 where
  pub name : Lexeme
  pub front : ts ≡ name ∷ []
  pub is : names ≡ name ∷ []
  pub fits : IsTrue (is_field_name name.kind)

pub one_name : {ts names : List Lexeme} → Names ts names → length names ≡ 1 → OneName ts names
one_name (last t h) e = record { name = t; front = refl; is = refl; fits = h }
one_name (more t p h d) e = let some = has_names d in absurd (omega arith)

pub part_needs : (params : List Param) {ts : List Lexeme} {a : Form} → Spells params Part ts a → needs a ≡ is_text
part_needs params (bare (by_itself t h)) = refl
part_needs params (bare (empty_group p q)) = refl
part_needs params (bare (group p q d)) = refl
part_needs params (attributed p q r d e) = refl

module _ (def : IndexDef) (params : List Param) (end : ℕ) where
  -- a first lexeme of a part
  record StartsPart (t : Lexeme) : Type 0 where
    pub others : List Lexeme
    pub form : Form
    pub spells : Spells params Part (t ∷ others) form
    pub late : Late end others
    pub start : start_of form ≡ t.at
    pub needed : needs form ≡ is_text

  starts_with : (t : Lexeme) (ts : List Lexeme) (o : Option Sign) → next_sign (t ∷ ts) ≡ o → begins_atom def params o (t ∷ ts) ≡ true → StartsPart t
  starts_with t ts (Some signs.Open) e h = subst StartsPart (front_is (sign_front (t ∷ ts) signs.Open e))
      (record { others = sign end signs.Close ∷ []; form = EmptyGroup t.at; spells = bare (empty_group t.at end); late = (refl, tt); start = refl; needed = refl })
    where
      front_is : t ∷ ts ≡ sign t.at signs.Open ∷ ts → sign t.at signs.Open ≡ t
      front_is e = cc
  starts_with t ts o e h = record { others = []; form = Single t; spells = bare (by_itself t h); late = tt; start = refl; needed = refl }

  module _ (fields : Fields) (n p : ℕ) where
    abbrev pub Result : List Lexeme → Read (List Query) → Type 0
    Result ts r = Spelled (IsPart def params end fields (suc n) Unary) (LeadPart def params end fields (suc n) Unary) ts r

    abbrev pub Goes : Stop → List Lexeme → Type 0
    Goes stop front = LeadPart def params end fields (suc n) Unary stop front

    word_kind : (names : List Lexeme) → AtEnd end (kind_faults def.fields (fields_of def.fields names) (Single (lexeme end (kinds.Word []))) ++ [])
    word_kind names = at_end_append end (kind_faults def.fields (fields_of def.fields names) (Single (lexeme end (kinds.Word [])))) []
        (at_end_if end (has_other (needs (Single (lexeme end (kinds.Word [])))) def.fields (fields_of def.fields names)) (WrongKind end) refl) tt

    pub names_lead : (stop : Stop) (front : List Lexeme) → LeadNames def params end stop front → Goes stop (sign p signs.At ∷ front)
    names_lead stop front l = record {
      others = l.others ++ sign end signs.Colon ∷ lexeme end (kinds.Word []) ∷ [];
      form = Named p l.names (Single (lexeme end (kinds.Word [])));
      spells = subst (λ (x : List Lexeme). Spells params Unary (sign p signs.At ∷ x) (Named p l.names (Single (lexeme end (kinds.Word []))))) (append_assoc front l.others (sign end signs.Colon ∷ lexeme end (kinds.Word []) ∷ []))
          (of_field p end l.spells (bare (by_itself (lexeme end (kinds.Word [])) refl)));
      late = late_append end l.others (sign end signs.Colon ∷ lexeme end (kinds.Word []) ∷ []) l.late (refl, (refl, tt));
      holds = asked_more end stop (flat_map (name_faults def.fields) l.names) (kind_faults def.fields (fields_of def.fields l.names) (Single (lexeme end (kinds.Word []))) ++ []) l.holds (word_kind l.names);
    }

    module _ (front names : List Lexeme) (spells : Names front names) (clean : flat_map (name_faults def.fields) names ≡ []) where
      abbrev numbers : List ℕ
      numbers = numbers_of def names

      pub no_colon : (rest : List Lexeme) → Goes (Broken rest) (sign p signs.At ∷ front)
      no_colon rest = names_lead (Broken rest) front (record { others = []; names = names; spells = rw (append-nil front) spells; late = tt; holds = rw clean tt })

      pub behind_colon : (q : ℕ) (rest : List Lexeme) → Goes (Broken rest) (sign p signs.At ∷ front ++ sign q signs.Colon ∷ [])
      behind_colon q rest = record {
        others = lexeme end (kinds.Word []) ∷ [];
        form = Named p names (Single (lexeme end (kinds.Word [])));
        spells = subst (λ (x : List Lexeme). Spells params Unary (sign p signs.At ∷ x) (Named p names (Single (lexeme end (kinds.Word []))))) (sym (append_assoc front (sign q signs.Colon ∷ []) (lexeme end (kinds.Word []) ∷ [])))
            (of_field p q spells (bare (by_itself (lexeme end (kinds.Word [])) refl)));
        late = (refl, tt);
        holds = rw clean (word_kind names);
      }

      -- ---- parts

      spells_part : (q : ℕ) (ts : List Lexeme) (a : Form) → Spells params Part ts a → Spells params Unary ((sign p signs.At ∷ front ++ sign q signs.Colon ∷ []) ++ ts) (Named p names a)
      spells_part q ts a d = subst (λ (x : List Lexeme). Spells params Unary (sign p signs.At ∷ x) (Named p names a)) (sym (append_assoc front (sign q signs.Colon ∷ []) ts)) (of_field p q spells d)

      wrong_part : (q : ℕ) (ts : List Lexeme) (t : Lexeme) → StartsPart t → has_other is_text def.fields (asked_of.Named numbers) ≡ true → Goes (Found (WrongKind t.at) ts) ((sign p signs.At ∷ front ++ sign q signs.Colon ∷ []) ++ t ∷ [])
      wrong_part q ts t s h = record {
        others = s.others;
        form = Named p names s.form;
        spells = subst (λ (x : List Lexeme). Spells params Unary x (Named p names s.form)) (sym (append_assoc (sign p signs.At ∷ front ++ sign q signs.Colon ∷ []) (t ∷ []) s.others)) (spells_part q (t ∷ s.others) s.form s.spells);
        late = s.late;
        holds = rw clean (subst (λ (test : FieldKind → Bool). FirstIs (WrongKind t.at) (one_if (has_other test def.fields (asked_of.Named numbers)) (WrongKind (start_of s.form)) ++ faults_of def params (asked_of.Named numbers) n s.form))
            (sym s.needed) (rw h (ap (λ (x : ℕ). WrongKind x) s.start)));
      }

      right_kind : (a : Form) → needs a ≡ is_text → has_other is_text def.fields (asked_of.Named numbers) ≡ false → faults_of def params (asked_of.Named numbers) n a ≡ faults_of def params fields (suc n) (Named p names a)
      right_kind a e h = sym (ap (λ (fs : List QueryFault). fs ++ (kind_faults def.fields (asked_of.Named numbers) a ++ faults_of def params (asked_of.Named numbers) n a)) clean
          ∙ ap (λ (test : FieldKind → Bool). one_if (has_other test def.fields (asked_of.Named numbers)) (WrongKind (start_of a)) ++ faults_of def params (asked_of.Named numbers) n a) e
          ∙ ap (λ (b : Bool). one_if b (WrongKind (start_of a)) ++ faults_of def params (asked_of.Named numbers) n a) h)

      module _ (inner : Fields → Sort → Reader) (reads : (fields : Fields) (s : Sort) → Reads def params end fields n s (inner fields s)) where
        part_read : (q : ℕ) (ts : List Lexeme) → has_other is_text def.fields (asked_of.Named numbers) ≡ false → Result ((sign p signs.At ∷ front ++ sign q signs.Colon ∷ []) ++ ts) (inner (asked_of.Named numbers) Part ts)
        part_read q ts h = along (inner (asked_of.Named numbers) Part ts) (reads (asked_of.Named numbers) Part ts)
          where
            along : (r : Read (List Query)) → Spelled (IsPart def params end (asked_of.Named numbers) n Part) (LeadPart def params end (asked_of.Named numbers) n Part) ts r → Result ((sign p signs.At ∷ front ++ sign q signs.Colon ∷ []) ++ ts) r
            along (Ok x) k = record {
              front = (sign p signs.At ∷ front ++ sign q signs.Colon ∷ []) ++ k.front;
              parts = ap (λ (y : List Lexeme). (sign p signs.At ∷ front ++ sign q signs.Colon ∷ []) ++ y) k.parts ∙ sym (append_assoc (sign p signs.At ∷ front ++ sign q signs.Colon ∷ []) k.front x.1);
              is = record { form = Named p names k.is.form; spells = spells_part q k.front k.is.form k.is.spells; value = k.is.value; clean = sym (right_kind k.is.form (part_needs params k.is.spells) h) ∙ k.is.clean };
            }
            along (Err stop) k = record {
              front = (sign p signs.At ∷ front ++ sign q signs.Colon ∷ []) ++ k.front;
              parts = ap (λ (y : List Lexeme). (sign p signs.At ∷ front ++ sign q signs.Colon ∷ []) ++ y) k.parts ∙ sym (append_assoc (sign p signs.At ∷ front ++ sign q signs.Colon ∷ []) k.front (rest_of stop));
              leads = record {
                others = k.leads.others;
                form = Named p names k.leads.form;
                spells = subst (λ (x : List Lexeme). Spells params Unary x (Named p names k.leads.form)) (sym (append_assoc (sign p signs.At ∷ front ++ sign q signs.Colon ∷ []) k.front k.leads.others))
                    (spells_part q (k.front ++ k.leads.others) k.leads.form k.leads.spells);
                late = k.leads.late;
                holds = subst (λ (fs : List QueryFault). asked end stop fs) (right_kind k.leads.form (part_needs params k.leads.spells) h) k.leads.holds;
              };
            }

        begun_part : (q : ℕ) (t : Lexeme) (ts : List Lexeme) → StartsPart t → (b : Bool) → has_other is_text def.fields (asked_of.Named numbers) ≡ b
            → Result ((sign p signs.At ∷ front ++ sign q signs.Colon ∷ []) ++ t ∷ ts) (cond b (Err (Found (WrongKind t.at) ts)) (inner (asked_of.Named numbers) Part (t ∷ ts)))
        begun_part q t ts s true h = record { front = (sign p signs.At ∷ front ++ sign q signs.Colon ∷ []) ++ t ∷ []; parts = sym (append_assoc (sign p signs.At ∷ front ++ sign q signs.Colon ∷ []) (t ∷ []) ts); leads = wrong_part q ts t s h }
        begun_part q t ts s false h = part_read q (t ∷ ts) h

        pub no_target : (q : ℕ) (ts : List Lexeme) → Result ((sign p signs.At ∷ front ++ sign q signs.Colon ∷ []) ++ ts) (Err (Broken ts))
        no_target q ts = record { front = sign p signs.At ∷ front ++ sign q signs.Colon ∷ []; parts = refl; leads = behind_colon q ts }

        pub part_target_spelled : (q : ℕ) (ts : List Lexeme) → Result ((sign p signs.At ∷ front ++ sign q signs.Colon ∷ []) ++ ts) (part_target def params inner numbers ts)
        part_target_spelled q [] = no_target q []
        part_target_spelled q (t ∷ ts) = by_test (begins_atom def params (next_sign (t ∷ ts)) (t ∷ ts)) refl
          where
            by_test : (b : Bool) → begins_atom def params (next_sign (t ∷ ts)) (t ∷ ts) ≡ b
                → Result ((sign p signs.At ∷ front ++ sign q signs.Colon ∷ []) ++ t ∷ ts) (cond b (unless_other def params is_text numbers (t ∷ ts) (inner (asked_of.Named numbers) Part (t ∷ ts))) (Err (Broken (t ∷ ts))))
            by_test true k = begun_part q t ts (starts_with t ts (next_sign (t ∷ ts)) refl k) (has_other is_text def.fields (asked_of.Named numbers)) refl
            by_test false k = no_target q (t ∷ ts)
