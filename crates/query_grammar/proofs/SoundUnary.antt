-- Sound for fields and signs, and so for every sort at every level.
use Rattle.std.proofs.Common.{◌≡◌, ℕ, zero, suc, List, [], ◌∷◌, ◌++◌, length, drop, Bool, true, false, cond, Option, Some, None, Ok, Err, refl, sym, ap, subst, ◌∙◌, append_assoc, slice_get}
use Rattle.std.specs.List.{flat_map}
use Rattle.std.specs.Prelude.{codes}
use Rattle.ft_base.specs.Kinds.{is_numeric, is_tag as is_tag_kind}
use Rattle.ft_base.specs.declared.definition.IndexDef.{IndexDef}
use Rattle.ft_base.specs.declared.query.Fields.{Fields}
use Rattle.ft_base.specs.declared.query.Fields.TheVariants as asked_of
use Rattle.ft_base.specs.declared.query.Param.{Param}
use Rattle.ft_base.specs.declared.query.Query.{Query}
use Rattle.ft_base.specs.declared.query.Query.TheVariants as tree
use Rattle.ft_base.specs.declared.query.TagPart.{TagPart}
use Rattle.ft_base.specs.Reading.{◌>>=◌}
use Rattle.query_lex.specs.declared.lexeme.Lexeme.{Lexeme}
use Rattle.query_lex.specs.declared.lexeme.LexKind.TheVariants as kinds
use Rattle.query_lex.specs.declared.lexeme.Sign.{Sign}
use Rattle.query_lex.specs.declared.lexeme.Sign.TheVariants as signs
use Rattle.query_grammar.specs.declared.fault.QueryFault.{QueryFault}
use Rattle.query_grammar.specs.declared.fault.QueryFault.TheVariants.{TooDeep, WrongKind}
use Rattle.query_grammar.specs.Answer.{place_of}
use Rattle.query_grammar.specs.Faults.{faults_of, has_other, kind_faults, name_faults, needs, one_if, start_of}
use Rattle.query_grammar.specs.Form.{Form, Edge, Single, Named, Range, Tags, Denied, Optional as OptionalForm}
use Rattle.query_grammar.specs.Grammar.{Sort, Union, Inter, Unary, Part, Atom, IsEdge, included, Names, last, Spells, bare, field as of_field, range as of_range, tags as of_tags, minus, tilde, part as alone, single as by_itself, sign}
use Rattle.query_grammar.specs.Meaning.{case_of, denied, optional, parts_of}
use Rattle.query_grammar.specs.Reading.{Broken, Found, Read, Reader, Deeper, behind_names, deeper, field_at, names_at, next_sign, part_at, range_at, range_target, signed_at, sort_at, tags_at, tags_target, target_with, unary_at, unary_with}
use Rattle.query_grammar.proofs.Enclosed.{LeadRange, LeadTags, ReadRange, ReadTags, AreTags, range_spelled, tags_spelled}
use Rattle.query_grammar.proofs.Signs.{FirstIs, asked, lexeme, rest_of, sign_front}
use Rattle.query_grammar.proofs.Sound.{Sides, Parts, IsPart, LeadPart, Reads, chain_spelled}
use Rattle.query_grammar.proofs.SoundAtoms.{DeeperReads, atom_spelled, part_spelled}
use Rattle.query_grammar.proofs.Targets.{Spelled, LeadNames, MoreNames, bind_spelled, names_spelled, numbers_of}
use Rattle.query_grammar.proofs.SoundFields.{Result, Goes, OneName, map_spelled, names_lead, no_colon, no_target, one_name, part_target_spelled}

module _ (def : IndexDef) (params : List Param) (end : ℕ) where
  module _ (fields : Fields) (n p : ℕ) where
    module _ (front names : List Lexeme) (spells : Names front names) (clean : flat_map (name_faults def.fields) names ≡ []) where
      abbrev numbers : List ℕ
      numbers = numbers_of def names

      abbrev before : ℕ → List Lexeme
      before q = sign p signs.At ∷ front ++ sign q signs.Colon ∷ []

      count_one : (field : ℕ) → numbers ≡ field ∷ [] → length numbers ≡ length names → OneName front names
      count_one field e c = one_name spells (sym c ∙ ap length e)

      -- the fields of one name, of the kind that is needed or of another
      kind_is : (field : ℕ) (target : Form) (b : Bool) → numbers ≡ field ∷ [] → has_other (needs target) def.fields (asked_of.Named (field ∷ [])) ≡ b
          → faults_of def params fields (suc n) (Named p names target) ≡ one_if b (WrongKind (start_of target)) ++ faults_of def params (asked_of.Named numbers) n target
      kind_is field target b e h = ap (λ (fs : List QueryFault). fs ++ (kind_faults def.fields (asked_of.Named numbers) target ++ faults_of def params (asked_of.Named numbers) n target)) clean
          ∙ ap (λ (ns : List ℕ). one_if (has_other (needs target) def.fields (asked_of.Named ns)) (WrongKind (start_of target)) ++ faults_of def params (asked_of.Named numbers) n target) e
          ∙ ap (λ (c : Bool). one_if c (WrongKind (start_of target)) ++ faults_of def params (asked_of.Named numbers) n target) h

      -- ---- ranges

      spells_range : (q r : ℕ) (o : OneName front names) (ts us vs : List Lexeme) (s : ℕ) (low high : Edge) → ts ≡ us ++ (vs ++ sign s signs.RangeClose ∷ []) → IsEdge params us low → IsEdge params vs high
          → Spells params Unary (before q ++ sign r signs.RangeOpen ∷ ts) (Named p names (Range r low high))
      spells_range q r o ts us vs s low high e d f =
          subst (λ (x : List Lexeme). Spells params Unary (before q ++ sign r signs.RangeOpen ∷ x) (Named p names (Range r low high))) (sym e)
          (subst (λ (x : List Lexeme). Spells params Unary ((sign p signs.At ∷ x ++ sign q signs.Colon ∷ []) ++ sign r signs.RangeOpen ∷ (us ++ (vs ++ sign s signs.RangeClose ∷ []))) (Named p names (Range r low high))) (sym o.front)
          (subst (λ (x : List Lexeme). Spells params Unary (sign p signs.At ∷ o.name ∷ sign q signs.Colon ∷ sign r signs.RangeOpen ∷ (us ++ (vs ++ sign s signs.RangeClose ∷ []))) (Named p x (Range r low high))) (sym o.is)
          (of_range p q r s o.name o.fits d f)))

      wrong_range : (q r field : ℕ) (ts : List Lexeme) → OneName front names → numbers ≡ field ∷ [] → has_other is_numeric def.fields (asked_of.Named (field ∷ [])) ≡ true
          → Goes def params end fields n p (Found (WrongKind r) ts) (before q ++ sign r signs.RangeOpen ∷ [])
      wrong_range q r field ts o e h = record {
        others = lexeme end (kinds.Raw (codes "inf")) ∷ lexeme end (kinds.Raw (codes "inf")) ∷ sign end signs.RangeClose ∷ [];
        form = Named p names (Range r (record { excluded = false; value = lexeme end (kinds.Raw (codes "inf")) }) (record { excluded = false; value = lexeme end (kinds.Raw (codes "inf")) }));
        spells = subst (λ (x : List Lexeme). Spells params Unary x (Named p names (Range r (record { excluded = false; value = lexeme end (kinds.Raw (codes "inf")) }) (record { excluded = false; value = lexeme end (kinds.Raw (codes "inf")) }))))
            (sym (append_assoc (before q) (sign r signs.RangeOpen ∷ []) (lexeme end (kinds.Raw (codes "inf")) ∷ lexeme end (kinds.Raw (codes "inf")) ∷ sign end signs.RangeClose ∷ [])))
            (spells_range q r o (lexeme end (kinds.Raw (codes "inf")) ∷ lexeme end (kinds.Raw (codes "inf")) ∷ sign end signs.RangeClose ∷ []) (lexeme end (kinds.Raw (codes "inf")) ∷ []) (lexeme end (kinds.Raw (codes "inf")) ∷ []) end
            (record { excluded = false; value = lexeme end (kinds.Raw (codes "inf")) }) (record { excluded = false; value = lexeme end (kinds.Raw (codes "inf")) }) refl
            (included (lexeme end (kinds.Raw (codes "inf"))) refl) (included (lexeme end (kinds.Raw (codes "inf"))) refl));
        late = (refl, (refl, (refl, tt)));
        holds = subst (λ (fs : List QueryFault). FirstIs (WrongKind r) fs) (sym (kind_is field (Range r (record { excluded = false; value = lexeme end (kinds.Raw (codes "inf")) }) (record { excluded = false; value = lexeme end (kinds.Raw (codes "inf")) })) true e h)) refl;
      }

      range_kind : (q r field : ℕ) (ts : List Lexeme) → OneName front names → numbers ≡ field ∷ [] → (b : Bool) → has_other is_numeric def.fields (asked_of.Named (field ∷ [])) ≡ b
          → Result def params end fields n p (before q ++ sign r signs.RangeOpen ∷ ts) (cond b (Err (Found (WrongKind r) ts)) (range_at def params field ts))
      range_kind q r field ts o e true h = record { front = before q ++ sign r signs.RangeOpen ∷ []; parts = sym (append_assoc (before q) (sign r signs.RangeOpen ∷ []) ts); leads = wrong_range q r field ts o e h }
      range_kind q r field ts o e false h = along (range_at def params field ts) (range_spelled def params end field ts)
        where
          along : (x : Read (List Query)) → Spelled (ReadRange def params end field) (LeadRange def params end) ts x → Result def params end fields n p (before q ++ sign r signs.RangeOpen ∷ ts) x
          along (Ok x) k = record {
            front = before q ++ sign r signs.RangeOpen ∷ k.front;
            parts = ap (λ (y : List Lexeme). before q ++ sign r signs.RangeOpen ∷ y) k.parts ∙ sym (append_assoc (before q) (sign r signs.RangeOpen ∷ k.front) x.1);
            is = record {
              form = Named p names (Range r k.is.low k.is.high);
              spells = spells_range q r o k.front k.is.us k.is.vs k.is.at k.is.low k.is.high k.is.parts k.is.lower k.is.upper;
              value = ap (λ (ns : List ℕ). parts_of def params (asked_of.Named ns) (Range r k.is.low k.is.high)) e ∙ sym k.is.value;
              clean = kind_is field (Range r k.is.low k.is.high) false e h ∙ k.is.clean;
            };
          }
          along (Err stop) k = record {
            front = before q ++ sign r signs.RangeOpen ∷ k.front;
            parts = ap (λ (y : List Lexeme). before q ++ sign r signs.RangeOpen ∷ y) k.parts ∙ sym (append_assoc (before q) (sign r signs.RangeOpen ∷ k.front) (rest_of stop));
            leads = record {
              others = k.leads.others;
              form = Named p names (Range r k.leads.low k.leads.high);
              spells = subst (λ (x : List Lexeme). Spells params Unary x (Named p names (Range r k.leads.low k.leads.high))) (sym (append_assoc (before q) (sign r signs.RangeOpen ∷ k.front) k.leads.others))
                  (spells_range q r o (k.front ++ k.leads.others) k.leads.us k.leads.vs k.leads.at k.leads.low k.leads.high k.leads.parts k.leads.lower k.leads.upper);
              late = k.leads.late;
              holds = subst (λ (fs : List QueryFault). asked end stop fs) (sym (kind_is field (Range r k.leads.low k.leads.high) false e h)) k.leads.holds;
            };
          }

      -- ---- tags

      spells_tags : (q r : ℕ) (o : OneName front names) (ts us : List Lexeme) (s : ℕ) → ts ≡ us ++ sign s signs.TagClose ∷ [] → AreTags def params end us
          → Spells params Unary (before q ++ sign r signs.TagOpen ∷ ts) (Named p names (Tags r us))
      spells_tags q r o ts us s e d =
          subst (λ (x : List Lexeme). Spells params Unary (before q ++ sign r signs.TagOpen ∷ x) (Named p names (Tags r us))) (sym e)
          (subst (λ (x : List Lexeme). Spells params Unary ((sign p signs.At ∷ x ++ sign q signs.Colon ∷ []) ++ sign r signs.TagOpen ∷ (us ++ sign s signs.TagClose ∷ [])) (Named p names (Tags r us))) (sym o.front)
          (subst (λ (x : List Lexeme). Spells params Unary (sign p signs.At ∷ o.name ∷ sign q signs.Colon ∷ sign r signs.TagOpen ∷ (us ++ sign s signs.TagClose ∷ [])) (Named p x (Tags r us))) (sym o.is)
          (of_tags p q r s o.name us o.fits d)))

      wrong_tags : (q r field : ℕ) (ts : List Lexeme) → OneName front names → numbers ≡ field ∷ [] → has_other is_tag_kind def.fields (asked_of.Named (field ∷ [])) ≡ true
          → Goes def params end fields n p (Found (WrongKind r) ts) (before q ++ sign r signs.TagOpen ∷ [])
      wrong_tags q r field ts o e h = record {
        others = sign end signs.TagClose ∷ [];
        form = Named p names (Tags r []);
        spells = subst (λ (x : List Lexeme). Spells params Unary x (Named p names (Tags r []))) (sym (append_assoc (before q) (sign r signs.TagOpen ∷ []) (sign end signs.TagClose ∷ [])))
            (spells_tags q r o (sign end signs.TagClose ∷ []) [] end refl refl);
        late = (refl, tt);
        holds = subst (λ (fs : List QueryFault). FirstIs (WrongKind r) fs) (sym (kind_is field (Tags r []) true e h)) refl;
      }

      tags_kind : (q r field : ℕ) (ts : List Lexeme) → OneName front names → numbers ≡ field ∷ [] → (b : Bool) → has_other is_tag_kind def.fields (asked_of.Named (field ∷ [])) ≡ b
          → Result def params end fields n p (before q ++ sign r signs.TagOpen ∷ ts)
          (cond b (Err (Found (WrongKind r) ts)) (tags_at def params (case_of (slice_get def.fields field)) [] ts >>= λ x. Ok (tree.Tags field x.0 ∷ [], x.1)))
      tags_kind q r field ts o e true h = record { front = before q ++ sign r signs.TagOpen ∷ []; parts = sym (append_assoc (before q) (sign r signs.TagOpen ∷ []) ts); leads = wrong_tags q r field ts o e h }
      tags_kind q r field ts o e false h =
          subst (λ (y : List Lexeme). Result def params end fields n p y (tags_at def params (case_of (slice_get def.fields field)) [] ts >>= λ x. Ok (tree.Tags field x.0 ∷ [], x.1))) (append_assoc (before q) (sign r signs.TagOpen ∷ []) ts)
          (map_spelled (ReadTags def params end (case_of (slice_get def.fields field)) []) (IsPart def params end fields (suc n) Unary) (LeadTags def params end) (LeadPart def params end fields (suc n) Unary)
          (before q ++ sign r signs.TagOpen ∷ []) ts (λ tags. tree.Tags field tags ∷ []) (tags_at def params (case_of (slice_get def.fields field)) [] ts) (tags_spelled def params end (case_of (slice_get def.fields field)) ts)
          (λ stop more l. record {
            others = l.others;
            form = Named p names (Tags r l.us);
            spells = subst (λ (x : List Lexeme). Spells params Unary x (Named p names (Tags r l.us))) (sym (append_assoc (before q ++ sign r signs.TagOpen ∷ []) more l.others ∙ append_assoc (before q) (sign r signs.TagOpen ∷ []) (more ++ l.others)))
                (spells_tags q r o (more ++ l.others) l.us l.at l.parts l.tags);
            late = l.late;
            holds = subst (λ (fs : List QueryFault). asked end stop fs) (sym (kind_is field (Tags r l.us) false e h)) l.holds;
          })
          (λ tags more t. record {
            form = Named p names (Tags r t.us);
            spells = subst (λ (x : List Lexeme). Spells params Unary x (Named p names (Tags r t.us))) (sym (append_assoc (before q) (sign r signs.TagOpen ∷ []) more)) (spells_tags q r o more t.us t.at t.parts t.tags);
            value = ap (λ (ns : List ℕ). parts_of def params (asked_of.Named ns) (Tags r t.us)) e ∙ ap (λ (ps : List TagPart). tree.Tags field ps ∷ []) (sym t.value);
            clean = kind_is field (Tags r t.us) false e h ∙ t.clean;
          }))

      -- ---- targets

      module _ (count : length numbers ≡ length names) (inner : Fields → Sort → Reader) (reads : (fields : Fields) (s : Sort) → Reads def params end fields n s (inner fields s)) where
        nothing_fits : (q : ℕ) (ts : List Lexeme) → Result def params end fields n p (before q ++ ts) (Err (Broken ts))
        nothing_fits q ts = no_target def params end fields n p front names spells clean inner reads q ts

        range_target_spelled : (q r : ℕ) (ts : List Lexeme) (ns : List ℕ) → numbers ≡ ns → Result def params end fields n p (before q ++ sign r signs.RangeOpen ∷ ts) (range_target def params ns (sign r signs.RangeOpen ∷ ts))
        range_target_spelled q r ts [] e = nothing_fits q (sign r signs.RangeOpen ∷ ts)
        range_target_spelled q r ts (field ∷ []) e = range_kind q r field ts (count_one field e count) e (has_other is_numeric def.fields (asked_of.Named (field ∷ []))) refl
        range_target_spelled q r ts (field ∷ x ∷ ns) e = nothing_fits q (sign r signs.RangeOpen ∷ ts)

        tags_target_spelled : (q r : ℕ) (ts : List Lexeme) (ns : List ℕ) → numbers ≡ ns → Result def params end fields n p (before q ++ sign r signs.TagOpen ∷ ts) (tags_target def params ns (sign r signs.TagOpen ∷ ts))
        tags_target_spelled q r ts [] e = nothing_fits q (sign r signs.TagOpen ∷ ts)
        tags_target_spelled q r ts (field ∷ []) e = tags_kind q r field ts (count_one field e count) e (has_other is_tag_kind def.fields (asked_of.Named (field ∷ []))) refl
        tags_target_spelled q r ts (field ∷ x ∷ ns) e = nothing_fits q (sign r signs.TagOpen ∷ ts)

        target_spelled : (q : ℕ) (ts : List Lexeme) (o : Option Sign) → next_sign ts ≡ o → Result def params end fields n p (before q ++ ts) (target_with def params inner numbers o ts)
        target_spelled q ts (Some signs.RangeOpen) e = subst (λ (x : List Lexeme). Result def params end fields n p (before q ++ x) (range_target def params numbers x)) (sym (sign_front ts signs.RangeOpen e))
            (range_target_spelled q (place_of 0 ts) (drop 1 ts) numbers refl)
        target_spelled q ts (Some signs.TagOpen) e = subst (λ (x : List Lexeme). Result def params end fields n p (before q ++ x) (tags_target def params numbers x)) (sym (sign_front ts signs.TagOpen e))
            (tags_target_spelled q (place_of 0 ts) (drop 1 ts) numbers refl)
        target_spelled q ts o e = part_target_spelled def params end fields n p front names spells clean inner reads q ts

        behind_names_spelled : (ts : List Lexeme) (o : Option Sign) → next_sign ts ≡ o → Result def params end fields n p ((sign p signs.At ∷ front) ++ ts) (behind_names def params inner numbers o ts)
        behind_names_spelled ts (Some signs.Colon) e =
            subst (λ (x : List Lexeme). Result def params end fields n p ((sign p signs.At ∷ front) ++ x) (target_with def params inner numbers (next_sign (drop 1 ts)) (drop 1 ts))) (sym (sign_front ts signs.Colon e))
            (subst (λ (x : List Lexeme). Result def params end fields n p (sign p signs.At ∷ x) (target_with def params inner numbers (next_sign (drop 1 ts)) (drop 1 ts))) (append_assoc front (sign (place_of 0 ts) signs.Colon ∷ []) (drop 1 ts))
            (target_spelled (place_of 0 ts) (drop 1 ts) (next_sign (drop 1 ts)) refl))
        behind_names_spelled ts o e = record { front = sign p signs.At ∷ front; parts = refl; leads = no_colon def params end fields n p front names spells clean ts }

  -- ---- signs

  field_spelled : (fields : Fields) (n : ℕ) (d : Deeper def params) → DeeperReads def params end n d → (p : ℕ) (ts : List Lexeme)
      → Spelled (IsPart def params end fields n Unary) (LeadPart def params end fields n Unary) (sign p signs.At ∷ ts) (field_at def params d p ts)
  field_spelled fields zero None h p ts = record {
    front = sign p signs.At ∷ [];
    parts = refl;
    leads = record {
      others = lexeme end (kinds.Word []) ∷ sign end signs.Colon ∷ lexeme end (kinds.Word []) ∷ [];
      form = Named p (lexeme end (kinds.Word []) ∷ []) (Single (lexeme end (kinds.Word [])));
      spells = of_field p end (last (lexeme end (kinds.Word [])) refl) (bare (by_itself (lexeme end (kinds.Word [])) refl));
      late = (refl, (refl, (refl, tt)));
      holds = refl;
    };
  }
  field_spelled fields (suc n) None h p ts = absurd h
  field_spelled fields zero (Some inner) h p ts = absurd h
  field_spelled fields (suc n) (Some inner) h p ts = bind_spelled (MoreNames def params end []) (IsPart def params end fields (suc n) Unary) (LeadNames def params end) (LeadPart def params end fields (suc n) Unary)
      (sign p signs.At ∷ []) ts (λ x. behind_names def params inner x.0 (next_sign x.1) x.1) (names_at def params [] ts) (names_spelled def params end ts) (names_lead def params end fields n p)
      (λ numbers front rest t.
      subst (λ (ns : List ℕ). Spelled (IsPart def params end fields (suc n) Unary) (LeadPart def params end fields (suc n) Unary) ((sign p signs.At ∷ front) ++ rest) (behind_names def params inner ns (next_sign rest) rest)) (sym (t.value ∙ t.names.value))
      (behind_names_spelled fields n p front t.names.names t.names.spells t.names.clean (sym (ap length t.names.value) ∙ t.names.count) inner h rest (next_sign rest) refl))

  -- a sign in front of a part, and the form that it makes
  module _ (s : Sign) (form : ℕ → Form → Form) (make : List Query → List Query)
      (spells : (p : ℕ) (ts : List Lexeme) (a : Form) → Spells params Unary ts a → Spells params Unary (sign p s ∷ ts) (form p a))
      (value : (fields : Fields) (p : ℕ) (a : Form) → parts_of def params fields (form p a) ≡ make (parts_of def params fields a))
      (faulty : (fields : Fields) (p : ℕ) (a : Form) → faults_of def params fields 0 (form p a) ≡ TooDeep p ∷ faults_of def params fields 0 a)
      (deep : (fields : Fields) (n p : ℕ) (a : Form) → faults_of def params fields (suc n) (form p a) ≡ faults_of def params fields n a) where
    signed_spelled : (fields : Fields) (n : ℕ) (d : Deeper def params) → DeeperReads def params end n d → (p : ℕ) (ts : List Lexeme)
        → Spelled (IsPart def params end fields n Unary) (LeadPart def params end fields n Unary) (sign p s ∷ ts) (signed_at def params make d fields p ts)
    signed_spelled fields zero None h p ts = record {
      front = sign p s ∷ [];
      parts = refl;
      leads = record {
        others = lexeme end (kinds.Word []) ∷ [];
        form = form p (Single (lexeme end (kinds.Word [])));
        spells = spells p (lexeme end (kinds.Word []) ∷ []) (Single (lexeme end (kinds.Word []))) (alone (bare (by_itself (lexeme end (kinds.Word [])) refl)));
        late = (refl, tt);
        holds = rw (faulty fields p (Single (lexeme end (kinds.Word [])))) refl;
      };
    }
    signed_spelled fields (suc n) None h p ts = absurd h
    signed_spelled fields zero (Some inner) h p ts = absurd h
    signed_spelled fields (suc n) (Some inner) h p ts = map_spelled (IsPart def params end fields n Unary) (IsPart def params end fields (suc n) Unary) (LeadPart def params end fields n Unary) (LeadPart def params end fields (suc n) Unary)
        (sign p s ∷ []) ts make (inner fields Unary ts) (h fields Unary ts)
        (λ stop front l. record { others = l.others; form = form p l.form; spells = spells p (front ++ l.others) l.form l.spells; late = l.late; holds = subst (λ (fs : List QueryFault). asked end stop fs) (sym (deep fields n p l.form)) l.holds })
        (λ qs front t. record { form = form p t.form; spells = spells p front t.form t.spells; value = value fields p t.form ∙ ap make t.value; clean = deep fields n p t.form ∙ t.clean })

  part_alone : (fields : Fields) (n : ℕ) (ts : List Lexeme) (r : Read (List Query)) → Spelled (IsPart def params end fields n Part) (LeadPart def params end fields n Part) ts r → Spelled (IsPart def params end fields n Unary) (LeadPart def params end fields n Unary) ts r
  part_alone fields n ts (Ok x) h = record { front = h.front; parts = h.parts; is = record { form = h.is.form; spells = alone h.is.spells; value = h.is.value; clean = h.is.clean } }
  part_alone fields n ts (Err stop) h = record { front = h.front; parts = h.parts; leads = record { others = h.leads.others; form = h.leads.form; spells = alone h.leads.spells; late = h.leads.late; holds = h.leads.holds } }

  unary_with_spelled : (fields : Fields) (n : ℕ) (d : Deeper def params) → DeeperReads def params end n d → (ts : List Lexeme) (o : Option Sign) → next_sign ts ≡ o
      → Spelled (IsPart def params end fields n Unary) (LeadPart def params end fields n Unary) ts (unary_with def params d fields o ts)
  unary_with_spelled fields n d h ts (Some signs.Minus) e = subst (λ (x : List Lexeme). Spelled (IsPart def params end fields n Unary) (LeadPart def params end fields n Unary) x (signed_at def params denied d fields (place_of 0 ts) (drop 1 ts))) (sym (sign_front ts signs.Minus e))
      (signed_spelled signs.Minus Denied denied (λ p ts a d. minus p d) (λ fields p a. refl) (λ fields p a. refl) (λ fields n p a. refl) fields n d h (place_of 0 ts) (drop 1 ts))
  unary_with_spelled fields n d h ts (Some signs.Tilde) e = subst (λ (x : List Lexeme). Spelled (IsPart def params end fields n Unary) (LeadPart def params end fields n Unary) x (signed_at def params optional d fields (place_of 0 ts) (drop 1 ts))) (sym (sign_front ts signs.Tilde e))
      (signed_spelled signs.Tilde OptionalForm optional (λ p ts a d. tilde p d) (λ fields p a. refl) (λ fields p a. refl) (λ fields n p a. refl) fields n d h (place_of 0 ts) (drop 1 ts))
  unary_with_spelled fields n d h ts (Some signs.At) e = subst (λ (x : List Lexeme). Spelled (IsPart def params end fields n Unary) (LeadPart def params end fields n Unary) x (field_at def params d (place_of 0 ts) (drop 1 ts))) (sym (sign_front ts signs.At e))
      (field_spelled fields n d h (place_of 0 ts) (drop 1 ts))
  unary_with_spelled fields n d h ts o e = part_alone fields n ts (part_at def params d fields ts) (part_spelled def params end fields n d h ts)

  unary_spelled : (fields : Fields) (n : ℕ) (d : Deeper def params) → DeeperReads def params end n d → Reads def params end fields n Unary (unary_at def params d fields)
  unfolding unary_at
  unary_spelled fields n d h ts = unary_with_spelled fields n d h ts (next_sign ts) refl

  sort_spelled : (fields : Fields) (n : ℕ) (d : Deeper def params) → DeeperReads def params end n d → (s : Sort) → Reads def params end fields n s (sort_at def params d fields s)
  sort_spelled fields n d h Atom = atom_spelled def params end fields n d h
  sort_spelled fields n d h Part = part_spelled def params end fields n d h
  sort_spelled fields n d h Unary = unary_spelled fields n d h
  sort_spelled fields n d h Inter = chain_spelled def params end fields n Parts (unary_at def params d fields) (unary_spelled fields n d h)
  sort_spelled fields n d h Union = chain_spelled def params end fields n Sides (sort_at def params d fields Inter) (chain_spelled def params end fields n Parts (unary_at def params d fields) (unary_spelled fields n d h))

  levels_spelled : (n : ℕ) → DeeperReads def params end n (deeper def params n)
  levels_spelled zero = tt
  levels_spelled (suc n) = λ fields s. sort_spelled fields n (deeper def params n) (levels_spelled n) s

  pub read_spelled : (fields : Fields) (n : ℕ) (s : Sort) → Reads def params end fields n s (sort_at def params (deeper def params n) fields s)
  read_spelled fields n s = sort_spelled fields n (deeper def params n) (levels_spelled n) s
