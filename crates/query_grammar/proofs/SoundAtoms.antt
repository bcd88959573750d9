-- Sound for parts by themselves, with their attributes.
use Rattle.std.proofs.Common.{◌≡◌, ℕ, zero, suc, List, [], ◌∷◌, ◌++◌, drop, Bool, true, false, cond, ◌&&◌, Option, Some, None, Ok, Err, refl, sym, ap, subst, ◌∙◌, append_assoc, append-nil}
use Rattle.std.specs.List.{flat_map}
use Rattle.ft_base.specs.declared.definition.IndexDef.{IndexDef}
use Rattle.ft_base.specs.declared.query.Fields.{Fields}
use Rattle.ft_base.specs.declared.query.Param.{Param}
use Rattle.ft_base.specs.declared.query.Query.{Query}
use Rattle.ft_base.specs.Reading.{◌>>=◌}
use Rattle.query_lex.specs.declared.lexeme.Lexeme.{Lexeme}
use Rattle.query_lex.specs.declared.lexeme.LexKind.{LexKind}
use Rattle.query_lex.specs.declared.lexeme.LexKind.TheVariants as kinds
use Rattle.query_lex.specs.declared.lexeme.Sign.{Sign}
use Rattle.query_lex.specs.declared.lexeme.Sign.TheVariants as signs
use Rattle.query_grammar.specs.declared.fault.QueryFault.{QueryFault}
use Rattle.query_grammar.specs.declared.fault.QueryFault.TheVariants.{OutOfScope}
use Rattle.query_grammar.specs.Answer.{place_of}
use Rattle.query_grammar.specs.Faults.{arrow_faults, attribute_faults, faults_at, faults_of, has_no_order, one_if, pair_faults}
use Rattle.query_grammar.specs.Form.{Form, Pair, Single, EmptyGroup, Group, With}
use Rattle.query_grammar.specs.Grammar.{Sort, Union, Part, Atom, Pairs, none, Spells, bare, attributed as with_attributes, single as by_itself, empty_group, group, is_atom, sign}
use Rattle.query_grammar.specs.Meaning.{any_of, atom_parts, attributed, is_quote, parts_of}
use Rattle.query_grammar.specs.Reading.{Stop, Broken, Read, Reader, Block, Closed, Open, Deeper, atom_at, atom_with, behind_arrow, behind_atom, broken_by, closed_with, comes, group_at, inside_at, is_quote_kind, next_sign, pairs_at, part_at, sign_in, single_at, unless, with_block}
use Rattle.query_grammar.proofs.Blocks.{Alike, BlockSpelled, Breaks, Closes, block_spelled}
use Rattle.query_grammar.proofs.Signs.{asked, late_append, lexeme, rest_of, sign_front}
use Rattle.query_grammar.proofs.Sound.{IsPart, LeadPart, Reads}
use Rattle.query_grammar.proofs.Targets.{Spelled, bind_spelled, unless_spelled}

module _ (def : IndexDef) (params : List Param) where
  -- a part that is one quote begins with it
  quote_kind : (t : Lexeme) (k : LexKind) → t.kind ≡ k → is_quote (Single (lexeme t.at k)) ≡ is_quote_kind def params k
  quote_kind t (kinds.Quote text) e = refl
  quote_kind t other e = refl

  pub atom_quote : {ts : List Lexeme} {a : Form} → Spells params Atom ts a → (rest : List Lexeme) → is_quote a ≡ comes (is_quote_kind def params) (ts ++ rest)
  atom_quote (by_itself t h) rest = quote_kind t t.kind refl
  atom_quote (empty_group p q) rest = refl
  atom_quote (group p q d) rest = refl

  pub attribute_faults_alike : (p : ℕ) (old new : List Pair) (left : List Query) → Alike def params old new → attribute_faults params p new left ≡ attribute_faults params p old left
  attribute_faults_alike p old new left h =
      ap (λ (b : Bool). one_if (b && has_no_order left) (OutOfScope p) ++ flat_map (pair_faults params) new) (sym h.1) ∙ ap (λ (fs : List QueryFault). arrow_faults p old left ++ fs) (sym h.0)

  module _ (end : ℕ) where
    abbrev pub DeeperReads : ℕ → Deeper def params → Type 0
    DeeperReads zero None = Unit {0}
    DeeperReads (suc n) None = ⊥
    DeeperReads zero (Some inner) = ⊥
    DeeperReads (suc n) (Some inner) = (fields : Fields) (s : Sort) → Reads def params end fields n s (inner fields s)

    pub leads_atom : (fields : Fields) (n : ℕ) (rest : List Lexeme) → LeadPart def params end fields n Atom (Broken rest) []
    leads_atom fields n rest = record { others = lexeme end (kinds.Word []) ∷ []; form = Single (lexeme end (kinds.Word [])); spells = by_itself (lexeme end (kinds.Word [])) refl; late = (refl, tt); holds = tt }

    single_spelled : (fields : Fields) (n : ℕ) (t : Lexeme) (ts : List Lexeme) → Spelled (IsPart def params end fields n Atom) (LeadPart def params end fields n Atom) (t ∷ ts) (single_at def params fields t ts)
    single_spelled fields n t ts = by_test (is_atom t.kind) refl
      where
        by_test : (b : Bool) → is_atom t.kind ≡ b → Spelled (IsPart def params end fields n Atom) (LeadPart def params end fields n Atom) (t ∷ ts)
            (cond b (unless (faults_at params t) ts (Ok (atom_parts def.stops.words params fields t.kind, ts))) (Err (Broken (t ∷ ts))))
        by_test true k = unless_spelled (IsPart def params end fields n Atom) (LeadPart def params end fields n Atom) (t ∷ []) ts (faults_at params t) (atom_parts def.stops.words params fields t.kind)
            (λ z. record { form = Single t; spells = by_itself t k; value = refl; clean = z })
            (λ f first. record { others = []; form = Single t; spells = by_itself t k; late = tt; holds = first })
        by_test false k = record { front = []; parts = refl; leads = leads_atom fields n (t ∷ ts) }

    -- ---- groups

    in_group : (fields : Fields) (n p : ℕ) (stop : Stop) (front : List Lexeme) → LeadPart def params end fields n Union stop front → LeadPart def params end fields (suc n) Atom stop (sign p signs.Open ∷ front)
    in_group fields n p stop front w = record {
      others = w.others ++ sign end signs.Close ∷ [];
      form = Group p w.form;
      spells = subst (λ (x : List Lexeme). Spells params Atom (sign p signs.Open ∷ x) (Group p w.form)) (append_assoc front w.others (sign end signs.Close ∷ [])) (group p end w.spells);
      late = late_append end w.others (sign end signs.Close ∷ []) w.late (refl, tt);
      holds = w.holds;
    }

    closed_spelled : (fields : Fields) (n p : ℕ) (front rest : List Lexeme) (qs : List Query) (o : Option Sign) → next_sign rest ≡ o → IsPart def params end fields n Union front qs
        → Spelled (IsPart def params end fields (suc n) Atom) (LeadPart def params end fields (suc n) Atom) ((sign p signs.Open ∷ front) ++ rest) (closed_with def params o qs rest)
    closed_spelled fields n p front rest qs (Some signs.Close) e h = record {
      front = sign p signs.Open ∷ front ++ sign (place_of 0 rest) signs.Close ∷ [];
      parts = ap (λ (x : List Lexeme). sign p signs.Open ∷ front ++ x) (sign_front rest signs.Close e) ∙ simp append_assoc;
      is = record { form = Group p h.form; spells = group p (place_of 0 rest) h.spells; value = ap any_of h.value; clean = h.clean };
    }
    closed_spelled fields n p front rest qs o e h = record {
      front = sign p signs.Open ∷ front;
      parts = refl;
      leads = in_group fields n p (Broken rest) front (record { others = []; form = h.form; spells = rw (append-nil front) h.spells; late = tt; holds = rw h.clean tt });
    }

    inside_spelled : (fields : Fields) (n p : ℕ) (inner : Fields → Sort → Reader) → ((fields : Fields) (s : Sort) → Reads def params end fields n s (inner fields s)) → (ts : List Lexeme) (o : Option Sign) → next_sign ts ≡ o
        → Spelled (IsPart def params end fields (suc n) Atom) (LeadPart def params end fields (suc n) Atom) (sign p signs.Open ∷ ts) (inside_at def params inner fields o ts)
    inside_spelled fields n p inner h ts (Some signs.Close) e = record {
      front = sign p signs.Open ∷ sign (place_of 0 ts) signs.Close ∷ [];
      parts = ap (λ (x : List Lexeme). sign p signs.Open ∷ x) (sign_front ts signs.Close e);
      is = record { form = EmptyGroup p; spells = empty_group p (place_of 0 ts); value = refl; clean = refl };
    }
    inside_spelled fields n p inner h ts o e = bind_spelled (IsPart def params end fields n Union) (IsPart def params end fields (suc n) Atom) (LeadPart def params end fields n Union) (LeadPart def params end fields (suc n) Atom)
        (sign p signs.Open ∷ []) ts (λ x. closed_with def params (next_sign x.1) x.0 x.1) (inner fields Union ts) (h fields Union ts) (in_group fields n p)
        (λ qs front rest t. closed_spelled fields n p front rest qs (next_sign rest) refl t)

    group_spelled : (fields : Fields) (n : ℕ) (d : Deeper def params) → DeeperReads n d → (p : ℕ) (ts : List Lexeme)
        → Spelled (IsPart def params end fields n Atom) (LeadPart def params end fields n Atom) (sign p signs.Open ∷ ts) (group_at def params d fields p ts)
    group_spelled fields zero None h p ts = record {
      front = sign p signs.Open ∷ [];
      parts = refl;
      leads = record { others = sign end signs.Close ∷ []; form = EmptyGroup p; spells = empty_group p end; late = (refl, tt); holds = refl };
    }
    group_spelled fields (suc n) None h p ts = absurd h
    group_spelled fields zero (Some inner) h p ts = absurd h
    group_spelled fields (suc n) (Some inner) h p ts = inside_spelled fields n p inner h ts (next_sign ts) refl

    atom_with_spelled : (fields : Fields) (n : ℕ) (d : Deeper def params) → DeeperReads n d → (t : Lexeme) (ts : List Lexeme) (o : Option Sign) → next_sign (t ∷ ts) ≡ o
        → Spelled (IsPart def params end fields n Atom) (LeadPart def params end fields n Atom) (t ∷ ts) (atom_with def params d fields o t ts)
    atom_with_spelled fields n d h t ts (Some signs.Open) e =
        subst (λ (x : List Lexeme). Spelled (IsPart def params end fields n Atom) (LeadPart def params end fields n Atom) x (group_at def params d fields t.at ts)) (sym (sign_front (t ∷ ts) signs.Open e)) (group_spelled fields n d h t.at ts)
    atom_with_spelled fields n d h t ts o e = single_spelled fields n t ts

    pub atom_spelled : (fields : Fields) (n : ℕ) (d : Deeper def params) → DeeperReads n d → Reads def params end fields n Atom (atom_at def params d fields)
    unfolding atom_at
    atom_spelled fields n d h [] = record { front = []; parts = refl; leads = leads_atom fields n [] }
    atom_spelled fields n d h (t ∷ ts) = atom_with_spelled fields n d h t ts (sign_in t.kind) refl

    -- ---- attributes

    module _ (fields : Fields) (n : ℕ) (front : List Lexeme) (a : Form) (spells : Spells params Atom front a) (clean : faults_of def params fields n a ≡ []) where
      abbrev Result : List Lexeme → Read (List Query) → Type 0
      Result ts r = Spelled (IsPart def params end fields n Part) (LeadPart def params end fields n Part) ts r

      abbrev left : List Query
      left = parts_of def params fields a

      spells_with : (p q r : ℕ) (us : List Lexeme) (pairs : List Pair) → Pairs params [] us pairs → Spells params Part ((front ++ sign p signs.Arrow ∷ sign q signs.AttrOpen ∷ us) ++ sign r signs.AttrClose ∷ []) (With a p pairs)
      spells_with p q r us pairs d = subst (λ (x : List Lexeme). Spells params Part x (With a p pairs)) (simp append_assoc) (with_attributes p q r spells d)

      closed_block : (p q : ℕ) (ts rest : List Lexeme) (pairs : List Pair) → Closes def params [] [] ts pairs rest
          → Result (front ++ sign p signs.Arrow ∷ sign q signs.AttrOpen ∷ ts) (unless (attribute_faults params p pairs left) rest (Ok (attributed params (is_quote a) pairs left, rest)))
      closed_block p q ts rest pairs h =
          subst (λ (x : List Lexeme). Result (front ++ sign p signs.Arrow ∷ sign q signs.AttrOpen ∷ x) (unless (attribute_faults params p pairs left) rest (Ok (attributed params (is_quote a) pairs left, rest)))) (sym h.parts)
          (subst (λ (ps : List Pair). Result (front ++ sign p signs.Arrow ∷ sign q signs.AttrOpen ∷ (h.front ++ sign h.at signs.AttrClose ∷ rest)) (unless (attribute_faults params p ps left) rest (Ok (attributed params (is_quote a) ps left, rest)))) (sym h.is)
          (subst (λ (x : List Lexeme). Result x (unless (attribute_faults params p h.new left) rest (Ok (attributed params (is_quote a) h.new left, rest)))) whole
          (unless_spelled (IsPart def params end fields n Part) (LeadPart def params end fields n Part) ((front ++ sign p signs.Arrow ∷ sign q signs.AttrOpen ∷ h.front) ++ sign h.at signs.AttrClose ∷ []) rest
          (attribute_faults params p h.new left) (attributed params (is_quote a) h.new left)
          (λ z. record { form = With a p h.new; spells = spells_with p q h.at h.front h.new h.spells; value = refl; clean = rw clean z })
          (λ f first. record { others = []; form = With a p h.new; spells = rw (append-nil ((front ++ sign p signs.Arrow ∷ sign q signs.AttrOpen ∷ h.front) ++ sign h.at signs.AttrClose ∷ [])) (spells_with p q h.at h.front h.new h.spells); late = tt; holds = rw clean first }))))
        where
          whole : ((front ++ sign p signs.Arrow ∷ sign q signs.AttrOpen ∷ h.front) ++ sign h.at signs.AttrClose ∷ []) ++ rest ≡ front ++ sign p signs.Arrow ∷ sign q signs.AttrOpen ∷ (h.front ++ sign h.at signs.AttrClose ∷ rest)
          whole = simp append_assoc

      open_block : (p q : ℕ) (ts rest : List Lexeme) (pairs : List Pair) (fs : List QueryFault) → attribute_faults params p pairs left ≡ fs → Breaks def params end [] [] ts pairs rest
          → Result (front ++ sign p signs.Arrow ∷ sign q signs.AttrOpen ∷ ts) (Err (broken_by def params fs rest))
      open_block p q ts rest pairs fs e h = record {
        front = front ++ sign p signs.Arrow ∷ sign q signs.AttrOpen ∷ h.front;
        parts = ap (λ (x : List Lexeme). front ++ sign p signs.Arrow ∷ sign q signs.AttrOpen ∷ x) h.parts ∙ (ap (λ (x : List Lexeme). front ++ sign p signs.Arrow ∷ sign q signs.AttrOpen ∷ (h.front ++ x)) (sym (rest_is fs)) ∙ simp append_assoc);
        leads = record {
          others = h.others ++ sign end signs.AttrClose ∷ [];
          form = With a p h.new;
          spells = subst (λ (x : List Lexeme). Spells params Part x (With a p h.new)) (simp append_assoc) (spells_with p q end (h.front ++ h.others) h.new h.spells);
          late = late_append end h.others (sign end signs.AttrClose ∷ []) h.late (refl, tt);
          holds = rw clean (subst (λ (gs : List QueryFault). asked end (broken_by def params fs rest) gs) (sym same) (at_stop fs));
        };
      }
        where
          rest_is : (gs : List QueryFault) → rest_of (broken_by def params gs rest) ≡ rest
          rest_is [] = refl
          rest_is (g ∷ gs) = refl

          at_stop : (gs : List QueryFault) → asked end (broken_by def params gs rest) gs
          at_stop [] = tt
          at_stop (g ∷ gs) = refl

          same : attribute_faults params p h.new left ≡ fs
          same = attribute_faults_alike p h.old h.new left h.alike ∙ (ap (λ (ps : List Pair). attribute_faults params p ps left) (sym h.is) ∙ e)

      with_block_spelled : (p q : ℕ) (ts : List Lexeme) (block : Block def params) → BlockSpelled def params end [] [] ts block
          → Result (front ++ sign p signs.Arrow ∷ sign q signs.AttrOpen ∷ ts) (with_block def params p (is_quote a) left block)
      with_block_spelled p q ts (Closed pairs rest) h = closed_block p q ts rest pairs h
      with_block_spelled p q ts (Open pairs rest) h = open_block p q ts rest pairs (attribute_faults params p pairs left) refl h

      arrow_spelled : (p : ℕ) (ts : List Lexeme) (o : Option Sign) → next_sign ts ≡ o → Result (front ++ sign p signs.Arrow ∷ ts) (behind_arrow def params p (is_quote a) left o ts)
      arrow_spelled p ts (Some signs.AttrOpen) e =
          subst (λ (x : List Lexeme). Result (front ++ sign p signs.Arrow ∷ x) (with_block def params p (is_quote a) left (pairs_at def params [] (drop 1 ts)))) (sym (sign_front ts signs.AttrOpen e))
          (with_block_spelled p (place_of 0 ts) (drop 1 ts) (pairs_at def params [] (drop 1 ts)) (block_spelled def params end (drop 1 ts)))
      arrow_spelled p ts o e = record {
        front = front ++ sign p signs.Arrow ∷ [];
        parts = simp append_assoc;
        leads = record {
          others = sign end signs.AttrOpen ∷ sign end signs.AttrClose ∷ [];
          form = With a p [];
          spells = subst (λ (x : List Lexeme). Spells params Part x (With a p [])) (simp append_assoc) (spells_with p end end [] [] (none []));
          late = (refl, (refl, tt));
          holds = rw clean tt;
        };
      }

      behind_atom_spelled : (ts : List Lexeme) (o : Option Sign) → next_sign ts ≡ o → Result (front ++ ts) (behind_atom def params (is_quote a) left o ts)
      behind_atom_spelled ts (Some signs.Arrow) e =
          subst (λ (x : List Lexeme). Result (front ++ x) (behind_arrow def params (place_of 0 ts) (is_quote a) left (next_sign (drop 1 ts)) (drop 1 ts))) (sym (sign_front ts signs.Arrow e))
          (arrow_spelled (place_of 0 ts) (drop 1 ts) (next_sign (drop 1 ts)) refl)
      behind_atom_spelled ts o e = record { front = front; parts = refl; is = record { form = a; spells = bare spells; value = refl; clean = clean } }

    atom_leads_part : (fields : Fields) (n : ℕ) (stop : Stop) (front : List Lexeme) → LeadPart def params end fields n Atom stop front → LeadPart def params end fields n Part stop front
    atom_leads_part fields n stop front l = record { others = l.others; form = l.form; spells = bare l.spells; late = l.late; holds = l.holds }

    pub part_spelled : (fields : Fields) (n : ℕ) (d : Deeper def params) → DeeperReads n d → Reads def params end fields n Part (part_at def params d fields)
    unfolding part_at
    part_spelled fields n d h ts = along (atom_at def params d fields ts) (atom_spelled fields n d h ts)
      where
        along : (r : Read (List Query)) → Spelled (IsPart def params end fields n Atom) (LeadPart def params end fields n Atom) ts r
            → Spelled (IsPart def params end fields n Part) (LeadPart def params end fields n Part) ts (r >>= λ x. behind_atom def params (comes (is_quote_kind def params) ts) x.0 (next_sign x.1) x.1)
        along (Err stop) k = record { front = k.front; parts = k.parts; leads = atom_leads_part fields n stop k.front k.leads }
        along (Ok x) k =
            let quote : is_quote k.is.form ≡ comes (is_quote_kind def params) ts = atom_quote k.is.spells x.1 ∙ ap (λ (y : List Lexeme). comes (is_quote_kind def params) y) (sym k.parts) in
            subst (λ (b : Bool). Spelled (IsPart def params end fields n Part) (LeadPart def params end fields n Part) ts (behind_atom def params b x.0 (next_sign x.1) x.1)) quote
            (subst (λ (qs : List Query). Spelled (IsPart def params end fields n Part) (LeadPart def params end fields n Part) ts (behind_atom def params (is_quote k.is.form) qs (next_sign x.1) x.1)) k.is.value
            (subst (λ (y : List Lexeme). Spelled (IsPart def params end fields n Part) (LeadPart def params end fields n Part) y (behind_atom def params (is_quote k.is.form) (parts_of def params fields k.is.form) (next_sign x.1) x.1)) (sym k.parts)
            (behind_atom_spelled fields n k.front k.is.form k.is.spells k.is.clean x.1 (next_sign x.1) refl)))
