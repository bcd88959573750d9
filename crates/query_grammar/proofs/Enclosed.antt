-- What stands in brackets or braces behind a field: what is read of it is spelled.
use Rattle.std.proofs.Common.{◌≡◌, ℕ, zero, suc, List, [], ◌∷◌, ◌++◌, length, map, drop, Bool, true, false, cond, IsTrue, Option, Some, Ok, Err, refl, sym, ap, subst, ◌∙◌, append_assoc, append-nil}
use Rattle.std.specs.List.{flat_map, list_all}
use Rattle.std.specs.Prelude.{codes}
use Rattle.ft_base.specs.declared.definition.IndexDef.{IndexDef}
use Rattle.ft_base.specs.declared.query.Param.{Param}
use Rattle.ft_base.specs.declared.query.Query.{Query}
use Rattle.ft_base.specs.declared.query.TagPart.{TagPart}
use Rattle.ft_base.specs.Reading.{◌>>=◌}
use Rattle.query_lex.specs.declared.lexeme.Lexeme.{Lexeme}
use Rattle.query_lex.specs.declared.lexeme.LexKind.TheVariants as kinds
use Rattle.query_lex.specs.declared.lexeme.Sign.{Sign}
use Rattle.query_lex.specs.declared.lexeme.Sign.TheVariants as signs
use Rattle.query_grammar.specs.declared.fault.QueryFault.{QueryFault}
use Rattle.query_grammar.specs.Answer.{place_of}
use Rattle.query_grammar.specs.Faults.{faults_at}
use Rattle.query_grammar.specs.Form.{Edge}
use Rattle.query_grammar.specs.Grammar.{IsEdge, included, excluded, is_edge, is_tag, sign}
use Rattle.query_grammar.specs.Meaning.{tag_part}
use Rattle.query_grammar.specs.Reading.{Stop, Broken, Read, closed_range, edge_at, edge_with, next_sign, range_at, range_by, tag_with, tags_at, tags_in, tags_with, unless, value_at}
use Rattle.query_grammar.proofs.Signs.{Late, asked, asked_more, late_append, lexeme, rest_of, sign_front}
use Rattle.query_grammar.proofs.Targets.{Spelled, bind_spelled, unless_spelled}

-- what is read behind other lexemes
pub behind_spelled : {A : Type 0} (T : List Lexeme → A → Type 0) (L : Stop → List Lexeme → Type 0) (before ts : List Lexeme) (r : Read A)
    → Spelled (λ front x. T (before ++ front) x) (λ stop front. L stop (before ++ front)) ts r → Spelled T L (before ++ ts) r
behind_spelled T L before ts (Ok x) h = record { front = before ++ h.front; parts = ap (λ (y : List Lexeme). before ++ y) h.parts ∙ sym (append_assoc before h.front x.1); is = h.is }
behind_spelled T L before ts (Err stop) h = record { front = before ++ h.front; parts = ap (λ (y : List Lexeme). before ++ y) h.parts ∙ sym (append_assoc before h.front (rest_of stop)); leads = h.leads }

module _ (def : IndexDef) (params : List Param) (end : ℕ) where
  pub record ReadEdge (front : List Lexeme) (edge : Edge) : Type 0 where
    pub spells : IsEdge params front edge
    pub clean : faults_at params edge.value ≡ []

  pub record LeadEdge (stop : Stop) (front : List Lexeme) : Type 0 where
    pub others : List Lexeme
    pub edge : Edge
    pub spells : IsEdge params (front ++ others) edge
    pub late : Late end others
    pub holds : asked end stop (faults_at params edge.value)

  inf_fits : is_edge params (kinds.Raw (codes "inf")) ≡ true
  inf_fits = refl

  abbrev Ends : Bool → List Lexeme → Type 0
  Ends b before = (t : Lexeme) → IsTrue (is_edge params t.kind) → IsEdge params (before ++ t ∷ []) (record { excluded = b; value = t })

  leads_value : (b : Bool) (before rest : List Lexeme) → Ends b before → LeadEdge (Broken rest) (before ++ [])
  leads_value b before rest h = record {
    others = lexeme end (kinds.Raw (codes "inf")) ∷ [];
    edge = record { excluded = b; value = lexeme end (kinds.Raw (codes "inf")) };
    spells = rw (append-nil before) (h (lexeme end (kinds.Raw (codes "inf"))) inf_fits);
    late = (refl, tt);
    holds = tt;
  }

  value_spelled : (b : Bool) (before : List Lexeme) → Ends b before → (ts : List Lexeme)
      → Spelled (λ front x. ReadEdge (before ++ front) x) (λ stop front. LeadEdge stop (before ++ front)) ts (value_at def params b ts)
  unfolding value_at
  value_spelled b before h [] = record { front = []; parts = refl; leads = leads_value b before [] h }
  value_spelled b before h (t ∷ ts) = by_test (is_edge params t.kind) refl
    where
      by_test : (c : Bool) → is_edge params t.kind ≡ c
          → Spelled (λ front x. ReadEdge (before ++ front) x) (λ stop front. LeadEdge stop (before ++ front)) (t ∷ ts) (cond c (unless (faults_at params t) ts (Ok (record { excluded = b; value = t }, ts))) (Err (Broken (t ∷ ts))))
      by_test true k = unless_spelled (λ front x. ReadEdge (before ++ front) x) (λ stop front. LeadEdge stop (before ++ front)) (t ∷ []) ts (faults_at params t) (record { excluded = b; value = t })
          (λ z. record { spells = h t k; clean = z })
          (λ f first. record { others = []; edge = record { excluded = b; value = t }; spells = rw (append-nil (before ++ t ∷ [])) (h t k); late = tt; holds = first })
      by_test false k = record { front = []; parts = refl; leads = leads_value b before (t ∷ ts) h }

  edge_with_spelled : (ts : List Lexeme) (o : Option Sign) → next_sign ts ≡ o → Spelled ReadEdge LeadEdge ts (edge_with def params o ts)
  edge_with_spelled ts (Some signs.Open) e = subst (λ (x : List Lexeme). Spelled ReadEdge LeadEdge x (value_at def params true (drop 1 ts))) (sym (sign_front ts signs.Open e))
      (behind_spelled ReadEdge LeadEdge (sign (place_of 0 ts) signs.Open ∷ []) (drop 1 ts) (value_at def params true (drop 1 ts))
      (value_spelled true (sign (place_of 0 ts) signs.Open ∷ []) (λ t h. excluded (place_of 0 ts) t h) (drop 1 ts)))
  edge_with_spelled ts o e = value_spelled false [] (λ t h. included t h) ts

  pub edge_spelled : (ts : List Lexeme) → Spelled ReadEdge LeadEdge ts (edge_at def params ts)
  edge_spelled ts = edge_with_spelled ts (next_sign ts) refl

  -- ---- ranges

  pub record ReadRange (field : ℕ) (front : List Lexeme) (qs : List Query) : Type 0 where
    pub us : List Lexeme
    pub vs : List Lexeme
    pub at : ℕ
    pub low : Edge
    pub high : Edge
    pub parts : front ≡ us ++ (vs ++ sign at signs.RangeClose ∷ [])
    pub lower : IsEdge params us low
    pub upper : IsEdge params vs high
    pub value : qs ≡ range_by def params field low high ∷ []
    pub clean : faults_at params low.value ++ faults_at params high.value ≡ []

  pub record LeadRange (stop : Stop) (front : List Lexeme) : Type 0 where
    pub others : List Lexeme
    pub us : List Lexeme
    pub vs : List Lexeme
    pub at : ℕ
    pub low : Edge
    pub high : Edge
    pub parts : front ++ others ≡ us ++ (vs ++ sign at signs.RangeClose ∷ [])
    pub lower : IsEdge params us low
    pub upper : IsEdge params vs high
    pub late : Late end others
    pub holds : asked end stop (faults_at params low.value ++ faults_at params high.value)

  low_leads : (stop : Stop) (front : List Lexeme) → LeadEdge stop front → LeadRange stop front
  low_leads stop front l = record {
    others = l.others ++ lexeme end (kinds.Raw (codes "inf")) ∷ sign end signs.RangeClose ∷ [];
    us = front ++ l.others;
    vs = lexeme end (kinds.Raw (codes "inf")) ∷ [];
    at = end;
    low = l.edge;
    high = record { excluded = false; value = lexeme end (kinds.Raw (codes "inf")) };
    parts = sym (append_assoc front l.others (lexeme end (kinds.Raw (codes "inf")) ∷ sign end signs.RangeClose ∷ []));
    lower = l.spells;
    upper = included (lexeme end (kinds.Raw (codes "inf"))) inf_fits;
    late = late_append end l.others (lexeme end (kinds.Raw (codes "inf")) ∷ sign end signs.RangeClose ∷ []) l.late (refl, (refl, tt));
    holds = asked_more end stop (faults_at params l.edge.value) [] l.holds tt;
  }

  high_leads : (us : List Lexeme) (low : Edge) → ReadEdge us low → (stop : Stop) (front : List Lexeme) → LeadEdge stop front → LeadRange stop (us ++ front)
  high_leads us low h stop front l = record {
    others = l.others ++ sign end signs.RangeClose ∷ [];
    us = us;
    vs = front ++ l.others;
    at = end;
    low = low;
    high = l.edge;
    parts = append_assoc us front (l.others ++ sign end signs.RangeClose ∷ []) ∙ ap (λ (x : List Lexeme). us ++ x) (sym (append_assoc front l.others (sign end signs.RangeClose ∷ [])));
    lower = h.spells;
    upper = l.spells;
    late = late_append end l.others (sign end signs.RangeClose ∷ []) l.late (refl, tt);
    holds = rw h.clean l.holds;
  }

  closed_spelled : (field : ℕ) (us vs rest : List Lexeme) (low high : Edge) → ReadEdge us low → ReadEdge vs high → (o : Option Sign) → next_sign rest ≡ o
      → Spelled (ReadRange field) LeadRange ((us ++ vs) ++ rest) (closed_range def params field low high o rest)
  closed_spelled field us vs rest low high h k (Some signs.RangeClose) e = record {
    front = us ++ (vs ++ sign (place_of 0 rest) signs.RangeClose ∷ []);
    parts = ap (λ (x : List Lexeme). (us ++ vs) ++ x) (sign_front rest signs.RangeClose e) ∙ simp append_assoc;
    is = record { us = us; vs = vs; at = place_of 0 rest; low = low; high = high; parts = refl; lower = h.spells; upper = k.spells; value = refl; clean = rw (h.clean, k.clean) refl };
  }
  closed_spelled field us vs rest low high h k o e = record {
    front = us ++ vs;
    parts = refl;
    leads = record {
      others = sign end signs.RangeClose ∷ [];
      us = us;
      vs = vs;
      at = end;
      low = low;
      high = high;
      parts = append_assoc us vs (sign end signs.RangeClose ∷ []);
      lower = h.spells;
      upper = k.spells;
      late = (refl, tt);
      holds = rw (h.clean, k.clean) tt;
    };
  }

  pub range_spelled : (field : ℕ) (ts : List Lexeme) → Spelled (ReadRange field) LeadRange ts (range_at def params field ts)
  unfolding range_at
  range_spelled field ts = bind_spelled ReadEdge (ReadRange field) LeadEdge LeadRange [] ts
      (λ low. edge_at def params low.1 >>= λ high. closed_range def params field low.0 high.0 (next_sign high.1) high.1) (edge_at def params ts) (edge_spelled ts) low_leads
      (λ low us rest h. bind_spelled ReadEdge (ReadRange field) LeadEdge LeadRange us rest
      (λ high. closed_range def params field low high.0 (next_sign high.1) high.1) (edge_at def params rest) (edge_spelled rest) (high_leads us low h)
      (λ high vs more k. closed_spelled field us vs more low high h k (next_sign more) refl))

  -- ---- tags

  abbrev pub AreTags : List Lexeme → Type 0
  AreTags us = IsTrue (list_all (λ (u : Lexeme). is_tag u.kind) us)

  abbrev pub tag_faults : List Lexeme → List QueryFault
  tag_faults us = flat_map (faults_at params) us

  pub record ReadTags (case : Bool) (before : List TagPart) (front : List Lexeme) (given : List TagPart) : Type 0 where
    pub us : List Lexeme
    pub at : ℕ
    pub parts : front ≡ us ++ sign at signs.TagClose ∷ []
    pub tags : AreTags us
    pub value : given ≡ before ++ map (λ (t : Lexeme). tag_part params case t.kind) us
    pub clean : tag_faults us ≡ []

  pub record LeadTags (stop : Stop) (front : List Lexeme) : Type 0 where
    pub others : List Lexeme
    pub us : List Lexeme
    pub at : ℕ
    pub parts : front ++ others ≡ us ++ sign at signs.TagClose ∷ []
    pub tags : AreTags us
    pub late : Late end others
    pub holds : asked end stop (tag_faults us)

  leads_here : (rest : List Lexeme) → LeadTags (Broken rest) []
  leads_here rest = record { others = sign end signs.TagClose ∷ []; us = []; at = end; parts = refl; tags = refl; late = (refl, tt); holds = tt }

  abbrev TagsFollow : Bool → (List TagPart → List Lexeme → Read (List TagPart)) → Type 0
  TagsFollow case others = (before : List TagPart) (ts : List Lexeme) → Spelled (ReadTags case before) LeadTags ts (others before ts)

  all_tags : (t : Lexeme) (us : List Lexeme) → is_tag t.kind ≡ true → AreTags us → AreTags (t ∷ us)
  all_tags t us h k = rw h k

  module _ (case : Bool) (others : List TagPart → List Lexeme → Read (List TagPart)) (ih : TagsFollow case others) where
    tag_read : (before : List TagPart) (t : Lexeme) (ts : List Lexeme) → is_tag t.kind ≡ true → (fs : List QueryFault) → faults_at params t ≡ fs
        → Spelled (ReadTags case before) LeadTags (t ∷ ts) (unless fs ts (others (before ++ tag_part params case t.kind ∷ []) ts))
    tag_read before t ts h [] z = along (others (before ++ tag_part params case t.kind ∷ []) ts) (ih (before ++ tag_part params case t.kind ∷ []) ts)
      where
        along : (r : Read (List TagPart)) → Spelled (ReadTags case (before ++ tag_part params case t.kind ∷ [])) LeadTags ts r → Spelled (ReadTags case before) LeadTags (t ∷ ts) r
        along (Ok x) k = record {
          front = t ∷ k.front;
          parts = ap (λ (y : List Lexeme). t ∷ y) k.parts;
          is = record {
            us = t ∷ k.is.us;
            at = k.is.at;
            parts = ap (λ (y : List Lexeme). t ∷ y) k.is.parts;
            tags = all_tags t k.is.us h k.is.tags;
            value = k.is.value ∙ append_assoc before (tag_part params case t.kind ∷ []) (map (λ (t : Lexeme). tag_part params case t.kind) k.is.us);
            clean = rw z k.is.clean;
          };
        }
        along (Err stop) k = record {
          front = t ∷ k.front;
          parts = ap (λ (y : List Lexeme). t ∷ y) k.parts;
          leads = record {
            others = k.leads.others;
            us = t ∷ k.leads.us;
            at = k.leads.at;
            parts = ap (λ (y : List Lexeme). t ∷ y) k.leads.parts;
            tags = all_tags t k.leads.us h k.leads.tags;
            late = k.leads.late;
            holds = rw z k.leads.holds;
          };
        }
    tag_read before t ts h (f ∷ fs) z = record {
      front = t ∷ [];
      parts = refl;
      leads = record { others = sign end signs.TagClose ∷ []; us = t ∷ []; at = end; parts = refl; tags = all_tags t [] h refl; late = (refl, tt); holds = rw z refl };
    }

    tag_spelled : (before : List TagPart) (ts : List Lexeme) → Spelled (ReadTags case before) LeadTags ts (tag_with def params others case before ts)
    tag_spelled before [] = record { front = []; parts = refl; leads = leads_here [] }
    tag_spelled before (t ∷ ts) = by_test (is_tag t.kind) refl
      where
        by_test : (b : Bool) → is_tag t.kind ≡ b
            → Spelled (ReadTags case before) LeadTags (t ∷ ts) (cond b (unless (faults_at params t) ts (others (before ++ tag_part params case t.kind ∷ []) ts)) (Err (Broken (t ∷ ts))))
        by_test true k = tag_read before t ts k (faults_at params t) refl
        by_test false k = record { front = []; parts = refl; leads = leads_here (t ∷ ts) }

    tags_with_spelled : (before : List TagPart) (ts : List Lexeme) (o : Option Sign) → next_sign ts ≡ o → Spelled (ReadTags case before) LeadTags ts (tags_with def params others case before o ts)
    tags_with_spelled before ts (Some signs.TagClose) e = record {
      front = sign (place_of 0 ts) signs.TagClose ∷ [];
      parts = sign_front ts signs.TagClose e;
      is = record { us = []; at = place_of 0 ts; parts = refl; tags = refl; value = sym (append-nil before); clean = refl };
    }
    tags_with_spelled before ts o e = tag_spelled before ts

  tags_in_spelled : (case : Bool) (n : ℕ) → TagsFollow case (tags_in def params case n)
  tags_in_spelled case zero before ts = record { front = []; parts = refl; leads = leads_here ts }
  tags_in_spelled case (suc n) before ts = tags_with_spelled case (λ parts us. tags_in def params case n parts us) (tags_in_spelled case n) before ts (next_sign ts) refl

  pub tags_spelled : (case : Bool) (ts : List Lexeme) → Spelled (ReadTags case []) LeadTags ts (tags_at def params case [] ts)
  unfolding tags_at
  tags_spelled case ts = tags_in_spelled case (suc (length ts)) [] ts
