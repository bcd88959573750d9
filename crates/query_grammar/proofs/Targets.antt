-- The names of a field, and what stands in brackets or braces: what is read of them is spelled.
use Rattle.std.proofs.Common.{◌≡◌, ℕ, zero, suc, List, [], ◌∷◌, ◌++◌, length, drop, Bool, true, false, cond, IsTrue, Option, Some, None, Ok, Err, refl, sym, ap, subst, ◌∙◌, append_assoc, is_none}
use Rattle.std.specs.List.{flat_map, filter_map}
use Rattle.ft_base.specs.declared.definition.IndexDef.{IndexDef}
use Rattle.ft_base.specs.declared.query.Param.{Param}
use Rattle.ft_base.specs.Reading.{◌>>=◌}
use Rattle.query_lex.specs.declared.lexeme.Lexeme.{Lexeme}
use Rattle.query_lex.specs.declared.lexeme.LexKind.TheVariants as kinds
use Rattle.query_lex.specs.declared.lexeme.Sign.{Sign}
use Rattle.query_lex.specs.declared.lexeme.Sign.TheVariants as signs
use Rattle.query_grammar.specs.declared.fault.QueryFault.{QueryFault}
use Rattle.query_grammar.specs.declared.fault.QueryFault.TheVariants.{UnknownField, OutOfScope}
use Rattle.query_grammar.specs.Answer.{place_of}
use Rattle.query_grammar.specs.Faults.{is_foreign, name_faults, one_if}
use Rattle.query_grammar.specs.Grammar.{Names, last, more, is_field_name, sign}
use Rattle.query_grammar.specs.Meaning.{name_of, number_of_alias}
use Rattle.query_grammar.specs.Reading.{Stop, Broken, Found, Read, behind_field_name, name_at, name_with, names_at, names_in, next_sign, unless}
use Rattle.query_grammar.proofs.Signs.{AtEnd, FirstIs, Late, asked, at_end_append, at_end_if, lexeme, rest_of, sign_front}

-- What a reader gives is so of what it took; where it stops, so is what it took until then, but unfinished.
pub record Takes {A : Type 0} (T : List Lexeme → A → Type 0) (ts rest : List Lexeme) (x : A) : Type 0 where
  pub front : List Lexeme
  pub parts : ts ≡ front ++ rest
  pub is : T front x

pub record Stops (L : Stop → List Lexeme → Type 0) (ts : List Lexeme) (stop : Stop) : Type 0 where
  pub front : List Lexeme
  pub parts : ts ≡ front ++ rest_of stop
  pub leads : L stop front

abbrev pub Spelled : {A : Type 0} → (List Lexeme → A → Type 0) → (Stop → List Lexeme → Type 0) → List Lexeme → Read A → Type 0
Spelled T L ts (Ok x) = Takes T ts x.1 x.0
Spelled T L ts (Err stop) = Stops L ts stop

pub bind_spelled : {A B : Type 0} (T : List Lexeme → A → Type 0) (U : List Lexeme → B → Type 0) (L M : Stop → List Lexeme → Type 0) (before ts : List Lexeme) (f : A × List Lexeme → Read B) (r : Read A)
    → Spelled T L ts r
    → ((stop : Stop) (front : List Lexeme) → L stop front → M stop (before ++ front))
    → ((x : A) (front rest : List Lexeme) → T front x → Spelled U M ((before ++ front) ++ rest) (f (x, rest)))
    → Spelled U M (before ++ ts) (r >>= f)
bind_spelled T U L M before ts f (Ok x) h w g =
    subst (λ (y : List Lexeme). Spelled U M y (f x)) (append_assoc before h.front x.1 ∙ ap (λ (y : List Lexeme). before ++ y) (sym h.parts)) (g x.0 h.front x.1 h.is)
bind_spelled T U L M before ts f (Err stop) h w g = record {
  front = before ++ h.front;
  parts = ap (λ (y : List Lexeme). before ++ y) h.parts ∙ sym (append_assoc before h.front (rest_of stop));
  leads = w stop h.front h.leads;
}

-- a test of a fault, and reading on
pub unless_spelled : {A : Type 0} (T : List Lexeme → A → Type 0) (L : Stop → List Lexeme → Type 0) (front rest : List Lexeme) (fs : List QueryFault) (x : A)
    → (fs ≡ [] → T front x) → ((f : QueryFault) → FirstIs f fs → L (Found f rest) front)
    → Spelled T L (front ++ rest) (unless fs rest (Ok (x, rest)))
unless_spelled T L front rest [] x t l = record { front = front; parts = refl; is = t refl }
unless_spelled T L front rest (f ∷ fs) x t l = record { front = front; parts = refl; leads = l f refl }

module _ (def : IndexDef) where
  abbrev pub numbers_of : List Lexeme → List ℕ
  numbers_of names = filter_map (λ (name : Lexeme). number_of_alias def.fields (name_of name.kind)) names

  pub record AreNames (front : List Lexeme) (numbers : List ℕ) : Type 0 where
    pub names : List Lexeme
    pub spells : Names front names
    pub value : numbers ≡ numbers_of names
    pub clean : flat_map (name_faults def.fields) names ≡ []
    pub count : length numbers ≡ length names

  module _ (params : List Param) (end : ℕ) where
    pub record LeadNames (stop : Stop) (front : List Lexeme) : Type 0 where
      pub others : List Lexeme
      pub names : List Lexeme
      pub spells : Names (front ++ others) names
      pub late : Late end others
      pub holds : asked end stop (flat_map (name_faults def.fields) names)

    -- one name
    pub record IsName (front : List Lexeme) (number : ℕ) : Type 0 where
      pub name : Lexeme
      pub parts : front ≡ name ∷ []
      pub fits : IsTrue (is_field_name name.kind)
      pub value : number_of_alias def.fields (name_of name.kind) ≡ Some number
      pub clean : name_faults def.fields name ≡ []

    late_faults : AtEnd end (name_faults def.fields (lexeme end (kinds.Word [])) ++ [])
    late_faults = at_end_append end (name_faults def.fields (lexeme end (kinds.Word []))) []
        (at_end_append end (one_if (is_none (number_of_alias def.fields [])) (UnknownField end)) [] (at_end_if end (is_none (number_of_alias def.fields [])) (UnknownField end) refl) tt) tt

    leads_name : (rest : List Lexeme) → LeadNames (Broken rest) []
    leads_name rest = record { others = lexeme end (kinds.Word []) ∷ []; names = lexeme end (kinds.Word []) ∷ []; spells = last (lexeme end (kinds.Word [])) refl; late = (refl, tt); holds = late_faults }

    at_name : (t : Lexeme) (stop : Stop) → IsTrue (is_field_name t.kind) → asked end stop (flat_map (name_faults def.fields) (t ∷ [])) → LeadNames stop (t ∷ [])
    at_name t stop h k = record { others = []; names = t ∷ []; spells = last t h; late = tt; holds = k }

    name_with_spelled : (t : Lexeme) (ts : List Lexeme) (o : Option ℕ) → number_of_alias def.fields (name_of t.kind) ≡ o → IsTrue (is_field_name t.kind) → Spelled IsName LeadNames (t ∷ ts) (name_with def params o t ts)
    name_with_spelled t ts None e h = record { front = t ∷ []; parts = refl; leads = at_name t (Found (UnknownField t.at) ts) h (rw e refl) }
    name_with_spelled t ts (Some number) e h = by_test (is_foreign t.kind) refl
      where
        by_test : (b : Bool) → is_foreign t.kind ≡ b → Spelled IsName LeadNames (t ∷ ts) (cond b (Err (Found (OutOfScope t.at) ts)) (Ok (number, ts)))
        by_test true k = record { front = t ∷ []; parts = refl; leads = at_name t (Found (OutOfScope t.at) ts) h (rw (e, k) refl) }
        by_test false k = record { front = t ∷ []; parts = refl; is = record { name = t; parts = refl; fits = h; value = e; clean = rw (e, k) refl } }

    pub name_spelled : (ts : List Lexeme) → Spelled IsName LeadNames ts (name_at def params ts)
    unfolding name_at
    name_spelled [] = record { front = []; parts = refl; leads = leads_name [] }
    name_spelled (t ∷ ts) = by_test (is_field_name t.kind) refl
      where
        by_test : (b : Bool) → is_field_name t.kind ≡ b → Spelled IsName LeadNames (t ∷ ts) (cond b (name_with def params (number_of_alias def.fields (name_of t.kind)) t ts) (Err (Broken (t ∷ ts))))
        by_test true k = name_with_spelled t ts (number_of_alias def.fields (name_of t.kind)) refl k
        by_test false k = record { front = []; parts = refl; leads = leads_name (t ∷ ts) }

    -- names behind those that were read
    pub record MoreNames (before : List ℕ) (front : List Lexeme) (numbers : List ℕ) : Type 0 where
      pub new : List ℕ
      pub value : numbers ≡ before ++ new
      pub names : AreNames front new

    abbrev NamesFollow : (List ℕ → List Lexeme → Read (List ℕ)) → Type 0
    NamesFollow others = (before : List ℕ) (ts : List Lexeme) → Spelled (MoreNames before) LeadNames ts (others before ts)

    one_name : (t : Lexeme) (number : ℕ) → IsTrue (is_field_name t.kind) → number_of_alias def.fields (name_of t.kind) ≡ Some number → name_faults def.fields t ≡ [] → AreNames (t ∷ []) (number ∷ [])
    one_name t number h e z = record { names = t ∷ []; spells = last t h; value = rw e refl; clean = rw z refl; count = refl }

    behind_name_spelled : (others : List ℕ → List Lexeme → Read (List ℕ)) → NamesFollow others → (before : List ℕ) (front rest : List Lexeme) (number : ℕ) (o : Option Sign) → next_sign rest ≡ o → IsName front number
        → Spelled (MoreNames before) LeadNames (front ++ rest) (behind_field_name def params (λ us. others (before ++ number ∷ []) us) (before ++ number ∷ []) o rest)
    behind_name_spelled others ih before front rest number (Some signs.Pipe) e h =
        subst (λ (x : List Lexeme). Spelled (MoreNames before) LeadNames (x ++ rest) (others (before ++ number ∷ []) (drop 1 rest))) (sym h.parts)
        (subst (λ (x : List Lexeme). Spelled (MoreNames before) LeadNames (h.name ∷ x) (others (before ++ number ∷ []) (drop 1 rest))) (sym (sign_front rest signs.Pipe e))
        (along (others (before ++ number ∷ []) (drop 1 rest)) (ih (before ++ number ∷ []) (drop 1 rest))))
      where
        along : (r : Read (List ℕ)) → Spelled (MoreNames (before ++ number ∷ [])) LeadNames (drop 1 rest) r → Spelled (MoreNames before) LeadNames (h.name ∷ sign (place_of 0 rest) signs.Pipe ∷ drop 1 rest) r
        along (Ok x) k = record {
          front = h.name ∷ sign (place_of 0 rest) signs.Pipe ∷ k.front;
          parts = ap (λ (y : List Lexeme). h.name ∷ sign (place_of 0 rest) signs.Pipe ∷ y) k.parts;
          is = record {
            new = number ∷ k.is.new;
            value = k.is.value ∙ append_assoc before (number ∷ []) k.is.new;
            names = record {
              names = h.name ∷ k.is.names.names;
              spells = more h.name (place_of 0 rest) h.fits k.is.names.spells;
              value = rw h.value (ap (λ (y : List ℕ). number ∷ y) k.is.names.value);
              clean = rw h.clean k.is.names.clean;
              count = ap (λ (n : ℕ). suc n) k.is.names.count;
            };
          };
        }
        along (Err stop) k = record {
          front = h.name ∷ sign (place_of 0 rest) signs.Pipe ∷ k.front;
          parts = ap (λ (y : List Lexeme). h.name ∷ sign (place_of 0 rest) signs.Pipe ∷ y) k.parts;
          leads = record {
            others = k.leads.others;
            names = h.name ∷ k.leads.names;
            spells = more h.name (place_of 0 rest) h.fits k.leads.spells;
            late = k.leads.late;
            holds = rw h.clean k.leads.holds;
          };
        }
    behind_name_spelled others ih before front rest number o e h = record {
      front = front;
      parts = refl;
      is = record { new = number ∷ []; value = refl; names = subst (λ (x : List Lexeme). AreNames x (number ∷ [])) (sym h.parts) (one_name h.name number h.fits h.value h.clean) };
    }

    names_in_spelled : (n : ℕ) → NamesFollow (names_in def params n)
    names_in_spelled zero before ts = record { front = []; parts = refl; leads = leads_name ts }
    names_in_spelled (suc n) before ts = bind_spelled IsName (MoreNames before) LeadNames LeadNames [] ts
        (λ x. behind_field_name def params (λ us. names_in def params n (before ++ x.0 ∷ []) us) (before ++ x.0 ∷ []) (next_sign x.1) x.1) (name_at def params ts) (name_spelled ts) (λ stop front l. l)
        (λ number front rest h. behind_name_spelled (names_in def params n) (names_in_spelled n) before front rest number (next_sign rest) refl h)

    pub names_spelled : (ts : List Lexeme) → Spelled (MoreNames []) LeadNames ts (names_at def params [] ts)
    unfolding names_at
    names_spelled ts = names_in_spelled (suc (length ts)) [] ts
