-- What reading answers is what the grammar says: the tree of a text without a fault, or the first of its faults.
use Rattle.std.proofs.Common.{◌≡◌, ◌⊎◌, inl, inr, ℕ, ◌<◌, ◌≤◌, List, [], ◌∷◌, ◌++◌, Some, refl, sym, ap, subst, ◌∙◌, append_assoc, append-nil, arith}
use Rattle.std.proofs.lemmas.Bool.{cases_order}
use Rattle.std.specs.List.{Contains}
use Rattle.ft_base.specs.declared.definition.IndexDef.{IndexDef}
use Rattle.ft_base.specs.declared.query.Fields.TheVariants as asked_of
use Rattle.ft_base.specs.declared.query.Param.{Param}
use Rattle.query_lex.specs.Places.{Rise}
use Rattle.query_lex.specs.declared.lexeme.Lexeme.{Lexeme}
use Rattle.query_grammar.specs.declared.fault.QueryFault.{QueryFault}
use Rattle.query_grammar.specs.declared.fault.QueryFault.TheVariants.{Syntax, UnknownField, WrongKind, NoParam, TooDeep, OutOfScope, NoMemory}
use Rattle.query_grammar.specs.Answer.{Begins, EndsAt, HasFault, broken, certain, IsCertain, IsFault, NotAfter, number, place, place_of}
use Rattle.query_grammar.specs.Faults.{most_levels}
use Rattle.query_grammar.specs.Form.{Form}
use Rattle.query_grammar.specs.Grammar.{IsQuery, something, Spells, Union}
use Rattle.query_grammar.specs.Reading.{Stop, Broken, Found}
use Rattle.query_grammar.proofs.Ends.{faults_in}
use Rattle.query_grammar.proofs.Placing.{at_end_among, certain_place, first_of_sentence, place_end, rise_place, rise_split}
use Rattle.query_grammar.proofs.Sound.{LeadPart}

-- of two beginnings of a list one is the longer
compared : (a b c d : List Lexeme) → a ++ b ≡ c ++ d → ((mid : List Lexeme) × (c ≡ a ++ mid) × (b ≡ mid ++ d)) ⊎ ((mid : List Lexeme) × (a ≡ c ++ mid) × (d ≡ mid ++ b))
compared [] b c d e = inl (c, refl, e)
compared (x ∷ a) b [] d e = inr (x ∷ a, refl, sym e)
compared (x ∷ a) b (y ∷ c) d e = further (compared a b c d tail)
  where
    head : x ≡ y
    head = cc

    tail : a ++ b ≡ c ++ d
    tail = cc

    further : ((mid : List Lexeme) × (c ≡ a ++ mid) × (b ≡ mid ++ d)) ⊎ ((mid : List Lexeme) × (a ≡ c ++ mid) × (d ≡ mid ++ b))
        → ((mid : List Lexeme) × (y ∷ c ≡ x ∷ a ++ mid) × (b ≡ mid ++ d)) ⊎ ((mid : List Lexeme) × (x ∷ a ≡ y ∷ c ++ mid) × (d ≡ mid ++ b))
    further (inl h) = inl (h.0, ap (λ (z : Lexeme). z ∷ c) (sym head) ∙ ap (λ (zs : List Lexeme). x ∷ zs) h.1, h.2)
    further (inr h) = inr (h.0, ap (λ (z : Lexeme). z ∷ a) head ∙ ap (λ (zs : List Lexeme). y ∷ zs) h.1, h.2)

a_number : (f : QueryFault) → 1 ≤ number f
a_number (Syntax at) = omega arith
a_number (UnknownField at) = omega arith
a_number (WrongKind at) = omega arith
a_number (NoParam at) = omega arith
a_number (TooDeep at) = omega arith
a_number (OutOfScope at) = omega arith
a_number NoMemory = omega arith

module _ (def : IndexDef) (params : List Param) where
  begins_before : (front mid : List Lexeme) → Begins params (front ++ mid) → Begins params front
  begins_before front mid b = record { more = mid ++ b.more; form = b.form; spelled = subst (λ (x : List Lexeme). IsQuery params x b.form) (append_assoc front mid b.more) b.spelled }

  -- nothing that goes on where the grammar does not begins a sentence
  pub no_further : (front rest mid others : List Lexeme) → EndsAt params front rest → rest ≡ mid ++ others → Begins params (front ++ mid) → mid ≡ []
  no_further front rest [] others h e b = refl
  no_further front rest (u ∷ mid) others h e b = absurd (subst (λ (x : List Lexeme). EndsAt params front x) e h (begins_before (front ++ u ∷ []) mid (subst (λ (x : List Lexeme). Begins params x) (sym (append_assoc front (u ∷ []) mid)) b)))

  pub goes_on : (end : ℕ) (stop : Stop) (front : List Lexeme) → LeadPart def params end asked_of.All most_levels Union stop front → Begins params front
  goes_on end stop front l = record { more = l.others; form = Some l.form; spelled = something l.spells }

  pub certain_among : (front mid others : List Lexeme) (g : QueryFault) (a : Form) → IsCertain def params front g → Spells params Union ((front ++ mid) ++ others) a → Contains (faults_in def params a) g
  certain_among front mid others g a c d = c (mid ++ others) (Some a) (something (subst (λ (x : List Lexeme). Spells params Union x a) (append_assoc front mid others) d))

  module _ (end : ℕ) (ts : List Lexeme) (rise : Rise 0 end ts) where
    split_at : (front rest : List Lexeme) → ts ≡ front ++ rest → (m : ℕ) × Rise 0 m front × Rise m end rest
    split_at front rest e = rise_split 0 end front rest (subst (λ (x : List Lexeme). Rise 0 end x) e rise)

    -- ---- the grammar goes no further

    module _ (front rest : List Lexeme) (parts : ts ≡ front ++ rest) (ends : EndsAt params front rest) where
      same_break : (front' rest' : List Lexeme) → ts ≡ front' ++ rest' → Begins params front → Begins params front' → EndsAt params front' rest' → rest ≡ rest'
      same_break front' rest' e b b' h = by_place (compared front rest front' rest' (sym parts ∙ e))
        where
          by_place : ((mid : List Lexeme) × (front' ≡ front ++ mid) × (rest ≡ mid ++ rest')) ⊎ ((mid : List Lexeme) × (front ≡ front' ++ mid) × (rest' ≡ mid ++ rest)) → rest ≡ rest'
          by_place (inl x) = x.2 ∙ ap (λ (y : List Lexeme). y ++ rest') (no_further front rest x.0 rest' ends x.2 (subst (λ (y : List Lexeme). Begins params y) x.1 b'))
          by_place (inr x) = sym (x.2 ∙ ap (λ (y : List Lexeme). y ++ rest) (no_further front' rest' x.0 rest h x.2 (subst (λ (y : List Lexeme). Begins params y) x.1 b)))

      module _ (leads : LeadPart def params end asked_of.All most_levels Union (Broken rest) front) where
        after_syntax : (g : QueryFault) → place g ≡ end → NotAfter (Syntax (place_of end rest)) g
        after_syntax g e = by_order (cases_order (place_of end rest) (place g))
          where
            by_order : (place_of end rest ≡ place g) ⊎ ((place_of end rest < place g) ⊎ (place g < place_of end rest)) → NotAfter (Syntax (place_of end rest)) g
            by_order (inl x) = inr (x, a_number g)
            by_order (inr (inl x)) = inl x
            by_order (inr (inr x)) = let s = split_at front rest parts in let l = place_end s.0 end rest s.2 in absurd (omega arith)

        before_break : (seen others : List Lexeme) (g : QueryFault) → ts ≡ seen ++ others → Begins params seen → IsCertain def params seen g → NotAfter (Syntax (place_of end rest)) g
        before_break seen others g e b c = after_syntax g (at_end_among def params end (faults_in def params leads.form) g leads.holds (by_place (compared front rest seen others (sym parts ∙ e))))
          where
            by_place : ((mid : List Lexeme) × (seen ≡ front ++ mid) × (rest ≡ mid ++ others)) ⊎ ((mid : List Lexeme) × (front ≡ seen ++ mid) × (others ≡ mid ++ rest)) → Contains (faults_in def params leads.form) g
            by_place (inl x) =
                let none : x.0 ≡ [] = no_further front rest x.0 others ends x.2 (subst (λ (y : List Lexeme). Begins params y) x.1 b) in
                let same : seen ≡ front = x.1 ∙ (ap (λ (y : List Lexeme). front ++ y) none ∙ append-nil front) in
                c leads.others (Some leads.form) (something (subst (λ (y : List Lexeme). Spells params Union (y ++ leads.others) leads.form) (sym same) leads.spells))
            by_place (inr x) = certain_among seen x.0 leads.others g leads.form c (subst (λ (y : List Lexeme). Spells params Union (y ++ leads.others) leads.form) x.1 leads.spells)

        broken_first : (g : QueryFault) → HasFault def params end ts g → NotAfter (Syntax (place_of end rest)) g
        broken_first g (broken front' rest' e b h) = inr (ap (λ (y : List Lexeme). place_of end y) (same_break front' rest' e (goes_on end (Broken rest) front leads) b h), omega arith)
        broken_first g (certain seen others f e b c) = before_break seen others g e b c

        pub broken_fault : IsFault def params end ts (Syntax (place_of end rest))
        broken_fault = record { has = broken front rest parts (goes_on end (Broken rest) front leads) ends; first = broken_first }

    -- ---- a fault before that

    module _ (front rest : List Lexeme) (parts : ts ≡ front ++ rest) (f : QueryFault) (begins : Begins params front) (is_certain : IsCertain def params front f)
        (leads : LeadPart def params end asked_of.All most_levels Union (Found f rest) front)
        (longer : (seen mid others : List Lexeme) (g : QueryFault) → ts ≡ seen ++ others → seen ≡ front ++ mid → rest ≡ mid ++ others → Begins params seen → IsCertain def params seen g → NotAfter f g) where
      in_front : (m : ℕ) → Rise 0 m front → place f < m
      in_front m h = certain_place def params m front f h begins is_certain

      before_syntax : (front' rest' : List Lexeme) → ts ≡ front' ++ rest' → EndsAt params front' rest' → NotAfter f (Syntax (place_of end rest'))
      before_syntax front' rest' e h = by_place (compared front rest front' rest' (sym parts ∙ e))
        where
          inside : (mid : List Lexeme) → rest ≡ mid ++ rest' → place f < place_of end rest'
          inside mid d = let s = split_at front rest parts in let a = in_front s.0 s.1 in let b = rise_place s.0 end mid rest' (subst (λ (y : List Lexeme). Rise s.0 end y) d s.2) in omega arith

          by_place : ((mid : List Lexeme) × (front' ≡ front ++ mid) × (rest ≡ mid ++ rest')) ⊎ ((mid : List Lexeme) × (front ≡ front' ++ mid) × (rest' ≡ mid ++ rest)) → NotAfter f (Syntax (place_of end rest'))
          by_place (inl x) = inl (inside x.0 x.2)
          by_place (inr x) =
              let none : x.0 ≡ [] = no_further front' rest' x.0 rest h x.2 (subst (λ (y : List Lexeme). Begins params y) x.1 begins) in
              inl (inside [] (sym (x.2 ∙ ap (λ (y : List Lexeme). y ++ rest) none)))

      before_certain : (seen others : List Lexeme) (g : QueryFault) → ts ≡ seen ++ others → Begins params seen → IsCertain def params seen g → NotAfter f g
      before_certain seen others g e b c = by_place (compared front rest seen others (sym parts ∙ e))
        where
          by_place : ((mid : List Lexeme) × (seen ≡ front ++ mid) × (rest ≡ mid ++ others)) ⊎ ((mid : List Lexeme) × (front ≡ seen ++ mid) × (others ≡ mid ++ rest)) → NotAfter f g
          by_place (inl x) = longer seen x.0 others g e x.1 x.2 b c
          by_place (inr x) =
              let s = split_at front rest parts in
              let a = in_front s.0 s.1 in
              let l : s.0 ≤ end = rise_place s.0 end rest [] (subst (λ (y : List Lexeme). Rise s.0 end y) (sym (append-nil rest)) s.2) in
              first_of_sentence def params s.0 end front leads.others leads.form f g s.1 l leads.late leads.spells leads.holds (omega arith)
              (certain_among seen x.0 leads.others g leads.form c (subst (λ (y : List Lexeme). Spells params Union (y ++ leads.others) leads.form) x.1 leads.spells))

      fault_first : (g : QueryFault) → HasFault def params end ts g → NotAfter f g
      fault_first g (broken front' rest' e b h) = before_syntax front' rest' e h
      fault_first g (certain seen others h e b c) = before_certain seen others g e b c

      pub is_fault : IsFault def params end ts f
      is_fault = record { has = certain front rest f parts begins is_certain; first = fault_first }
