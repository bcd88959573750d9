-- Where the faults of all sentences that begin alike stand, and which of them comes first.
use Rattle.std.proofs.Common.{◌≡◌, ◌⊎◌, inl, inr, ℕ, suc, ◌+◌, ◌*◌, ◌<◌, ◌≤◌, List, [], ◌∷◌, ◌++◌, Option, Some, None, refl, sym, ap, subst, ◌∙◌, arith}
use Rattle.std.specs.List.{Contains}
use Rattle.ft_base.specs.declared.definition.IndexDef.{IndexDef}
use Rattle.ft_base.specs.declared.query.Fields.TheVariants as asked_of
use Rattle.ft_base.specs.declared.query.Param.{Param}
use Rattle.query_lex.specs.Places.{Rise}
use Rattle.query_lex.specs.declared.lexeme.Lexeme.{Lexeme}
use Rattle.query_grammar.specs.declared.fault.QueryFault.{QueryFault}
use Rattle.query_grammar.specs.Answer.{Begins, IsCertain, NotAfter, place, place_of}
use Rattle.query_grammar.specs.Faults.{most_levels}
use Rattle.query_grammar.specs.Form.{Form}
use Rattle.query_grammar.specs.Grammar.{IsQuery, something, Spells, Union}
use Rattle.query_grammar.proofs.Ends.{faults_in, spelled}
use Rattle.query_grammar.proofs.Moves.{SameKinds, moves, same_behind}
use Rattle.query_grammar.proofs.Order.{Placed, Rising, Up, after, contains_cons}
use Rattle.query_grammar.proofs.OrderParts.{first_least, ordered, stands}
use Rattle.query_grammar.proofs.Signs.{AtEnd, FirstIs, Late, lexeme}

-- ---- offsets

pub rise_le : (lo hi : ℕ) (ts : List Lexeme) → Rise lo hi ts → lo ≤ hi
rise_le lo hi [] h = h
rise_le lo hi (t ∷ ts) h = let a : lo ≤ t.at = h.0 in let b : suc t.at ≤ hi = rise_le (suc t.at) hi ts h.1 in omega arith

pub rise_split : (lo hi : ℕ) (ts us : List Lexeme) → Rise lo hi (ts ++ us) → (m : ℕ) × Rise lo m ts × Rise m hi us
rise_split lo hi [] us h = (lo, omega arith, h)
rise_split lo hi (t ∷ ts) us h = let s = rise_split (suc t.at) hi ts us h.1 in (s.0, (h.0, s.1), s.2)

pub rise_place : (m hi : ℕ) (ts us : List Lexeme) → Rise m hi (ts ++ us) → m ≤ place_of hi us
rise_place m hi [] [] h = h
rise_place m hi [] (u ∷ us) h = h.0
rise_place m hi (t ∷ ts) us h = let a : m ≤ t.at = h.0 in let b : suc t.at ≤ place_of hi us = rise_place (suc t.at) hi ts us h.1 in omega arith

pub place_end : (m hi : ℕ) (us : List Lexeme) → Rise m hi us → place_of hi us ≤ hi
place_end m hi [] h = omega arith
place_end m hi (u ∷ us) h = let a : suc u.at ≤ hi = rise_le (suc u.at) hi us h.1 in omega arith

-- the same lexemes at the end
abbrev pub put : ℕ → List Lexeme → List Lexeme
put bound [] = []
put bound (t ∷ ts) = lexeme bound t.kind ∷ put bound ts

put_same : (bound : ℕ) (ts : List Lexeme) → SameKinds ts (put bound ts)
put_same bound [] = tt
put_same bound (t ∷ ts) = (refl, put_same bound ts)

put_late : (bound : ℕ) (ts : List Lexeme) → Late bound (put bound ts)
put_late bound [] = tt
put_late bound (t ∷ ts) = (refl, put_late bound ts)

module _ (mid bound : ℕ) where
  rising_lower : (j lo hi : ℕ) (ts : List Lexeme) → j ≤ lo → Rising mid bound lo hi ts → Rising mid bound j hi ts
  rising_lower j lo hi [] l h = omega arith
  rising_lower j lo hi (t ∷ ts) l h = let a : lo ≤ t.at = h.1 in (h.0, omega arith, h.2)

  rising_late : (lo : ℕ) (ts : List Lexeme) → lo ≤ bound → Late bound ts → Rising mid bound lo bound ts
  rising_late lo [] l h = l
  rising_late lo (t ∷ ts) l h = let e : t.at ≡ bound = h.0 in (inr (omega arith), omega arith, rising_late (after mid bound t.at) ts (omega arith) h.1)

  -- offsets that rise as far as mid, and then stand at the bound
  pub rising : (lo m : ℕ) (ts us : List Lexeme) → Rise lo m ts → m ≤ mid → m ≤ bound → Late bound us → Rising mid bound lo bound (ts ++ us)
  rising lo m [] us h l k late = rising_late lo us (omega arith) late
  rising lo m (t ∷ ts) us h l k late =
      let a : suc t.at ≤ m = rise_le (suc t.at) m ts h.1 in
      (inl (omega arith), h.0, rising_lower (after mid bound t.at) (suc t.at) bound (ts ++ us) (omega arith) (rising (suc t.at) m ts us h.1 l k late))

pub no_faults : (f : QueryFault) → Contains [] f → ⊥
no_faults f c = let l : c.0 < 0 = c.1 in absurd (omega arith)

module _ (def : IndexDef) (params : List Param) where
  -- a sentence with what stands behind its beginning at the end
  record LateSentence (bound : ℕ) (seen : List Lexeme) : Type 0 where
    pub others : List Lexeme
    pub form : Form
    pub spells : Spells params Union (seen ++ others) form
    pub late : Late bound others

  sentence : (bound : ℕ) (seen : List Lexeme) (f : QueryFault) → Begins params seen → IsCertain def params seen f → LateSentence bound seen
  sentence bound seen f b c = by_form b.form b.spelled
    where
      by_form : (form : Option Form) → IsQuery params (seen ++ b.more) form → LateSentence bound seen
      by_form None d = absurd (no_faults f (c b.more None d))
      by_form (Some a) d =
          let s = moves params (spelled def params (seen ++ b.more) a d) (seen ++ put bound b.more) (same_behind seen b.more (put bound b.more) (put_same bound b.more)) in
          record { others = put bound b.more; form = s.form; spells = s.spells; late = put_late bound b.more }

  -- a certain fault stands among the lexemes that make it so
  pub certain_place : (m : ℕ) (seen : List Lexeme) (f : QueryFault) → Rise 0 m seen → Begins params seen → IsCertain def params seen f → place f < m
  certain_place m seen f h b c =
      let bound : ℕ = m + suc (place f) in
      let s = sentence bound seen f b c in
      by_place bound (omega arith) (stands m bound 0 (8 * bound) (faults_in def params s.form) f
      (ordered def params m bound s.spells asked_of.All most_levels 0 bound (omega arith) (rising m bound 0 m seen s.others h (omega arith) (omega arith) s.late))
      (c s.others (Some s.form) (something s.spells)))
    where
      by_place : (bound : ℕ) → place f < bound → Placed m bound (place f) → place f < m
      by_place bound l (inl x) = x
      by_place bound l (inr x) = absurd (omega arith)

  first_cons : (k m mid bound : ℕ) (f : QueryFault) (fs : List QueryFault) (g : QueryFault) → Up mid bound k m fs → FirstIs f fs → place f < bound → Contains fs g → NotAfter f g
  first_cons k m mid bound f [] g u h l c = absurd h
  first_cons k m mid bound f (x ∷ fs) g u h l c = subst (λ (y : QueryFault). NotAfter y g) h (first_least mid bound k m x fs g u (rw h l) c)

  -- The first fault of a sentence whose lexemes rise to m, and stand at the end from there, comes before each other of it.
  pub first_of_sentence : (m end : ℕ) (seen others : List Lexeme) (a : Form) (f g : QueryFault) → Rise 0 m seen → m ≤ end → Late end others → Spells params Union (seen ++ others) a
      → FirstIs f (faults_in def params a) → place f < end → Contains (faults_in def params a) g → NotAfter f g
  first_of_sentence m end seen others a f g h l late d first p c = first_cons 0 (8 * end) end end f (faults_in def params a) g
      (ordered def params end end d asked_of.All most_levels 0 end (omega arith) (rising end end 0 m seen others h l l late)) first p c

  -- of two beginnings that make faults certain, where the first is the first fault of each sentence that goes on from the shorter
  pub first_of_longer : (m end : ℕ) (seen : List Lexeme) (f g : QueryFault) → Rise 0 m seen → m ≤ end → Begins params seen → IsCertain def params seen g
      → ((more : List Lexeme) (a : Form) → Spells params Union (seen ++ more) a → FirstIs f (faults_in def params a)) → place f < end → NotAfter f g
  first_of_longer m end seen f g h l b c first p =
      let s = sentence end seen g b c in
      first_of_sentence m end seen s.others s.form f g h l s.late s.spells (first s.others s.form s.spells) p (c s.others (Some s.form) (something s.spells))

  pub at_end_among : (end : ℕ) (fs : List QueryFault) (g : QueryFault) → AtEnd end fs → Contains fs g → place g ≡ end
  at_end_among end [] g h c = absurd (no_faults g c)
  at_end_among end (f ∷ fs) g h c = one_of (contains_cons f fs g c) (λ d. at_end_among end fs g h.1 d)
    where
      one_of : (f ≡ g) ⊎ Contains fs g → (Contains fs g → place g ≡ end) → place g ≡ end
      one_of (inl e) ih = ap place (sym e) ∙ h.0
      one_of (inr d) ih = ih d
