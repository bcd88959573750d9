-- The lexeme in front of others, by what is asked of it; and lists of faults.
use Rattle.std.proofs.Common.{◌≡◌, ℕ, List, [], ◌∷◌, ◌++◌, drop, Bool, true, false, cond, Some, ap}
use Rattle.query_lex.specs.declared.lexeme.Lexeme.{Lexeme}
use Rattle.query_lex.specs.declared.lexeme.LexKind.{LexKind}
use Rattle.query_lex.specs.declared.lexeme.LexKind.TheVariants as kinds
use Rattle.query_lex.specs.declared.lexeme.Sign.{Sign}
use Rattle.query_grammar.specs.declared.fault.QueryFault.{QueryFault}
use Rattle.query_grammar.specs.Answer.{place, place_of}
use Rattle.query_grammar.specs.Grammar.{param, sign}
use Rattle.query_grammar.specs.Reading.{Stop, Broken, Found, Cut, name_in, next_param, next_sign, sign_in}

abbrev pub lexeme : ℕ → LexKind → Lexeme
lexeme at kind = record { at = at; kind = kind }

kind_of_sign : (k : LexKind) (s : Sign) → sign_in k ≡ Some s → k ≡ kinds.Sign s
kind_of_sign (kinds.Sign r) s e = let same : r ≡ s = cc in ap (λ (x : Sign). kinds.Sign x) same
kind_of_sign other s e = absurd cc

kind_of_name : (k : LexKind) (name : List ℕ) → name_in k ≡ Some name → k ≡ kinds.Param name
kind_of_name (kinds.Param x) name e = let same : x ≡ name = cc in ap (λ (y : List ℕ). kinds.Param y) same
kind_of_name other name e = absurd cc

-- a sign that comes next stands in front
pub sign_front : (ts : List Lexeme) (s : Sign) → next_sign ts ≡ Some s → ts ≡ sign (place_of 0 ts) s ∷ drop 1 ts
sign_front [] s e = absurd cc
sign_front (t ∷ ts) s e = ap (λ (k : LexKind). lexeme t.at k ∷ ts) (kind_of_sign t.kind s e)

pub param_front : (ts : List Lexeme) (name : List ℕ) → next_param ts ≡ Some name → ts ≡ param (place_of 0 ts) name ∷ drop 1 ts
param_front [] name e = absurd cc
param_front (t ∷ ts) name e = ap (λ (k : LexKind). lexeme t.at k ∷ ts) (kind_of_name t.kind name e)

-- ---- faults

-- each of the lexemes, or of the faults, stands at the end
abbrev pub Late : ℕ → List Lexeme → Type 0
Late end [] = Unit {0}
Late end (t ∷ ts) = (t.at ≡ end) × Late end ts

pub late_append : (end : ℕ) (ts us : List Lexeme) → Late end ts → Late end us → Late end (ts ++ us)
late_append end [] us h k = k
late_append end (t ∷ ts) us h k = (h.0, late_append end ts us h.1 k)

abbrev pub AtEnd : ℕ → List QueryFault → Type 0
AtEnd end [] = Unit {0}
AtEnd end (f ∷ fs) = (place f ≡ end) × AtEnd end fs

pub at_end_append : (end : ℕ) (fs gs : List QueryFault) → AtEnd end fs → AtEnd end gs → AtEnd end (fs ++ gs)
at_end_append end [] gs h k = k
at_end_append end (f ∷ fs) gs h k = (h.0, at_end_append end fs gs h.1 k)

pub at_end_if : (end : ℕ) (b : Bool) (f : QueryFault) → place f ≡ end → AtEnd end (cond b (f ∷ []) [])
at_end_if end true f e = (e, tt)
at_end_if end false f e = tt

abbrev pub FirstIs : QueryFault → List QueryFault → Type 0
FirstIs f [] = ⊥
FirstIs f (g ∷ fs) = g ≡ f

-- what reading that stops so leaves to be shown of the faults of a sentence that goes on
abbrev pub asked : ℕ → Stop → List QueryFault → Type 0
asked end (Broken rest) fs = AtEnd end fs
asked end (Found f rest) fs = FirstIs f fs
asked end (Cut f rest) fs = FirstIs f fs

abbrev pub rest_of : Stop → List Lexeme
rest_of (Broken rest) = rest
rest_of (Found f rest) = rest
rest_of (Cut f rest) = rest

first_more : (f : QueryFault) (fs gs : List QueryFault) → FirstIs f fs → FirstIs f (fs ++ gs)
first_more f [] gs h = absurd h
first_more f (g ∷ fs) gs h = h

pub asked_more : (end : ℕ) (stop : Stop) (fs gs : List QueryFault) → asked end stop fs → AtEnd end gs → asked end stop (fs ++ gs)
asked_more end (Broken rest) fs gs h k = at_end_append end fs gs h k
asked_more end (Found f rest) fs gs h k = first_more f fs gs h
asked_more end (Cut f rest) fs gs h k = first_more f fs gs h
