-- The first of faults that stand behind others, and what follows from it.
use Rattle.std.proofs.Common.{◌≡◌, ◌<◌, ℕ, suc, length, drop, get_or, drop-cons, List, [], ◌∷◌, ◌++◌, Some, None, Err, refl, sym, ◌∙◌, ap}
use Rattle.query_lex.specs.declared.lexeme.Lexeme.{Lexeme}
use Rattle.query_grammar.specs.declared.fault.QueryFault.{QueryFault}
use Rattle.query_grammar.specs.Reading.{Read, Found, Broken, Cut, broken_by, unless}
use Rattle.ft_base.specs.declared.definition.IndexDef.{IndexDef}
use Rattle.ft_base.specs.declared.query.Param.{Param}
use Rattle.std.specs.List.{flat_map}
use Rattle.query_grammar.specs.Faults.{pair_faults}
use Rattle.query_parse.specs.Faults.{first}
use Rattle.query_parse.specs.Seen.{pair_of, pairs_of}
use Rattle.query_parse.specs.declared.blocks.Pair.{Pair}

pub first-some : (faults others : List QueryFault) (fault : QueryFault) → first faults ≡ Some fault → first (faults ++ others) ≡ Some fault
first-some [] others fault e = absurd cc
first-some (f ∷ faults) others fault e = e

pub first-none : (faults others : List QueryFault) → first faults ≡ None → first (faults ++ others) ≡ first others
first-none [] others e = refl
first-none (f ∷ faults) others e = absurd cc

pub ruleset first_of = (first-some, first-none)

pub unless-none : {A : Type 0} (faults : List QueryFault) (behind : List Lexeme) (read : Read A) → first faults ≡ None → unless faults behind read ≡ read
unless-none [] behind read e = refl
unless-none (f ∷ faults) behind read e = absurd cc

pub unless-some : {A : Type 0} (faults : List QueryFault) (behind : List Lexeme) (read : Read A) (fault : QueryFault) → first faults ≡ Some fault → unless faults behind read ≡ Err (Found fault behind)
unless-some [] behind read fault e = absurd cc
unless-some (f ∷ faults) behind read fault e = cc

pub broken-none : (def : IndexDef) (params : List Param) (faults : List QueryFault) (ts : List Lexeme) → first faults ≡ None → broken_by def params faults ts ≡ Broken ts
broken-none def params [] ts e = refl
broken-none def params (f ∷ faults) ts e = absurd cc

pub broken-some : (def : IndexDef) (params : List Param) (faults : List QueryFault) (ts : List Lexeme) (fault : QueryFault) → first faults ≡ Some fault → broken_by def params faults ts ≡ Cut fault ts
broken-some def params [] ts fault e = absurd cc
broken-some def params (f ∷ faults) ts fault e = cc

pub ruleset by_first = (unless-none, unless-some, broken-none, broken-some)

-- the first fault of attributes, from one that has it on
pub fault-found : (params : List Param) (pairs : List Pair) (i : ℕ) (pair : Pair) (fault : QueryFault) → i < length pairs → pair ≡ get_or pairs i pair
    → first (pair_faults params (pair_of pair)) ≡ Some fault → first (flat_map (pair_faults params) (pairs_of (drop i pairs))) ≡ Some fault
fault-found params pairs i pair fault within is has =
    ap (λ (ps : List Pair). first (flat_map (pair_faults params) (pairs_of ps))) (drop-cons pairs i pair within)
    ∙ first-some (pair_faults params (pair_of (get_or pairs i pair))) (flat_map (pair_faults params) (pairs_of (drop (suc i) pairs))) fault
    (ap (λ (p : Pair). first (pair_faults params (pair_of p))) (sym is) ∙ has)
