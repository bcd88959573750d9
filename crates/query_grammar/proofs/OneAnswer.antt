-- What reading answers is what the grammar says: the tree of a text without a fault, or the first of its faults. So a text
-- has one answer.
use Rattle.std.proofs.Common.{◌≡◌, ◌⊎◌, inl, inr, ℕ, ◌<◌, ◌≤◌, List, [], ◌∷◌, ◌++◌, Option, Some, None, Result, Ok, Err, refl, sym, ap, subst, ◌∙◌, append_assoc, append-nil, arith}
use Rattle.std.specs.List.{Contains}
use Rattle.ft_base.specs.declared.definition.IndexDef.{IndexDef}
use Rattle.ft_base.specs.declared.query.Fields.TheVariants as asked_of
use Rattle.ft_base.specs.declared.query.Param.{Param}
use Rattle.ft_base.specs.declared.query.Query.{Query}
use Rattle.ft_base.specs.Reading.{◌>>=◌}
use Rattle.query_lex.specs.Places.{Rise}
use Rattle.query_lex.specs.declared.lexeme.Lexeme.{Lexeme}
use Rattle.query_grammar.specs.declared.fault.QueryFault.{QueryFault}
use Rattle.query_grammar.specs.declared.fault.QueryFault.TheVariants.{Syntax, UnknownField, WrongKind, NoParam, TooDeep, OutOfScope, NoMemory}
use Rattle.query_grammar.specs.Answer.{Answers, Begins, EndsAt, HasFault, broken, certain, IsCertain, IsFault, IsMeaning, NotAfter, number, place}
use Rattle.query_grammar.specs.Faults.{faults, most_levels}
use Rattle.query_grammar.specs.Form.{Form}
use Rattle.query_grammar.specs.Grammar.{IsQuery, nothing, something, Spells, Union}
use Rattle.query_grammar.specs.Meaning.{query_of, union_of}
use Rattle.query_grammar.specs.Reading.{Stop, Broken, Found, Cut, Read, answer_of, ended_at, whole_at}
use Rattle.query_grammar.proofs.Chains.{sentence_begun}
use Rattle.query_grammar.proofs.AgainParts.{bare, told}
use Rattle.query_grammar.proofs.AgainFields.{sentence_read}
use Rattle.query_grammar.proofs.Ends.{Halts, left, among_cut, among_found, broken_whole, faults_in, first_found, halts_end, none_cut, none_found, parts_in, reads, spelled}
use Rattle.query_grammar.proofs.Placing.{rise_le, certain_place, first_of_longer, first_of_sentence, no_faults, rise_split}
use Rattle.query_grammar.proofs.Sound.{IsPart, LeadPart}
use Rattle.query_grammar.proofs.SoundUnary.{read_spelled}
use Rattle.query_grammar.proofs.Targets.{Spelled, Stops, Takes}
use Rattle.query_grammar.proofs.Answers.{broken_fault, goes_on, is_fault, no_further}

module _ (def : IndexDef) (params : List Param) where
  -- ---- sentences without a fault

  whole_done : (ts : List Lexeme) (r : Read (List Query)) (qs : List Query) → bare r ≡ Ok (qs, []) → (r >>= λ x. ended_at def params x.0 x.1) ≡ Ok (union_of qs)
  whole_done ts (Ok x) qs e = let same : x ≡ (qs, []) = cc in ap (λ (y : List Query × List Lexeme). ended_at def params y.0 y.1) same
  whole_done ts (Err (Broken rest)) qs e = absurd cc
  whole_done ts (Err (Found f rest)) qs e = absurd cc
  whole_done ts (Err (Cut f rest)) qs e = absurd cc

  -- what is spelled without a fault is read as its meaning
  spelled_read : (ts : List Lexeme) (form : Option Form) → IsQuery params ts form → faults def params form ≡ [] → whole_at def params ts ≡ Ok (query_of def params form)
  unfolding whole_at
  spelled_read [] None d z = refl
  spelled_read (t ∷ ts) None d z = elim d [ ]
  spelled_read [] (Some a) d z = absurd (sentence_begun (spelled def params [] a d))
  spelled_read (t ∷ ts) (Some a) d z = whole_done (t ∷ ts) (reads def params (t ∷ ts)) (parts_in def params a)
      (sentence_read def params asked_of.All most_levels (t ∷ ts) a (spelled def params (t ∷ ts) a d) ∙ ap (λ (fs : List QueryFault). told fs (Ok (parts_in def params a, []))) z)

  pub meaning_read : (ts : List Lexeme) (q : Query) → IsMeaning def params ts q → whole_at def params ts ≡ Ok q
  meaning_read ts q h = spelled_read ts h.form h.spelled h.clean ∙ ap (λ (x : Query). Ok x) (sym h.tree)

  -- A text has one tree.
  pub one_meaning : (ts : List Lexeme) (q r : Query) → IsMeaning def params ts q → IsMeaning def params ts r → q ≡ r
  one_meaning ts q r h k = let same : ◌≡◌ {A = Result Query Stop} (Ok q) (Ok r) = sym (meaning_read ts q h) ∙ meaning_read ts r k in cc

  no_fault : (end : ℕ) (ts : List Lexeme) (q : Query) (f : QueryFault) → IsMeaning def params ts q → HasFault def params end ts f → ⊥
  no_fault end ts q f h (broken front [] e b ends) = ends h.form (subst (λ (x : List Lexeme). IsQuery params x h.form) (e ∙ append-nil front) h.spelled)
  no_fault end ts q f h (broken front (t ∷ rest) e b ends) = ends (record { more = rest; form = h.form; spelled = subst (λ (x : List Lexeme). IsQuery params x h.form) (e ∙ sym (append_assoc front (t ∷ []) rest)) h.spelled })
  no_fault end ts q f h (certain seen rest g e b c) = no_faults g (subst (λ (fs : List QueryFault). Contains fs g) h.clean (c rest h.form (subst (λ (x : List Lexeme). IsQuery params x h.form) e h.spelled)))

  -- It has no tree where it has a fault.
  pub never_both : (end : ℕ) (ts : List Lexeme) (q : Query) (f : QueryFault) → IsMeaning def params ts q → IsFault def params end ts f → ⊥
  never_both end ts q f h k = no_fault end ts q f h k.has

  -- ---- two faults of a text are one

  same_fault : (f g : QueryFault) → place f ≡ place g → number f ≡ number g → f ≡ g
  same_fault (Syntax p) (Syntax q) e n = ap (λ (x : ℕ). Syntax x) e
  same_fault (UnknownField p) (UnknownField q) e n = ap (λ (x : ℕ). UnknownField x) e
  same_fault (WrongKind p) (WrongKind q) e n = ap (λ (x : ℕ). WrongKind x) e
  same_fault (NoParam p) (NoParam q) e n = ap (λ (x : ℕ). NoParam x) e
  same_fault (TooDeep p) (TooDeep q) e n = ap (λ (x : ℕ). TooDeep x) e
  same_fault (OutOfScope p) (OutOfScope q) e n = ap (λ (x : ℕ). OutOfScope x) e
  same_fault NoMemory NoMemory e n = refl
  same_fault f g e n = absurd (omega arith)

  neither_after : (f g : QueryFault) → NotAfter f g → NotAfter g f → f ≡ g
  neither_after f g (inl a) (inl b) = absurd (omega arith)
  neither_after f g (inl a) (inr b) = let e : place g ≡ place f = b.0 in absurd (omega arith)
  neither_after f g (inr a) (inl b) = let e : place f ≡ place g = a.0 in absurd (omega arith)
  neither_after f g (inr a) (inr b) = let l : number f ≤ number g = a.1 in let m : number g ≤ number f = b.1 in same_fault f g a.0 (omega arith)

  -- A text has one first fault.
  pub one_fault : (end : ℕ) (ts : List Lexeme) (f g : QueryFault) → IsFault def params end ts f → IsFault def params end ts g → f ≡ g
  one_fault end ts f g h k = neither_after f g (h.first g k.has) (k.first f h.has)

  -- ---- all texts

  -- the tree of lexemes, or their first fault
  abbrev pub Exact : ℕ → List Lexeme → Result Query QueryFault → Type 0
  Exact end ts (Ok q) = IsMeaning def params ts q
  Exact end ts (Err f) = IsFault def params end ts f

  module _ (end : ℕ) (t : Lexeme) (us : List Lexeme) (rise : Rise 0 end (t ∷ us)) where
    at_front : (front rest : List Lexeme) (r : Read (List Query)) → (t ∷ us) ≡ front ++ rest → reads def params (t ∷ us) ≡ r → reads def params (front ++ rest) ≡ r
    at_front front rest r e h = ap (λ (x : List Lexeme). reads def params x) (sym e) ∙ h

    halted : (front : List Lexeme) (u : Lexeme) (rest : List Lexeme) (r : Read (List Query)) → (t ∷ us) ≡ front ++ u ∷ rest → reads def params (t ∷ us) ≡ r → Halts r → left r ≡ u ∷ rest → EndsAt params front (u ∷ rest)
    halted front u rest r e h k l = halts_end def params front u rest (subst (λ (x : Read (List Query)). Halts x) (sym (at_front front (u ∷ rest) r e h)) k) (ap left (at_front front (u ∷ rest) r e h) ∙ l)

    broken_ends : (front rest : List Lexeme) → (t ∷ us) ≡ front ++ rest → reads def params (t ∷ us) ≡ Err (Broken rest) → EndsAt params front rest
    broken_ends front [] e h = subst (λ (x : List Lexeme). EndsAt params x []) (e ∙ append-nil front) (broken_whole def params t us h)
    broken_ends front (u ∷ rest) e h = halted front u rest (Err (Broken (u ∷ rest))) e h tt refl

    certain_in : (front rest : List Lexeme) (f : QueryFault) → (front ≡ [] → ⊥) → ((more : List Lexeme) (a : Form) → Spells params Union (front ++ more) a → Contains (faults_in def params a) f) → IsCertain def params front f
    certain_in [] rest f n h more form d = absurd (n refl)
    certain_in (x ∷ front) rest f n h more None d = elim d [ ]
    certain_in (x ∷ front) rest f n h more (Some a) d = h more a (spelled def params ((x ∷ front) ++ more) a d)

    found_fault : (rest : List Lexeme) (f : QueryFault) → reads def params (t ∷ us) ≡ Err (Found f rest) → Stops (LeadPart def params end asked_of.All most_levels Union) (t ∷ us) (Found f rest) → IsFault def params end (t ∷ us) f
    found_fault rest f e h =
        let e' : reads def params (h.front ++ rest) ≡ Err (Found f rest) = at_front h.front rest (Err (Found f rest)) h.parts e in
        let c : IsCertain def params h.front f = certain_in h.front rest f (none_found def params h.front rest f e') (among_found def params h.front rest f e') in
        let b : Begins params h.front = goes_on def params end (Found f rest) h.front h.leads in
        is_fault def params end (t ∷ us) rise h.front rest h.parts f b c h.leads
        (λ seen mid others g p s d bs cs.
        let v = rise_split 0 end seen others (subst (λ (x : List Lexeme). Rise 0 end x) p rise) in
        let w = rise_split 0 end h.front rest (subst (λ (x : List Lexeme). Rise 0 end x) h.parts rise) in
        let l : place f < w.0 = certain_place def params w.0 h.front f w.1 b c in
        let m : w.0 ≤ end = rise_le w.0 end rest w.2 in
        first_of_longer def params v.0 end seen f g v.1 (rise_le v.0 end others v.2) bs cs
        (λ more a k. first_found def params h.front rest f e' (mid ++ more) a (subst (λ (x : List Lexeme). Spells params Union x a) (ap (λ (x : List Lexeme). x ++ more) s ∙ append_assoc h.front mid more) k)) (omega arith))

    cut_ends : (front rest mid others : List Lexeme) (f : QueryFault) → (t ∷ us) ≡ front ++ rest → reads def params (t ∷ us) ≡ Err (Cut f rest) → rest ≡ mid ++ others → Begins params (front ++ mid) → mid ≡ []
    cut_ends front rest [] others f e h d b = refl
    cut_ends front [] (x ∷ mid) others f e h d b = absurd cc
    cut_ends front (u ∷ rest) (x ∷ mid) others f e h d b = no_further def params front (u ∷ rest) (x ∷ mid) others (halted front u rest (Err (Cut f (u ∷ rest))) e h tt refl) d b

    cut_fault : (rest : List Lexeme) (f : QueryFault) → reads def params (t ∷ us) ≡ Err (Cut f rest) → Stops (LeadPart def params end asked_of.All most_levels Union) (t ∷ us) (Cut f rest) → IsFault def params end (t ∷ us) f
    cut_fault rest f e h =
        let e' : reads def params (h.front ++ rest) ≡ Err (Cut f rest) = at_front h.front rest (Err (Cut f rest)) h.parts e in
        let c : IsCertain def params h.front f = certain_in h.front rest f (none_cut def params h.front rest f e') (among_cut def params h.front rest f e') in
        let b : Begins params h.front = goes_on def params end (Cut f rest) h.front h.leads in
        is_fault def params end (t ∷ us) rise h.front rest h.parts f b c (record { others = h.leads.others; form = h.leads.form; spells = h.leads.spells; late = h.leads.late; holds = h.leads.holds })
        (λ seen mid others g p s d bs cs.
        let w = rise_split 0 end h.front rest (subst (λ (x : List Lexeme). Rise 0 end x) h.parts rise) in
        let l : place f < w.0 = certain_place def params w.0 h.front f w.1 b c in
        let m : w.0 ≤ end = rise_le w.0 end rest w.2 in
        let none : mid ≡ [] = cut_ends h.front rest mid others f h.parts e d (subst (λ (x : List Lexeme). Begins params x) s bs) in
        let same : seen ≡ h.front = s ∙ (ap (λ (x : List Lexeme). h.front ++ x) none ∙ append-nil h.front) in
        first_of_sentence def params w.0 end h.front h.leads.others h.leads.form f g w.1 m h.leads.late h.leads.spells h.leads.holds (omega arith)
        (cs h.leads.others (Some h.leads.form) (something (subst (λ (x : List Lexeme). Spells params Union (x ++ h.leads.others) h.leads.form) (sym same) h.leads.spells))))

    ended_answers : (qs : List Query) (rest : List Lexeme) → reads def params (t ∷ us) ≡ Ok (qs, rest) → Takes (IsPart def params end asked_of.All most_levels Union) (t ∷ us) rest qs → Exact end (t ∷ us) (answer_of end (ended_at def params qs rest))
    ended_answers qs [] e h = record { form = Some h.is.form; spelled = something (subst (λ (x : List Lexeme). Spells params Union x h.is.form) (sym (h.parts ∙ append-nil h.front)) h.is.spells); clean = h.is.clean; tree = ap union_of (sym h.is.value) }
    ended_answers qs (u ∷ rest) e h = broken_fault def params end (t ∷ us) rise h.front (u ∷ rest) h.parts (halted h.front u rest (Ok (qs, u ∷ rest)) h.parts e tt refl)
        (record { others = []; form = h.is.form; spells = rw (append-nil h.front) h.is.spells; late = tt; holds = rw h.is.clean tt })

    read_answers : (r : Read (List Query)) → reads def params (t ∷ us) ≡ r → Spelled (IsPart def params end asked_of.All most_levels Union) (LeadPart def params end asked_of.All most_levels Union) (t ∷ us) r
        → Exact end (t ∷ us) (answer_of end (r >>= λ x. ended_at def params x.0 x.1))
    read_answers (Ok x) e h = ended_answers x.0 x.1 e h
    read_answers (Err (Broken rest)) e h = broken_fault def params end (t ∷ us) rise h.front rest h.parts (broken_ends h.front rest h.parts e) h.leads
    read_answers (Err (Found f rest)) e h = found_fault rest f e h
    read_answers (Err (Cut f rest)) e h = cut_fault rest f e h

  -- What reading gives is the tree, or the first fault.
  pub reading_exact : (end : ℕ) (ts : List Lexeme) → Rise 0 end ts → Exact end ts (answer_of end (whole_at def params ts))
  unfolding whole_at
  reading_exact end [] rise = record { form = None; spelled = nothing; clean = refl; tree = refl }
  reading_exact end (t ∷ us) rise = read_answers end t us rise (reads def params (t ∷ us)) refl (read_spelled def params end asked_of.All most_levels Union (t ∷ us))

  exact_answers : (end : ℕ) (ts : List Lexeme) (answer : Result Query QueryFault) → Exact end ts answer → Answers def params end (Ok ts) answer
  exact_answers end ts (Ok q) h = h
  exact_answers end ts (Err (Syntax at)) h = h
  exact_answers end ts (Err (UnknownField at)) h = h
  exact_answers end ts (Err (WrongKind at)) h = h
  exact_answers end ts (Err (NoParam at)) h = h
  exact_answers end ts (Err (TooDeep at)) h = h
  exact_answers end ts (Err (OutOfScope at)) h = h
  exact_answers end ts (Err NoMemory) h = tt

  -- And so it is what the text may be answered.
  pub reading_answers : (end : ℕ) (ts : List Lexeme) → Rise 0 end ts → Answers def params end (Ok ts) (answer_of end (whole_at def params ts))
  reading_answers end ts rise = exact_answers end ts (answer_of end (whole_at def params ts)) (reading_exact end ts rise)

  -- Each text has a tree or a fault.
  pub some_answer : (end : ℕ) (ts : List Lexeme) → Rise 0 end ts → ((q : Query) × IsMeaning def params ts q) ⊎ ((f : QueryFault) × IsFault def params end ts f)
  some_answer end ts rise = either (answer_of end (whole_at def params ts)) (reading_exact end ts rise)
    where
      either : (answer : Result Query QueryFault) → Exact end ts answer → ((q : Query) × IsMeaning def params ts q) ⊎ ((f : QueryFault) × IsFault def params end ts f)
      either (Ok q) h = inl (q, h)
      either (Err f) h = inr (f, h)
