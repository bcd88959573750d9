-- A history grows by an entry.
use Rattle.std.proofs.Common.{◌≡◌, ℕ, zero, suc, ◌+◌, ◌<◌, ◌^◌, min, List, [], ◌∷◌, ◌++◌, length, take, Some, refl, sym, subst, arith, append_assoc, append-nil}
use Rattle.std.proofs.lemmas.List.{length_push}
use Rattle.history_core.specs.Histories.{at, number, Each, Leads}

-- the number of what comes next, where it stops at a top
one_more : (first before behind top : ℕ) → behind ≡ before + 1 → min (min (first + before) top + 1) top ≡ min (first + behind) top
one_more first before behind top more = omega (arith, more)

module _ {E : Type 0} where
  -- each entry's number is the one before it and one, up to 2^62
  pub number_more : (first : ℕ) (before : List E) (entry : E) → min (number first before + 1) (2 ^ 62) ≡ number first (before ++ entry ∷ [])
  number_more first before entry = one_more first (length before) (length (before ++ entry ∷ [])) (2 ^ 62) (length_push before entry)

  -- a fact of each entry, with one entry more
  pub each_more : (F : List E → E → Type 0) (before entries : List E) (entry : E) → Each F before entries → F (before ++ entries) entry → Each F before (entries ++ entry ∷ [])
  each_more F before [] entry each is = (subst (λ (l : List E). F l entry) (append-nil before) is, tt)
  each_more F before (x ∷ entries) entry each is =
      (each.0, each_more F (before ++ x ∷ []) entries entry each.1 (subst (λ (l : List E). F l entry) (sym (append_assoc before (x ∷ []) entries)) is))

  -- what follows of each fact
  pub each_map : (F G : List E → E → Type 0) → ((before : List E) (entry : E) → F before entry → G before entry) → (before entries : List E) → Each F before entries → Each G before entries
  each_map F G h before [] each = tt
  each_map F G h before (x ∷ entries) each = (h before x each.0, each_map F G h (before ++ x ∷ []) entries each.1)

  -- the fact of the entry at a place
  pub each_at : (F : List E → E → Type 0) (before entries : List E) (place : ℕ) (entry : E) → Each F before entries → at entries place ≡ Some entry → F (before ++ take place entries) entry
  each_at F before [] place entry each is = absurd (let no : ⊥ = cc in no)
  each_at F before (x ∷ entries) zero entry each is = let same : x ≡ entry = cc in subst (λ (l : List E). F l entry) (sym (append-nil before)) (subst (F before) same each.0)
  each_at F before (x ∷ entries) (suc place) entry each is =
      subst (λ (l : List E). F l entry) (append_assoc before (x ∷ []) (take place entries)) (each_at F (before ++ x ∷ []) entries place entry each.1 is)

  -- entries that lead to a state lead on by one more
  pub leads_more : {M : Type 0} (legal : List E → M → E → M → Type 0) (before entries : List E) (entry : E) (old mid new : M)
      → Leads legal before old entries mid → legal (before ++ entries) mid entry new → Leads legal before old (entries ++ entry ∷ []) new
  leads_more {M} legal before [] entry old mid new is may =
      (new, subst (λ (m : M). legal before m entry new) (sym is) (subst (λ (l : List E). legal l mid entry new) (append-nil before) may), refl)
  leads_more {M} legal before (x ∷ entries) entry old mid new leads may =
      (leads.0, leads.1, leads_more legal (before ++ x ∷ []) entries entry leads.0 mid new leads.2 (subst (λ (l : List E). legal l mid entry new) (sym (append_assoc before (x ∷ []) entries)) may))

  -- entries that lead to a state lead on by others
  pub leads_append : {M : Type 0} (legal : List E → M → E → M → Type 0) (before entries others : List E) (old mid new : M)
      → Leads legal before old entries mid → Leads legal (before ++ entries) mid others new → Leads legal before old (entries ++ others) new
  leads_append {M} legal before [] others old mid new is leads =
      subst (λ (m : M). Leads legal before m others new) (sym is) (subst (λ (l : List E). Leads legal l mid others new) (append-nil before) leads)
  leads_append {M} legal before (x ∷ entries) others old mid new leads on =
      (leads.0, leads.1, leads_append legal (before ++ x ∷ []) entries others leads.0 mid new leads.2 (subst (λ (l : List E). Leads legal l mid others new) (sym (append_assoc before (x ∷ []) entries)) on))

  -- an entry stays at its place
  pub at_more : (entries more : List E) (place : ℕ) (entry : E) → at entries place ≡ Some entry → at (entries ++ more) place ≡ Some entry
  at_more [] more place entry is = absurd (let no : ⊥ = cc in no)
  at_more (x ∷ entries) more zero entry is = is
  at_more (x ∷ entries) more (suc place) entry is = at_more entries more place entry is

  -- the last entry's place
  pub at_end : (entries : List E) (entry : E) → at (entries ++ entry ∷ []) (length entries) ≡ Some entry
  at_end [] entry = refl
  at_end (x ∷ entries) entry = at_end entries entry

  -- each place is one of the entries
  pub at_inside : (entries : List E) (place : ℕ) (entry : E) → at entries place ≡ Some entry → place < length entries
  at_inside [] place entry is = absurd (let no : ⊥ = cc in no)
  at_inside (x ∷ entries) zero entry is = omega arith
  at_inside (x ∷ entries) (suc place) entry is = omega (arith, at_inside entries place entry is)
