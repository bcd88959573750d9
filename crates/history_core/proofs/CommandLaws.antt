-- One command more in a history.
use Rattle.std.specs.Prelude.{Bool, true, false, cond, nat_eq}
use Rattle.std.proofs.Common.{◌≡◌, ℕ, List, [], ◌∷◌, ◌++◌, refl, sym, ap, ◌∙◌, append_assoc, rules}
use Rattle.std.proofs.lemmas.List.{append-nil}
use Rattle.history_core.specs.Commands.{Said, caller_of, own, replies_of}
use Rattle.history_core.specs.Entries.{Entry}

same-number : (n : ℕ) → nat_eq n n ≡ true
same-number n = search rules

module _ {K N A : Type 0} where
  -- the entries of a caller among these and those
  pub own-append : (caller : ℕ) (entries others : List (Entry K N A)) → own caller (entries ++ others) ≡ own caller entries ++ own caller others
  own-append caller [] others = refl
  own-append caller (entry ∷ entries) others = by_test (nat_eq caller (caller_of entry)) (own-append caller entries others)
    where
      by_test : (b : Bool) → own caller (entries ++ others) ≡ own caller entries ++ own caller others
          → cond b (entry ∷ own caller (entries ++ others)) (own caller (entries ++ others)) ≡ cond b (entry ∷ own caller entries) (own caller entries) ++ own caller others
      by_test true rest = ap (λ (l : List (Entry K N A)). entry ∷ l) rest
      by_test false rest = rest

  -- a caller's entry is its last
  pub own-push : (caller : ℕ) (entry : Entry K N A) (entries : List (Entry K N A)) → caller_of entry ≡ caller → own caller (entries ++ entry ∷ []) ≡ own caller entries ++ entry ∷ []
  own-push caller entry entries its =
      own-append caller entries (entry ∷ [])
      ∙ ap (λ (b : Bool). own caller entries ++ cond b (entry ∷ []) []) (ap (λ (n : ℕ). nat_eq caller n) its ∙ same-number caller)

-- the replies with one more
pub replies_of-push : (said : List Said) (one : Said) → replies_of (said ++ one ∷ []) ≡ replies_of said ++ one.reply
replies_of-push [] one = append-nil one.reply
replies_of-push (first ∷ said) one =
    ap (λ (t : List ℕ). first.reply ++ t) (replies_of-push said one) ∙ sym (append_assoc first.reply (replies_of said) one.reply)
