-- The numbers of WITHCURSOR are within their limits.
use Rattle.std.proofs.Common.{◌≡◌, ℕ, Bool, true, false, cond, List, [], ◌∷◌, Ok, refl, subst, lit≤}
use Rattle.std.specs.Prelude.{◌&&◌, codes, nat_le}
use Rattle.std.proofs.lemmas.Bool.{and_parts, leb-true}
use Rattle.ft_base.proofs.ReadingLaws.{both}
use Rattle.ft_base.specs.Names.{is_name}
use Rattle.ft_schema.proofs.LawfulLaws.{is_ok_of}
use Rattle.cmd_parse.specs.AggregateWords.{cursor_at, limited_at, most_count, most_idle, number_or, usual_count, usual_idle}
use Rattle.cmd_parse.specs.LawfulCursor.{IsLawfulCursor, IsLimited}
use Rattle.cmd_parse.specs.Words.{Word, Read, fault, number_at}
use Rattle.cmd_parse.specs.declared.aggregate_words.CursorSpec.{CursorSpec}
use Rattle.cmd_parse.specs.declared.stop.Cause.TheVariants.{Limit}

pub limited_at-Ok : (most : ℕ) (words : List Word) (read : ℕ × List Word) → limited_at most words ≡ Ok read → IsLimited most read.0
limited_at-Ok most words read e =
    let n = both (number_at words) _ _ e in
    by_test n.read (nat_le 1 n.read.0 && nat_le n.read.0 most) refl n.next_is
  where
    by_test : (n : ℕ × List Word) (test : Bool) → (nat_le 1 n.0 && nat_le n.0 most) ≡ test → cond {A = Read ℕ} test (Ok n) (fault Limit words) ≡ Ok read → IsLimited most read.0
    by_test n true test e =
        let tests = and_parts (nat_le 1 n.0) (nat_le n.0 most) test in
        let same : n ≡ read = is_ok_of e in
        subst (λ (r : ℕ × List Word). IsLimited most r.0) same (leb-true 1 n.0 tests.0, leb-true n.0 most tests.1)
    by_test n false test e = absurd (cc)

number_or-Ok : (name : List ℕ) (most other : ℕ) (words : List Word) (read : ℕ × List Word) → IsLimited most other → number_or name most other words ≡ Ok read → IsLimited most read.0
number_or-Ok name most other [] read usual e =
    let same : (other, []) ≡ read = is_ok_of e in
    subst (λ (r : ℕ × List Word). IsLimited most r.0) same usual
number_or-Ok name most other (word ∷ words) read usual e = by_test (is_name word name) e
  where
    by_test : (named : Bool) → cond {A = Read ℕ} named (limited_at most words) (Ok (other, word ∷ words)) ≡ Ok read → IsLimited most read.0
    by_test true e = limited_at-Ok most words read e
    by_test false e =
        let same : (other, word ∷ words) ≡ read = is_ok_of e in
        subst (λ (r : ℕ × List Word). IsLimited most r.0) same usual

-- WITHCURSOR
pub cursor_at-Ok : (words : List Word) (read : CursorSpec × List Word) → cursor_at words ≡ Ok read → IsLawfulCursor read.0
cursor_at-Ok words read e =
    let count = both (number_or (codes "COUNT") most_count usual_count words) _ _ e in
    let idle = both (number_or (codes "MAXIDLE") most_idle usual_idle count.read.1) _ _ count.next_is in
    let same : (record { count = count.read.0; max_idle = idle.read.0 }, idle.read.1) ≡ read = is_ok_of idle.next_is in
    subst (λ (r : CursorSpec × List Word). IsLawfulCursor r.0) same (record {
      count = number_or-Ok (codes "COUNT") most_count usual_count words count.read (lit≤ tt, lit≤ tt) count.first_is;
      max_idle = number_or-Ok (codes "MAXIDLE") most_idle usual_idle count.read.1 idle.read (lit≤ tt, lit≤ tt) idle.first_is;
    })
