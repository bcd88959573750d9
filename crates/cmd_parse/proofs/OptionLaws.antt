-- What the words of each option are made of.
use Rattle.std.proofs.Common.{◌≡◌, ◌≤◌, ◌+◌, ◌-◌, ◌==◌, ℕ, Bool, true, false, cond, List, [], ◌∷◌, length, Option, Some, None, Ok, refl, subst, arith}
use Rattle.std.proofs.lemmas.Bool.Decides.{nat_tests}
use Rattle.std.proofs.lemmas.List.Elements.{All-from_recursion}
use Rattle.std.specs.List.{Contains, position_from}
use Rattle.std.specs.Prelude.{codes, nat_le}
use Rattle.field_text.specs.Bounds.{high_of, interval_of, low_of}
use Rattle.field_text.specs.declared.bounds.Bound.{Bound}
use Rattle.ft_base.proofs.ReadingLaws.{both}
use Rattle.ft_base.specs.Names.{is_name}
use Rattle.ft_schema.proofs.LawfulLaws.{is_ok_of}
use Rattle.cmd_parse.specs.Filters.{Filter, end_at, end_of, end_with, filter_at}
use Rattle.cmd_parse.specs.LawfulSearch.{AreAmong, IsAt}
use Rattle.cmd_parse.specs.Options.{Sort, dialect_at, direction_at, is_as, keys_at, most_rows, names_at, some_keys, sort_at, unless_as, window_at, window_with}
use Rattle.cmd_parse.specs.Words.{Word, Read, fault, counted_at, number_at, word_at}
use Rattle.cmd_parse.specs.declared.stop.Cause.TheVariants.{Limit, OutOfScope}
use Rattle.cmd_parse.proofs.BehindLaws.{Among, Behind, behind-next, counted_at-Ok, each-among, number_at-Ok, word_at-Ok}

all-among : (all words : List Word) → Among words all → AreAmong all (Some words)
all-among all words among = All-from_recursion (λ word. Contains all word) words (each-among all words among)

-- RETURN
unless_as-Ok : (all from names words : List Word) (found : Option ℕ) (read : List Word × List Word) → Behind all words → Among names all → unless_as found from names words ≡ Ok read
    → Behind all read.1 × AreAmong all (Some read.0)
unless_as-Ok all from names words (Some at) read behind among e = absurd (cc)
unless_as-Ok all from names words None read behind among e =
    let same : (names, words) ≡ read = is_ok_of e in
    subst (λ (r : List Word × List Word). Behind all r.1 × AreAmong all (Some r.0)) same (behind, all-among all names among)

pub names_at-Ok : (all words : List Word) (read : List Word × List Word) → Behind all words → names_at words ≡ Ok read → Behind all read.1 × AreAmong all (Some read.0)
names_at-Ok all words read behind e =
    let names = both (counted_at words) _ _ e in
    let counted = counted_at-Ok all words names.read behind names.first_is in
    unless_as-Ok all words names.read.0 names.read.1 (position_from is_as 1 names.read.0) read counted.0 counted.1 names.next_is

-- INKEYS
some_keys-Ok : (all from keys words : List Word) (read : List Word × List Word) → Behind all words → Among keys all → some_keys from keys words ≡ Ok read
    → Behind all read.1 × AreAmong all (Some read.0)
some_keys-Ok all from [] words read behind among e = absurd (cc)
some_keys-Ok all from (key ∷ keys) words read behind among e =
    let same : (key ∷ keys, words) ≡ read = is_ok_of e in
    subst (λ (r : List Word × List Word). Behind all r.1 × AreAmong all (Some r.0)) same (behind, all-among all (key ∷ keys) among)

pub keys_at-Ok : (all words : List Word) (read : List Word × List Word) → Behind all words → keys_at words ≡ Ok read → Behind all read.1 × AreAmong all (Some read.0)
keys_at-Ok all words read behind e =
    let keys = both (counted_at words) _ _ e in
    let counted = counted_at-Ok all words keys.read behind keys.first_is in
    some_keys-Ok all words keys.read.0 keys.read.1 read counted.0 counted.1 keys.next_is

-- FILTER
end_with-Ok : (all from words : List Word) (found : Option (Bool × Bound)) (read : (Bool × Bound) × List Word) → Behind all words → end_with found from words ≡ Ok read → Behind all read.1
end_with-Ok all from words None read behind e = absurd (cc)
end_with-Ok all from words (Some end) read behind e =
    let same : (end, words) ≡ read = is_ok_of e in
    subst (λ (r : (Bool × Bound) × List Word). Behind all r.1) same behind

end_at-Ok : (all words : List Word) (read : (Bool × Bound) × List Word) → Behind all words → end_at words ≡ Ok read → Behind all read.1
end_at-Ok all [] read behind e = absurd (cc)
end_at-Ok all (word ∷ words) read behind e = end_with-Ok all (word ∷ words) words (end_of word) read (behind-next all word words behind) e

abbrev filter_from : ℕ → Word → Bool × Bound → Bool × Bound → Filter
filter_from at field low high = record { at = at; field = field; interval = interval_of (low_of low.0 low.1) (high_of high.0 high.1) }

pub filter_at-Ok : (all words : List Word) (read : Filter × List Word) → Behind all words → filter_at (length all) words ≡ Ok read → Behind all read.1 × IsAt all read.0.at read.0.field
filter_at-Ok all words read behind e =
    let field = both (word_at words) _ _ e in
    let low = both (end_at field.read.1) _ _ field.next_is in
    let high = both (end_at low.read.1) _ _ low.next_is in
    let named = word_at-Ok all words field.read behind field.first_is in
    let behind_low = end_at-Ok all field.read.1 low.read named.0 low.first_is in
    let same : (filter_from (length all - length words) field.read.0 low.read.0 high.read.0, high.read.1) ≡ read = is_ok_of high.next_is in
    subst (λ (r : Filter × List Word). Behind all r.1 × IsAt all r.0.at r.0.field) same (end_at-Ok all low.read.1 high.read behind_low high.first_is, named.1)

-- SORTBY
pub direction_at-Behind : (all words : List Word) → Behind all words → Behind all (direction_at words).1
direction_at-Behind all [] behind = behind
direction_at-Behind all (word ∷ words) behind = by_tests (is_name word (codes "ASC")) (is_name word (codes "DESC"))
  where
    by_tests : (rising falling : Bool)
        → Behind all (cond {A = Bool × List Word} rising (false, words) (cond {A = Bool × List Word} falling (true, words) (false, word ∷ words))).1
    by_tests true falling = behind-next all word words behind
    by_tests false true = behind-next all word words behind
    by_tests false false = behind

abbrev sort_from : ℕ → Word → Bool → Sort
sort_from at field descending = record { at = at; field = field; descending = descending }

pub sort_at-Ok : (all words : List Word) (read : Sort × List Word) → Behind all words → sort_at (length all) words ≡ Ok read → Behind all read.1 × IsAt all read.0.at read.0.field
sort_at-Ok all words read behind e =
    let field = both (word_at words) _ _ e in
    let named = word_at-Ok all words field.read behind field.first_is in
    let same : (sort_from (length all - length words) field.read.0 (direction_at field.read.1).0, (direction_at field.read.1).1) ≡ read = is_ok_of field.next_is in
    subst (λ (r : Sort × List Word). Behind all r.1 × IsAt all r.0.at r.0.field) same (direction_at-Behind all field.read.1 named.0, named.1)

-- LIMIT
window_with-Ok : (all from : List Word) (offset num : ℕ) (words : List Word) (read : (ℕ × ℕ) × List Word) → Behind all words → window_with from offset num words ≡ Ok read
    → Behind all read.1 × (read.0.0 + read.0.1 ≤ most_rows)
window_with-Ok all from offset num words read behind e = by_test (nat_le (offset + num) most_rows) refl e
  where
    by_test : (fits : Bool) → nat_le (offset + num) most_rows ≡ fits → cond {A = Read (ℕ × ℕ)} fits (Ok ((offset, num), words)) (fault Limit from) ≡ Ok read
        → Behind all read.1 × (read.0.0 + read.0.1 ≤ most_rows)
    by_test true test e =
        let same : ((offset, num), words) ≡ read = is_ok_of e in
        let fits : offset + num ≤ most_rows = grind (arith, nat_tests) in
        subst (λ (r : (ℕ × ℕ) × List Word). Behind all r.1 × (r.0.0 + r.0.1 ≤ most_rows)) same (behind, fits)
    by_test false test e = absurd (cc)

pub window_at-Ok : (all words : List Word) (read : (ℕ × ℕ) × List Word) → Behind all words → window_at words ≡ Ok read → Behind all read.1 × (read.0.0 + read.0.1 ≤ most_rows)
window_at-Ok all words read behind e =
    let offset = both (number_at words) _ _ e in
    let num = both (number_at offset.read.1) _ _ offset.next_is in
    let behind_offset = number_at-Ok all words offset.read behind offset.first_is in
    window_with-Ok all words offset.read.0 num.read.0 num.read.1 read (number_at-Ok all offset.read.1 num.read behind_offset num.first_is) num.next_is

-- DIALECT
pub dialect_at-Ok : (all words : List Word) (read : ℕ × List Word) → Behind all words → dialect_at words ≡ Ok read → Behind all read.1
dialect_at-Ok all words read behind e =
    let dialect = both (number_at words) _ _ e in
    by_test dialect.read (number_at-Ok all words dialect.read behind dialect.first_is) (dialect.read.0 == 2) dialect.next_is
  where
    by_test : (found : ℕ × List Word) → Behind all found.1 → (second : Bool) → cond {A = Read ℕ} second (Ok found) (fault OutOfScope words) ≡ Ok read → Behind all read.1
    by_test found behind_found true e =
        let same : found ≡ read = is_ok_of e in
        subst (λ (r : ℕ × List Word). Behind all r.1) same behind_found
    by_test found behind_found false e = absurd (cc)
