-- What the definitions say of some values and lists.
use Rattle.std.proofs.Common.{◌≡◌, ℕ, ℤ, pos, negsuc, true, false, List, [], ◌∷◌, take, codes, nat_cmp, Less, Equal, Greater, refl, sym, ap, ◌∙◌}
use Rattle.std.specs.Ordering.{on}
use Rattle.ft_base.specs.declared.row.Value.{Value}
use Rattle.ft_base.specs.declared.row.Value.TheFolds.{fold-roll-Value}
use Rattle.ft_base.specs.declared.row.Value.TheOpen as layer
use Rattle.ft_base.specs.declared.row.Value.TheVariants as value
use Rattle.row_sort.specs.Order.{Key, Number, Bytes, Nothing, key_of, key_step, key_order, values_order}
use Rattle.row_sort.specs.Sorting.{sorted}
use Rattle.row_sort.specs.declared.order.Direction.{Direction}

abbrev rising : Direction
rising = record { descending = false; lower = false }

abbrev falling : Direction
falling = record { descending = true; lower = false }

abbrev lowering : Direction
lowering = record { descending = false; lower = true }

-- numbers by number, and falling the other way
numbers_rise : key_order rising (Number (negsuc 1)) (Number (pos 7)) ≡ Less
numbers_rise = refl

numbers_fall : key_order falling (Number (negsuc 1)) (Number (pos 7)) ≡ Greater
numbers_fall = refl

-- texts behind numbers, and falling before them
text_behind_number : key_order rising (Bytes (codes "1")) (Number (pos 7)) ≡ Greater
text_behind_number = refl

text_before_number : key_order falling (Bytes (codes "1")) (Number (pos 7)) ≡ Less
text_before_number = refl

-- Null and Lists behind both in either direction, and they tie
null_last : key_order rising Nothing (Bytes (codes "b")) ≡ Greater
null_last = refl

null_last_too : key_order falling Nothing (Number (pos 7)) ≡ Greater
null_last_too = refl

nulls_tie : key_order falling Nothing Nothing ≡ Equal
nulls_tie = refl

-- texts by bytes, where `B` stands before `a`, a shorter one before a longer one that it begins
bytes_decide : key_order rising (Bytes (codes "B")) (Bytes (codes "a")) ≡ Less
bytes_decide = refl

shorter_first : key_order rising (Bytes (codes "app")) (Bytes (codes "apple")) ≡ Less
shorter_first = refl

-- and with A to Z lowered
letters_decide : key_order lowering (Bytes (codes "B")) (Bytes (codes "a")) ≡ Greater
letters_decide = refl

letters_tie : key_order lowering (Bytes (codes "Apple")) (Bytes (codes "aPPLE")) ≡ Equal
letters_tie = refl

-- what tie stay in the order in which they were
abbrev pairs : List (ℕ × ℕ)
pairs = (2, 1) ∷ (1, 2) ∷ (2, 3) ∷ (1, 4) ∷ []

pairs_sorted : sorted (on (λ p. p.0) nat_cmp) pairs ≡ (1, 2) ∷ (1, 4) ∷ (2, 1) ∷ (2, 3) ∷ []
pairs_sorted = refl

first_pairs : take 3 (sorted (on (λ p. p.0) nat_cmp) pairs) ≡ (1, 2) ∷ (1, 4) ∷ (2, 1) ∷ []
first_pairs = refl

-- what a key sees
number_seen : (n : ℤ) → key_of (value.Num n) ≡ Number n
number_seen n = ap key_of (sym (value.rolls-Num n)) ∙ fold-roll-Value Key key_step (layer.Num n)

null_unseen : key_of value.Null ≡ Nothing
null_unseen = ap key_of (sym value.rolls-Null) ∙ fold-roll-Value Key key_step layer.Null

list_unseen : (values : List Value) → key_of (value.List values) ≡ Nothing
list_unseen values = ap key_of (sym (value.rolls-List values)) ∙ fold-roll-Value Key key_step (layer.List values)

-- the first key at which they differ decides, and a value that is missing counts as Null
abbrev number : ℤ → Value
number n = value.Num n

second_key : values_order (rising ∷ falling ∷ []) (number (pos 1) ∷ number (pos 2) ∷ []) (number (pos 1) ∷ number (pos 3) ∷ [])
    ≡ Greater
second_key = simp number_seen

missing_last : values_order (rising ∷ falling ∷ []) (number (pos 1) ∷ []) (number (pos 1) ∷ number (pos 3) ∷ []) ≡ Greater
missing_last = simp (number_seen, null_unseen)
