-- The bytes of a name, told in two ways.
use Rattle.std.proofs.Common.{◌≡◌, ℕ, ◌≤◌, refl, inl, inr, arith}
use Rattle.std.proofs.lemmas.Bool.{cases_lt, agree_below_at, le-ltb, le-leb, lt-leb, ne_eqb}
use Rattle.query_lex.specs.Bytes.{is_of_name}
use Rattle.query_lex.specs.Spelling.{is_name_byte}

-- bytes from 0x80 on are of no name
high-byte : (b : ℕ) → 128 ≤ b → is_of_name b ≡ is_name_byte b
high-byte b high =
    rw (
      le-leb 48 b (omega arith),
      lt-leb b 57 (omega arith),
      le-leb 65 b (omega arith),
      lt-leb b 90 (omega arith),
      ne_eqb b 95 (omega arith),
      le-leb 97 b (omega arith),
      lt-leb b 122 (omega arith),
      le-ltb b 128 high,
    ) refl

pub name-byte : (b : ℕ) → is_of_name b ≡ is_name_byte b
name-byte b =
    elim (cases_lt b 128) [
      | inl low ↦ agree_below_at is_of_name is_name_byte 128 b refl low
      | inr high ↦ high-byte b high
    ]
