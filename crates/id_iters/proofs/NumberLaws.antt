-- Numbers of 64 bits in the widest interval.
use Rattle.std.proofs.Common.{◌≡◌, ◌<◌, ◌^◌, ◌&&◌, ℤ, pos, negsuc, true, ap, ◌∙◌, arith}
use Rattle.std.specs.Prelude.{int_le}
use Rattle.std.proofs.lemmas.Bool.{le-leb}
use Rattle.posting_block.specs.Zigzag.{zigzag}
use Rattle.posting_block.specs.declared.hits.NumHit.{NumHit}
use Rattle.id_iters.specs.Entries.{lies_in}

number_lies : (v : ℤ) → zigzag v < 2 ^ 64 → (int_le (negsuc 9223372036854775807) v && int_le v (pos 9223372036854775807)) ≡ true
number_lies (pos n) fits = le-leb n 9223372036854775807 (omega (arith, fits))
number_lies (negsuc n) fits = ap (λ b. b && true) (le-leb n 9223372036854775807 (omega (arith, fits)))

-- each number lies in the widest interval
pub all_lie : (low high : ℤ) (hit : NumHit) → low ≡ negsuc 9223372036854775807 → high ≡ pos 9223372036854775807 → zigzag hit.value < 2 ^ 64 → lies_in low high hit ≡ true
all_lie low high hit least greatest fits =
    ap (λ (n : ℤ). lies_in n high hit) least
    ∙ ap (λ (n : ℤ). lies_in (negsuc 9223372036854775807) n hit) greatest
    ∙ number_lies hit.value fits
