use Rattle.std.specs.Prelude.{nat_eq, ◌||◌}
use Rattle.std.proofs.Common.{◌≡◌, ◌≤◌, ◌<◌, ◌-◌, ◌/◌, ◌*◌, ◌^◌, ◌%◌, ◌∙◌, ap, sym, subst, arith, get_or, length, bit_or, ℕ}
use Rattle.std.proofs.Math.ListN.{set}
use Rattle.std.proofs.lemmas.Grind.{get_or_default_zero}
use Rattle.id_iters.specs.Stretch.{Stretch, is_in}
use Rattle.id_iters.proofs.BitLaws.{one_more, stretch}
use Rattle.id_iters.proofs.bits.Bits.set.Goals as goal

pub returns-clause-has : goal.returns-clause-has
returns-clause-has c = λ other lower.
    let start = c.self.inside.start in
    let words = c.self.inside.words.items in
    let at = c.args.id / 64 - start in
    let starts : start ≡ c.args.self.now.start = ap (λ (w : Stretch). w.start) c.self.view_is in
    let long : length words ≡ length c.args.self.now.words = ap (λ (w : Stretch). length w.words) c.self.view_is in
    let low : 64 * start ≤ c.args.id = omega (arith, c.requires.base, starts) in
    let within : at < length words = omega (arith, c.requires.limit, low, starts, long) in
    let word : get_or words at 0 ≡ c.index.result.now = sym (get_or_default_zero words at c.index.result.now within) ∙ sym c.index.ensures in
    subst (λ (w : ℕ). is_in (stretch start (set words at (bit_or w (1 * 2 ^ (c.args.id % 64) % 2 ^ 64)))) other ≡ (nat_eq other c.args.id || is_in (stretch start words) other)) word
    (one_more start c.args.id words low within other (omega (arith, lower, starts)))
    ∙ ap (λ (w : Stretch). nat_eq other c.args.id || is_in w other) c.self.view_is
