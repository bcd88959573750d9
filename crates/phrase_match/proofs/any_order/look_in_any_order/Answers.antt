use Rattle.std.proofs.Common.{◌≡◌, ◌<◌, ◌+◌, ◌-◌, ℕ, length, take, drop, sym, ap, ◌∙◌, subst, arith, true, None, Some, slice_get}
use Rattle.std.proofs.lemmas.List.Elements.{recursion_from_All}
use Rattle.phrase_match.specs.Phrase.{rises}
use Rattle.phrase_match.specs.Look.{from, earliest, twins}
use Rattle.phrase_match.proofs.PlacesLaws.{word_at, number_none, number_some}
use Rattle.phrase_match.proofs.AnyOrderLaws.{AllPlaced, left_over, none_over, later_over, split_at, placed_more, all_over}
use Rattle.phrase_match.proofs.any_order.look_in_any_order.Goals as goal

pub returns-in_default : goal.returns-in_default
returns-in_default c =
    let lists = c.args.words.now in
    let at = c.words.left - 1 in
    let xs = c.list-list.result.now in
    let word = word_at at xs lists c.requires.rising (omega arith) c.list-list.ensures in
    let read : slice_get (from c.args.low xs) (twins xs (take at lists)) ≡ None = rw
    (← c.twins-number.ensures, ← c.from.ensures) (sym c.place_from.ensures ∙ c.in_default.is) in
    none_over c.args.slop c.args.low lists (take at lists) (drop (at + 1) lists) xs word.up c.requires.apart
    (split_at at xs lists word.rest) (number_none (twins xs (take at lists)) (from c.args.low xs) read)

pub returns-then-low-start : goal.returns-then-low-start
returns-then-low-start c =
    let lists = c.args.words.now in
    let at = c.words.left - 1 in
    let xs = c.list-list.result.now in
    let word = word_at at xs lists c.requires.rising (omega arith) c.list-list.ensures in
    let read : slice_get (from c.args.low xs) (twins xs (take at lists)) ≡ Some c.in-Some.place = rw
    (← c.twins-number.ensures, ← c.from.ensures) (sym c.place_from.ensures ∙ c.in-Some.is) in
    let some = number_some (twins xs (take at lists)) c.in-Some.place (from c.args.low xs) read in
    let start : earliest (left_over c.args.low (take at lists) xs) (length lists - 1) c.args.slop ≡ c.earliest_start-start.result =
    ap (λ place. earliest place (length lists - 1) c.args.slop) some.1 ∙ ap (λ n. earliest c.in-Some.place (n - 1) c.args.slop) (sym c.len.ensures) ∙ sym c.earliest_start-start.ensures in (
      c.if-low-start.true,
      rw start at (later_over c.args.slop c.args.low lists (take at lists) (drop
          (at + 1) lists) xs word.up c.requires.apart (split_at at xs lists word.rest) (omega (arith, start, c.if-low-start.true))),
    )

pub words-preserved : goal.words-preserved
words-preserved c =
    let lists = c.args.words.now in
    let at = c.words.left - 1 in
    let xs = c.list-list.result.now in
    let within : at < length lists = omega arith in
    let word = word_at at xs lists c.requires.rising within c.list-list.ensures in
    let read : slice_get (from c.args.low xs) (twins xs (take at lists)) ≡ Some c.in-Some.place = rw
    (← c.twins-number.ensures, ← c.from.ensures) (sym c.place_from.ensures ∙ c.in-Some.is) in
    let some = number_some (twins xs (take at lists)) c.in-Some.place (from c.args.low xs) read in
    let start : earliest (left_over c.args.low (take at lists) xs) (length lists - 1) c.args.slop ≡ c.earliest_start-start.result =
    ap (λ place. earliest place (length lists - 1) c.args.slop) some.1 ∙ ap (λ n. earliest c.in-Some.place (n - 1) c.args.slop) (sym c.len.ensures) ∙ sym c.earliest_start-start.ensures in
    record {
      within = omega arith;
      placed = placed_more c.args.slop c.args.low (length lists - 1) at c.words.left xs lists
          (omega arith) within word.read word.rest some.0 (omega (arith, start, c.if-low-start.false)) c.words.invariant.placed;
    }

pub returns : goal.returns
returns c =
    let lists = c.args.words.now in
    let none : c.words.left ≡ 0 = omega arith in
    all_over c.args.slop c.args.low lists (recursion_from_All (λ xs. rises xs ≡ true) lists c.requires.rising) c.requires.apart
    (subst (λ (n : ℕ). AllPlaced c.args.slop c.args.low (length lists - 1) (take n lists) (drop n lists)) none c.words.invariant.placed)
