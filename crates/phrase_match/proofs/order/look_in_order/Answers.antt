use Rattle.std.proofs.Common.{◌≡◌, ◌+◌, List, ℕ, sym, ap, ◌∙◌, subst, arith}
use Rattle.std.proofs.lemmas.List.{drop_all}
use Rattle.phrase_match.specs.Look.{from, earliest}
use Rattle.phrase_match.proofs.PlacesLaws.{word_at, number_none, number_some}
use Rattle.phrase_match.proofs.OrderLaws.{Going, Reached, first_from, going_on, going_nowhere, going_later, going_fits}
use Rattle.phrase_match.proofs.order.look_in_order.Goals as goal

pub returns-in_default : goal.returns-in_default
returns-in_default c =
    let lists = c.args.words.now in
    let xs = c.list-list.result.now in
    let word = word_at c.words.i xs lists c.requires (omega (arith, c.words-test.true, c.len-i-end.ensures)) c.list-list.ensures in
    let none = number_none 0 (from c.words.next xs) (sym c.place_from.ensures ∙ c.in_default.is) in
    going_nowhere c.args.slop c.args.low lists c.words.i c.words.next xs word.up word.rest c.words.invariant (omega (arith, none))

pub returns-then-low-start : goal.returns-then-low-start
returns-then-low-start c =
    let lists = c.args.words.now in
    let xs = c.list-list.result.now in
    let word = word_at c.words.i xs lists c.requires (omega (arith, c.words-test.true, c.len-i-end.ensures)) c.list-list.ensures in
    let some = number_some 0 c.in-Some.place (from c.words.next xs) (sym c.place_from.ensures ∙ c.in-Some.is) in
    let start : earliest (first_from c.words.next xs) c.words.i c.args.slop ≡ c.earliest_start-start.result =
    ap (λ place. earliest place c.words.i c.args.slop) some.1 ∙ sym c.earliest_start-start.ensures in (
      c.if-low-start.true,
      rw start at
          (going_later c.args.slop c.args.low lists c.words.i c.words.next xs word.up word.rest c.words.invariant some.0 (omega
          (arith, start, c.if-low-start.true))),
    )

pub words-preserved : goal.words-preserved
words-preserved c =
    let lists = c.args.words.now in
    let xs = c.list-list.result.now in
    let word = word_at c.words.i xs lists c.requires (omega (arith, c.words-test.true, c.len-i-end.ensures)) c.list-list.ensures in
    let some = number_some 0 c.in-Some.place (from c.words.next xs) (sym c.place_from.ensures ∙ c.in-Some.is) in
    let start : earliest (first_from c.words.next xs) c.words.i c.args.slop ≡ c.earliest_start-start.result =
    ap (λ place. earliest place c.words.i c.args.slop) some.1 ∙ sym c.earliest_start-start.ensures in
    let next : first_from c.words.next xs + 1 ≡ c.from-next-in-words.result + 1 = ap (λ place. place + 1) (some.1
    ∙ sym c.from-next-in-words.ensures) in
    subst (λ (n : ℕ). Going c.args.slop c.args.low lists (c.words.i + 1) n) next
    (going_on c.args.slop c.args.low lists c.words.i c.words.next xs word.up word.rest c.words.invariant some.0 (omega
    (arith, start, c.if-low-start.false)))

pub returns : goal.returns
returns c =
    let lists = c.args.words.now in
    going_fits c.args.slop c.args.low lists (c.words.invariant.left (subst (λ (ls : List
    (List ℕ)). Reached c.args.slop c.args.low c.words.i c.words.next ls) (sym (drop_all c.words.i lists (omega (arith, c.words-test.false, c.len-i-end.ensures)))) tt))
