use Rattle.std.proofs.Common.{◌≡◌, ◌≤◌, ◌+◌, ◌-◌, ℕ, true, length, take, drop, refl, ap, sym, ◌∙◌, arith}
use Rattle.std.proofs.lemmas.Slice.{between_to_end, drop-put_mid, take-put_mid_below}
use Rattle.token_text.specs.Runs.{begins_escape}
use Rattle.token_text.specs.Tokens.{lowered}
use Rattle.token_text.proofs.RunsLaws.{end-at, escape-at, run-at, size-put, unread-on, word-begun, word-grown}
use Rattle.token_text.proofs.runs.next_run.Goals as goal

pub escapes-init : goal.escapes-init
escapes-init c =
    let text = c.args.text.now in
    let bytes = c.args.bytes.now in
    let from = c.args.from in
    let end = c.first_separator-end.result in
    let place = c.first_separator-end.ensures.place in
    record {
      word = word-begun text bytes from end place c.requires.lowered;
      others = ap (λ parts. parts.1) (run-at text from end place);
      ends = end-at text from end place;
      some = omega arith;
      order = omega arith;
      within = c.first_separator-end.ensures.bound;
      long = c.requires.long;
      kept = refl;
      unread = unread-on text bytes from end (omega arith) c.requires.lowered;
    }

pub escapes-preserved : goal.escapes-preserved
escapes-preserved c =
    let text = c.args.text.now in
    let bytes = c.escapes.bytes in
    let out = c.lower_into.new.out in
    let from = c.args.from in
    let to = c.escapes.to in
    let at = c.escapes.end in
    let next = c.first_separator-next.result in
    let place = c.first_separator-next.ensures.place in
    let within = c.first_separator-next.ensures.bound in
    let more : ℕ = next - at - 1 in
    let inv = c.escapes.invariant in
    let far : at + 2 ≤ next = omega arith in
    let room : to ≤ length bytes = omega (arith, inv.order, inv.within, inv.long) in
    let same : out ≡ lowered (take (next - (at + 1)) (drop (at + 1) text)) = c.lower_into.ensures.lowered in
    let size : length out ≡ next - (at + 1) = size-put text out at next same within in
    let escape : begins_escape (drop at text) ≡ true
    = ap begins_escape (sym (between_to_end text at (length text) (omega arith))) ∙ sym c.begins_escape.ensures ∙ c.escapes-test.true in
    record {
      word = word-grown text bytes out _ from to at next (to + more - to) inv.word escape place within same inv.some room;
      others = inv.others ∙ ap (λ parts. parts.1) (escape-at text at next escape place);
      ends = end-at text (at + 2) next place;
      some = omega (arith, inv.some);
      order = omega (arith, inv.order);
      within = within;
      long = omega arith;
      kept = take-put_mid_below to (to + more - to) bytes out from inv.some room ∙ inv.kept;
      unread = drop-put_mid to (to + more - to) bytes out next (omega (arith, inv.order)) room (omega arith) ∙ unread-on text bytes at next (omega arith) inv.unread;
    }

pub returns-clause-unread : goal.returns-clause-unread
returns-clause-unread c = unread-on c.args.text.now c.escapes.bytes c.escapes.end (c.escapes.end + 1) (omega arith) c.escapes.invariant.unread
