use Rattle.std.proofs.Common.{◌≡◌, ◌+◌, ◌++◌, [], List, length, drop, append-nil, ap, sym, ◌∙◌, arith}
use Rattle.std.proofs.lemmas.List.{drop_all, length-map}
use Rattle.std.specs.Char.{to_ascii_lowercase}
use Rattle.token_text.specs.declared.token.Token.{Token}
use Rattle.token_text.specs.Slices.{tokens_in}
use Rattle.token_text.proofs.SlicesLaws.{length-tokens, tokens-front, within-more}
use Rattle.token_text.proofs.TokensLaws.{coming, coming-start, coming-end, coming-found}
use Rattle.token_text.proofs.token.cut.Goals as goal

pub cutting-init : goal.cutting-init
cutting-init c =
    let none : length c.args.parts.now.items ≡ 0 = ap length c.requires.none in
    let long : length c.args.bytes.now ≡ length c.args.text.now = ap length c.requires.lowered ∙ length-map c.args.text.now to_ascii_lowercase in
    record {
      found = rw c.requires.none (coming-start c.args.stops.now.words c.args.text.now);
      within = rw c.requires.none tt;
      inside = rw c.requires.none tt;
      unread = c.requires.lowered;
      long = long;
      fewer = omega arith;
      few = omega arith;
    }

pub cutting-preserved : goal.cutting-preserved
cutting-preserved c =
    let text = c.args.text.now in
    let stops = c.args.stops.now.words in
    let old = c.cutting.bytes in
    let bytes = c.next_run-to.new.bytes in
    let parts = c.cutting.parts.items in
    let new = c.add_run.new.parts.items in
    let from = c.cutting.from in
    let to = c.next_run-to.result.to in
    let end = c.next_run-to.result.end in
    let inv = c.cutting.invariant in
    let run = c.next_run-to.ensures in
    let added = c.in_ok-add_run.ensures in
    let front : tokens_in bytes parts ≡ tokens_in old parts = tokens-front old bytes 1 from parts run.kept inv.within in
    let before : length (tokens_in bytes parts) ≡ length parts = length-tokens bytes 1 parts in
    let after : length (tokens_in bytes new) ≡ length new = length-tokens bytes 1 new in
    let so_far = inv.found ∙ ap (λ (found : List Token). found ++ coming stops (length parts + 1) (drop from text)) (sym front) in
    record {
      found = coming-found stops _ (tokens_in bytes parts) (tokens_in bytes new) (length parts + 1) (length new + 1) (drop from text) _ (drop (end + 1) text)
          so_far (sym run.word) run.others added.added (omega arith) (omega arith);
      within = added.within (end + 1) (omega (arith, run.order)) (within-more from (end + 1) parts (omega (arith, run.some, run.order)) inv.within);
      inside = added.within (length text) (omega (arith, run.order, run.within)) inv.inside;
      unread = run.unread;
      long = run.long ∙ inv.long;
      fewer = omega (arith, added.one, run.some, run.order, inv.fewer);
      few = omega (arith, added.one, inv.fewer);
    }

pub returns-clause-tokens : goal.returns-clause-tokens
returns-clause-tokens c =
    let text = c.args.text.now in
    let stops = c.args.stops.now.words in
    let parts = c.cutting.parts.items in
    let none : drop c.cutting.from text ≡ [] = drop_all c.cutting.from text (omega arith) in
    let left : coming stops (length parts + 1) (drop c.cutting.from text) ≡ [] = ap (coming stops (length parts + 1)) none ∙ coming-end stops (length parts + 1) in
    sym (c.cutting.invariant.found ∙ ap (λ (rest : List Token). tokens_in c.cutting.bytes parts ++ rest) left ∙ append-nil (tokens_in c.cutting.bytes parts))
