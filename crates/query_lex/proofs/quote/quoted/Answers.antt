use Rattle.std.proofs.Common.{◌≡◌, List, [], ◌∷◌, ◌++◌, rules, arith, ap, sym, ◌∙◌}
use Rattle.query_lex.specs.declared.text_byte.TextByte.{TextByte}
use Rattle.query_lex.specs.Quotes.{spelled, next_quoted}
use Rattle.query_lex.proofs.Runs.{begins, goes_on}
use Rattle.query_lex.proofs.SpelledLemmas.{spelled-append}
use Rattle.query_lex.proofs.quote.quoted.Goals as goal

pub reading-init : goal.reading-init
reading-init c = record {
  seen = [];
  shown = search rules;
  reads = begins (next_quoted c.args.inside.now) c.args.inside.now;
  within = omega arith;
}

pub reading-preserved : goal.reading-preserved
reading-preserved c =
    let seen : List TextByte = c.reading.invariant.seen in
    let more : c.add.new.text ≡ c.reading.text ++ spelled (c.in-Ok-Some.byte ∷ []) = search rules in
    record {
      seen = seen ++ c.in-Ok-Some.byte ∷ [];
      shown = more ∙ ap (λ text. text ++ spelled (c.in-Ok-Some.byte ∷ [])) c.reading.invariant.shown ∙ sym (spelled-append seen (c.in-Ok-Some.byte ∷ []));
      reads = goes_on (next_quoted c.args.inside.now) _ _ _ _ _ (rw c.in-Ok-Some.field-0-is at c.in-Ok-Some.ensures.read) (rw c.in-Ok-Some.field-0-is at c.in-Ok-Some.ensures.shorter) c.reading.invariant.reads;
      within = omega (arith, (rw c.in-Ok-Some.field-0-is at c.in-Ok-Some.ensures.shorter), c.reading.invariant.within);
    }
