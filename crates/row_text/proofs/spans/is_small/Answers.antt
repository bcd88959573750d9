use Rattle.std.proofs.Common.{◌≡◌, ℕ, ◌+◌, ◌-◌, ◌*◌, ◌≤◌, List, [], ◌∷◌, length, drop, arith, length-drop, refl}
use Rattle.std.specs.Prelude.{fold, slice_index_or}
use Rattle.std.proofs.lemmas.List.{length-take, length-map}
use Rattle.std.proofs.lemmas.List.Elements.{All-map}
use Rattle.ft_base.specs.Words.{KeepsLimits}
use Rattle.ft_base.specs.Spans.{word_at, words_of}
use Rattle.ft_base.specs.declared.limits.TheConstants.{MAX_WORD_BYTES}
use Rattle.ft_base.specs.declared.words.Span.{Span}
use Rattle.row_text.proofs.spans.is_small.Goals as goal

-- a word is no longer than the line
short : (line : List ℕ) (span : Span) → length (word_at line span) ≤ length line
short line span = omega (arith, length-take (span.to - span.from) (drop span.from line), length-drop span.from line)

-- the bytes of all words are not many
few : (line : List ℕ) (spans : List Span) (sum : ℕ) → length line ≤ 200 → fold (λ a word. a + length word) sum (words_of line spans) ≤ sum + length spans * 200
few line [] sum h = omega arith
few line (span ∷ spans) sum h = omega (arith, short line span, few line spans (sum + length (word_at line span)) h)

-- the words of a short line keep the limits
small : (line : List ℕ) (spans : List Span) (words : List (List ℕ)) → words ≡ words_of line spans → length line ≤ 200 → length spans ≤ 200 → KeepsLimits words
small line spans words same h k = rw same (record {
  number = omega (arith, length-map spans (word_at line));
  each = All-map (λ word. length word ≤ MAX_WORD_BYTES) (word_at line) spans (λ i d within. omega (arith, short line (slice_index_or spans i d)));
  total = omega (arith, few line spans 0 h);
})

pub returns-clause-limits : goal.returns-clause-limits
returns-clause-limits c some = small c.args.line.now c.args.spans.now _ refl (omega (arith, c.if-line-gt-LINE.false)) (omega (arith, c.if-spans-gt-LINE.false))
