-- Words keep their bytes where more come behind.
use Rattle.std.proofs.Common.{◌≡◌, ◌≤◌, ◌-◌, ℕ, List, [], ◌∷◌, ◌++◌, length, take, drop, map, slice_range, ap, sym, ◌∙◌, refl, arith}
use Rattle.std.proofs.lemmas.List.{length-drop, length-append, drop-append-le, take-append-le, drop_at, map-append}
use Rattle.std.proofs.lemmas.List.Elements.{All-head, All-tail}
use Rattle.std.proofs.Math.Seq.{take-length}
use Rattle.ft_base.specs.Spans.{LieIn, word_at, words_of}
use Rattle.ft_base.specs.declared.words.Span.{Span}

-- a word that lies in the bytes
word_stays : (bytes more : List ℕ) (span : Span) → span.from ≤ span.to → span.to ≤ length bytes → word_at (bytes ++ more) span ≡ word_at bytes span
word_stays bytes more span order within =
    ap (take (span.to - span.from)) (drop-append-le span.from bytes more (omega arith))
    ∙ take-append-le (span.to - span.from) (drop span.from bytes) more (omega (arith, length-drop span.from bytes))

pub words_stay : (bytes more : List ℕ) (spans : List Span) → LieIn bytes spans → words_of (bytes ++ more) spans ≡ words_of bytes spans
words_stay bytes more [] inside = refl
words_stay bytes more (span ∷ spans) inside =
    let lies = All-head (λ (s : Span). (s.from ≤ s.to) × (s.to ≤ length bytes)) span spans inside in
    ap (λ (w : List ℕ). w ∷ words_of (bytes ++ more) spans) (word_stays bytes more span lies.0 lies.1)
    ∙ ap (λ (ws : List (List ℕ)). word_at bytes span ∷ ws) (words_stay bytes more spans (All-tail (λ (s : Span). (s.from ≤ s.to) × (s.to ≤ length bytes)) span spans inside))

-- a word that was added last
last_word : (bytes word : List ℕ) (from to : ℕ) → from ≡ length bytes → to ≡ length (bytes ++ word) → slice_range (bytes ++ word) from to ≡ word
last_word bytes word from to first last =
    let long : to - from ≡ length word = omega (arith, length-append bytes word) in
    ap (λ n. take n (drop from (bytes ++ word))) long
    ∙ (ap (take (length word)) (drop_at bytes word from (sym first)) ∙ take-length word)

-- a word and its span behind the others
pub word_added : (bytes word longer : List ℕ) (spans more : List Span) (span : Span) → longer ≡ bytes ++ word → more ≡ spans ++ span ∷ []
    → span.from ≡ length bytes → span.to ≡ length longer → LieIn bytes spans → words_of longer more ≡ words_of bytes spans ++ word ∷ []
word_added bytes word longer spans more span bytes_are spans_are first last inside =
    ap (λ (bs : List ℕ). words_of bs more) bytes_are
    ∙ (ap (λ (ss : List Span). words_of (bytes ++ word) ss) spans_are
    ∙ (map-append (word_at (bytes ++ word)) spans (span ∷ [])
    ∙ (ap (λ (ws : List (List ℕ)). ws ++ word_at (bytes ++ word) span ∷ []) (words_stay bytes word spans inside)
    ∙ ap (λ (w : List ℕ). words_of bytes spans ++ w ∷ []) (last_word bytes word span.from span.to first (last ∙ ap length bytes_are)))))
