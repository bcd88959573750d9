-- A word whose separators are escaped is read as that word.
use Rattle.std.proofs.Common.{◌≡◌, ℕ, zero, suc, ◌-◌, ◌<◌, Bool, true, false, cond, eqb, List, [], ◌∷◌, ◌++◌, length, Some, None, Ok, refl, ap, sym, ◌∙◌, arith}
use Rattle.std.specs.Prelude.{◌&&◌}
use Rattle.std.proofs.lemmas.Bool.{eqb-true, true≢false}
use Rattle.ft_base.specs.Reading.{◌>>=◌}
use Rattle.query_lex.specs.declared.context.Context.TheVariants.{Text}
use Rattle.query_lex.specs.declared.lexeme.LexKind.{LexKind}
use Rattle.query_lex.specs.declared.lexeme.LexKind.TheVariants.{Word, Foreign}
use Rattle.query_lex.specs.declared.role.Role.TheVariants as role
use Rattle.query_lex.specs.Bytes.{begins_word}
use Rattle.ft_base.specs.Separators.{is_separator}
use Rattle.query_lex.specs.Context.{context_behind}
use Rattle.query_lex.specs.Escaping.{escaped_word, one_word}
use Rattle.query_lex.specs.Lexemes.{lexeme_with, lexeme_at, at_place, lexed_in, lexed, placed, lexemes}
use Rattle.query_lex.specs.Reading.{Read, with_first, run_with, run_in, run_at}
use Rattle.query_lex.specs.Roles.{text_role}
use Rattle.query_lex.proofs.Lexing.{after}
use Rattle.query_lex.specs.Words.{Found, is_w, letter_at, next_letter, word_with, word_at}

-- a backslash is a separator, so a byte of a word is none
plain-eqb : (b : ℕ) → is_separator b ≡ false → eqb b 92 ≡ false
plain-eqb b plain = by_test (eqb b 92) refl
  where
    by_test : (is : Bool) → eqb b 92 ≡ is → eqb b 92 ≡ false
    by_test true e = absurd (true≢false (sym (ap is_separator (eqb-true b 92 e)) ∙ plain))
    by_test false e = e

letter-escaped : (b : ℕ) (rest : List ℕ) → is_separator b ≡ true → letter_at 92 (b ∷ rest) ≡ Ok (b, rest)
letter-escaped b rest separator = rw separator refl

letter-plain : (b : ℕ) (rest : List ℕ) → is_separator b ≡ false → letter_at b rest ≡ Ok (b, rest)
letter-plain b rest plain = rw (plain-eqb b plain) refl

begins-plain : (b : ℕ) → is_separator b ≡ false → begins_word b ≡ true
begins-plain b plain = rw (plain-eqb b plain, plain) refl

next-escaped : (b : ℕ) (rest : List ℕ) → is_separator b ≡ true → next_letter (92 ∷ b ∷ rest) ≡ Ok (Some (b, rest))
unfolding next_letter
next-escaped b rest separator = ap (λ r. r >>= λ letter. Ok (Some letter)) (letter-escaped b rest separator)

next-plain : (b : ℕ) (rest : List ℕ) → is_separator b ≡ false → next_letter (b ∷ rest) ≡ Ok (Some (b, rest))
unfolding next_letter
next-plain b rest plain =
    ap (λ is. cond is (letter_at b rest >>= λ letter. Ok (Some letter)) (Ok None)) (begins-plain b plain)
    ∙ ap (λ r. r >>= λ letter. Ok (Some letter)) (letter-plain b rest plain)

-- a run goes on with its next letter
run-more : (n b : ℕ) (bytes rest : List ℕ) (others : Read (List ℕ)) → next_letter bytes ≡ Ok (Some (b, rest)) → run_in next_letter n rest ≡ others
    → run_in next_letter (suc n) bytes ≡ with_first b others
run-more n b bytes rest others next run =
    ap (λ r. r >>= λ found. run_with (λ rest. run_in next_letter n rest) bytes found) next ∙ ap (with_first b) run

run-none : (n : ℕ) → run_in next_letter n [] ≡ Ok ([], [])
unfolding next_letter
run-none zero = refl
run-none (suc n) = refl

run-word : (word : List ℕ) (n : ℕ) → length (escaped_word word) < n → run_in next_letter n (escaped_word word) ≡ Ok (word, [])
run-word [] n enough = run-none n
run-word (b ∷ word) zero enough = absurd (omega arith)
run-word (b ∷ word) (suc n) enough = by_test (is_separator b) refl enough (λ few. run-word word n few)
  where
    by_test : (is : Bool) → is_separator b ≡ is → length (cond is (92 ∷ b ∷ escaped_word word) (b ∷ escaped_word word)) < suc n
        → (length (escaped_word word) < n → run_in next_letter n (escaped_word word) ≡ Ok (word, []))
        → run_in next_letter (suc n) (cond is (92 ∷ b ∷ escaped_word word) (b ∷ escaped_word word)) ≡ Ok (b ∷ word, [])
    by_test true e few again = run-more n b _ _ _ (next-escaped b (escaped_word word) e) (again (omega (arith, few)))
    by_test false e few again = run-more n b _ _ _ (next-plain b (escaped_word word) e) (again (omega (arith, few)))

run-whole : (word : List ℕ) → run_at next_letter (escaped_word word) ≡ Ok (word, [])
unfolding run_at
run-whole word = run-word word (suc (length (escaped_word word))) (omega arith)

abbrev some : LexKind → List ℕ → Found
some kind rest = (Some kind, rest)

-- nothing follows the word
abbrev ends : List ℕ → Found
ends word = (Some (Word word), [])

word-alone : (word : List ℕ) → word_with word [] ≡ ends word
word-alone word = by_test (is_w word)
  where
    by_test : (is : Bool) → cond (is && false) (some (Foreign word) []) (some (Word word) []) ≡ ends word
    by_test true = refl
    by_test false = refl

-- the word behind its first letter
word-read : (b first : ℕ) (word rest : List ℕ) → letter_at b rest ≡ Ok (first, escaped_word word) → word_at b rest ≡ Ok (ends (first ∷ word))
unfolding word_at
word-read b first word rest letter =
    ap (λ r. r >>= λ first. with_first first.0 (run_at next_letter first.1) >>= λ word. Ok (word_with word.0 word.1)) letter
    ∙ ap (λ r. with_first first r >>= λ word. Ok (word_with word.0 word.1)) (run-whole word)
    ∙ ap (λ (found : Found). Ok found) (word-alone (first ∷ word))

-- behind the last lexeme there is none
lexed-none : (n total : ℕ) → lexed_in n total Text [] ≡ Ok []
lexed-none zero total = refl
lexed-none (suc n) total = refl

-- a text that is one lexeme
lexed-one : (b : ℕ) (rest word : List ℕ) → lexeme_at Text b rest ≡ Ok (ends word) → lexemes (b ∷ rest) ≡ Ok (one_word word)
unfolding lexed lexemes
lexed-one b rest word read =
    let total : ℕ = length (b ∷ rest) in
    let first : lexed_in (suc (length rest)) total Text (b ∷ rest) ≡ after (at_place (total - total) (Some (Word word))) (lexed_in (length rest) total Text []) = ap (λ r. r >>= λ first. after (at_place (total - total) first.0) (lexed_in (length rest) total (context_behind Text first.0) first.1)) read in
    let whole : lexed_in (suc (length rest)) total Text (b ∷ rest) ≡ Ok (at_place (total - total) (Some (Word word)) ++ []) = first ∙ ap (after (at_place (total - total) (Some (Word word)))) (lexed-none (length rest) total) in
    let start : total - total ≡ 0 = omega arith in
    ap (placed total) whole ∙ ap (λ k. Ok (at_place k (Some (Word word)) ++ [])) start

role-word : (b : ℕ) → begins_word b ≡ true → text_role Text b ≡ role.Word
unfolding text_role
role-word b begins = rw begins refl

lexeme-word : (b : ℕ) (rest : List ℕ) → begins_word b ≡ true → lexeme_at Text b rest ≡ word_at b rest
unfolding lexeme_at
lexeme-word b rest begins = ap (λ r. lexeme_with r Text b rest) (role-word b begins)

pub escaped-read : (b : ℕ) (word : List ℕ) → lexemes (escaped_word (b ∷ word)) ≡ Ok (one_word (b ∷ word))
escaped-read b word = by_test (is_separator b) refl
  where
    by_test : (is : Bool) → is_separator b ≡ is → lexemes (cond is (92 ∷ b ∷ escaped_word word) (b ∷ escaped_word word)) ≡ Ok (one_word (b ∷ word))
    by_test true e = lexed-one 92 (b ∷ escaped_word word) (b ∷ word) (lexeme-word 92 (b ∷ escaped_word word) refl ∙ word-read 92 b word _ (letter-escaped b (escaped_word word) e))
    by_test false e = lexed-one b (escaped_word word) (b ∷ word) (lexeme-word b (escaped_word word) (begins-plain b e) ∙ word-read b b word _ (letter-plain b (escaped_word word) e))
