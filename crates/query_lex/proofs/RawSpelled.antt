-- A run of raw bytes stands as it is.
use Rattle.std.proofs.Common.{◌≡◌, ℕ, Bool, true, false, true≢false, cond, not, eqb, List, [], ◌∷◌, Option, Some, None, Ok, IfOk, IfSome, refl, ap, sym, ◌∙◌, arith}
use Rattle.std.specs.Prelude.{◌&&◌, ◌||◌}
use Rattle.std.specs.List.{list_all}
use Rattle.std.proofs.lemmas.Bool.{eqb-true, and_from, or_from, not_from_false}
use Rattle.ft_base.specs.Reading.{◌>>=◌}
use Rattle.query_lex.specs.declared.context.Context.{Context}
use Rattle.query_lex.specs.declared.context.Context.TheVariants.{Text, AfterColon, AfterArrow, Range, Tags, Attributes}
use Rattle.query_lex.specs.declared.fault.Cause.TheVariants.{LoneEscape}
use Rattle.query_lex.specs.declared.lexeme.LexKind.{LexKind}
use Rattle.query_lex.specs.declared.lexeme.LexKind.TheVariants as kinds
use Rattle.query_lex.specs.Bytes.{comes}
use Rattle.ft_base.specs.Separators.{is_separator}
use Rattle.query_lex.specs.Raw.{raw_byte_at, next_raw, raw_at}
use Rattle.query_lex.specs.Reading.{Read, Next, fault}
use Rattle.query_lex.specs.Roles.{sign_role, text_role, range_role, tag_role, attribute_role, is_raw}
use Rattle.query_lex.specs.Spelling.{is_raw_byte}
use Rattle.query_lex.specs.Spells.{goes_on_raw}
use Rattle.query_lex.proofs.Standing.{Stands, took}
use Rattle.query_lex.proofs.Taken.{Step, Steps, as_next, some-next, first_then}

-- bytes that are not raw there go on with no run
abbrev pub EndsRaw : Context → Type 0
EndsRaw context = (b : ℕ) → is_raw context b ≡ false → goes_on_raw b ≡ false

abbrev SpellsRaw : List ℕ → List ℕ → Type 0
SpellsRaw run bytes = (bytes ≡ run) × (list_all is_raw_byte run ≡ true)

-- a blank and `$` are raw nowhere
ends-raw : (context : Context) → (is_raw context 32 ≡ false) × (is_raw context 36 ≡ false)
unfolding sign_role text_role range_role tag_role attribute_role
ends-raw Text = (refl, refl)
ends-raw AfterColon = (refl, refl)
ends-raw AfterArrow = (refl, refl)
ends-raw Range = (refl, refl)
ends-raw Tags = (refl, refl)
ends-raw Attributes = (refl, refl)

other-byte : (context : Context) (b byte : ℕ) → is_raw context b ≡ true → is_raw context byte ≡ false
    → eqb b byte ≡ false
other-byte context b byte raw ends = by_test (eqb b byte) refl
  where
    by_test : (is : Bool) → eqb b byte ≡ is → is ≡ false
    by_test true e = absurd (true≢false (sym raw ∙ ap (is_raw context) (eqb-true b byte e) ∙ ends))
    by_test false e = refl

kept-raw : (context : Context) (b : ℕ) → is_raw context b ≡ true → is_raw_byte b ≡ true
kept-raw context b raw =
    not_from_false (eqb b 32 || eqb b 36)
    (or_from (eqb b 32) (eqb b 36) (other-byte context b 32 raw (ends-raw context).0)
    (other-byte context b 36 raw (ends-raw context).1))

raw-step : (context : Context) (b : ℕ) (rest : List ℕ) → is_raw context b ≡ true
    → IfOk (raw_byte_at b rest) (λ x. Step SpellsRaw (b ∷ rest) x.0 x.1)
raw-step context b rest raw = by_test (eqb b 92 && not (comes is_separator rest))
  where
    by_test : (is : Bool)
        → IfOk (cond {A = Read ℕ} is (fault LoneEscape (b ∷ rest)) (Ok (b, rest)))
        (λ x. Step SpellsRaw (b ∷ rest) x.0 x.1)
    by_test true = tt
    by_test false = record {
      front = b ∷ [];
      least = omega arith;
      whole = refl;
      adds = λ run more spells.
          let kept = and_from (is_raw_byte b) (list_all is_raw_byte run) (kept-raw context b raw) spells.1 in
          (ap (λ (bytes : List ℕ). b ∷ bytes) spells.0, kept);
    }

raw-steps : (context : Context) → Steps (next_raw context) SpellsRaw
unfolding next_raw
raw-steps context [] = tt
raw-steps context (b ∷ rest) = by_test (is_raw context b) refl
  where
    by_test : (is : Bool) → is_raw context b ≡ is
        → IfOk (cond {A = Next ℕ} is (raw_byte_at b rest >>= λ byte. Ok (Some byte)) (Ok None))
        (λ found. IfSome found (λ x. Step SpellsRaw (b ∷ rest) x.0 x.1))
    by_test true e = as_next (raw_byte_at b rest) (λ x. Step SpellsRaw (b ∷ rest) x.0 x.1) (raw-step context b rest e)
    by_test false e = tt

-- where none comes next, no raw byte does
raw-ends : (context : Context) → EndsRaw context → (behind : List ℕ) → next_raw context behind ≡ Ok None
    → comes goes_on_raw behind ≡ false
unfolding next_raw
raw-ends context ends [] last = refl
raw-ends context ends (b ∷ rest) last = by_test (is_raw context b) refl last
  where
    by_test : (is : Bool) → is_raw context b ≡ is
        → cond {A = Next ℕ} is (raw_byte_at b rest >>= λ byte. Ok (Some byte)) (Ok None) ≡ Ok None
        → goes_on_raw b ≡ false
    by_test true e last = absurd (some-next (raw_byte_at b rest) last)
    by_test false e last = ends b e

abbrev as_raw : List ℕ × List ℕ → Read (Option LexKind)
as_raw run = Ok (Some (kinds.Raw run.0), run.1)

pub raw-stands : (context : Context) → EndsRaw context → (b : ℕ) (rest : List ℕ) → is_raw context b ≡ true
    → IfOk (raw_at context b rest) (λ x. Stands false b rest x.0 x.1)
unfolding raw_at
raw-stands context ends b rest raw =
    first_then (next_raw context) SpellsRaw (b ∷ rest) (raw_byte_at b rest) as_raw (λ x. Stands false b rest x.0 x.1)
    (refl, refl) (raw-steps context) (raw-step context b rest raw)
    (λ x xs behind run.
    took false (b ∷ rest) (kinds.Raw (x ∷ xs)) behind run.taken (omega arith) run.whole run.spells
    (not_from_false (comes goes_on_raw behind) (raw-ends context ends behind run.last)))
