-- A piece of a tag brace stands before the blanks that are trimmed off it, each byte as it is or behind a backslash.
use Rattle.std.proofs.Common.{◌≡◌, ℕ, zero, suc, ◌+◌, ◌-◌, ◌<◌, Bool, true, false, cond, not, eqb, List, [], ◌∷◌, ◌++◌, length, get_or, take, drop, replicate, Option, Some, None, Ok, IfOk, IfSome, codes, refl, ap, sym, ◌∙◌, subst, inl, inr, append_assoc, append-nil, take-append-drop, length-append, arith}
use Rattle.std.specs.Prelude.{◌&&◌, ◌||◌}
use Rattle.std.specs.List.{list_all}
use Rattle.std.proofs.lemmas.Bool.{false≢true, eqb-true, eq-eqb, both_ways, not-true, and_parts, and_from, or_cases, or_left, or_right, or_from, not_from_false}
use Rattle.std.proofs.lemmas.List.{length-replicate}
use Rattle.std.proofs.lemmas.List.Folds.{list_all-append}
use Rattle.ft_base.specs.Reading.{◌>>=◌}
use Rattle.query_lex.specs.declared.lexeme.LexKind.{LexKind}
use Rattle.query_lex.specs.declared.lexeme.LexKind.TheVariants.{Param}
use Rattle.query_lex.specs.declared.text_byte.TextByte.{TextByte}
use Rattle.query_lex.specs.Bytes.{is_of_name}
use Rattle.query_lex.specs.Pieces.{tag_escape_at, tag_byte_at, ends_piece, next_of_tag, is_plain, trimmed_with, trimmed, bytes_of, is_plain_of_name, is_name, is_param, front_of, starred_kind, piece_kind, piece_at}
use Rattle.query_lex.specs.Quotes.{plain, spelled}
use Rattle.query_lex.specs.Reading.{Read, Next}
use Rattle.query_lex.specs.Spelling.{is_name_byte, is_tag_byte, IsSpelling, IsTag, tag_end, tag_byte, tag_escape}
use Rattle.query_lex.specs.Spells.{closes_piece, is_whole}
use Rattle.query_lex.proofs.NameBytes.{name-byte}
use Rattle.query_lex.proofs.PieceKinds.{kind-cases}
use Rattle.query_lex.proofs.SpelledLemmas.{spelled-behind, spelled-plain, spelled-is_plain}
use Rattle.query_lex.proofs.Standing.{Stands}
use Rattle.query_lex.proofs.Taken.{Step, Run, Steps, as_next, some-next, first_then}
use Rattle.query_lex.proofs.Trimming.{ends-spelled}

-- a byte of a tag that may stand so
abbrev is_lawful : TextByte → Bool
is_lawful b = b.escaped || is_tag_byte b.byte

abbrev SpellsPiece : List TextByte → List ℕ → Type 0
SpellsPiece piece bytes = (bytes ≡ spelled piece) × (list_all is_lawful piece ≡ true)

tag-step : (b : ℕ) (rest : List ℕ) → ends_piece b ≡ false
    → IfOk (tag_byte_at b rest) (λ x. Step SpellsPiece (b ∷ rest) x.0 x.1)
tag-step b rest goes_on = by_test (eqb b 92) refl
  where
    escape : (rest : List ℕ) → IfOk (tag_escape_at rest) (λ x. Step SpellsPiece (92 ∷ rest) x.0 x.1)
    escape [] = tt
    escape (c ∷ rest) = record {
      front = 92 ∷ c ∷ [];
      least = omega arith;
      whole = refl;
      adds = λ piece more spells. (ap (λ (bytes : List ℕ). 92 ∷ c ∷ bytes) spells.0, spells.1);
    }

    by_test : (is : Bool) → eqb b 92 ≡ is
        → IfOk (cond {A = Read TextByte} is (tag_escape_at rest) (Ok (plain b, rest)))
        (λ x. Step SpellsPiece (b ∷ rest) x.0 x.1)
    by_test true e =
        subst (λ (c : ℕ). IfOk (tag_escape_at rest) (λ x. Step SpellsPiece (c ∷ rest) x.0 x.1)) (sym (eqb-true b 92 e))
        (escape rest)
    by_test false e = record {
      front = b ∷ [];
      least = omega arith;
      whole = refl;
      adds = λ piece more spells. (
        ap (λ (bytes : List ℕ). b ∷ bytes) spells.0,
        and_from (is_lawful (plain b)) (list_all is_lawful piece)
            (not_from_false (eqb b 92 || ends_piece b) (or_from (eqb b 92) (ends_piece b) e goes_on)) spells.1,
      );
    }

tag-steps : Steps next_of_tag SpellsPiece
unfolding next_of_tag
tag-steps [] = tt
tag-steps (b ∷ rest) = by_test (ends_piece b) refl
  where
    by_test : (is : Bool) → ends_piece b ≡ is
        → IfOk (cond {A = Next TextByte} is (Ok None) (tag_byte_at b rest >>= λ byte. Ok (Some byte)))
        (λ found. IfSome found (λ x. Step SpellsPiece (b ∷ rest) x.0 x.1))
    by_test true e = tt
    by_test false e = as_next (tag_byte_at b rest) (λ x. Step SpellsPiece (b ∷ rest) x.0 x.1) (tag-step b rest e)

-- what is kept of a piece, and how many blanks are not
record Trims (piece kept : List TextByte) : Type 0 where
  blanks : ℕ
  whole : spelled piece ≡ spelled kept ++ replicate blanks 32
  lawful : list_all is_lawful piece ≡ true → list_all is_lawful kept ≡ true

first-trims : (b : TextByte) (piece kept : List TextByte) → Trims piece kept → Trims (b ∷ piece) (trimmed_with b kept)
first-trims b piece [] others = by_test (is_plain 32 b) refl
  where
    by_test : (is : Bool) → is_plain 32 b ≡ is → Trims (b ∷ piece) (cond {A = List TextByte} is [] (b ∷ []))
    by_test true e = record {
      blanks = suc others.blanks;
      whole = spelled-is_plain 32 b piece e ∙ ap (λ (bytes : List ℕ). 32 ∷ bytes) others.whole;
      lawful = λ all. refl;
    }
    by_test false e = record {
      blanks = others.blanks;
      whole = spelled-behind b piece [] (replicate others.blanks 32) others.whole;
      lawful = λ all. and_from (is_lawful b) true (and_parts (is_lawful b) (list_all is_lawful piece) all).0 refl;
    }
first-trims b piece (c ∷ kept) others = record {
  blanks = others.blanks;
  whole = spelled-behind b piece (c ∷ kept) (replicate others.blanks 32) others.whole;
  lawful = λ all.
      let parts = and_parts (is_lawful b) (list_all is_lawful piece) all in
      and_from (is_lawful b) (list_all is_lawful (c ∷ kept)) parts.0 (others.lawful parts.1);
}

trims : (piece : List TextByte) → Trims piece (trimmed piece)
trims [] = record { blanks = 0; whole = refl; lawful = λ all. all }
trims (b ∷ piece) = first-trims b piece (trimmed piece) (trims piece)

abbrev star_of : Bool → List ℕ
star_of prefix = cond prefix (codes "*") []

first-tag : (prefix : Bool) (b : TextByte) (piece : List TextByte) → is_lawful b ≡ true
    → IsTag prefix (bytes_of piece) (spelled piece ++ star_of prefix)
    → IsTag prefix (bytes_of (b ∷ piece)) (spelled (b ∷ piece) ++ star_of prefix)
first-tag prefix b piece lawful others = by_test b.escaped refl
  where
    by_test : (is : Bool) → b.escaped ≡ is
        → IsTag prefix (b.byte ∷ bytes_of piece)
        (cond is (92 ∷ b.byte ∷ spelled piece) (b.byte ∷ spelled piece) ++ star_of prefix)
    by_test true e = tag_escape others
    by_test false e =
        tag_byte
        (sym (ap (λ (is : Bool). is || is_tag_byte b.byte) e) ∙ lawful) others

tag-spelled : (prefix : Bool) (piece : List TextByte) → list_all is_lawful piece ≡ true
    → IsTag prefix (bytes_of piece) (spelled piece ++ star_of prefix)
tag-spelled prefix [] lawful = tag_end
tag-spelled prefix (b ∷ piece) lawful =
    let parts = and_parts (is_lawful b) (list_all is_lawful piece) lawful in
    first-tag prefix b piece parts.0 (tag-spelled prefix piece parts.1)

name-spelled : (name : List TextByte) → list_all is_plain_of_name name ≡ true
    → (spelled name ≡ bytes_of name) × (list_all is_name_byte (bytes_of name) ≡ true)
name-spelled [] all = (refl, refl)
name-spelled (b ∷ name) all =
    let parts = and_parts (is_plain_of_name b) (list_all is_plain_of_name name) all in
    let here = and_parts (not b.escaped) (is_of_name b.byte) parts.0 in
    let others = name-spelled name parts.1 in
    let named : is_name_byte b.byte ≡ true = sym (name-byte b.byte) ∙ here.1 in
    let names = and_from (is_name_byte b.byte) (list_all is_name_byte (bytes_of name)) named others.1 in
    (spelled-plain b name (not-true b.escaped here.0) ∙ ap (λ (bytes : List ℕ). b.byte ∷ bytes) others.0, names)

param-spelled : (piece : List TextByte) → is_param piece ≡ true
    → IsSpelling (Param (bytes_of (drop 1 piece))) (spelled piece)
param-spelled [] is = absurd (false≢true is)
param-spelled (b ∷ []) is = absurd (false≢true (and_parts (is_plain 36 b) false is).1)
param-spelled (b ∷ c ∷ name) is =
    let parts = and_parts (is_plain 36 b) (is_name (c ∷ name)) is in
    let others =
    name-spelled (c ∷ name)
    (and_parts (not (eqb (length (c ∷ name)) 0)) (list_all is_plain_of_name (c ∷ name)) parts.1).1 in
    (spelled-is_plain 36 b (c ∷ name) parts.0 ∙ ap (λ (bytes : List ℕ). 36 ∷ bytes) others.0, others.1)

front-lawful : (piece : List TextByte) → list_all is_lawful piece ≡ true → list_all is_lawful (front_of piece) ≡ true
front-lawful piece all =
    let n : ℕ = length piece - 1 in
    let whole = ap (list_all is_lawful) (take-append-drop n piece) ∙ all in
    (and_parts (list_all is_lawful (take n piece)) (list_all is_lawful (drop n piece))
    (sym (list_all-append is_lawful (take n piece) (drop n piece)) ∙ whole)).0

starred-spelled : (front : List TextByte) → list_all is_lawful front ≡ true
    → IsSpelling (starred_kind front) (spelled front ++ 42 ∷ [])
starred-spelled [] lawful = refl
starred-spelled (b ∷ front) lawful = tag-spelled true (b ∷ front) lawful

kind-spelled : (piece : List TextByte) → list_all is_lawful piece ≡ true → IsSpelling (piece_kind piece) (spelled piece)
kind-spelled piece lawful =
    kind-cases piece (λ kind. IsSpelling kind (spelled piece))
    (param-spelled piece)
    (λ star. subst (IsSpelling (starred_kind (front_of piece))) (sym (ends-spelled 42 piece star))
    (starred-spelled (front_of piece) (front-lawful piece lawful)))
    (subst (IsTag false (bytes_of piece)) (append-nil (spelled piece)) (tag-spelled false piece lawful))

-- A byte that is no blank is kept.
some-kept : (b : ℕ) (rest kept : List ℕ) (blanks : ℕ) (behind : List ℕ) → eqb b 32 ≡ false
    → b ∷ rest ≡ kept ++ (replicate blanks 32 ++ behind) → 0 < length kept + blanks
    → 0 < length kept
some-kept b rest (c ∷ kept) blanks behind other whole some = omega arith
some-kept b rest [] zero behind other whole some = absurd (omega (arith, some))
some-kept b rest [] (suc blanks) behind other whole some =
    absurd (both_ways (eqb b 32) other (eq-eqb b 32 (ap (λ (bytes : List ℕ). get_or bytes 0 0) whole)))

some-taken : (taken kept : List ℕ) (blanks : ℕ) → taken ≡ kept ++ replicate blanks 32 → 0 < length taken
    → 0 < length kept + blanks
some-taken taken kept blanks same some =
    let size : length taken ≡ length (kept ++ replicate blanks 32) = ap length same in
    omega (arith, length-append kept (replicate blanks 32), length-replicate {A = ℕ} blanks 32)

-- where none comes next, the piece ends
pieces-end : (behind : List ℕ) → next_of_tag behind ≡ Ok None → closes_piece behind ≡ true
unfolding next_of_tag
pieces-end [] last = refl
pieces-end (b ∷ rest) last = by_test (ends_piece b) refl last
  where
    by_test : (is : Bool) → ends_piece b ≡ is
        → cond {A = Next TextByte} is (Ok None) (tag_byte_at b rest >>= λ byte. Ok (Some byte)) ≡ Ok None
        → closes_piece (b ∷ rest) ≡ true
    by_test true e last =
        elim (or_cases (eqb b 124) (eqb b 125) e) [
          | inl is ↦ or_left (eqb b 124) (eqb b 125 || (eqb b 32 && closes_piece rest)) is
          | inr is ↦ or_right (eqb b 124) (eqb b 125 || (eqb b 32 && closes_piece rest))
              (or_left (eqb b 125) (eqb b 32 && closes_piece rest) is)
        ]
    by_test false e last = absurd (some-next (tag_byte_at b rest) last)

blanks-end : (blanks : ℕ) (behind : List ℕ) → closes_piece behind ≡ true
    → closes_piece (replicate blanks 32 ++ behind) ≡ true
blanks-end zero behind ends = ends
blanks-end (suc blanks) behind ends = blanks-end blanks behind ends

starred-whole : (front : List TextByte) (rest : List ℕ) → closes_piece rest ≡ true
    → is_whole true (starred_kind front) rest ≡ true
starred-whole [] rest ends = ends
starred-whole (b ∷ front) rest ends = ends

kind-whole : (piece : List TextByte) (rest : List ℕ) → closes_piece rest ≡ true
    → is_whole true (piece_kind piece) rest ≡ true
kind-whole piece rest ends =
    kind-cases piece (λ kind. is_whole true kind rest ≡ true) (λ param. ends)
    (λ star. starred-whole (front_of piece) rest ends) ends

abbrev as_piece : List TextByte × List ℕ → Read (Option LexKind)
as_piece piece = Ok (Some (piece_kind (trimmed piece.0)), piece.1)

piece-found : (b : ℕ) (rest : List ℕ) (piece : List TextByte) (behind : List ℕ) → eqb b 32 ≡ false
    → Run next_of_tag SpellsPiece piece (b ∷ rest) behind → 0 < length piece
    → Stands true b rest (Some (piece_kind (trimmed piece))) behind
piece-found b rest piece behind other run some =
    let kept = trims piece in
    let text : List ℕ = spelled (trimmed piece) in
    let taken : run.taken ≡ text ++ replicate kept.blanks 32 = run.spells.0 ∙ kept.whole in
    let whole : b ∷ rest ≡ text ++ (replicate kept.blanks 32 ++ behind) =
    run.whole ∙ ap (λ (bytes : List ℕ). bytes ++ behind) taken
    ∙ append_assoc text (replicate kept.blanks 32) behind in
    record {
      spelling = text;
      blanks = kept.blanks;
      least =
          some-kept b rest text kept.blanks behind other whole
          (some-taken run.taken text kept.blanks taken (omega (arith, run.least)));
      whole = whole;
      spells = kind-spelled (trimmed piece) (kept.lawful run.spells.1);
      ends =
          kind-whole (trimmed piece) (replicate kept.blanks 32 ++ behind)
          (blanks-end kept.blanks behind (pieces-end behind run.last));
    }

pub piece-stands : (b : ℕ) (rest : List ℕ) → eqb b 32 ≡ false → ends_piece b ≡ false
    → IfOk (piece_at b rest) (λ x. Stands true b rest x.0 x.1)
unfolding piece_at
piece-stands b rest other goes_on =
    first_then next_of_tag SpellsPiece (b ∷ rest) (tag_byte_at b rest) as_piece (λ x. Stands true b rest x.0 x.1)
    (refl, refl) tag-steps (tag-step b rest goes_on)
    (λ x xs behind run. piece-found b rest (x ∷ xs) behind other run (omega arith))
