-- The kinds of a trimmed piece.
use Rattle.std.proofs.Common.{◌≡◌, true, false, List, drop}
use Rattle.std.proofs.lemmas.Bool.{cond_both}
use Rattle.query_lex.specs.declared.lexeme.LexKind.{LexKind}
use Rattle.query_lex.specs.declared.lexeme.LexKind.TheVariants.{Param, Tag}
use Rattle.query_lex.specs.declared.text_byte.TextByte.{TextByte}
use Rattle.query_lex.specs.Pieces.{bytes_of, is_param, front_of, ends_in, starred_kind, piece_kind}

-- a parameter, what stands before a `*`, or a tag
pub kind-cases : (piece : List TextByte) (P : LexKind → Type 0)
    → (is_param piece ≡ true → P (Param (bytes_of (drop 1 piece))))
    → (ends_in 42 piece ≡ true → P (starred_kind (front_of piece)))
    → P (Tag (bytes_of piece) false)
    → P (piece_kind piece)
kind-cases piece P param starred tag =
    cond_both (is_param piece) (Param (bytes_of (drop 1 piece))) _ P param (λ n.
    cond_both (ends_in 42 piece) (starred_kind (front_of piece)) (Tag (bytes_of piece) false) P starred (λ m. tag))
