-- A text that is written in pieces, one after another, the last of which may be cut.
use Rattle.std.proofs.Common.{◌≡◌, ◌<◌, ◌+◌, ℕ, List, [], ◌∷◌, ◌++◌, length, drop, map, add-one, append_assoc, append-nil, codes, length-append, get_or, OnErr, Result, Ok, Err, refl, sym, ap, subst, ◌∙◌, arith}
use Rattle.std.proofs.Math.Seq.{drop-cons}
use Rattle.std.specs.Str.{str_to_ascii_lowercase}
use Rattle.std.specs.Char.{to_ascii_lowercase}
use Rattle.std.specs.declared.option.Option.{Option}
use Rattle.std.specs.Io.KnownBytes.{Appends}
use Rattle.std.proofs.KnownBytes.{Appends-trans, Appends-nil}
use Rattle.std.specs.Fmt.{decimal}
use Rattle.ft_base.specs.Reply.{crlf, joined}
use Rattle.fs_ports.specs.Causes.{WritesFront}
use Rattle.ft_server.specs.Items.{block_text}
use Rattle.ft_server.specs.Talk.{said_text}
use Rattle.tx_session.specs.declared.kinds.TxText.TheVariants.{Arity}

-- A front of the text was written, and this is left of it.
pub record Left (a b : Option (List ℕ)) (text left : List ℕ) : Type 0 where
  pub front : List ℕ
  pub bytes : Appends a b front
  pub whole : text ≡ front ++ left

pub left_all : (a : Option (List ℕ)) (text : List ℕ) → Left a a text text
left_all a text = record { front = []; bytes = Appends-nil a; whole = refl }

-- one piece more
pub left_more : (a b c : Option (List ℕ)) (text left piece rest : List ℕ) → Left a b text left → left ≡ piece ++ rest → Appends b c piece → Left a c text rest
left_more a b c text left piece rest so is written = record {
  front = so.front ++ piece;
  bytes = Appends-trans a b c so.front piece so.bytes written;
  whole = so.whole ∙ ap (λ (x : List ℕ). so.front ++ x) is ∙ sym (append_assoc so.front piece rest);
}

pub left_none : (a b : Option (List ℕ)) (text left : List ℕ) → Left a b text left → left ≡ [] → Appends a b text
left_none a b text left so none =
    subst (Appends a b) (sym (so.whole ∙ ap (λ (x : List ℕ). so.front ++ x) none ∙ append-nil so.front)) so.bytes

-- A piece that was cut: what was written is a front of the text, and not all of it, whatever comes behind the piece.
pub left_cut : (a b c : Option (List ℕ)) (text left piece rest : List ℕ) → Left a b text left → left ≡ piece ++ rest → WritesFront b c piece → WritesFront a c text
left_cut a b c text left piece rest so is cut = record {
  front = so.front ++ cut.front;
  back = cut.back ++ rest;
  whole = so.whole ∙ ap (λ (x : List ℕ). so.front ++ x) (is ∙ ap (λ (x : List ℕ). x ++ rest) cut.whole ∙ append_assoc cut.front cut.back rest)
      ∙ sym (append_assoc so.front cut.front (cut.back ++ rest));
  proper = omega (arith, cut.proper, length-append cut.back rest);
  bytes = Appends-trans a b c so.front cut.front so.bytes cut.bytes;
}

-- what holds of a result that failed, as it holds anyway
pub whatever : {T E P : Type 0} (r : Result T E) → P → OnErr r P
whatever (Ok x) p = tt
whatever (Err e) p = p

-- the first of the pieces that are left
pub joined_drop : {A : Type 0} (f : A → List ℕ) (xs : List A) (i : ℕ) (d : A) → i < length xs → joined (map f (drop i xs)) ≡ f (get_or xs i d) ++ joined (map f (drop (i + 1) xs))
joined_drop f xs i d h = rw (add-one, drop-cons xs i d h) refl

-- the same of pieces as they are
pub joined_next : (pieces : List (List ℕ)) (i : ℕ) (piece : List ℕ) → piece ≡ get_or pieces i [] → i < length pieces → joined (drop i pieces) ≡ piece ++ joined (drop (i + 1) pieces)
joined_next pieces i piece is h = rw (add-one, drop-cons pieces i [] h, is) refl

-- the first of the letters that are left
pub lowered_next : (word : List ℕ) (i letter : ℕ) → letter ≡ to_ascii_lowercase (get_or word i 0) → i < length word
    → str_to_ascii_lowercase (drop i word) ≡ (letter ∷ []) ++ str_to_ascii_lowercase (drop (i + 1) word)
lowered_next word i letter is h = rw (add-one, drop-cons word i 0 h, is) refl

-- the pieces of the text that tells of a wrong number of words
abbrev pub arity_front : List ℕ
arity_front = 45 ∷ codes "ERR wrong number of arguments for '"

abbrev pub arity_back : List ℕ
arity_back = codes "' command" ++ crlf

pub arity_pieces : (name : List ℕ) → said_text name Arity ≡ arity_front ++ (str_to_ascii_lowercase name ++ arity_back)
arity_pieces name = ap (λ (x : List ℕ). arity_front ++ x) (append_assoc (str_to_ascii_lowercase name) (codes "' command") crlf)

-- those of the reply to a block
pub block_pieces : (digits : List ℕ) (outs : List (List ℕ)) → digits ≡ decimal (length outs) → block_text outs ≡ (42 ∷ (digits ++ crlf)) ++ joined outs
block_pieces digits outs is = ap (λ (d : List ℕ). (42 ∷ (d ++ crlf)) ++ joined outs) (sym is)
