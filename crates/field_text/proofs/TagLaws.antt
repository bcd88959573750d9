-- Trimming from either end, and tags that are seen piece by piece.
use Rattle.std.proofs.Common.{◌≡◌, ℕ, ◌==◌, Bool, true, false, not, ◌&&◌, ◌||◌, List, [], ◌∷◌, ◌++◌, map, fold, inl, inr, refl, sym, ap, ◌∙◌, subst, append_assoc, length}
use Rattle.std.specs.Cmp.Lexicographic.{bytes_decides, nat_list_eq_equiv}
use Rattle.std.specs.List.{filter, list_any, slice_split}
use Rattle.std.specs.Str.{bytes_eq}
use Rattle.std.specs.declared.alloc.Global.{Global}
use Rattle.std.specs.declared.vec.Vec.{Vec}
use Rattle.std.proofs.lemmas.Bool.{cases_Bool, false≢true}
use Rattle.std.proofs.lemmas.List.{append-nil}
use Rattle.indexmap.specs.IndexSet.{insert_key}
use Rattle.field_text.specs.Seen.{seen, with_piece}
use Rattle.field_text.specs.Tags.{before, trim_back, trimmed, is_some_byte, pieces, cased, firsts, tags_of}

-- a blank behind is dropped
before_snoc : (b c : ℕ) (bs : List ℕ) → before b (bs ++ c ∷ []) ≡ b ∷ (bs ++ c ∷ [])
before_snoc b c [] = refl
before_snoc b c (d ∷ bs) = refl

pub trim_back-blank : (bs : List ℕ) → trim_back (bs ++ 32 ∷ []) ≡ trim_back bs
trim_back-blank [] = refl
trim_back-blank (b ∷ bs) = ap (before b) (trim_back-blank bs)

-- and another byte ends the piece
pub trim_back-byte : (bs : List ℕ) (c : ℕ) → (c == 32) ≡ false → trim_back (bs ++ c ∷ []) ≡ bs ++ c ∷ []
trim_back-byte [] c h = rw h refl
trim_back-byte (b ∷ bs) c h = ap (before b) (trim_back-byte bs c h) ∙ before_snoc b c bs

-- keys seen as tags
pub seen-any : (tag : List ℕ) (keys : List (Vec ℕ Global)) → list_any (λ k. bytes_eq tag k.items) keys ≡ list_any (bytes_eq tag) (seen keys)
seen-any tag [] = refl
seen-any tag (k ∷ keys) = ap (λ b. bytes_eq tag k.items || b) (seen-any tag keys)

abbrev pub same_key : Vec ℕ Global → Vec ℕ Global → Bool
same_key a b = bytes_eq a.items b.items

seen-snoc : (keys : List (Vec ℕ Global)) (k : Vec ℕ Global) → seen (keys ++ k ∷ []) ≡ seen keys ++ k.items ∷ []
seen-snoc [] k = refl
seen-snoc (x ∷ keys) k = ap (λ rest. x.items ∷ rest) (seen-snoc keys k)

pub seen-insert : (keys : List (Vec ℕ Global)) (k : Vec ℕ Global) → seen (insert_key same_key keys k) ≡ insert_key bytes_eq (seen keys) k.items
seen-insert keys k =
    elim (cases_Bool (list_any (bytes_eq k.items) (seen keys))) [
      | inl y ↦ rw (seen-any k.items keys, y) refl
      | inr n ↦ rw (seen-any k.items keys, n) (seen-snoc keys k)
    ]

-- pieces one by one are their tags one by one
by_tags : (case : Bool) (tags : List (List ℕ)) (ps : List (List ℕ))
    → fold (with_piece case) tags ps ≡ fold (insert_key bytes_eq) tags (map (cased case) (filter is_some_byte (map trimmed ps)))
by_tags case tags [] = refl
by_tags case tags (p ∷ ps) =
    elim (cases_Bool (is_some_byte (trimmed p))) [
      | inl y ↦ rw y (by_tags case (insert_key bytes_eq tags (cased case (trimmed p))) ps)
      | inr n ↦ rw n (by_tags case tags ps)
    ]

or_false : (b : Bool) → (b || false) ≡ b
or_false true = refl
or_false false = refl

-- a tag that is not among others
abbrev is_new : List (List ℕ) → List ℕ → Bool
is_new tags y = not (list_any (bytes_eq y) tags)

-- a second filter by a test that the first one implies or that adds to it
filter_twice : (p q r : List ℕ → Bool) → ((y : List ℕ) → (q y && p y) ≡ r y) → (ys : List (List ℕ)) → filter p (filter q ys) ≡ filter r ys
filter_twice p q r same [] = refl
filter_twice p q r same (y ∷ ys) =
    elim (cases_Bool (q y)) [
      | inl a ↦ elim (cases_Bool (p y)) [
        | inl b ↦
            let both : (q y && p y) ≡ true = rw (a, b) refl in
            let kept : r y ≡ true = sym (same y) ∙ both in
            rw (a, kept) (rw b (ap (λ rest. y ∷ rest) (filter_twice p q r same ys)))
        | inr b ↦
            let both : (q y && p y) ≡ false = rw (a, b) refl in
            let dropped : r y ≡ false = sym (same y) ∙ both in
            rw (a, dropped) (rw b (filter_twice p q r same ys))
      ]
      | inr a ↦
          let both : (q y && p y) ≡ false = rw a refl in
          let dropped : r y ≡ false = sym (same y) ∙ both in
          rw (a, dropped) (filter_twice p q r same ys)
    ]

any_snoc : (y x : List ℕ) (tags : List (List ℕ)) → list_any (bytes_eq y) (tags ++ x ∷ []) ≡ (list_any (bytes_eq y) tags || bytes_eq x y)
any_snoc y x [] = or_false (bytes_eq y x) ∙ nat_list_eq_equiv.symm y x
any_snoc y x (t ∷ tags) =
    elim (cases_Bool (bytes_eq y t)) [
      | inl a ↦ rw a refl
      | inr a ↦ rw a (any_snoc y x tags)
    ]

-- what is new beside one more tag
new_beside : (x : List ℕ) (tags : List (List ℕ)) (y : List ℕ) → (not (bytes_eq x y) && is_new tags y) ≡ is_new (tags ++ x ∷ []) y
new_beside x tags y =
    elim (cases_Bool (bytes_eq x y)) [
      | inl a ↦ elim (cases_Bool (list_any (bytes_eq y) tags)) [
        | inl b ↦ rw (any_snoc y x tags, a, b) refl
        | inr b ↦ rw (any_snoc y x tags, a, b) refl
      ]
      | inr a ↦ elim (cases_Bool (list_any (bytes_eq y) tags)) [
        | inl b ↦ rw (any_snoc y x tags, a, b) refl
        | inr b ↦ rw (any_snoc y x tags, a, b) refl
      ]
    ]

-- a tag that is there already tells nothing
new_without : (x : List ℕ) (tags : List (List ℕ)) → list_any (bytes_eq x) tags ≡ true → (y : List ℕ) → (not (bytes_eq x y) && is_new tags y) ≡ is_new tags y
new_without x tags there y =
    elim (cases_Bool (bytes_eq x y)) [
      | inl a ↦ rw a (sym (ap not (subst (λ z. list_any (bytes_eq z) tags ≡ true) ((bytes_decides x y).0 a) there)))
      | inr a ↦ rw a refl
    ]

inserted : (tags xs : List (List ℕ)) → fold (insert_key bytes_eq) tags xs ≡ tags ++ filter (is_new tags) (firsts xs)
inserted tags [] = sym (append-nil tags)
inserted tags (x ∷ xs) =
    elim (cases_Bool (list_any (bytes_eq x) tags)) [
      | inl y ↦ rw y (inserted tags xs ∙ ap (λ rest. tags ++ rest) (sym (filter_twice (is_new tags) (λ z. not (bytes_eq x z)) (is_new tags) (new_without x tags y) (firsts xs))))
      | inr n ↦ rw n (inserted (tags ++ x ∷ []) xs
          ∙ (append_assoc tags (x ∷ []) (filter (is_new (tags ++ x ∷ [])) (firsts xs))
          ∙ ap (λ rest. tags ++ x ∷ rest) (sym (filter_twice (is_new tags) (λ z. not (bytes_eq x z)) (is_new (tags ++ x ∷ [])) (new_beside x tags) (firsts xs)))))
    ]

filter_all : (ys : List (List ℕ)) → filter (is_new []) ys ≡ ys
filter_all [] = refl
filter_all (y ∷ ys) = ap (λ rest. y ∷ rest) (filter_all ys)

-- the tags that were seen in all pieces are those of the text
pub all_seen : (text : List ℕ) (separator : ℕ) (case : Bool) → fold (with_piece case) [] (slice_split (λ b. b == separator) text) ≡ tags_of text separator case
all_seen text separator case =
    by_tags case [] (slice_split (λ b. b == separator) text)
    ∙ (inserted [] (map (cased case) (pieces text separator)) ∙ filter_all (tags_of text separator case))

some_byte : (bs : List ℕ) → (length bs == 0) ≡ false → is_some_byte bs ≡ true
some_byte [] h = absurd (false≢true (sym h))
some_byte (b ∷ bs) h = refl

-- a piece that is not empty is added as its tag
pub piece_added : (case : Bool) (tags : List (List ℕ)) (piece tag : List ℕ) → tag ≡ trimmed piece → (length tag == 0) ≡ false
    → insert_key bytes_eq tags (cased case tag) ≡ with_piece case tags piece
piece_added case tags piece tag same h =
    let some : is_some_byte (trimmed piece) ≡ true = ap is_some_byte (sym same) ∙ some_byte tag h in
    rw (same, some) refl
