-- The runs of a text, read by its separators.
use Rattle.std.proofs.Common.{◌≡◌, ℕ, suc, ◌+◌, ◌-◌, ◌≤◌, ◌&&◌, Bool, true, false, not, cond, eqb, List, [], ◌∷◌, ◌++◌, length, take, drop, Some, None, refl, sym, ap, subst, ◌∙◌, append_assoc, length-drop, arith}
use Rattle.std.proofs.lemmas.Bool.{eqb-true}
use Rattle.std.proofs.lemmas.List.{drop-drop, drop-append-le, drop-map, length-map, length-take-le, map-append}
use Rattle.std.proofs.lemmas.Slice.{between_is, take-put_mid}
use Rattle.std.specs.Char.{to_ascii_lowercase}
use Rattle.std.specs.List.{prefix_len, take-map}
use borrow.Rule.Slice.PartMut.{put_mid}
use Rattle.ft_base.specs.Separators.{is_separator}
use Rattle.lane_kernels.specs.Separating.{is_word_byte}
use Rattle.token_text.specs.Runs.{begins_escape}
use Rattle.token_text.specs.Slices.{between}
use Rattle.token_text.specs.Tokens.{lowered, units, split, runs}

true≠false : true ≡ false → ⊥
true≠false e = cc

-- a backslash is a separator, so a byte of a word is none
word-byte : (b : ℕ) → is_separator b ≡ false → eqb b 92 ≡ false
word-byte b plain = by_test (eqb b 92) refl
  where
    by_test : (is : Bool) → eqb b 92 ≡ is → eqb b 92 ≡ false
    by_test true e = absurd (true≠false (sym (ap is_separator (eqb-true b 92 e)) ∙ plain))
    by_test false e = e

-- a byte of a word at the front
units-word : (b : ℕ) (rest : List ℕ) → is_separator b ≡ false → units (b ∷ rest) ≡ Some b ∷ units rest
units-word b [] plain = rw plain refl
units-word b (c ∷ rest) plain = rw (word-byte b plain, plain) refl

-- a separator at the front that escapes nothing
units-separator : (b : ℕ) (rest : List ℕ) → is_separator b ≡ true → begins_escape (b ∷ rest) ≡ false → units (b ∷ rest) ≡ None ∷ units rest
units-separator b [] separator plain = rw separator refl
units-separator b (c ∷ rest) separator plain = rw (plain, separator) refl

-- an escaped separator at the front
units-escape : (b c : ℕ) (rest : List ℕ) → (eqb b 92 && is_separator c) ≡ true → units (b ∷ c ∷ rest) ≡ Some c ∷ units rest
units-escape b c rest escape = rw escape refl

-- the bytes up to the first separator are of the run
pub split-run : (text : List ℕ) → split (units text)
    ≡ (
      take (prefix_len is_word_byte text) text ++ (split (units (drop (prefix_len is_word_byte text) text))).0,
      (split (units (drop (prefix_len is_word_byte text) text))).1,
    )
split-run [] = refl
split-run (b ∷ rest) = by_test (is_separator b) refl (split-run rest)
  where
    by_test : (is : Bool) → is_separator b ≡ is
        → split (units rest)
        ≡ (
          take (prefix_len is_word_byte rest) rest ++ (split (units (drop (prefix_len is_word_byte rest) rest))).0,
          (split (units (drop (prefix_len is_word_byte rest) rest))).1,
        )
        → split (units (b ∷ rest))
        ≡ (
          take (cond (not is) (1 + prefix_len is_word_byte rest) 0) (b ∷ rest) ++ (split (units (drop (cond (not is) (1 + prefix_len is_word_byte rest) 0) (b ∷ rest)))).0,
          (split (units (drop (cond (not is) (1 + prefix_len is_word_byte rest) 0) (b ∷ rest)))).1,
        )
    by_test true e behind = refl
    by_test false e behind =
        let one : suc (prefix_len is_word_byte rest) ≡ 1 + prefix_len is_word_byte rest = omega arith in
        subst (λ (k : ℕ). split (units (b ∷ rest)) ≡ (take k (b ∷ rest) ++ (split (units (drop k (b ∷ rest)))).0, (split (units (drop k (b ∷ rest)))).1)) one
        (ap split (units-word b rest e) ∙ ap (λ (parts : List ℕ × List (List ℕ)). (b ∷ parts.0, parts.1)) behind)

-- at the first separator the run ends, unless it is escaped
split-end : (text : List ℕ) → begins_escape (drop (prefix_len is_word_byte text) text) ≡ false
    → split (units (drop (prefix_len is_word_byte text) text)) ≡ ([], runs (drop 1 (drop (prefix_len is_word_byte text) text)))
split-end [] plain = refl
split-end (b ∷ rest) plain = by_test (is_separator b) refl (λ none. split-end rest none) plain
  where
    by_test : (is : Bool) → is_separator b ≡ is
        → (begins_escape (drop (prefix_len is_word_byte rest) rest) ≡ false
        → split (units (drop (prefix_len is_word_byte rest) rest)) ≡ ([], runs (drop 1 (drop (prefix_len is_word_byte rest) rest))))
        → begins_escape (drop (cond (not is) (1 + prefix_len is_word_byte rest) 0) (b ∷ rest)) ≡ false
        → split (units (drop (cond (not is) (1 + prefix_len is_word_byte rest) 0) (b ∷ rest)))
        ≡ ([], runs (drop 1 (drop (cond (not is) (1 + prefix_len is_word_byte rest) 0) (b ∷ rest))))
    by_test true e behind plain = ap split (units-separator b rest e plain)
    by_test false e behind plain =
        let one : 1 + prefix_len is_word_byte rest ≡ suc (prefix_len is_word_byte rest) = omega arith in
        subst (λ (k : ℕ). split (units (drop k (b ∷ rest))) ≡ ([], runs (drop 1 (drop k (b ∷ rest))))) (sym one)
        (behind (subst (λ (k : ℕ). begins_escape (drop k (b ∷ rest)) ≡ false) one plain))

-- an escaped separator is of the run, and the bytes up to the next separator
split-further : (text : List ℕ) → begins_escape text ≡ true → split (units text)
    ≡ (
      take (suc (prefix_len is_word_byte (drop 2 text))) (drop 1 text) ++ (split (units (drop (prefix_len is_word_byte (drop 2 text)) (drop 2 text)))).0,
      (split (units (drop (prefix_len is_word_byte (drop 2 text)) (drop 2 text)))).1,
    )
split-further [] escape = let no : ⊥ = cc in absurd no
split-further (b ∷ []) escape = let no : ⊥ = cc in absurd no
split-further (b ∷ c ∷ rest) escape = ap split (units-escape b c rest escape) ∙ ap (λ (parts : List ℕ × List (List ℕ)). (c ∷ parts.0, parts.1)) (split-run rest)

-- ---- the same at places of a text

pub end-at : (text : List ℕ) (from end : ℕ) → end ≡ from + prefix_len is_word_byte (drop from text) → begins_escape (drop end text) ≡ false
    → split (units (drop end text)) ≡ ([], runs (drop (end + 1) text))
end-at text from end is plain =
    let here : drop (prefix_len is_word_byte (drop from text)) (drop from text) ≡ drop end text
    = drop-drop (prefix_len is_word_byte (drop from text)) from text ∙ ap (λ (k : ℕ). drop k text) (sym is) in
    subst (λ (rest : List ℕ). begins_escape rest ≡ false → split (units rest) ≡ ([], runs (drop 1 rest))) here (split-end (drop from text)) plain
    ∙ ap (λ (rest : List ℕ). ([], runs rest)) (drop-drop 1 end text)

pub run-at : (text : List ℕ) (from end : ℕ) → end ≡ from + prefix_len is_word_byte (drop from text) → split (units (drop from text))
    ≡ (take (end - from) (drop from text) ++ (split (units (drop end text))).0, (split (units (drop end text))).1)
run-at text from end is =
    let n : ℕ = prefix_len is_word_byte (drop from text) in
    let here : drop n (drop from text) ≡ drop end text = drop-drop n from text ∙ ap (λ (k : ℕ). drop k text) (sym is) in
    let long : n ≡ end - from = omega arith in
    split-run (drop from text)
    ∙ ap (λ (rest : List ℕ). (take n (drop from text) ++ (split (units rest)).0, (split (units rest)).1)) here
    ∙ ap (λ (k : ℕ). (take k (drop from text) ++ (split (units (drop end text))).0, (split (units (drop end text))).1)) long

pub escape-at : (text : List ℕ) (at end : ℕ) → begins_escape (drop at text) ≡ true → end ≡ at + 2 + prefix_len is_word_byte (drop (at + 2) text) → split (units (drop at text))
    ≡ (take (end - at - 1) (drop (at + 1) text) ++ (split (units (drop end text))).0, (split (units (drop end text))).1)
escape-at text at end escape is =
    let n : ℕ = prefix_len is_word_byte (drop (at + 2) text) in
    let here : drop n (drop (at + 2) text) ≡ drop end text = drop-drop n (at + 2) text ∙ ap (λ (k : ℕ). drop k text) (sym is) in
    let long : suc n ≡ end - at - 1 = omega arith in
    split-further (drop at text) escape
    ∙ ap (λ (rest : List ℕ). (take (suc (prefix_len is_word_byte rest)) (drop 1 (drop at text)) ++ (split (units (drop (prefix_len is_word_byte rest) rest))).0, (split (units (drop (prefix_len is_word_byte rest) rest))).1)) (drop-drop 2 at text)
    ∙ ap (λ (rest : List ℕ). (take (suc n) rest ++ (split (units (drop n (drop (at + 2) text)))).0, (split (units (drop n (drop (at + 2) text)))).1)) (drop-drop 1 at text)
    ∙ ap (λ (rest : List ℕ). (take (suc n) (drop (at + 1) text) ++ (split (units rest)).0, (split (units rest)).1)) here
    ∙ ap (λ (k : ℕ). (take k (drop (at + 1) text) ++ (split (units (drop end text))).0, (split (units (drop end text))).1)) long

-- what is lowered behind a place is lowered behind a later one
pub unread-on : (text bytes : List ℕ) (from end : ℕ) → from ≤ end → drop from bytes ≡ lowered (drop from text) → drop end bytes ≡ lowered (drop end text)
unread-on text bytes from end after same =
    let on : from + (end - from) ≡ end = omega arith in
    let left : drop (end - from) (drop from bytes) ≡ drop end bytes = drop-drop (end - from) from bytes ∙ ap (λ (k : ℕ). drop k bytes) on in
    let right : drop (end - from) (drop from text) ≡ drop end text = drop-drop (end - from) from text ∙ ap (λ (k : ℕ). drop k text) on in
    sym left ∙ ap (drop (end - from)) same ∙ drop-map to_ascii_lowercase (end - from) (drop from text) ∙ ap lowered right

-- the word of a run that has no escape yet
pub word-begun : (text bytes : List ℕ) (from end : ℕ) → end ≡ from + prefix_len is_word_byte (drop from text) → drop from bytes ≡ lowered (drop from text)
    → lowered (split (units (drop from text))).0 ≡ between bytes from end ++ lowered (split (units (drop end text))).0
word-begun text bytes from end is same =
    let front : between bytes from end ≡ lowered (take (end - from) (drop from text)) = ap (take (end - from)) same ∙ take-map to_ascii_lowercase (end - from) (drop from text) in
    ap (λ (parts : List ℕ × List (List ℕ)). lowered parts.0) (run-at text from end is)
    ∙ map-append to_ascii_lowercase (take (end - from) (drop from text)) (split (units (drop end text))).0
    ∙ ap (λ (word : List ℕ). word ++ lowered (split (units (drop end text))).0) (sym front)

-- more bytes behind a word
put-behind : (bytes put : List ℕ) (from to more k : ℕ) → from ≤ to → to ≤ length bytes → length put ≡ more → between (put_mid to k bytes put) from (to + more) ≡ between bytes from to ++ put
put-behind bytes put from to more k order inside long =
    let front : length (take to bytes) ≡ to = length-take-le to bytes inside in
    between_is (put_mid to k bytes put) from (to + more)
    ∙ ap (drop from) (take-put_mid to k bytes put (to + more) (omega arith) inside)
    ∙ drop-append-le from (take to bytes) put (omega arith)
    ∙ ap (λ (word : List ℕ). word ++ put) (sym (between_is bytes from to))

-- what is lowered of a text is as long as it was
pub size-put : (text put : List ℕ) (at end : ℕ) → put ≡ lowered (take (end - (at + 1)) (drop (at + 1) text)) → end ≤ length text → length put ≡ end - (at + 1)
size-put text put at end same within =
    let left : length (drop (at + 1) text) ≡ length text - (at + 1) = length-drop (at + 1) text in
    ap length same ∙ length-map (take (end - (at + 1)) (drop (at + 1) text)) to_ascii_lowercase ∙ length-take-le (end - (at + 1)) (drop (at + 1) text) (omega arith)

-- the word of a run with one escape more
pub word-grown : (text bytes put : List ℕ) (word : List ℕ) (from to at end k : ℕ)
    → word ≡ between bytes from to ++ lowered (split (units (drop at text))).0
    → begins_escape (drop at text) ≡ true → end ≡ at + 2 + prefix_len is_word_byte (drop (at + 2) text) → end ≤ length text
    → put ≡ lowered (take (end - (at + 1)) (drop (at + 1) text)) → from ≤ to → to ≤ length bytes
    → word ≡ between (put_mid to k bytes put) from (to + (end - at - 1)) ++ lowered (split (units (drop end text))).0
word-grown text bytes put word from to at end k so_far escape is within same order inside =
    let long : end - (at + 1) ≡ end - at - 1 = omega arith in
    let piece : List ℕ = take (end - at - 1) (drop (at + 1) text) in
    let put_is : put ≡ lowered piece = same ∙ ap (λ (n : ℕ). lowered (take n (drop (at + 1) text))) long in
    let size : length put ≡ end - at - 1 = size-put text put at end same within ∙ long in
    so_far
    ∙ ap (λ (parts : List ℕ × List (List ℕ)). between bytes from to ++ lowered parts.0) (escape-at text at end escape is)
    ∙ ap (λ (more : List ℕ). between bytes from to ++ more) (map-append to_ascii_lowercase piece (split (units (drop end text))).0)
    ∙ sym (append_assoc (between bytes from to) (lowered piece) (lowered (split (units (drop end text))).0))
    ∙ ap (λ (more : List ℕ). (between bytes from to ++ more) ++ lowered (split (units (drop end text))).0) (sym put_is)
    ∙ ap (λ (front : List ℕ). front ++ lowered (split (units (drop end text))).0) (sym (put-behind bytes put from to (end - at - 1) k order inside size))
