-- The words of the command line, one by one.
use Rattle.std.proofs.Common.{◌≡◌, ℕ, ◌<◌, zero, suc, Bool, true, false, List, [], ◌∷◌, map, length, get_or, codes, refl, sym, ap, subst, ◌∙◌, arith}
use Rattle.std.specs.Prelude.{◌↔◌, nat_eq, slice_index, string_bytes}
use Rattle.std.specs.Str.{bytes_eq}
use Rattle.std.specs.declared.alloc.Global.{Global}
use Rattle.std.specs.declared.string.String.{String}
use Rattle.std.proofs.lemmas.Slice.Eq.{bytes_eq-Decides}
use Rattle.command_line.specs.Forms.{AreForm}
use Rattle.command_line.specs.declared.form.Form.{Form}
use Rattle.command_line.specs.declared.form.Form.TheVariants as form
use Rattle.command_line.proofs.LineLaws.{Plain, plain_number, plain_seed}

abbrev pub Line : Type 0
Line = List (String Global)

-- one word, and three
pub one_word : (words : Line) (word : String Global) → length words ≡ 1 → word ≡ get_or words 0 word → map string_bytes words ≡ string_bytes word ∷ []
one_word [] word len is = absurd (omega (arith, len))
one_word (x ∷ []) word len is = ap (λ (y : String Global). string_bytes y ∷ []) (sym is)
one_word (x ∷ y ∷ words) word len is = absurd (omega (arith, len))

pub three_words : (words : Line) (a b c : String Global) → length words ≡ 3 → a ≡ get_or words 0 a → b ≡ get_or words 1 b → c ≡ get_or words 2 c
    → map string_bytes words ≡ string_bytes a ∷ string_bytes b ∷ string_bytes c ∷ []
three_words [] a b c len p q r = absurd (omega (arith, len))
three_words (x ∷ []) a b c len p q r = absurd (omega (arith, len))
three_words (x ∷ y ∷ []) a b c len p q r = absurd (omega (arith, len))
three_words (x ∷ y ∷ z ∷ []) a b c len p q r = rw (p, q, r) refl
three_words (x ∷ y ∷ z ∷ u ∷ words) a b c len p q r = absurd (omega (arith, len))

first_is : (a b : List ℕ) (x y : List (List ℕ)) → a ∷ x ≡ b ∷ y → a ≡ b
first_is a b x y e = cc

second_is : (a b c d : List ℕ) (x y : List (List ℕ)) → a ∷ b ∷ x ≡ c ∷ d ∷ y → b ≡ d
second_is a b c d x y e = cc

third_is : (a b c d e f : List ℕ) (x y : List (List ℕ)) → a ∷ b ∷ c ∷ x ≡ d ∷ e ∷ f ∷ y → c ≡ f
third_is a b c d e f x y p = cc

-- a text that was compared
pub is_text : (word text plain : List ℕ) (test : Bool) → text ≡ word → test ≡ bytes_eq text plain → test ≡ true → word ≡ plain
is_text word text plain test same is holds = sym same ∙ (bytes_eq-Decides text plain).0 (sym is ∙ holds)

pub no_text : (word text plain : List ℕ) (test : Bool) → text ≡ word → test ≡ bytes_eq text plain → test ≡ false → word ≡ plain → ⊥
no_text word text plain test same is fails equal =
    let holds : bytes_eq text plain ≡ true = (bytes_eq-Decides text plain).1 (same ∙ equal) in
    absurd (let no : true ≡ false = sym holds ∙ sym is ∙ fails in cc)

-- three words, the first two of which are these, and the third is compared
pub are_three : (words : Line) (a b c name first second text : List ℕ) (test : Bool) → map string_bytes words ≡ a ∷ b ∷ c ∷ [] → a ≡ name → b ≡ first
    → text ≡ c → test ≡ bytes_eq text second → (test ≡ true) ↔ (map string_bytes words ≡ name ∷ first ∷ second ∷ [])
are_three words a b c name first second text test are p q same is = (
  λ holds. are ∙ rw (p, q, is_text c text second test same is holds) refl,
  λ equal. is ∙ (bytes_eq-Decides text second).1 (same ∙ third_is _ _ _ _ _ _ _ _ (sym are ∙ equal)),
)

pub not_first : (words : Line) (a b c name first second : List ℕ) (test : Bool) → map string_bytes words ≡ a ∷ b ∷ c ∷ [] → test ≡ false → (a ≡ name → ⊥)
    → (test ≡ true) ↔ (map string_bytes words ≡ name ∷ first ∷ second ∷ [])
not_first words a b c name first second test are fails other = (
  λ holds. absurd (let bad : true ≡ false = sym holds ∙ fails in cc),
  λ equal. absurd (other (first_is _ _ _ _ (sym are ∙ equal))),
)

pub not_second : (words : Line) (a b c name first second : List ℕ) (test : Bool) → map string_bytes words ≡ a ∷ b ∷ c ∷ [] → test ≡ false → (b ≡ first → ⊥)
    → (test ≡ true) ↔ (map string_bytes words ≡ name ∷ first ∷ second ∷ [])
not_second words a b c name first second test are fails other = (
  λ holds. absurd (let bad : true ≡ false = sym holds ∙ fails in cc),
  λ equal. absurd (other (second_is _ _ _ _ _ _ (sym are ∙ equal))),
)

-- the first byte of a word is no hyphen
abbrev pub IsNoFlag : List ℕ → Type 0
IsNoFlag word = nat_eq (slice_index word 0) 45 ≡ false

plain_no_flag : (word : List ℕ) → Plain word → IsNoFlag word
plain_no_flag word plain = subst IsNoFlag (sym plain.is) plain.no_flag

one_of : (words : Line) (i : ℕ) (word : String Global) (a : List ℕ) → i < length words → word ≡ get_or words i word → map string_bytes words ≡ a ∷ [] → IsNoFlag a
    → IsNoFlag (string_bytes word)
one_of [] i word a few is are p = absurd (omega (arith, few))
one_of (x ∷ y ∷ words) i word a few is are p = absurd (let more : length (map string_bytes (x ∷ y ∷ words)) ≡ 1 = ap length are in omega (arith, more))
one_of (x ∷ []) zero word a few is are p = subst IsNoFlag (sym (ap string_bytes is ∙ first_is _ _ _ _ are)) p
one_of (x ∷ []) (suc i) word a few is are p = absurd (omega (arith, few))

three_of : (words : Line) (i : ℕ) (word : String Global) (a b c : List ℕ) → i < length words → word ≡ get_or words i word → map string_bytes words ≡ a ∷ b ∷ c ∷ []
    → IsNoFlag a → IsNoFlag b → IsNoFlag c → IsNoFlag (string_bytes word)
three_of [] i word a b c few is are p q r = absurd (omega (arith, few))
three_of (x ∷ words) zero word a b c few is are p q r = subst IsNoFlag (sym (ap string_bytes is ∙ first_is _ _ _ _ are)) p
three_of (x ∷ []) (suc i) word a b c few is are p q r = absurd (omega (arith, few))
three_of (x ∷ y ∷ words) (suc zero) word a b c few is are p q r = subst IsNoFlag (sym (ap string_bytes is ∙ second_is _ _ _ _ _ _ are)) q
three_of (x ∷ y ∷ []) (suc (suc i)) word a b c few is are p q r = absurd (omega (arith, few))
three_of (x ∷ y ∷ z ∷ words) (suc (suc zero)) word a b c few is are p q r = subst IsNoFlag (sym (ap string_bytes is ∙ third_is _ _ _ _ _ _ _ _ are)) r
three_of (x ∷ y ∷ z ∷ u ∷ words) (suc (suc (suc i))) word a b c few is are p q r =
    absurd (let more : length (map string_bytes (x ∷ y ∷ z ∷ u ∷ words)) ≡ 3 = ap length are in omega (arith, more))
three_of (x ∷ y ∷ z ∷ []) (suc (suc (suc i))) word a b c few is are p q r = absurd (omega (arith, few))

no_flag : (words : Line) (asked : Form) (i : ℕ) (word : String Global) → i < length words → word ≡ get_or words i word → AreForm words asked → IsNoFlag (string_bytes word)
no_flag words form.Script i word few is script = one_of words i word (codes "script") few is script refl
no_flag words (form.Load seed docs) i word few is load =
    three_of words i word (codes "load") load.seed_word load.docs_word few is load.are refl
    (plain_no_flag load.seed_word (plain_seed load.seed_word seed load.is_seed))
    (plain_no_flag load.docs_word (plain_number load.docs_word docs 100000 (omega arith) load.are_docs))
no_flag words (form.Serve port workers) i word few is serve =
    three_of words i word (codes "serve") serve.port_word serve.workers_word few is serve.are refl
    (plain_no_flag serve.port_word (plain_number serve.port_word port 65535 (omega arith) serve.is_port))
    (plain_no_flag serve.workers_word (plain_number serve.workers_word workers 64 (omega arith) serve.are_workers))

-- a word that begins with a hyphen is of no form
pub flag_of_none : (words : Line) (asked : Form) (i : ℕ) (word : String Global) (text : List ℕ) (test : Bool) → i < length words → word ≡ get_or words i word → text ≡ string_bytes word
    → test ≡ nat_eq (slice_index text 0) 45 → test ≡ true → AreForm words asked → ⊥
flag_of_none words asked i word text test few is same tested holds are =
    let no : nat_eq (slice_index text 0) 45 ≡ false = subst IsNoFlag (sym same) (no_flag words asked i word few is are) in
    absurd (let bad : true ≡ false = sym holds ∙ tested ∙ no in cc)
