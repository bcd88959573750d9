-- What clap makes of words that are a form: it takes them, and finds the form's name and its texts.
use Rattle.std.proofs.Common.{◌≡◌, ℕ, ◌<◌, ◌^◌, true, false, List, [], ◌∷◌, map, codes, Some, None, refl, ap, subst, sym, ◌∙◌, arith}
use Rattle.std.specs.Prelude.{nat_eq, string_bytes}
use Rattle.std.specs.Fmt.{decimal}
use Rattle.std.specs.Char.{digit_value}
use Rattle.std.specs.declared.alloc.Global.{Global}
use Rattle.std.specs.declared.string.String.{String}
use Rattle.std.specs.Str.Parse.{IsNumeral}
use Rattle.std.proofs.lemmas.Fmt.{decimal_is_IsNumeral}
use Rattle.clap.specs.Words.{Row, Text, subcommand_of, takes}
use Rattle.clap.specs.Walk.{reading_by}
use Rattle.clap.specs.Simple.{filled, is_simple}
use Rattle.clap.specs.declared.parser.matches.ValueSource.TheVariants.{CommandLine}
use Rattle.clap.proofs.OnLiterals.{clap_on_literals}
use Rattle.command_line.specs.Forms.{AreForm, IsLoad, IsNumber, IsSeed, IsServe}
use Rattle.command_line.specs.Line.{line, needed}
use Rattle.command_line.specs.declared.form.Form.{Form}
use Rattle.command_line.specs.declared.form.Form.TheVariants as form

-- clap knows what it makes of words of this command
pub is_known : is_simple line ≡ true
unfolding clap_on_literals
is_known = refl

-- a text that is no flag, as its first byte tells
pub record Plain (text : Text) : Type 0 where
  pub first : ℕ
  pub rest : Text
  pub is : text ≡ first ∷ rest
  pub no_flag : nat_eq first 45 ≡ false

-- a digit is no hyphen
digit : (x : ℕ) → digit_value x < 10 → nat_eq x 45 ≡ false
digit x is = grind arith

numeral : (text : Text) → IsNumeral 10 text → Plain text
numeral [] is = absurd (omega (arith, is.0))
numeral (x ∷ rest) is = record { first = x; rest = rest; is = refl; no_flag = digit x is.1.0 }

spelled : (n : ℕ) → n < 2 ^ 64 → Plain (decimal n)
spelled n few = numeral (decimal n) (decimal_is_IsNumeral n few).0

pub plain_number : (word : Text) (n most : ℕ) → most < 2 ^ 32 → IsNumber word n most → Plain word
plain_number word n most few number = subst Plain (sym number.spelled) (spelled n (omega (arith, number.within, few)))

pub plain_seed : (word : Text) (n : ℕ) → IsSeed word n → Plain word
plain_seed word n seed = subst Plain (sym seed.spelled) (spelled n (omega (arith, seed.few)))

-- what is found of one text
abbrev row : Text → Text → Row
row name text = record { id = name; values = text ∷ []; count = None; source = Some CommandLine; reading = reading_by (filled (needed name)) }

abbrev pub two_rows : Text → Text → Text → Text → List Row
two_rows first second a b = row first a ∷ row second b ∷ []

script_taken : takes line (codes "script" ∷ []) ≡ true
unfolding clap_on_literals
script_taken = refl

script_found : subcommand_of line (codes "script" ∷ []) ≡ Some (codes "script", [])
unfolding clap_on_literals
script_found = refl

load_any : (a b : ℕ) (xs ys : Text) → nat_eq a 45 ≡ false → nat_eq b 45 ≡ false → takes line (codes "load" ∷ (a ∷ xs) ∷ (b ∷ ys) ∷ []) ≡ true
unfolding clap_on_literals
load_any a b xs ys e f = rw (e, e, f, f) refl

load_any_found : (a b : ℕ) (xs ys : Text) → nat_eq a 45 ≡ false → nat_eq b 45 ≡ false
    → subcommand_of line (codes "load" ∷ (a ∷ xs) ∷ (b ∷ ys) ∷ []) ≡ Some (codes "load", two_rows (codes "seed") (codes "docs") (a ∷ xs) (b ∷ ys))
unfolding clap_on_literals
load_any_found a b xs ys e f = rw (e, e, f, f) refl

serve_any : (a b : ℕ) (xs ys : Text) → nat_eq a 45 ≡ false → nat_eq b 45 ≡ false → takes line (codes "serve" ∷ (a ∷ xs) ∷ (b ∷ ys) ∷ []) ≡ true
unfolding clap_on_literals
serve_any a b xs ys e f = rw (e, e, f, f) refl

serve_any_found : (a b : ℕ) (xs ys : Text) → nat_eq a 45 ≡ false → nat_eq b 45 ≡ false
    → subcommand_of line (codes "serve" ∷ (a ∷ xs) ∷ (b ∷ ys) ∷ []) ≡ Some (codes "serve", two_rows (codes "port") (codes "workers") (a ∷ xs) (b ∷ ys))
unfolding clap_on_literals
serve_any_found a b xs ys e f = rw (e, e, f, f) refl

load_plain : (s d : Text) → Plain s → Plain d
    → (takes line (codes "load" ∷ s ∷ d ∷ []) ≡ true) × (subcommand_of line (codes "load" ∷ s ∷ d ∷ []) ≡ Some (codes "load", two_rows (codes "seed") (codes "docs") s d))
load_plain s d p q = rw (p.is, q.is) (
  load_any p.first q.first p.rest q.rest p.no_flag q.no_flag,
  load_any_found p.first q.first p.rest q.rest p.no_flag q.no_flag,
)

serve_plain : (p w : Text) → Plain p → Plain w
    → (takes line (codes "serve" ∷ p ∷ w ∷ []) ≡ true) × (subcommand_of line (codes "serve" ∷ p ∷ w ∷ []) ≡ Some (codes "serve", two_rows (codes "port") (codes "workers") p w))
serve_plain s d p q = rw (p.is, q.is) (
  serve_any p.first q.first p.rest q.rest p.no_flag q.no_flag,
  serve_any_found p.first q.first p.rest q.rest p.no_flag q.no_flag,
)

-- the form's name, and what is found of its texts
abbrev pub name_of : Form → Text
name_of form.Script = codes "script"
name_of (form.Load seed docs) = codes "load"
name_of (form.Serve port workers) = codes "serve"

abbrev pub rows_for : (words : List (String Global)) (asked : Form) → AreForm words asked → List Row
rows_for words form.Script script = []
rows_for words (form.Load seed docs) load = two_rows (codes "seed") (codes "docs") load.seed_word load.docs_word
rows_for words (form.Serve port workers) serve = two_rows (codes "port") (codes "workers") serve.port_word serve.workers_word

load_both : (words : List (String Global)) (seed docs : ℕ) (load : IsLoad words seed docs)
    → (takes line (map string_bytes words) ≡ true)
    × (subcommand_of line (map string_bytes words) ≡ Some (codes "load", two_rows (codes "seed") (codes "docs") load.seed_word load.docs_word))
load_both words seed docs load = rw load.are (load_plain load.seed_word load.docs_word (plain_seed load.seed_word seed load.is_seed)
    (plain_number load.docs_word docs 100000 (omega arith) load.are_docs))

serve_both : (words : List (String Global)) (port workers : ℕ) (serve : IsServe words port workers)
    → (takes line (map string_bytes words) ≡ true)
    × (subcommand_of line (map string_bytes words) ≡ Some (codes "serve", two_rows (codes "port") (codes "workers") serve.port_word serve.workers_word))
serve_both words port workers serve = rw serve.are (serve_plain serve.port_word serve.workers_word (plain_number serve.port_word port 65535 (omega arith) serve.is_port)
    (plain_number serve.workers_word workers 64 (omega arith) serve.are_workers))

-- clap takes the words of a form
pub taken : (words : List (String Global)) (asked : Form) → AreForm words asked → takes line (map string_bytes words) ≡ true
taken words form.Script script = ap (takes line) script ∙ script_taken
taken words (form.Load seed docs) load = (load_both words seed docs load).0
taken words (form.Serve port workers) serve = (serve_both words port workers serve).0

-- and finds its name and its texts
pub found : (words : List (String Global)) (asked : Form) (are : AreForm words asked)
    → subcommand_of line (map string_bytes words) ≡ Some (name_of asked, rows_for words asked are)
found words form.Script script = ap (subcommand_of line) script ∙ script_found
found words (form.Load seed docs) load = (load_both words seed docs load).1
found words (form.Serve port workers) serve = (serve_both words port workers serve).1
