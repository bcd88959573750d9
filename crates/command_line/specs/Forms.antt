-- The words of the command line, those behind the program's name, and what each form of them asks for.
use Rattle.std.specs.Prelude.{◌≡◌, ◌<◌, ◌≤◌, ◌^◌, ℕ, List, [], ◌∷◌, map, codes, string_bytes, pos}
use Rattle.std.specs.Fmt.{signed_decimal}
use Rattle.std.specs.declared.alloc.Global.{Global}
use Rattle.std.specs.declared.string.String.{String}
use Rattle.command_line.specs.declared.form.Form.{Form}
use Rattle.command_line.specs.declared.form.Form.TheVariants as form

-- the one word `script`
abbrev pub IsScript : List (String Global) → Type 0
IsScript words = map string_bytes words ≡ codes "script" ∷ []

-- The word is this number in decimal digits, without a sign and without a leading zero, and the number is from 1 to a most.
pub record IsNumber (word : List ℕ) (number most : ℕ) : Type 0 where
  pub spelled : word ≡ signed_decimal (pos number)
  pub some : 1 ≤ number
  pub within : number ≤ most

-- The word is this number in the same digits, and the number is below 2^63.
pub record IsSeed (word : List ℕ) (number : ℕ) : Type 0 where
  pub spelled : word ≡ signed_decimal (pos number)
  pub few : number < 2 ^ 63

-- `load`, a seed and a number of documents
pub record IsLoad (words : List (String Global)) (seed docs : ℕ) : Type 0 where
  pub seed_word : List ℕ
  pub docs_word : List ℕ
  pub are : map string_bytes words ≡ codes "load" ∷ seed_word ∷ docs_word ∷ []
  pub is_seed : IsSeed seed_word seed
  pub are_docs : IsNumber docs_word docs 100000

-- `serve`, a port and a number of workers
pub record IsServe (words : List (String Global)) (port workers : ℕ) : Type 0 where
  pub port_word : List ℕ
  pub workers_word : List ℕ
  pub are : map string_bytes words ≡ codes "serve" ∷ port_word ∷ workers_word ∷ []
  pub is_port : IsNumber port_word port 65535
  pub are_workers : IsNumber workers_word workers 64

-- the words are this form
abbrev pub AreForm : List (String Global) → Form → Type 0
AreForm words form.Script = IsScript words
AreForm words (form.Load seed docs) = IsLoad words seed docs
AreForm words (form.Serve port workers) = IsServe words port workers
