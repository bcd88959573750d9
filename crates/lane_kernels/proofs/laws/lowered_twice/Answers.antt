use Rattle.std.proofs.Common.{◌≡◌, ℕ, List, [], ◌∷◌, refl, ap₂}
use Rattle.std.proofs.lemmas.Str.Ascii.{lowercase-lowercase}
use Rattle.std.specs.Str.{str_to_ascii_lowercase}
use Rattle.lane_kernels.proofs.laws.lowered_twice.Goals as goal

all_once : (text : List ℕ) → str_to_ascii_lowercase (str_to_ascii_lowercase text) ≡ str_to_ascii_lowercase text
all_once [] = refl
all_once (b ∷ text) = ap₂ (λ first rest. first ∷ rest) (lowercase-lowercase b) (all_once text)

pub returns : goal.returns
returns c = all_once
