-- A value that a hash has is one of those that fit.
use Rattle.std.proofs.Common.{◌≡◌, ◌≤◌, ℕ, List, length, Some}
use Rattle.std.proofs.lemmas.Map.Entries.{All-lookup}
use Rattle.std.specs.Str.{bytes_eq}
use Rattle.ft_base.specs.Hash.{Hash, get_field}
use Rattle.ft_base.specs.declared.limits.TheConstants.{MAX_WORD_BYTES}
use Rattle.ft_meaning.specs.Meaning.{ValuesFit}

pub value-fits : (hash : Hash) (field value : List ℕ) → ValuesFit hash → get_field hash field ≡ Some value → length value ≤ MAX_WORD_BYTES
value-fits hash field value fit there =
    let fits = All-lookup (λ (v : List ℕ). length v ≤ MAX_WORD_BYTES) (bytes_eq field) hash fit in
    rw there at fits
