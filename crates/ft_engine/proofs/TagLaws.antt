-- How a set of keys grows as the tags do.
use Rattle.std.specs.Prelude.{◌≡◌, ℕ, List, [], ◌∷◌, refl}
use Rattle.std.proofs.Common.{ap}
use Rattle.std.specs.BTreeSet.{insert_key}
use Rattle.std.specs.Cmp.Lexicographic.{slice_cmp}
use Rattle.std.specs.Ordering.{nat_cmp, match_ordering}
use Rattle.std.specs.declared.alloc.Global.{Global}
use Rattle.std.specs.declared.cmp.Ordering.{Ordering}
use Rattle.std.specs.declared.cmp.Ordering.TheVariants.{Less, Equal, Greater}
use Rattle.std.specs.declared.vec.Vec.{Vec}
use Rattle.field_text.specs.Seen.{seen}
use Rattle.ft_machine.specs.TagValues.{with_tag}

-- the order of keys
abbrev pub key_cmp : Vec ℕ Global → Vec ℕ Global → Ordering
key_cmp a b = slice_cmp nat_cmp a.items b.items

-- a key that is put into a set is a tag that is put among tags
pub seen_insert : (keys : List (Vec ℕ Global)) (key : Vec ℕ Global) → seen (insert_key key_cmp keys key) ≡ with_tag (seen keys) key.items
seen_insert [] key = refl
seen_insert (k ∷ keys) key = by_order (key_cmp key k) (seen_insert keys key)
  where
    by_order : (o : Ordering) → seen (insert_key key_cmp keys key) ≡ with_tag (seen keys) key.items
        → seen (match_ordering o (key ∷ k ∷ keys) (k ∷ keys) (k ∷ insert_key key_cmp keys key)) ≡ match_ordering o (key.items ∷ k.items ∷ seen keys) (k.items ∷ seen keys) (k.items ∷ with_tag (seen keys) key.items)
    by_order Less later = refl
    by_order Equal later = refl
    by_order Greater later = ap (λ rest. k.items ∷ rest) later
