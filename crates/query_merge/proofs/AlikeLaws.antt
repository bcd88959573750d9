-- Lists of one length are equal where they are so up to each place.
use Rattle.std.proofs.Common.{◌≡◌, ℕ, ◌<◌, ◌+◌, List, ◌∷◌, [], ◌++◌, take, length, get_or, sym, ap, ◌∙◌, arith}
use Rattle.std.proofs.lemmas.List.{take_more, take_all}

pub more_same : {X : Type 0} (xs ys : List X) (k : ℕ) (x y : X) → k < length xs → k < length ys → x ≡ get_or xs k x → y ≡ get_or ys k y → x ≡ y
    → take k xs ≡ take k ys → take (k + 1) xs ≡ take (k + 1) ys
more_same {X} xs ys k x y inside within is_x is_y same before =
    take_more xs k x inside
    ∙ ap (λ (z : X). take k xs ++ z ∷ []) (sym is_x ∙ same ∙ is_y)
    ∙ ap (λ (zs : List X). zs ++ get_or ys k y ∷ []) before
    ∙ sym (take_more ys k y within)

pub all_same : {X : Type 0} (xs ys : List X) (k : ℕ) → length xs ≡ length ys → k ≡ length xs → take k xs ≡ take k ys → xs ≡ ys
all_same xs ys k lengths is before = sym (take_all k xs (omega (arith, is))) ∙ before ∙ take_all k ys (omega (arith, is, lengths))
