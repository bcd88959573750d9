-- Values with equal spellings are equal.
use Rattle.std.proofs.Common.{◌≡◌, ◌^◌, ◌<◌, ℕ, Bool, true, List, [], ◌∷◌, ◌++◌, map, length, take, drop, nat_lt, refl, sym, ap, subst, ◌∙◌, append_assoc, arith}
use Rattle.std.specs.Int.{cast_signed, cast_unsigned, from_le_bytes, w64}
use Rattle.std.specs.List.{list_all}
use Rattle.std.proofs.Math.Facts.{Fits-lt-pow, Fits-of_z}
use Rattle.std.proofs.lemmas.Bool.{and_parts, ltb-true}
use Rattle.std.proofs.lemmas.Int.{to_z-of_z}
use Rattle.std.proofs.lemmas.Nat.{from_le_bytes-to_le_bytes_8}
use Rattle.std.proofs.lemmas.Slice.Eq.{bytes_eq-Decides}
use Rattle.ft_base.proofs.Ints.{fits_from_test}
use Rattle.ft_base.specs.Reply.{joined}
use Rattle.ft_base.specs.declared.row.Value.{Value, map-Value, roll-Value}
use Rattle.ft_base.specs.declared.row.Value.TheFolds.{fold-roll-Value, ind-Value}
use Rattle.ft_base.specs.declared.row.Value.TheOpen as layer
use Rattle.agg_pipeline.specs.Equal.{eight_bytes, fits, fits_step, spelled, spelled_all, spelling_step, value_eq, values_eq}

-- ---- parts of a spelling

abbrev first_byte : List ℕ → ℕ
first_byte [] = 0
first_byte (b ∷ bytes) = b

record Both (P Q : Type 0) : Type 0 where
  first : P
  rest : Q

-- a number in eight bytes is known from them, and so is what follows
eight : (m n : ℕ) (r s : List ℕ) → m < 2 ^ 64 → n < 2 ^ 64 → eight_bytes m ++ r ≡ eight_bytes n ++ s → Both (m ≡ n) (r ≡ s)
eight m n r s fm fn is = record {
  first = sym (from_le_bytes-to_le_bytes_8 m fm) ∙ (ap (λ bytes. from_le_bytes w64 (take 8 bytes)) is ∙ from_le_bytes-to_le_bytes_8 n fn);
  rest = ap (drop 8) is;
}

-- texts of one length are known from what they begin, and so is what follows
same_front : (s t r u : List ℕ) → length s ≡ length t → s ++ r ≡ t ++ u → Both (s ≡ t) (r ≡ u)
same_front [] [] r u same is = record { first = refl; rest = is }
same_front [] (b ∷ t) r u same is = absurd (omega (arith, same))
same_front (a ∷ s) [] r u same is = absurd (omega (arith, same))
same_front (a ∷ s) (b ∷ t) r u same is =
    let others = same_front s t r u (omega (arith, same)) (ap (drop 1) is) in
    record { first = ap (λ n. n ∷ s) (ap first_byte is) ∙ ap (λ bytes. b ∷ bytes) others.first; rest = others.rest }

-- ---- one value

-- a value is known from what its spelling begins, and so is what follows
abbrev Known : Value → Type 0
Known v = (w : Value) (r s : List ℕ) → fits v ≡ true → fits w ≡ true → spelled v ++ r ≡ spelled w ++ s → Both (v ≡ w) (r ≡ s)

-- a value with the proof that it is known
abbrev Part : Type 0
Part = (v : Value) × Known v

abbrev bare : List Part → List Value
bare parts = map (λ e. e.0) parts

-- so are several values of one number
all_known : (parts : List Part) (ws : List Value) (r s : List ℕ) → list_all (λ f. f) (map fits (bare parts)) ≡ true → list_all (λ f. f) (map fits ws) ≡ true
    → length (bare parts) ≡ length ws → joined (map spelled (bare parts)) ++ r ≡ joined (map spelled ws) ++ s → Both (bare parts ≡ ws) (r ≡ s)
all_known [] [] r s fv fw same is = record { first = refl; rest = is }
all_known [] (w ∷ ws) r s fv fw same is = absurd (omega (arith, same))
all_known (part ∷ parts) [] r s fv fw same is = absurd (omega (arith, same))
all_known (part ∷ parts) (w ∷ ws) r s fv fw same is =
    let vs_fit = and_parts (fits part.0) (list_all (λ f. f) (map fits (bare parts))) fv in
    let ws_fit = and_parts (fits w) (list_all (λ f. f) (map fits ws)) fw in
    let one = part.1 w (joined (map spelled (bare parts)) ++ r) (joined (map spelled ws) ++ s) vs_fit.0 ws_fit.0
    (sym (append_assoc (spelled part.0) (joined (map spelled (bare parts))) r) ∙ is ∙ append_assoc (spelled w) (joined (map spelled ws)) s) in
    let others = all_known parts ws r s vs_fit.1 ws_fit.1 (omega (arith, same)) one.rest in
    record { first = ap (λ v. v ∷ bare parts) one.first ∙ ap (λ rest. w ∷ rest) others.first; rest = others.rest }

count : {A : Type 0} (f : Value → A) (vs : List Value) → length (map f vs) ≡ length vs
count f [] = refl
count f (v ∷ vs) = omega (arith, count f vs)

abbrev bare_layer : layer.Value-F Part → layer.Value-F Value
bare_layer y = map-Value Part Value (λ e. e.0) y

abbrev layer_fits : layer.Value-F Value → Bool
layer_fits z = fits_step (map-Value Value Bool fits z)

abbrev layer_spelled : layer.Value-F Value → List ℕ
layer_spelled z = spelling_step (map-Value Value (List ℕ) spelled z)

known_layer : (y : layer.Value-F Part) (z : layer.Value-F Value) (r s : List ℕ) → layer_fits (bare_layer y) ≡ true → layer_fits z ≡ true
    → layer_spelled (bare_layer y) ++ r ≡ layer_spelled z ++ s → Both (bare_layer y ≡ z) (r ≡ s)
known_layer layer.Null layer.Null r s fy fz is = record { first = refl; rest = ap (drop 1) is }
known_layer layer.Null (layer.Num n) r s fy fz is = absurd (omega (arith, ap first_byte is))
known_layer layer.Null (layer.Text t) r s fy fz is = absurd (omega (arith, ap first_byte is))
known_layer layer.Null (layer.List ws) r s fy fz is = absurd (omega (arith, ap first_byte is))
known_layer (layer.Num m) layer.Null r s fy fz is = absurd (omega (arith, ap first_byte is))
known_layer (layer.Num m) (layer.Num n) r s fy fz is =
    let fm = fits_from_test m fy in
    let fn = fits_from_test n fz in
    let both = eight (cast_unsigned w64 m) (cast_unsigned w64 n) r s (Fits-lt-pow (Fits-of_z {w = w64} fm)) (Fits-lt-pow (Fits-of_z {w = w64} fn)) (ap (drop 1) is) in
    record { first = ap layer.Num (sym (to_z-of_z w64 m fm) ∙ (ap (cast_signed w64) both.first ∙ to_z-of_z w64 n fn)); rest = both.rest }
known_layer (layer.Num m) (layer.Text t) r s fy fz is = absurd (omega (arith, ap first_byte is))
known_layer (layer.Num m) (layer.List ws) r s fy fz is = absurd (omega (arith, ap first_byte is))
known_layer (layer.Text t) layer.Null r s fy fz is = absurd (omega (arith, ap first_byte is))
known_layer (layer.Text t) (layer.Num n) r s fy fz is = absurd (omega (arith, ap first_byte is))
known_layer (layer.Text t) (layer.Text u) r s fy fz is =
    let length_is = eight (length t) (length u) (t ++ r) (u ++ s) (ltb-true (length t) (2 ^ 64) fy) (ltb-true (length u) (2 ^ 64) fz) (ap (drop 1) is) in
    let both = same_front t u r s length_is.first length_is.rest in
    record { first = ap layer.Text both.first; rest = both.rest }
known_layer (layer.Text t) (layer.List ws) r s fy fz is = absurd (omega (arith, ap first_byte is))
known_layer (layer.List parts) layer.Null r s fy fz is = absurd (omega (arith, ap first_byte is))
known_layer (layer.List parts) (layer.Num n) r s fy fz is = absurd (omega (arith, ap first_byte is))
known_layer (layer.List parts) (layer.Text t) r s fy fz is = absurd (omega (arith, ap first_byte is))
known_layer (layer.List parts) (layer.List ws) r s fy fz is =
    let vs_fit = and_parts (nat_lt (length (map fits (bare parts))) (2 ^ 64)) (list_all (λ f. f) (map fits (bare parts))) fy in
    let ws_fit = and_parts (nat_lt (length (map fits ws)) (2 ^ 64)) (list_all (λ f. f) (map fits ws)) fz in
    let vs_short = ltb-true (length (map fits (bare parts))) (2 ^ 64) vs_fit.0 in
    let ws_short = ltb-true (length (map fits ws)) (2 ^ 64) ws_fit.0 in
    let length_is = eight (length (map spelled (bare parts))) (length (map spelled ws)) (joined (map spelled (bare parts)) ++ r) (joined (map spelled ws) ++ s)
    (omega (arith, vs_short, count fits (bare parts), count spelled (bare parts))) (omega (arith, ws_short, count fits ws, count spelled ws)) (ap (drop 1) is) in
    let both = all_known parts ws r s vs_fit.1 ws_fit.1 (omega (arith, length_is.first, count spelled (bare parts), count spelled ws)) length_is.rest in
    record { first = ap layer.List both.first; rest = both.rest }

-- each value is some layer, rolled up
layer_of : (w : Value) → (z : layer.Value-F Value) × (w ≡ roll-Value z)
layer_of = ind-Value (λ w. (z : layer.Value-F Value) × (w ≡ roll-Value z)) (λ x y is. (x, refl))

known_rolled : (y : layer.Value-F Part) → Known (roll-Value (bare_layer y))
known_rolled y w r s fv fw is =
    let z = layer_of w in
    let both = known_layer y z.0 r s
    (sym (fold-roll-Value Bool fits_step (bare_layer y)) ∙ fv) (sym (fold-roll-Value Bool fits_step z.0) ∙ ap fits (sym z.1) ∙ fw)
    (ap (λ bytes. bytes ++ r) (sym (fold-roll-Value (List ℕ) spelling_step (bare_layer y))) ∙ is ∙ ap (λ bytes. bytes ++ s) (ap spelled z.1 ∙ fold-roll-Value (List ℕ) spelling_step z.0)) in
    record { first = ap roll-Value both.first ∙ sym z.1; rest = both.rest }

known : (v : Value) → Known v
known = ind-Value Known (λ x y is. subst (λ z. Known (roll-Value z)) is (known_rolled y))

-- ---- the tests of equality

pub equal_from : (v w : Value) → fits v ≡ true → fits w ≡ true → value_eq v w ≡ true → v ≡ w
equal_from v w fv fw e = (known v w [] [] fv fw (ap (λ bytes. bytes ++ []) ((bytes_eq-Decides (spelled v) (spelled w)).0 e))).first

pub equal_to : (v w : Value) → v ≡ w → value_eq v w ≡ true
equal_to v w e = (bytes_eq-Decides (spelled v) (spelled w)).1 (ap spelled e)

no_bytes : (w : Value) (s : List ℕ) → fits w ≡ true → [] ≡ spelled w ++ s → ⊥
no_bytes w s fw is = let z = layer_of w in by_layer z.0 (is ∙ ap (λ bytes. bytes ++ s) (ap spelled z.1 ∙ fold-roll-Value (List ℕ) spelling_step z.0))
  where
    by_layer : (z : layer.Value-F Value) → [] ≡ layer_spelled z ++ s → ⊥
    by_layer layer.Null is = omega (arith, ap length is)
    by_layer (layer.Num n) is = omega (arith, ap length is)
    by_layer (layer.Text t) is = omega (arith, ap length is)
    by_layer (layer.List ws) is = omega (arith, ap length is)

all_same : (vs ws : List Value) → list_all fits vs ≡ true → list_all fits ws ≡ true → spelled_all vs ≡ spelled_all ws → vs ≡ ws
all_same [] [] fv fw is = refl
all_same [] (w ∷ ws) fv fw is = absurd (no_bytes w (spelled_all ws) (and_parts (fits w) (list_all fits ws) fw).0 is)
all_same (v ∷ vs) [] fv fw is = absurd (no_bytes v (spelled_all vs) (and_parts (fits v) (list_all fits vs) fv).0 (sym is))
all_same (v ∷ vs) (w ∷ ws) fv fw is =
    let vs_fit = and_parts (fits v) (list_all fits vs) fv in
    let ws_fit = and_parts (fits w) (list_all fits ws) fw in
    let one = known v w (spelled_all vs) (spelled_all ws) vs_fit.0 ws_fit.0 is in
    ap (λ x. x ∷ vs) one.first ∙ ap (λ rest. w ∷ rest) (all_same vs ws vs_fit.1 ws_fit.1 one.rest)

pub all_equal_from : (vs ws : List Value) → list_all fits vs ≡ true → list_all fits ws ≡ true → values_eq vs ws ≡ true → vs ≡ ws
all_equal_from vs ws fv fw e = all_same vs ws fv fw ((bytes_eq-Decides (spelled_all vs) (spelled_all ws)).0 e)

pub all_equal_to : (vs ws : List Value) → vs ≡ ws → values_eq vs ws ≡ true
all_equal_to vs ws e = (bytes_eq-Decides (spelled_all vs) (spelled_all ws)).1 (ap spelled_all e)
