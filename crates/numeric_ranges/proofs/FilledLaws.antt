-- The two halves of entries, as an entry comes to one of them.
use Rattle.std.proofs.Common.{◌≡◌, ℕ, ℤ, pos, ◌+◌, ◌<◌, Bool, ◌&&◌, true, false, List, [], ◌∷◌, ◌++◌, map, length, take, drop, get_or, append-nil, refl, ap, ap₂, sym, subst, ◌∙◌, arith}
use Rattle.std.proofs.lemmas.Int.{ints}
use Rattle.std.proofs.lemmas.List.{drop_all, get_or-map, length-map, take_all}
use mir.Syntax.{w64}
use mir.Val.{SFits}
use Rattle.std.specs.Prelude.{int_lt, int_le}
use Rattle.posting_block.specs.declared.hits.NumHit.{NumHit}
use Rattle.std.specs.List.{filter}
use Rattle.inverted_list.specs.declared.marker.Marker.{Marker}
use Rattle.inverted_list.specs.declared.marker.Markers.{Markers}
use Rattle.inverted_list.specs.Listing.{Listing, with_entry, marker_of, filled_list}
use Rattle.numeric_ranges.specs.Added.{marker_after}
use Rattle.numeric_ranges.specs.declared.row.Row.{Row}
use Rattle.numeric_ranges.specs.Rows.{Knows, AreFilled, AreHalves, AreNumbers, IsInside, flags_from}
use Rattle.numeric_ranges.specs.Values.{Entries, values, cut_of}
use Rattle.numeric_ranges.proofs.HalfLaws.{half_more, half_same}
use Rattle.numeric_ranges.proofs.ValueLaws.{le_from_lt, le_from_not_lt}

pub filled_left : (left right : Row) (es : Entries) (k : ℕ) (e : ℕ × NumHit) (below above new : Row) → k < length es → e ≡ get_or es k e
    → int_lt e.1.value right.low ≡ true → AreFilled left right (take k es) below above → new.low ≡ below.low → new.list ≡ with_entry below.list e.0 e.1
    → (Knows below.spread below.list.entries → Knows new.spread new.list.entries) → AreFilled left right (take (k + 1) es) new above
filled_left left right es k e below above new h is less f low more knows = record {
  low = low ∙ f.low;
  cut = f.cut;
  left_list = half_more (λ x. int_lt x.1.value right.low) es k e below.list new.list left.list.marker h is less f.left_list more;
  right_list = half_same (λ x. int_le right.low x.1.value) es k e above.list right.list.marker h is (le_from_lt e.1.value right.low less) f.right_list;
  knows_left = knows f.knows_left;
  knows_right = f.knows_right;
}

pub filled_right : (left right : Row) (es : Entries) (k : ℕ) (e : ℕ × NumHit) (below above new : Row) → k < length es → e ≡ get_or es k e
    → int_lt e.1.value right.low ≡ false → AreFilled left right (take k es) below above → new.low ≡ above.low → new.list ≡ with_entry above.list e.0 e.1
    → (Knows above.spread above.list.entries → Knows new.spread new.list.entries) → AreFilled left right (take (k + 1) es) below new
filled_right left right es k e below above new h is apart f low more knows = record {
  low = f.low;
  cut = low ∙ f.cut;
  left_list = half_same (λ x. int_lt x.1.value right.low) es k e below.list left.list.marker h is apart f.left_list;
  right_list = half_more (λ x. int_le right.low x.1.value) es k e above.list new.list right.list.marker h is (le_from_not_lt e.1.value right.low apart) f.right_list more;
  knows_left = f.knows_left;
  knows_right = knows f.knows_right;
}

pub filled_along : (left right : Row) (es : Entries) (below above b a : Row) → below ≡ b → above ≡ a → AreFilled left right es b a → AreFilled left right es below above
filled_along left right es below above b a p q f =
    subst (λ (x : Row). AreFilled left right es x above) (sym p) (subst (λ (x : Row). AreFilled left right es b x) (sym q) f)

-- two filled rows are the halves of one
pub halves_from : (row : Row) (es slice : Entries) (markers : Markers) (left right below above : Row) (cut : ℤ) (first second : Marker)
    → slice ≡ es → left.low ≡ row.low → right.low ≡ cut → cut ≡ cut_of (values es) → IsInside cut (values es)
    → left.list ≡ filled_list first [] → right.list ≡ filled_list second []
    → first ≡ marker_of markers → second ≡ marker_of (marker_after markers) → AreFilled left right slice below above → AreHalves row es markers below above
halves_from row es slice markers left right below above cut first second same low at is inside l r m n f =
    let here : right.low ≡ cut_of (values es) = at ∙ is in
    let one : left.list.marker ≡ marker_of markers = ap (λ (x : Listing NumHit). x.marker) l ∙ m in
    let two : right.list.marker ≡ marker_of (marker_after markers) = ap (λ (x : Listing NumHit). x.marker) r ∙ n in
    record {
      low = f.low ∙ low;
      cut = f.cut ∙ here;
      inside = subst (λ (v : ℤ). IsInside v (values es)) is inside;
      left_list = f.left_list
          ∙ (ap (λ (k : Marker). filled_list k (filter (λ e. int_lt e.1.value right.low) slice)) one
          ∙ (ap (λ (v : ℤ). filled_list (marker_of markers) (filter (λ e. int_lt e.1.value v) slice)) here
          ∙ ap (λ (xs : Entries). filled_list (marker_of markers) (filter (λ e. int_lt e.1.value (cut_of (values es))) xs)) same));
      right_list = f.right_list
          ∙ (ap (λ (k : Marker). filled_list k (filter (λ e. int_le right.low e.1.value) slice)) two
          ∙ (ap (λ (v : ℤ). filled_list (marker_of (marker_after markers)) (filter (λ e. int_le v e.1.value) slice)) here
          ∙ ap (λ (xs : Entries). filled_list (marker_of (marker_after markers)) (filter (λ e. int_le (cut_of (values es)) e.1.value) xs)) same));
      knows_left = f.knows_left;
      knows_right = f.knows_right;
    }

pub next_marker_is : (old new : Markers) → new.next ≡ old.next + 1 → new.event ≡ old.event → marker_of new ≡ marker_of (marker_after old)
next_marker_is old new next event = ap {B = Marker} (λ (n : ℕ). record { event = new.event; nth = n }) next ∙ ap {B = Marker} (λ (n : ℕ). record { event = n; nth = old.next + 1 }) event

-- a number more
pub up_to_most : (v : ℤ) → SFits w64 v → int_le v (pos 9223372036854775807) ≡ true
up_to_most v fits = grind (arith, ints)

pub number_more : (all new : List ℤ) (v w : ℤ) → SFits w64 v → w ≡ v → new ≡ all ++ w ∷ [] → AreNumbers all → AreNumbers new
number_more all new v w fits same pushed numbers = subst AreNumbers (sym pushed) (subst (λ (x : ℤ). AreNumbers (all ++ x ∷ [])) (sym same) (behind all numbers))
  where
    behind : (all : List ℤ) → AreNumbers all → AreNumbers (all ++ v ∷ [])
    behind [] numbers = (up_to_most v fits, tt)
    behind (x ∷ xs) numbers = (numbers.0, behind xs numbers.1)

-- no number is above the greatest one
pub none_beyond : (cut : ℤ) (all : List ℤ) → AreNumbers all → map (λ value. int_le cut value && int_le value (pos 9223372036854775807)) all ≡ map (λ value. int_le cut value) all
none_beyond cut [] numbers = refl
none_beyond cut (x ∷ xs) numbers =
    ap₂ (λ (flag : Bool) (flags : List Bool). flag ∷ flags)
    (ap (λ (b : Bool). int_le cut x && b) numbers.0 ∙ and_true (int_le cut x)) (none_beyond cut xs numbers.1)
  where
    and_true : (b : Bool) → (b && true) ≡ b
    and_true true = refl
    and_true false = refl

-- flags that were all written anew
pub all_written : (out old : List Bool) (len : ℕ) → len ≡ length old → length out ≡ length old → take len (out ++ drop (length out) old) ≡ out
all_written out old len whole long =
    ap (λ (rest : List Bool). take len (out ++ rest)) (drop_all (length out) old (omega arith)) ∙ ap (take len) (append-nil out) ∙ take_all len out (omega arith)

-- the flag of an entry
pub flag_at : (es : Entries) (flags : List Bool) (cut : ℤ) (i k : ℕ) (d : ℕ × NumHit) (r : Bool) → i ≡ k → k < length es → flags ≡ flags_from cut es
    → get_or flags i false ≡ r → int_le cut (get_or es k d).1.value ≡ r
flag_at es flags cut i k d r same inside are told =
    let all : get_or (values es) k (pos 0) ≡ (get_or es k d).1.value = get_or-map (λ (e : ℕ × NumHit). e.1.value) es k d (pos 0) inside in
    let long : length (values es) ≡ length es = length-map es (λ (e : ℕ × NumHit). e.1.value) in
    let within : k < length (values es) = omega arith in
    let here : get_or flags i false ≡ int_le cut (get_or es k d).1.value
    = ap (λ (n : ℕ). get_or flags n false) same ∙ ap (λ (fs : List Bool). get_or fs k false) are
    ∙ get_or-map (λ (value : ℤ). int_le cut value) (values es) k (pos 0) false within
    ∙ ap (λ (value : ℤ). int_le cut value) all in
    sym here ∙ told
