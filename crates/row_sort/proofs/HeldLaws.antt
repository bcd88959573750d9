-- What becomes of the rows that a `FirstRows` holds, when they are cut, when one is added and when one is turned away.
use Rattle.std.proofs.Common.{◌≡◌, ℕ, suc, ◌-◌, ◌*◌, ◌<◌, ◌≤◌, min, Bool, true, false, List, [], ◌∷◌, ◌++◌, length, get_or, take, Ordering, Less, Equal, Greater, is_lt, is_ge, refl, sym, ap, subst, ◌∙◌, arith}
use Rattle.std.specs.List.{AllByRecursion}
use Rattle.std.proofs.lemmas.List.{length-take, length_push, get_or_append_left, get_or_default}
use Rattle.row_sort.specs.Held.{first_held, HasBar, IsSound}
use Rattle.row_sort.specs.Order.{row_order}
use Rattle.row_sort.specs.Sorting.{sorted}
use Rattle.row_sort.specs.declared.order.Direction.{Direction}
use Rattle.row_sort.specs.declared.rows.Ranked.{Ranked}
use Rattle.row_sort.proofs.OrderLaws.{row_weak}
use Rattle.row_sort.proofs.SortingLaws.{lt, length-sorted, sorted-push, first-again, first-push, placed_later, bar_push, away, last_bar, up_sorted, up_take}

not_less : (r : Ordering) → is_ge r ≡ true → is_lt r ≡ false
not_less Less h = sym h
not_less Equal h = refl
not_less Greater h = refl

module _ {T : Type 0} (by : List Direction) (most : ℕ) where
  pub none_held : (rows more : List (Ranked T)) → most ≡ 0 → first_held by most rows ≡ first_held by most more
  none_held rows more e =
      ap (λ n. take n (sorted (row_order by) rows)) e ∙ sym (ap (λ n. take n (sorted (row_order by) more)) e)

  pub held_again : (rows : List (Ranked T)) → first_held by most (first_held by most rows) ≡ first_held by most rows
  held_again rows = first-again (row_order by) (row_weak by) most rows

  held_length : (rows : List (Ranked T)) → length (first_held by most rows) ≡ min most (length rows)
  held_length rows = length-take most (sorted (row_order by) rows) ∙ ap (min most) (length-sorted (row_order by) rows)

  cut_bar : (rows : List (Ranked T)) → 0 < most → most ≤ length rows → HasBar by most (first_held by most rows)
  cut_bar rows some long =
      let order : Ranked T → Ranked T → Ordering = row_order by in
      let first : List (Ranked T) = first_held by most rows in
      let len : length first ≡ suc (most - 1) = omega (arith, held_length rows) in
      record {
        some = some;
        enough = omega (arith, held_length rows);
        behind = λ d.
            subst (AllByRecursion (λ y. lt order (get_or first (most - 1) d) y ≡ false)) (sym (held_again rows))
            (last_bar order (row_weak by) (most - 1) first d
            (up_take order most (sorted order rows) (up_sorted order (row_weak by) rows)) len);
      }

  -- what is left after a cut has a bar
  pub cut_sound : (rows : List (Ranked T)) → 0 < most → 2 * most ≤ length rows
      → IsSound by most true (first_held by most rows)
  cut_sound rows some long = record {
    few = omega (arith, held_length rows);
    bar = λ _. cut_bar rows some (omega arith);
  }

  -- and room
  pub cut_room : (rows : List (Ranked T)) → 0 < most → length (first_held by most rows) < 2 * most
  cut_room rows some = omega (arith, held_length rows)

  pub pushed_first : (rows : List (Ranked T)) (row : Ranked T)
      → first_held by most (rows ++ row ∷ []) ≡ first_held by most (first_held by most rows ++ row ∷ [])
  pushed_first rows row = sym (first-push (row_order by) (row_weak by) most rows row)

  pushed_bar : (rows : List (Ranked T)) (row : Ranked T) → HasBar by most rows → HasBar by most (rows ++ row ∷ [])
  pushed_bar rows row bar =
      let order : Ranked T → Ranked T → Ordering = row_order by in
      let last : Ranked T = get_or rows (most - 1) row in
      let below : most - 1 < length rows = omega (arith, bar.some, bar.enough) in
      let added : AllByRecursion (λ y. lt order last y ≡ false) (take most (placed_later order row (sorted order rows)))
      = bar_push order (row_weak by) most last row (sorted order rows)
      (omega (arith, bar.enough, length-sorted order rows)) (bar.behind row) in
      record {
        some = bar.some;
        enough = omega (arith, length_push rows row, bar.enough);
        behind = λ d.
            let same : get_or rows (most - 1) row ≡ get_or (rows ++ row ∷ []) (most - 1) d =
            sym (get_or_append_left rows (row ∷ []) d (most - 1) below ∙ get_or_default rows (most - 1) d row below) in
            subst
            (λ (b : Ranked T). AllByRecursion (λ y. lt order b y ≡ false) (first_held by most (rows ++ row ∷ []))) same
            (subst (λ (l : List (Ranked T)). AllByRecursion (λ y. lt order last y ≡ false) (take most l))
            (sym (sorted-push order (row_weak by) rows row)) added);
      }

  pub pushed_sound : (barred : Bool) (rows : List (Ranked T)) (row : Ranked T) → IsSound by most barred rows
      → length rows < 2 * most → IsSound by most barred (rows ++ row ∷ [])
  pushed_sound barred rows row sound room = record {
    few = omega (arith, length_push rows row);
    bar = λ e. pushed_bar rows row (sound.bar e);
  }

  -- a row that isn't before the bar changes nothing
  pub held_away : (rows : List (Ranked T)) (row last : Ranked T) → HasBar by most rows
      → last ≡ get_or rows (most - 1) last
      → is_ge (row_order by row last) ≡ true
      → first_held by most (first_held by most rows ++ row ∷ []) ≡ first_held by most rows
  held_away rows row last bar at h =
      away (row_order by) (row_weak by) most last row rows bar.enough (not_less (row_order by row last) h)
      (subst (λ (b : Ranked T). AllByRecursion (λ y. is_lt (row_order by b y) ≡ false) (first_held by most rows))
      (sym at) (bar.behind last))
