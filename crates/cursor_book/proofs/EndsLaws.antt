-- A moment up to which no cursor is idle.
use Rattle.std.proofs.Common.{◌≡◌, ℕ, zero, suc, ◌+◌, ◌-◌, ◌≤◌, ◌<◌, true, not, List, [], ◌∷◌, length, get_or, take, ap, subst, add-one, arith}
use Rattle.std.proofs.lemmas.Bool.{le-ltb}
use Rattle.cursor_book.specs.declared.cursor.Cursor.{Cursor}
use Rattle.cursor_book.specs.Cursors.{is_live, live}
use Rattle.cursor_book.specs.Ends.{AllEndFrom, EndsFrom}
use Rattle.cursor_book.specs.Shelved.{Shelved, all_of}
use Rattle.cursor_book.proofs.EachLaws.{each-append, each-left, each-right, each-weaker, filter-all}

-- an earlier moment is one too
pub ends-earlier : (earlier moment : ℕ) (cursors : List Cursor) → earlier ≤ moment → AllEndFrom moment cursors → AllEndFrom earlier cursors
ends-earlier earlier moment cursors before all = each-weaker (EndsFrom moment) (EndsFrom earlier) (λ cursor ends. omega (arith, before, ends)) cursors all

pub none-idle : (now moment : ℕ) (cursors : List Cursor) → now ≤ moment → AllEndFrom moment cursors → live now cursors ≡ cursors
none-idle now moment cursors before all =
    filter-all (is_live now) cursors
    (each-weaker (EndsFrom moment) (λ cursor. is_live now cursor ≡ true) (λ cursor ends. ap not (le-ltb cursor.max_idle (now - cursor.last_use) (omega (arith, before, ends)))) cursors all)

-- one more cursor, of those that a loop has gone through
ends-suc : (earlier moment : ℕ) (cursors : List Cursor) (i : ℕ) (cursor : Cursor) → i < length cursors → cursor ≡ get_or cursors i cursor
    → earlier ≤ moment → EndsFrom earlier cursor → AllEndFrom moment (take i cursors) → AllEndFrom earlier (take (suc i) cursors)
ends-suc earlier moment [] i cursor within is before ends all = absurd (omega (arith, within))
ends-suc earlier moment (first ∷ cursors) zero cursor within is before ends all = (subst (EndsFrom earlier) is ends, tt)
ends-suc earlier moment (first ∷ cursors) (suc i) cursor within is before ends all =
    (omega (arith, before, all.0), ends-suc earlier moment cursors i cursor (omega (arith, within)) is before ends all.1)

pub ends-next : (earlier moment : ℕ) (cursors : List Cursor) (i : ℕ) (cursor : Cursor) → i < length cursors → cursor ≡ get_or cursors i cursor
    → earlier ≤ moment → EndsFrom earlier cursor → AllEndFrom moment (take i cursors) → AllEndFrom earlier (take (i + 1) cursors)
ends-next earlier moment cursors i cursor within is before ends all = rw add-one (ends-suc earlier moment cursors i cursor within is before ends all)

-- the same of shelves
shelf-ends-suc : (earlier moment : ℕ) (shelves : List Shelved) (i : ℕ) (shelf : Shelved) → i < length shelves → shelf ≡ get_or shelves i shelf
    → earlier ≤ moment → AllEndFrom earlier shelf.1 → AllEndFrom moment (all_of (take i shelves)) → AllEndFrom earlier (all_of (take (suc i) shelves))
shelf-ends-suc earlier moment [] i shelf within is before ends all = absurd (omega (arith, within))
shelf-ends-suc earlier moment (first ∷ shelves) zero shelf within is before ends all =
    each-append (EndsFrom earlier) first.1 [] (subst (λ (s : Shelved). AllEndFrom earlier s.1) is ends) tt
shelf-ends-suc earlier moment (first ∷ shelves) (suc i) shelf within is before ends all =
    each-append (EndsFrom earlier) first.1 (all_of (take (suc i) shelves))
    (ends-earlier earlier moment first.1 before (each-left (EndsFrom moment) first.1 (all_of (take i shelves)) all))
    (shelf-ends-suc earlier moment shelves i shelf (omega (arith, within)) is before ends (each-right (EndsFrom moment) first.1 (all_of (take i shelves)) all))

pub shelf-ends-next : (earlier moment : ℕ) (shelves : List Shelved) (i : ℕ) (shelf : Shelved) → i < length shelves → shelf ≡ get_or shelves i shelf
    → earlier ≤ moment → AllEndFrom earlier shelf.1 → AllEndFrom moment (all_of (take i shelves)) → AllEndFrom earlier (all_of (take (i + 1) shelves))
shelf-ends-next earlier moment shelves i shelf within is before ends all = rw add-one (shelf-ends-suc earlier moment shelves i shelf within is before ends all)
