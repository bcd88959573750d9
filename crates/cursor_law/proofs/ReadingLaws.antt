-- What a read of the cursor is answered, and what it leaves.
use Rattle.std.proofs.Common.{◌≡◌, ℕ, Bool, true, false, cond, not, nat_lt, nat_eq, List, [], ◌∷◌, length, filter, map, Option, Some, None, refl, sym, ap, ap₂, subst, ◌∙◌}
use Rattle.std.specs.List.{filter_map}
use Rattle.std.proofs.lemmas.Bool.{and_from, and_parts, eq-eqb, eqb-true}
use Rattle.cursor_book.specs.Cursors.{cursor_read, is_cursor, read, read_one, without}
use Rattle.cursor_book.specs.declared.cursor.Body.TheVariants as body
use Rattle.cursor_book.specs.declared.cursor.Cursor.{Cursor}
use Rattle.cursor_book.specs.declared.cursor.Taken.TheVariants as taken
use Rattle.ft_base.specs.declared.definition.IndexDef.{IndexDef}
use Rattle.ft_base.specs.Docs.{Doc}
use Rattle.ft_machine.specs.Machine.{State}
use Rattle.ft_machine.specs.Parts.{Part, last_id, part_of, part_reply}
use Rattle.cursor_law.specs.Law.{rows_shown}
use Rattle.cursor_law.specs.StreamCursor.{StreamCursor, row_in}
use Rattle.cursor_law.proofs.CursorLaws.{IsAt, Stands, mine, read-mine}
use Rattle.cursor_law.proofs.ListLaws.{filter-passes, filter-swap}
use Rattle.cursor_law.proofs.PartLaws.{last-is, many-is, read_gives, rows-is}

-- how far the cursor is read behind a read that gave these, where it is not gone
abbrev pub left_of : ℕ → ℕ → List Doc → Option ℕ
left_of after n docs = cond (nat_lt (length docs) n) None (Some (last_id after docs))

module _ (cursor : StreamCursor) (def : IndexDef) (state : State) (after n : ℕ) where
  -- the machine's part of it
  abbrev pub stream_reads : Part
  stream_reads = part_of def state.space n (body.Stream cursor.query cursor.stream after)

  abbrev pub docs : List Doc
  docs = read_gives cursor def state.space after n

  ends-is : stream_reads.ends ≡ nat_lt (length docs) n
  ends-is = ap (λ l. nat_lt l n) (many-is cursor def state.space after n)

  pub reply-is : (id : ℕ) → part_reply id stream_reads ≡ rows_shown id n (filter_map (row_in cursor (Some def)) docs)
  reply-is id = ap (rows_shown id n) (rows-is cursor def state.space after n)

  -- a read that may end it, from a cursor that goes on behind it
  pub goes-on : (there : List _) (gone : List _) → (nat_lt (length docs) n ≡ true → IsAt cursor gone None) → (nat_lt (length docs) n ≡ false → IsAt cursor there (Some (last_id after docs)))
      → IsAt cursor (cond stream_reads.ends gone there) (left_of after n docs)
  goes-on there gone ends stays = subst (λ (b : Bool). IsAt cursor (cond b gone there) (left_of after n docs)) (sym ends-is) (pick (nat_lt (length docs) n) refl)
    where
      pick : (b : Bool) → nat_lt (length docs) n ≡ b → IsAt cursor (cond b gone there) (cond b None (Some (last_id after docs)))
      pick true e = ends e
      pick false e = stays e

  pub taken-is : nat_lt (length docs) n ≡ false → stream_reads.taken ≡ taken.UpTo (last_id after docs)
  taken-is e = ap (λ id. taken.UpTo id) (last-is cursor def state.space after n e)

  module _ (kept : Cursor) (is : mine cursor state.cursors ≡ kept ∷ []) (stands : Stands cursor after kept) where
    its : is_cursor cursor.serial cursor.id kept ≡ true
    its = filter-passes (is_cursor cursor.serial cursor.id) state.cursors kept is

    pub id-is : kept.id ≡ cursor.id
    id-is = eqb-true kept.id cursor.id (and_parts (nat_eq kept.serial cursor.serial) (nat_eq kept.id cursor.id) its).1

    self : is_cursor kept.serial kept.id kept ≡ true
    self = and_from (nat_eq kept.serial kept.serial) (nat_eq kept.id kept.id) (eq-eqb kept.serial kept.serial refl) (eq-eqb kept.id kept.id refl)

    gone-is : mine cursor (without kept.serial kept.id state.cursors) ≡ []
    gone-is =
        filter-swap (is_cursor cursor.serial cursor.id) (λ c. not (is_cursor kept.serial kept.id c)) state.cursors
        ∙ (ap (filter (λ c. not (is_cursor kept.serial kept.id c))) is ∙ ap (λ b. cond (not b) (kept ∷ []) []) self)

    there-is : nat_lt (length docs) n ≡ false → IsAt cursor (read kept.serial kept.id state.latest stream_reads.taken state.cursors) (Some (last_id after docs))
    there-is e = (
      cursor_read state.latest stream_reads.taken kept,
      read-mine cursor kept.serial kept.id state.latest stream_reads.taken state.cursors
          ∙ (ap (map (read_one kept.serial kept.id state.latest stream_reads.taken)) is ∙ ap (λ b. cond b (cursor_read state.latest stream_reads.taken kept) kept ∷ []) self),
      record {
        body = ap₂ (λ t b. Rattle.cursor_book.specs.Cursors.body_left t b) (taken-is e) stands.body;
        count = stands.count;
      },
    )

    pub left-is : IsAt cursor (cond stream_reads.ends (without kept.serial kept.id state.cursors) (read kept.serial kept.id state.latest stream_reads.taken state.cursors)) (left_of after n docs)
    left-is = goes-on _ _ (λ e. gone-is) there-is
