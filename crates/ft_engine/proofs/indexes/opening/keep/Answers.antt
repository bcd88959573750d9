use Rattle.std.specs.Prelude.{◌≡◌, length, nat_le, true, Bool, ℕ, refl}
use Rattle.std.proofs.Common.{◌∙◌, ap, subst, sym}
use Rattle.cursor_book.specs.Cursors.{cursors_of}
use Rattle.ft_machine.specs.Opening.{most_cursors, new_cursor}
use Rattle.ft_engine.proofs.IndexCommandLaws.{stays-same}
use Rattle.ft_engine.specs.Parts.{KeptBy}
use Rattle.indexed_store.specs.declared.change.Change.TheVariants.{Nothing}
use Rattle.ft_engine.proofs.indexes.opening.keep.Goals as goal

pub returns-then-is_full-clause-kept : goal.returns-then-is_full-clause-kept
returns-then-is_full-clause-kept c =
    let held = c.args.held.now in
    let first = c.args.first in
    let full : nat_le most_cursors (length (cursors_of first.serial held.cursors)) ≡ true = ap (λ (n : ℕ). nat_le most_cursors n) (sym c.cursor_count.ensures) ∙ (sym c.is_full.ensures ∙ c.if-is_full.true) in
    record {
      stays = stays-same held;
      indexes = refl;
      kept = subst (λ (b : Bool). KeptBy b held.opens (new_cursor first.serial c.args.cursor held.next held.latest first.body) c.args.reply.now.bytes c.set_fault.new.self.bytes Nothing) (sym full)
          (c.set_fault.ensures.bytes, refl);
    }
