use Rattle.std.proofs.Common.{◌++◌, ◌∷◌, [], ap, sym, subst, ◌∙◌}
use Rattle.row_sort.specs.Held.{first_held, IsSound}
use Rattle.row_sort.proofs.HeldLaws.{pushed_first, pushed_sound}
use Rattle.row_sort.proofs.first_rows.hold.Goals as goal

pub returns-clause-sound : goal.returns-clause-sound
returns-clause-sound g c =
    let by = c.args.by.now in
    let most = c.args.most in
    let made = c.in_ok-make_room.ensures in
    subst (IsSound by most c.make_room.new.barred) (sym c.in_ok-push.ensures.items)
    (pushed_sound by most c.make_room.new.barred c.make_room.new.rows.items c.args.row made.sound made.room)

pub returns-clause-ok : goal.returns-clause-ok
returns-clause-ok g c =
    let by = c.args.by.now in
    let most = c.args.most in
    ap (first_held by most) c.in_ok-push.ensures.items
    ∙ pushed_first by most c.make_room.new.rows.items c.args.row
    ∙ ap (λ l. first_held by most (l ++ c.args.row ∷ [])) c.in_ok-make_room.ensures.same
