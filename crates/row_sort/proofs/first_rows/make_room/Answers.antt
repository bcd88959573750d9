use Rattle.std.proofs.Common.{◌*◌, ◌≤◌, length, ap, sym, subst, ◌∙◌, arith}
use Rattle.std.proofs.lemmas.Grind.{common_steps}
use Rattle.row_sort.specs.Held.{first_held, IsSound}
use Rattle.row_sort.proofs.HeldLaws.{held_again, cut_sound}
use Rattle.row_sort.proofs.first_rows.make_room.Goals as goal

pub returns-clause-same : goal.returns-clause-same
returns-clause-same g c =
    ap (first_held c.args.by.now c.args.most) c.in_ok-keep_first.ensures.ok
    ∙ held_again c.args.by.now c.args.most c.args.rows.now.items

pub returns-clause-sound : goal.returns-clause-sound
returns-clause-sound g c =
    let enough : 2 * c.args.most ≤ length c.args.rows.now.items = omega arith in
    subst (IsSound c.args.by.now c.args.most _) (sym c.in_ok-keep_first.ensures.ok)
    (cut_sound c.args.by.now c.args.most c.args.rows.now.items c.requires.some enough)

pub returns-clause-room : goal.returns-clause-room
returns-clause-room g c = grind (arith, common_steps)
