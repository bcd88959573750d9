use Rattle.std.proofs.Common.{◌∙◌, ◌++◌, ap, sym, map, take, drop}
use Rattle.std.proofs.lemmas.List.{map-append, take-append-drop, take_rest}
use Rattle.gc_splice.specs.Repaired.{repair_of_block}
use Rattle.gc_splice.proofs.blocks.repair_blocks.Goals as goal

pub returns : goal.returns
returns g c =
    let made = repair_of_block (g.L.Live.is c.args.live.now) in
    let bs = c.args.blocks.now in
    let n = c.args.front in
    c.from_vec.ensures ∙ c.in_ok-repair_from.ensures
    ∙ ap (λ x. c.in_ok-repairs.repairs.items ++ map made x) (take_rest bs n) ∙ ap (λ rs. rs ++ map made (drop n bs)) c.in_ok-repairs.ensures
    ∙ sym (map-append made (take n bs) (drop n bs)) ∙ ap (λ x. map made x) (take-append-drop n bs)
