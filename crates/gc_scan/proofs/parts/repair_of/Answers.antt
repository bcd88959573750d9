use Rattle.std.proofs.Common.{◌≢◌, ◌∙◌, ap, arith, inl, inr, length, sym}
use Rattle.std.specs.List.{list_all}
use Rattle.gc_scan.specs.Staying.{stays}
use Rattle.gc_scan.proofs.StayLaws.{none_told, some_told}
use Rattle.gc_scan.proofs.parts.repair_of.Goals as goal
use Rattle.gc_scan.proofs.parts.repair_of.Goals.{else-all_stay-via-then-all_stay+else-len, else-all_stay-via-else-all_stay}

pub returns-then-len : goal.returns-then-len
returns-then-len g c = λ live blocks tail.
    let stay = ap (λ rs. list_all stays rs) (sym c.as_slice.ensures.value) ∙ (sym c.all_stay.ensures ∙ c.if-all_stay.true) in
    none_told live c.args.picture.now c.args.sealed.items c.args.tail blocks tail stay (omega (arith, c.len.ensures.len, c.len-then-all_stay.ensures.len, c.if-len.true))

pub returns : goal.returns
returns g c = λ live blocks tail.
    let p = c.args.picture.now in
    let items = c.args.sealed.items in
    let left = c.args.tail in
    let sealed = c.from_vec.ensures ∙ blocks in
    let same = ap (λ rs. list_all stays rs) (sym c.as_slice.ensures.value) ∙ sym c.all_stay.ensures in
    elim c.else-all_stay.branch [
      | else-all_stay-via-then-all_stay+else-len w ↦
          let other : length left ≢ length p.tail = omega (arith, w.len.ensures.len, w.len-then-all_stay.ensures.len, w.if-len.false) in
          some_told live p c.from_vec.result left c.len-2.result sealed tail c.len-2.ensures.len (inr other)
      | else-all_stay-via-else-all_stay w ↦
          some_told live p c.from_vec.result left c.len-2.result sealed tail c.len-2.ensures.len
          (inl (ap (λ rs. list_all stays rs) c.from_vec.ensures ∙ (same ∙ w.if-all_stay.false)))
    ]
