use Rattle.std.proofs.Common.{◌≡◌, inl, inr, sym, ap, subst, ◌∙◌, length, arith}
use Rattle.std.proofs.lemmas.Bool.{cases_Bool}
use Rattle.posting_block.specs.declared.hits.NumHit.{NumHit}
use Rattle.inverted_list.specs.Listing.{Listing}
use Rattle.gc_splice.specs.Alive.{all_alive}
use Rattle.numeric_ranges.specs.declared.row.Row.{Row}
use Rattle.numeric_ranges.specs.Rows.{IsPart, Knows}
use Rattle.numeric_ranges.proofs.GoneLaws.{part_same, part_alive, fewer_part, fewer_alive}
use Rattle.numeric_ranges.proofs.row.Row.collect.Goals.{then-left-before, else-left-before}
use Rattle.numeric_ranges.proofs.row.Row.collect.Goals as goal

pub returns-in_err-collect_list-clause-part : goal.returns-in_err-collect_list-clause-part
returns-in_err-collect_list-clause-part g c =
    part_same c.args.self.now.list.entries c.collect_list.new.list.entries (ap (λ (l : Listing NumHit). l.entries) c.in_err-collect_list.ensures.err.0)

pub overflow_sub-result : goal.overflow_sub-result
overflow_sub-result g c =
    let live = g.L.Live.is c.args.live.now in
    let old = c.args.self.now.list.entries in
    let new = c.collect_list.new.list.entries in
    omega (arith, fewer_part old new (part_alive live old new c.in_ok-collect_list.ensures.entries), c.len-before.ensures.len, c.len-left.ensures.len)

pub returns-clause-removed : goal.returns-clause-removed
returns-clause-removed g c =
    let live = g.L.Live.is c.args.live.now in
    let old = c.args.self.now.list.entries in
    let new = c.collect_list.new.list.entries in
    let list : c.if-left-before.self.list ≡ c.collect_list.new.list =
    elim c.if-left-before.branch [ then-left-before w ↦ ap (λ (r : Row). r.list) w.self-is | else-left-before w ↦ ap (λ (r : Row). r.list) w.self-is ] in
    omega (arith, ap (λ (l : Listing NumHit). length l.entries) list, fewer_part old new (part_alive live old new c.in_ok-collect_list.ensures.entries), c.len-before.ensures.len, c.len-left.ensures.len)

pub returns-clause-part : goal.returns-clause-part
returns-clause-part g c =
    let live = g.L.Live.is c.args.live.now in
    let list : c.if-left-before.self.list ≡ c.collect_list.new.list =
    elim c.if-left-before.branch [ then-left-before w ↦ ap (λ (r : Row). r.list) w.self-is | else-left-before w ↦ ap (λ (r : Row). r.list) w.self-is ] in
    part_alive live c.args.self.now.list.entries c.if-left-before.self.list.entries (ap (λ (l : Listing NumHit). l.entries) list ∙ c.in_ok-collect_list.ensures.entries)

pub returns-clause-knows : goal.returns-clause-knows
returns-clause-knows g c =
    let live = g.L.Live.is c.args.live.now in
    let old = c.args.self.now.list.entries in
    let new = c.collect_list.new.list.entries in
    let part : IsPart old new = part_alive live old new c.in_ok-collect_list.ensures.entries in
    elim c.if-left-before.branch [
      | then-left-before w ↦ subst (λ (r : Row). Knows r.spread r.list.entries) (sym w.self-is) (w.of_part-self.ensures old new c.requires.knows part c.len-left.ensures.len)
      | else-left-before w ↦
          let same : c.collect_list.new.list ≡ c.args.self.now.list =
          elim (cases_Bool (all_alive live old)) [
            | inl y ↦ (c.in_ok-collect_list.ensures.clean y).0
            | inr n ↦ absurd (omega (arith, fewer_alive live old n, ap length c.in_ok-collect_list.ensures.entries, w.if-left-before.false, c.len-before.ensures.len, c.len-left.ensures.len))
          ] in
          subst (λ (r : Row). Knows r.spread r.list.entries) (sym w.self-is) (subst (λ (l : Listing NumHit). Knows c.args.self.now.spread l.entries) (sym same) c.requires.knows)
    ]
