use Rattle.std.proofs.Common.{◌≡◌, ◌∙◌, sym, ap, subst}
use Rattle.std.proofs.lemmas.Result.{on_ok_weaker}
use Rattle.inverted_list.specs.Listing.{marker_of}
use Rattle.gc_splice.specs.Splice.{picture_of, spliced, Fits}
use Rattle.gc_splice.proofs.AliveLaws.{all_kept}
use Rattle.gc_splice.proofs.WholeLaws.{fits_list, whole_list, none_made, some_made}
use Rattle.gc_splice.proofs.collect.collect_list.Goals as goal

pub returns-in_default-clause-entries : goal.returns-in_default-clause-entries
returns-in_default-clause-entries g c =
    let live = g.L.Live.is c.args.live.now in
    let l = c.args.list.now in
    let e = c.in_ok-repair.ensures in
    ap (λ k. k.entries) e.same ∙ sym (all_kept live l.entries (none_made live l c.in_ok-repair.field-0 e.repair c.in_default.is))

pub splice_next-requires : goal.splice_next-requires
splice_next-requires g c = λ same.
    let live = g.L.Live.is c.args.live.now in
    let l = c.args.list.now in
    let e = c.in_ok-repair.ensures in
    let made = some_made live l c.in_ok-repair.field-0 c.in-Some.repair e.repair c.in-Some.is in
    (live, subst (λ k. Fits live c.in-Some.repair (picture_of k)) (sym e.same) (subst (λ r. Fits live r (picture_of l)) (sym made.0) (fits_list live l e.blocks)))

pub returns-clause-entries : goal.returns-clause-entries
returns-clause-entries g c =
    let live = g.L.Live.is c.args.live.now in
    let l = c.args.list.now in
    let e = c.in_ok-repair.ensures in
    let marker = marker_of c.args.markers.now in
    let made = some_made live l c.in_ok-repair.field-0 c.in-Some.repair e.repair c.in-Some.is in
    on_ok_weaker c.splice_next.result
    (λ (is : c.splice_next.new.list ≡ spliced c.repair_of.new.list c.in-Some.repair marker).
    ap (λ k. k.entries) is ∙ ap (λ k. (spliced k c.in-Some.repair marker).entries) e.same ∙ ap (λ r. (spliced l r marker).entries) made.0 ∙ whole_list live l marker e.blocks)
    (c.splice_next.ensures.ok (ap (λ r. r.seen) made.0 ∙ ap (λ k. k.marker) (sym e.same)))
