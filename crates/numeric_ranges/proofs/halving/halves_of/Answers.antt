use Rattle.std.proofs.Common.{◌≡◌, ◌++◌, ◌∷◌, [], ap, sym, subst, ◌∙◌, rules}
use Rattle.std.proofs.lemmas.Int.{to_z-of_z}
use Rattle.std.proofs.lemmas.Result.{IfOk-weaker}
use mir.Syntax.{w64}
use mir.Val.{SFits}
use Rattle.inverted_list.specs.Listing.{RisesAbove}
use Rattle.inverted_list.proofs.ReachLaws.{rises_push}
use Rattle.numeric_ranges.specs.Rows.{IsInside}
use Rattle.numeric_ranges.specs.Values.{Entries, values, cut_of}
use Rattle.numeric_ranges.proofs.FilledLaws.{halves_from, next_marker_is}
use Rattle.numeric_ranges.proofs.halving.halves_of.Goals as goal

pub filled-requires-clause-rises : goal.filled-requires-clause-rises
filled-requires-clause-rises c =
    subst (λ (es : Entries). RisesAbove 0 es) (sym (c.as_slice-2.ensures.value ∙ c.in_ok-entries.ensures))
    (rises_push 0 c.args.id c.args.hit.now c.args.row.now.list.entries c.requires.rises c.requires.below)

pub returns-clause-ok : goal.returns-clause-ok
returns-clause-ok c =
    let es = c.args.row.now.list.entries ++ (c.args.id, c.args.hit.now) ∷ [] in
    let f : SFits w64 c.args.row.now.low = search rules in
    let g : SFits w64 c.in_ok-parts.parts.cut = search rules in
    let one : c.as_slice.result.now ≡ es = c.as_slice.ensures.value ∙ c.in_ok-entries.ensures in
    let two : c.as_slice-2.result.now ≡ es = c.as_slice-2.ensures.value ∙ c.in_ok-entries.ensures in
    IfOk-weaker c.filled.result _ _
    (λ h filled. halves_from c.args.row.now es c.as_slice-2.result.now c.args.markers.now c.new-left.result c.new-right.result h.0 h.1 c.in_ok-parts.parts.cut c.in_ok-first.first c.in_ok-second.second
    two (c.new-left.ensures.low ∙ to_z-of_z w64 c.args.row.now.low f) (c.new-right.ensures.low ∙ to_z-of_z w64 c.in_ok-parts.parts.cut g)
    (c.in_ok-parts.ensures.value ∙ ap (λ (xs : Entries). cut_of (values xs)) one)
    (subst (λ (xs : Entries). IsInside c.in_ok-parts.parts.cut (values xs)) one c.in_ok-parts.ensures.fits)
    c.new-left.ensures.list c.new-right.ensures.list c.in_ok-first.ensures.ok
    (c.in_ok-second.ensures.ok ∙ next_marker_is c.args.markers.now c.next_marker.new.markers c.in_ok-first.ensures.next c.next_marker.ensures.event) filled)
    c.filled.ensures
