use Rattle.std.proofs.Common.{◌≡◌, ap, map, subst, ◌∙◌}
use Rattle.std.specs.Prelude.{IfOk}
use Rattle.rayon.proofs.ToStd.{slice-AllZip}
use Rattle.gc_splice.specs.Repaired.{repair_of_block}
use Rattle.gc_scan.proofs.StayLaws.{if_made}
use Rattle.gc_scan.proofs.parallel.repair_blocks.Goals as goal

pub returns : goal.returns
returns g c =
    let slice = ap (λ it. it.base.slice.now) c.map.ensures.base ∙ (ap (λ it. it.slice.now) c.with_min_len.ensures.base ∙ c.par_iter.ensures) in
    let h = c.in_ok-made.ensures in
    let chain = h.1 in
    subst (λ live. IfOk c.in_ok-made.field-0 (λ v. v.items ≡ map (repair_of_block (g.L.Live.is live)) c.args.blocks.now))
    (ap (λ f. f.1.now) c.map.ensures.f)
    (if_made (λ v. v.items) (repair_of_block (g.L.Live.is c.map.result.f.1.now)) c.in_ok-made.field-0 c.args.blocks.now h.0 _
    (slice-AllZip chain.0 c.args.blocks.now (chain.1 ∙ slice) (λ b x. IfOk x (λ r. r ≡ repair_of_block (g.L.Live.is c.map.result.f.1.now) b)) h.0 chain.2) h.2)
