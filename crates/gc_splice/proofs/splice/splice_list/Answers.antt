use Rattle.std.proofs.Common.{rules, arith, ◌≡◌, ◌≤◌, ◌-◌, ◌∙◌, length, sym, ap, subst}
use Rattle.std.specs.Prelude.{not}
use Rattle.gc_splice.specs.declared.splice.Spliced.TheVariants.{Done}
use Rattle.inverted_list.specs.Blocks.{listing, Sound}
use Rattle.gc_splice.specs.Splice.{picture_of, splice_of, tail_stands}
use Rattle.gc_splice.proofs.SpliceLaws.{picture_is, blocks_first, sound_spliced, length_spliced, long_enough}
use Rattle.gc_splice.proofs.splice.splice_list.Goals as goal

pub splice_parts-requires : goal.splice_parts-requires
splice_parts-requires g c =
    let same : c.args.repair.now.seen ≡ c.args.list.now.marker = search rules in
    let f = c.requires same in
    subst (λ bs. length c.args.repair.now.sealed ≤ length bs) (sym (ap (λ l. l.sealed) c.take_parts-parts.ensures.parts)) (long_enough f.0 c.args.repair.now.sealed c.args.list.now.sealed f.1.blocks)

pub put_parts-requires : goal.put_parts-requires
put_parts-requires g c =
    let same : c.args.repair.now.seen ≡ c.args.list.now.marker = search rules in
    let f = c.requires same in
    let pic = picture_is c.take_parts-parts.result c.args.list.now c.take_parts-parts.ensures.parts in
    subst (λ p. Sound p) (sym (c.splice_parts.ensures ∙ ap (λ p. splice_of p c.args.repair.now c.args.marker) pic))
    (sound_spliced f.0 (picture_of c.args.list.now) c.args.repair.now c.args.marker f.1 (subst (λ p. Sound p) pic c.take_parts-parts.ensures.sound))

pub overflow_sub-result : goal.overflow_sub-result
overflow_sub-result g c =
    let same : c.args.repair.now.seen ≡ c.args.list.now.marker = search rules in
    let f = c.requires same in
    let pic = picture_is c.take_parts-parts.result c.args.list.now c.take_parts-parts.ensures.parts in
    let made : c.put_parts.new.self ≡ listing (splice_of (picture_of c.args.list.now) c.args.repair.now c.args.marker) =
    c.put_parts.ensures ∙ ap (λ p. listing p) (c.splice_parts.ensures ∙ ap (λ p. splice_of p c.args.repair.now c.args.marker) pic) in
    let first = blocks_first c.take_parts-parts.result c.args.list.now c.take_parts-parts.ensures.parts in
    let fewer = length_spliced f.0 c.args.list.now c.args.repair.now c.args.marker first f.1 in
    omega (arith, fewer, ap (λ l. length l.entries) made, c.len.ensures.len, c.len-before.ensures.len)

pub returns : goal.returns
returns g c =
    let pic = picture_is c.take_parts-parts.result c.args.list.now c.take_parts-parts.ensures.parts in
    let made : c.put_parts.new.self ≡ listing (splice_of (picture_of c.args.list.now) c.args.repair.now c.args.marker) =
    c.put_parts.ensures ∙ ap (λ p. listing p) (c.splice_parts.ensures ∙ ap (λ p. splice_of p c.args.repair.now c.args.marker) pic) in
    let lost : c.len-before.result - c.len.result ≡ length c.args.list.now.entries - length c.put_parts.new.self.entries = omega (arith, c.len-before.ensures.len, c.len.ensures.len) in
    record {
      moved = λ other. let same : c.args.repair.now.seen ≡ c.args.list.now.marker = search rules in absurd (other same);
      done = λ same. (
        made,
        ap (λ n. Done n c.is_tail_kept-tail_kept.result) lost
            ∙ ap (λ t. Done (length c.args.list.now.entries - length c.put_parts.new.self.entries) t) (c.is_tail_kept-tail_kept.ensures ∙ ap (λ p. not (tail_stands p c.args.repair.now)) pic),
      );
      blocks = λ same. blocks_first c.take_parts-parts.result c.args.list.now c.take_parts-parts.ensures.parts;
    }
