use Rattle.std.proofs.Common.{◌∙◌, ◌++◌, ◌∷◌, [], ap, sym, arith, length, length-append}
use Rattle.std.specs.Map.{keys_of}
use Rattle.id_rows.specs.IdRows.{full_rows}
use Rattle.id_rows.proofs.IdRowsLaws.{first_some, first_all, first_more, one_most}
use Rattle.id_rows.proofs.PlaceLaws.{read_is}
use Rattle.id_rows.proofs.rows.ids_of.Goals as goal

pub returns-then-len-count : goal.returns-then-len-count
returns-then-len-count g c =
    c.loop-row.invariant.first
    ∙ first_some g.T.HasId.id_of c.args.count c.loop-row.row-index c.args.rows.now
    (omega (arith, ap length c.loop-row.invariant.first, c.loop-row.invariant.few, c.len.ensures, c.if-len-count.true))

pub loop-row-preserved : goal.loop-row-preserved
loop-row-preserved g c =
    let id_of = g.T.HasId.id_of in
    let rows = c.args.rows.now in
    record {
      first = c.in_ok-put_id.ensures ∙ (ap (λ ids. ids ++ keys_of (full_rows id_of (c.row-item.result ∷ []))) c.loop-row.invariant.first
          ∙ sym (first_more id_of c.loop-row.row-index rows c.row-item.result c.loop-row-test.true (read_is id_of rows c.loop-row.row-index c.row-item.result c.row-item.is c.loop-row-test.true)));
      few = omega (arith, ap length c.in_ok-put_id.ensures, length-append c.loop-row.ids.items (keys_of (full_rows id_of (c.row-item.result ∷ []))), one_most id_of c.row-item.result, c.len.ensures, c.if-len-count.false);
    }

pub returns : goal.returns
returns g c =
    c.loop-row.invariant.first
    ∙ first_all g.T.HasId.id_of c.args.count c.loop-row.row-index c.args.rows.now
    (omega (arith, c.loop-row-test.false)) (omega (arith, ap length c.loop-row.invariant.first, c.loop-row.invariant.few))
