use Rattle.std.proofs.Common.{◌≡◌, ◌∙◌, ap, sym, subst, rules, not, filter}
use Rattle.std.proofs.lemmas.List.Elements.{filter_from_retain}
use Rattle.id_rows.specs.IdRows.{full_rows, is_empty_row, Rise}
use Rattle.id_rows.proofs.IdRowsLaws.{full_swept, rise_swept}
use Rattle.id_rows.proofs.rows.sweep.Goals as goal

swept : (g : _) (c : goal.After-retain g) → c.retain.new.self.items ≡ filter (λ row. not (is_empty_row row)) c.args.rows.now.items
swept g c = filter_from_retain _ (λ row. not (is_empty_row row)) (λ p x b q k. search rules) _ _ _ c.retain.ensures.filtered

pub returns-clause-same : goal.returns-clause-same
returns-clause-same g c = ap (full_rows g.T.HasId.id_of) (swept g c) ∙ full_swept g.T.HasId.id_of c.args.rows.now.items

pub returns-clause-rises : goal.returns-clause-rises
returns-clause-rises g c = subst (Rise g.T.HasId.id_of 0) (sym (swept g c)) (rise_swept g.T.HasId.id_of 0 c.args.rows.now.items c.requires)
