use Rattle.std.proofs.Common.{sym, ◌∙◌}
use Rattle.cmd_parse.proofs.FitLaws.{fits_by_table}
use Rattle.cmd_parse.proofs.fit.name_fit.Goals as goal

pub returns-in-Some : goal.returns-in-Some
returns-in-Some c = record {
  exact = λ serial. sym (fits_by_table serial c.args.words c.word-name.result.now c.in-Some.form c.len-count.result c.requires.some c.word-name.ensures
      (sym c.is_of_session.ensures ∙ c.if-is_of_session.false) (sym c.form_of.ensures.form ∙ c.in-Some.is) c.len-count.ensures (sym c.fits.ensures ∙ c.if-fits.true));
}
