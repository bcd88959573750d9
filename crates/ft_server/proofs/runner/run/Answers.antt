use Rattle.std.proofs.Common.{Ok, Err, inl, inr, refl, ap}
use Rattle.command_line.specs.Forms.{IsLoad}
use Rattle.command_line.specs.declared.form.Form.TheVariants as form
use Rattle.ft_server.specs.Callers.{Answered}
use Rattle.ft_server.specs.Session.{Outside, told}
use Rattle.ft_server.specs.declared.connection.End.TheVariants as end
use Rattle.ft_server.proofs.CallerLaws.{answered_none}
use Rattle.ft_server.proofs.EndingLaws.{ends_at_once}
use Rattle.ft_server.proofs.FormLaws.{form_read, no_load, no_script, one_load}
use Rattle.ft_server.proofs.PlayingLaws.{ends_same, no_usage}
use Rattle.ft_server.proofs.runner.run.Goals as goal

pub run_load-requires-clause-some : goal.run_load-requires-clause-some
run_load-requires-clause-some g c =
    let asked = c.in-Ok-Load in
    let load : IsLoad c.args.words.now asked.seed asked.docs = asked.ensures.form (form.Load asked.seed asked.docs) (ap Ok asked.field-0-is) in load.are_docs.some

pub run_load-requires-clause-few : goal.run_load-requires-clause-few
run_load-requires-clause-few g c =
    let asked = c.in-Ok-Load in
    let load : IsLoad c.args.words.now asked.seed asked.docs = asked.ensures.form (form.Load asked.seed asked.docs) (ap Ok asked.field-0-is) in load.are_docs.within

pub returns-in-Ok-Script-clause-load : goal.returns-in-Ok-Script-clause-load
returns-in-Ok-Script-clause-load g c seed docs load =
    let asked = c.in-Ok-Script in
    absurd (no_load seed docs (form_read asked.field-0 form.Script (form.Load seed docs) asked.field-0-is (asked.ensures.read (form.Load seed docs) load)))

pub returns-in-Ok-Script-clause-others : goal.returns-in-Ok-Script-clause-others
returns-in-Ok-Script-clause-others g c script load = absurd (script (c.in-Ok-Script.ensures.form form.Script (ap Ok c.in-Ok-Script.field-0-is)))

pub returns-in-Ok-Script-clause-nothing : goal.returns-in-Ok-Script-clause-nothing
returns-in-Ok-Script-clause-nothing g c script load = absurd (script (c.in-Ok-Script.ensures.form form.Script (ap Ok c.in-Ok-Script.field-0-is)))

pub returns-in-Ok-Load-clause-ends : goal.returns-in-Ok-Load-clause-ends
returns-in-Ok-Load-clause-ends g c script =
    let asked = c.in-Ok-Load in
    absurd (no_script asked.seed asked.docs (form_read asked.field-0 (form.Load asked.seed asked.docs) form.Script asked.field-0-is (asked.ensures.read form.Script script)))

pub returns-in-Ok-Load-clause-load : goal.returns-in-Ok-Load-clause-load
returns-in-Ok-Load-clause-load g c seed docs load =
    let asked = c.in-Ok-Load in
    let before : Outside = told g.L.Link g.C.Clock c.args.link.now c.args.clock.now in
    let after : Outside = told g.L.Link g.C.Clock c.run_load.new.link c.args.clock.now in
    ends_same asked.seed asked.docs seed docs c.run_load.result before after
    (one_load asked.seed asked.docs seed docs
    (form_read asked.field-0 (form.Load asked.seed asked.docs) (form.Load seed docs) asked.field-0-is (asked.ensures.read (form.Load seed docs) load)))
    (c.run_load.ensures (g.C.Clock.given c.args.clock.now))

pub returns-in-Ok-Load-clause-usage : goal.returns-in-Ok-Load-clause-usage
returns-in-Ok-Load-clause-usage g c usage =
    let asked = c.in-Ok-Load in
    let before : Outside = told g.L.Link g.C.Clock c.args.link.now c.args.clock.now in
    let after : Outside = told g.L.Link g.C.Clock c.run_load.new.link c.args.clock.now in
    absurd (no_usage asked.seed asked.docs c.run_load.result before after usage (c.run_load.ensures (g.C.Clock.given c.args.clock.now)))

pub returns-in-Ok-Load-clause-others : goal.returns-in-Ok-Load-clause-others
returns-in-Ok-Load-clause-others g c script load =
    let asked = c.in-Ok-Load in absurd (load asked.seed asked.docs (asked.ensures.form (form.Load asked.seed asked.docs) (ap Ok asked.field-0-is)))

pub returns-in-Ok-Load-clause-nothing : goal.returns-in-Ok-Load-clause-nothing
returns-in-Ok-Load-clause-nothing g c script load =
    let asked = c.in-Ok-Load in absurd (load asked.seed asked.docs (asked.ensures.form (form.Load asked.seed asked.docs) (ap Ok asked.field-0-is)))

pub returns-in-Err-NoMemory-clause-ends : goal.returns-in-Err-NoMemory-clause-ends
returns-in-Err-NoMemory-clause-ends g c script = (end.NoMemory, refl, ends_at_once Answered _ (answered_none _))

pub returns-in-Ok-Serve-clause-load : goal.returns-in-Ok-Serve-clause-load
returns-in-Ok-Serve-clause-load g c seed docs load = elim (c.in-Ok-Serve.ensures.read (form.Load seed docs) load) [
  | inl same ↦ absurd (cc)
  | inr memory ↦ absurd (cc)
]

pub returns-in-Ok-Serve-clause-usage : goal.returns-in-Ok-Serve-clause-usage
returns-in-Ok-Serve-clause-usage g c _ = (
  λ script. elim (c.in-Ok-Serve.ensures.read form.Script script) [
    | inl same ↦ absurd (cc)
    | inr memory ↦ absurd (cc)
  ],
  λ seed docs load. elim (c.in-Ok-Serve.ensures.read (form.Load seed docs) load) [
    | inl same ↦ absurd (cc)
    | inr memory ↦ absurd (cc)
  ],
)

pub returns-in-Err-Usage-clause-load : goal.returns-in-Err-Usage-clause-load
returns-in-Err-Usage-clause-load g c seed docs load =
    absurd (c.in-Err-Usage.ensures.usage (ap Err c.in-Err-Usage.field-0-is) (form.Load seed docs) load)

pub returns-in-Err-Usage-clause-usage : goal.returns-in-Err-Usage-clause-usage
returns-in-Err-Usage-clause-usage g c _ = (
  λ script. c.in-Err-Usage.ensures.usage (ap Err c.in-Err-Usage.field-0-is) form.Script script,
  λ seed docs load. c.in-Err-Usage.ensures.usage (ap Err c.in-Err-Usage.field-0-is) (form.Load seed docs) load,
)
