use Rattle.std.specs.Prelude.{Some, None, refl}
use Rattle.std.proofs.Common.{◌∙◌, ap, sym, arith, subst, ℕ}
use Rattle.cmd_parse.specs.Aggregating.{aggregate_of}
use Rattle.indexed_store.proofs.MovingLaws.{moves-kept}
use Rattle.ft_engine.proofs.CursorLaws.{prepares-quiet}
use Rattle.ft_engine.proofs.OpeningLaws.{opens-prepares}
use Rattle.ft_engine.specs.Parts.{DoesFirst}
use Rattle.indexed_store.specs.DefinitionsOf.{definitions_of}
use Rattle.indexed_store.specs.Holding.{Holding, state_of}
use Rattle.ft_engine.proofs.SearchLaws.{readable-held}
use Rattle.ft_engine.proofs.indexes.opening.open_cursor.Goals as goal

pub read_first-first-requires-clause-step : goal.read_first-first-requires-clause-step
read_first-first-requires-clause-step c =
    readable-held c.held.inside.store c.held.inside.indexes.items _ _ _ c.as_slice.ensures.value (ap (λ (h : Holding). h.next) c.held.view_is) c.requires.number c.held.invariant.step

pub returns-in-Some-clause-prepares : goal.returns-in-Some-clause-prepares
returns-in-Some-clause-prepares c =
    let held = c.args.held.now in
    let is = c.held.view_is in
    let what = aggregate_of c.args.asked in
    let does = c.in-Some.ensures.does (state_of held) (sym (ap (λ (h : Holding). h.space) is)) (ap definitions_of (sym (ap (λ (h : Holding). h.indexes) is) ∙ sym c.as_slice.ensures.value)) in
    opens-prepares what c.args.cursor held _ c.keep.new.held c.in-Some.first c.read_first-first.new.reply.bytes c.keep.new.reply.bytes c.keep.result (record {
      space = c.in-Some.ensures.store.space ∙ ap (λ (h : Holding). h.space) is;
      indexes = ap (λ (h : Holding). h.indexes) is;
      cursors = ap (λ (h : Holding). h.cursors) is;
      latest = ap (λ (h : Holding). h.latest) is;
      waits = c.in-Some.ensures.store.ready ∙ ap (λ (h : Holding). h.waits) is;
      opens = ap (λ (h : Holding). h.opens) is;
      next = ap (λ (h : Holding). h.next) is;
    }) (subst (λ (n : ℕ). DoesFirst what c.args.cursor n (state_of held) (Some c.in-Some.first) c.read_first-first.new.reply.bytes) (ap (λ (h : Holding). h.next) is) does) c.keep.ensures.kept

pub returns-in-None-clause-prepares : goal.returns-in-None-clause-prepares
returns-in-None-clause-prepares c =
    let held = c.args.held.now in
    let is = c.held.view_is in
    let what = aggregate_of c.args.asked in
    let does = c.in-None.ensures.does (state_of held) (sym (ap (λ (h : Holding). h.space) is)) (ap definitions_of (sym (ap (λ (h : Holding). h.indexes) is) ∙ sym c.as_slice.ensures.value)) in
    prepares-quiet _ held _ _ _ refl (record {
      space = c.in-None.ensures.store.space ∙ ap (λ (h : Holding). h.space) is;
      definitions = ap (λ (h : Holding). definitions_of h.indexes) is;
      cursors = ap (λ (h : Holding). h.cursors) is;
      latest = ap (λ (h : Holding). h.latest) is;
      next = omega (arith, ap (λ (h : Holding). h.next) is);
      moves = moves-kept held.next held.indexes c.held.inside.indexes.items (ap (λ (h : Holding). h.indexes) is);
    }) (ap (λ (h : Holding). h.indexes) is)
    (subst (λ (n : ℕ). DoesFirst what c.args.cursor n (state_of held) None c.read_first-first.new.reply.bytes) (ap (λ (h : Holding). h.next) is) does)
