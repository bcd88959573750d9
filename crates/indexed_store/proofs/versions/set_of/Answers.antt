use Rattle.std.proofs.Common.{◌∙◌, [], ap, arith, List, ℕ}
use Rattle.std.specs.List.{list_any}
use Rattle.std.specs.Str.{bytes_eq}
use Rattle.std.proofs.lemmas.List.{take_all}
use Rattle.indexed_store.proofs.VersionsLaws.{set-next}
use Rattle.indexed_store.proofs.versions.set_of.Goals as goal

pub loop-i-preserved : goal.loop-i-preserved
loop-i-preserved c =
    set-next c.loop-i.set c.put.new.self c.args.fields.now c.loop-i.i c.word.result.now [] (omega (arith, c.loop-i-test.true, c.len-i-end.ensures)) c.word.ensures c.in_ok-put.ensures.ok c.loop-i.invariant

pub returns : goal.returns
returns c field =
    c.loop-i.invariant field ∙ ap (λ (fields : List (List ℕ)). list_any (bytes_eq field) fields) (take_all c.loop-i.i c.args.fields.now (omega (arith, c.loop-i-test.false, c.len-i-end.ensures)))
