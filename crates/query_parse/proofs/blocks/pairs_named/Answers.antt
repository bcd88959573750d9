use Rattle.std.proofs.Common.{◌≡◌, ◌||◌, Bool, List, [], ◌∷◌, ◌++◌, refl, ap, sym, ◌∙◌, arith}
use Rattle.std.specs.Str.{bytes_eq}
use Rattle.std.proofs.lemmas.Result.{IfOk-weaker}
use Rattle.query_grammar.specs.Grammar.{has_name}
use Rattle.query_grammar.specs.Reading.{names_of}
use Rattle.query_grammar.specs.Form as form
use Rattle.query_parse.specs.Seen.{pair_of, pairs_of}
use Rattle.query_parse.proofs.Attributing.{begins, ended, goes_on}
use Rattle.query_grammar.proofs.Blocks.{named_last}
use Rattle.query_parse.proofs.PairLemmas.{pairs-of-more}
use Rattle.query_parse.specs.declared.blocks.Step.TheVariants.{More}
use Rattle.query_parse.specs.declared.blocks.Step.TheVariants as steps
use Rattle.query_parse.proofs.blocks.pairs_named.Goals as goal

pub reading-init : goal.reading-init
reading-init c = record {
  reads = rw c.new-pairs.ensures.items (begins _ _ _);
  named = rw c.new-pairs.ensures.items c.requires.none;
  within = omega arith;
}

pub reading-preserved : goal.reading-preserved
reading-preserved c =
    let def = c.args.parser.now.def.now in
    let params = c.args.parser.now.params in
    let before = pairs_of c.reading.pairs.items in
    let pair = pair_of c.in-More.pair in
    let more : pairs_of c.note.new.pairs.items ≡ before ++ pair ∷ [] = ap pairs_of c.in_ok-note-in-More.ensures.pairs ∙ pairs-of-more c.reading.pairs.items c.in-More.pair in
    record {
      reads = rw more (goes_on def params (More c.in-More.pair c.in-More.behind) before _ _ _ _ (λ others. c.in-More.ensures.read def others before c.reading.invariant.named) (λ others. refl) c.in-More.ensures.shorter c.reading.invariant.reads);
      named = λ name.
          c.in_ok-note-in-More.ensures.names name
          ∙ (ap (λ (any : Bool). bytes_eq name c.in-More.pair.name.now || any) (c.reading.invariant.named name)
          ∙ (sym (named_last before pair name)
          ∙ sym (ap (λ (all : List form.Pair). has_name (names_of def params all) name) more)));
      within = omega (arith, c.in-More.ensures.shorter, c.reading.invariant.within);
    }

pub returns-in-Closed-clause-read : goal.returns-in-Closed-clause-read
returns-in-Closed-clause-read c =
    let def = c.args.parser.now.def.now in
    let params = c.args.parser.now.params in
    let before = pairs_of c.reading.pairs.items in
    IfOk-weaker c.closed.result _ _
    (λ block made. made def params
    ∙ ended def params (steps.Closed c.in-Closed.pair c.in-Closed.behind) before c.reading.rest.now _ _ (λ others. c.in-Closed.ensures.read def others before c.reading.invariant.named) (λ others. refl) c.reading.invariant.reads)
    c.closed.ensures.read

pub returns-in-Open-clause-read : goal.returns-in-Open-clause-read
returns-in-Open-clause-read c =
    let def = c.args.parser.now.def.now in
    let params = c.args.parser.now.params in
    let before = pairs_of c.reading.pairs.items in
    IfOk-weaker c.open.result _ _
    (λ block made. made def params
    ∙ ended def params (steps.Open c.in-Open.pair c.in-Open.behind) before c.reading.rest.now _ _ (λ others. c.in-Open.ensures.read def others before c.reading.invariant.named) (λ others. refl) c.reading.invariant.reads)
    c.open.ensures.read
