use Rattle.std.proofs.lemmas.Result.{on_ok_weaker}
use Rattle.ft_index.proofs.CollectLaws.{word-collected, word-live, word-others, word-takes, word-thin}
use Rattle.ft_index.proofs.collecting.collect_word.Goals as goal

pub returns-clause-thin : goal.returns-clause-thin
returns-clause-thin g c =
    let live = g.L.Live.is c.args.live.now in
    word-thin live c.args.word.now c.args.terms.now c.collect.new.self c.args.markers.now c.collect.new.markers
    (word-collected live c.args.word.now c.args.terms.now c.collect.new.self c.collect.result c.args.markers.now c.collect.new.markers c.collect.ensures.ok c.collect.ensures.gone c.collect.ensures.err)

pub returns-clause-here : goal.returns-clause-here
returns-clause-here g c =
    on_ok_weaker c.collect.result
    (λ some. word-live (g.L.Live.is c.args.live.now) c.args.word.now c.args.terms.now c.collect.new.self c.args.markers.now c.collect.new.markers some c.collect.ensures.gone)
    c.collect.ensures.ok

pub returns-clause-others : goal.returns-clause-others
returns-clause-others g c =
    let live = g.L.Live.is c.args.live.now in
    word-others live c.args.word.now c.args.terms.now c.collect.new.self c.args.markers.now c.collect.new.markers
    (word-collected live c.args.word.now c.args.terms.now c.collect.new.self c.collect.result c.args.markers.now c.collect.new.markers c.collect.ensures.ok c.collect.ensures.gone c.collect.ensures.err)

pub returns-clause-takes : goal.returns-clause-takes
returns-clause-takes g c =
    let live = g.L.Live.is c.args.live.now in
    word-takes live c.args.word.now c.args.terms.now c.collect.new.self c.args.markers.now c.collect.new.markers c.requires.before
    (word-collected live c.args.word.now c.args.terms.now c.collect.new.self c.collect.result c.args.markers.now c.collect.new.markers c.collect.ensures.ok c.collect.ensures.gone c.collect.ensures.err)
