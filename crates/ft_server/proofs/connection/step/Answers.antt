use Rattle.std.proofs.Common.{refl, arith}
use Rattle.ft_server.specs.Session.{Outside, told}
use Rattle.ft_server.proofs.EndingLaws.{ends_long, goes_answered, goes_read, goes_refused}
use Rattle.ft_server.proofs.ServingLaws.{same_stream}
use Rattle.ft_server.proofs.connection.step.Goals as goal

pub read_more-requires-clause-taken : goal.read_more-requires-clause-taken
read_more-requires-clause-taken g c = same_stream c.args.buffers.now.decoder.left c.take.new.self.left (c.in-More.ensures.more refl)

pub read_more-requires-clause-turn : goal.read_more-requires-clause-turn
read_more-requires-clause-turn g c few = c.requires.turn (record { left = c.take.new.self.left; waits = c.in-More.ensures.more refl }) few

pub returns-in-Words-clause-leads : goal.returns-in-Words-clause-leads
returns-in-Words-clause-leads g c first before going =
    let now : Outside = told g.L.Link g.C.Clock c.args.link.now c.args.clock.now in
    let after : Outside = told g.L.Link g.C.Clock c.answer.new.link c.answer.new.clock in
    let done = c.answer.ensures in
    goes_answered c.args.buffers.now.decoder c.take.new.self c.args.buffers.now.session c.answer.new.session first c.args.pass c.answer.result.0 before now after
    c.take.new.self.words c.answer.result.1 going done.answer done.same (c.in-Words.ensures.words refl) (c.in-Words.ensures.command refl) done.left
    c.take.ensures.fed (omega (arith, done.other)) done.later

pub returns-in-More-clause-leads : goal.returns-in-More-clause-leads
returns-in-More-clause-leads g c first before going =
    let now : Outside = told g.L.Link g.C.Clock c.args.link.now c.args.clock.now in
    let after : Outside = told g.L.Link g.C.Clock c.read_more.new.link c.args.clock.now in
    let done = c.read_more.ensures in
    goes_read c.args.buffers.now.decoder c.take.new.self c.read_more.new.decoder c.args.buffers.now.session first c.args.pass before now after c.args.total
    going (c.in-More.ensures.more refl) c.take.ensures.fed c.requires.fed done.further done.written refl done.later (omega (arith, done.other))
    c.read_more.result done.same done.end

pub returns-in-NoMemory-clause-leads : goal.returns-in-NoMemory-clause-leads
returns-in-NoMemory-clause-leads g c first before going =
    ends_long c.args.buffers.now.decoder c.args.buffers.now.session first c.args.pass before (told g.L.Link g.C.Clock c.args.link.now c.args.clock.now) going (c.in-NoMemory.ensures.many refl)

pub returns-in-Fault-clause-leads : goal.returns-in-Fault-clause-leads
returns-in-Fault-clause-leads g c first before going =
    let now : Outside = told g.L.Link g.C.Clock c.args.link.now c.args.clock.now in
    let after : Outside = told g.L.Link g.C.Clock c.refuse.new.link c.args.clock.now in
    goes_refused c.refuse.result c.args.buffers.now.decoder c.args.buffers.now.session first c.args.pass before now after (record { at = c.in-Fault.at; kind = c.in-Fault.kind }) going
    (c.in-Fault.ensures.fault c.in-Fault.at c.in-Fault.kind refl) c.refuse.ensures.left refl c.refuse.ensures.refused
