use Rattle.std.proofs.Common.{arith, refl}
use Rattle.resp_wire.specs.Decoding.{fed}
use Rattle.resp_wire.specs.Stream.{stream_of}
use Rattle.ft_server.proofs.PlayingLaws.{no_fault, playing_begins, playing_ends, playing_errors, playing_few, playing_more}
use Rattle.ft_server.proofs.load.play.Goals as goal

pub playing-init : goal.playing-init
playing-init g c = record {
  of = c.requires.of;
  room = c.requires.room;
  playing = playing_begins c.args.decoder.now.left c.args.pass c.new-tally.result c.requires.waits c.new-tally.ensures;
}

pub playing-preserved : goal.playing-preserved
playing-preserved g c =
    let done = c.play_one-later.ensures in
    record {
      of = done.of;
      room = done.room;
      playing = playing_more (stream_of c.args.decoder.now.left).commands c.playing.decoder.left c.take.new.self.left c.args.pass c.playing.pass c.play_one-later.result.0
          c.playing.tally c.play_one-later.result.1 c.take.new.self.words c.play_one-later.new.reply.items c.playing.invariant.playing
          (c.in-Words.ensures.words refl) (c.in-Words.ensures.command refl) done.same done.entry done.tally;
    }

pub play_one-later-requires-clause-few : goal.play_one-later-requires-clause-few
play_one-later-requires-clause-few g c =
    omega (arith, c.requires.few, playing_few _ c.playing.decoder.left c.args.pass c.playing.pass c.playing.tally c.playing.invariant.playing)

pub play_one-later-requires-clause-errors : goal.play_one-later-requires-clause-errors
play_one-later-requires-clause-errors g c = playing_errors _ c.playing.decoder.left c.args.pass c.playing.pass c.playing.tally c.playing.invariant.playing

pub play_one-later-requires-clause-bytes : goal.play_one-later-requires-clause-bytes
play_one-later-requires-clause-bytes g c = c.playing.invariant.playing.counts.few

pub returns-in-More-clause-played : goal.returns-in-More-clause-played
returns-in-More-clause-played g c =
    playing_ends _ c.playing.decoder.left c.take.new.self.left c.args.pass c.playing.pass c.playing.tally c.playing.invariant.playing (c.in-More.ensures.more refl)

pub returns-in-Fault-clause-played : goal.returns-in-Fault-clause-played
returns-in-Fault-clause-played g c =
    let at = c.in-Fault.at in
    let kind = c.in-Fault.kind in
    absurd (no_fault (fed c.playing.decoder) (record { at = at; kind = kind }) (stream_of c.playing.decoder.left).stop c.playing.invariant.playing.waits (c.in-Fault.ensures.fault at kind refl).faulty)
