-- A door over another one, whose links hold back what is written.
use Rattle.std.specs.Prelude.{◌≡◌, Some, None, Ok, Err}
use Rattle.std.specs.declared.option.Option.{Option}
use Rattle.std.specs.declared.result.Result.{Result}
use Rattle.fs_ports.specs.Doors.{AtDoor, Accepts, handed_back}
use Rattle.fs_ports.specs.Held.{Held, ComesApart, fresh}
use Rattle.fs_ports.specs.declared.link.Link as Link

-- what it tells: what the door below tells, without the links
abbrev pub without_links : {L K : Type 0} → AtDoor L → AtDoor K
without_links door =
    record { faults = door.faults; out = door.out; ended = door.ended; coming = None; back = None }

-- An accept gives the next link of the door below, under one that is fresh.
abbrev pub AcceptsBelow : {L E : Type 0} → AtDoor L → AtDoor L → Result (Option (Held L)) E → Type 0
AcceptsBelow before after (Ok (Some link)) = (link ≡ fresh link.below) × Accepts {E = Unit {0}} before after (Ok (Some link.below))
AcceptsBelow before after (Ok None) = Accepts {E = Unit {0}} before after (Ok None)
AcceptsBelow before after (Err e) = Accepts before after (Err e)

-- The link below goes back to the door below, as it is left at the end of the link above.
abbrev pub GoesBack : {L : Type 0} → Link.Ghosts L → AtDoor L → AtDoor L → Held L → Type 0
GoesBack {L} port before after link = (last : L) × ComesApart port link last × (after ≡ handed_back before last)
