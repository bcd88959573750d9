-- The status of the process at each way to end.
use Rattle.std.specs.Prelude.{ℕ}
use Rattle.ft_server.specs.declared.exit.Exit.{Exit}
use Rattle.ft_server.specs.declared.exit.Exit.TheVariants.{Done, CutShort, Protocol, Usage, ReadFault, WriteFault, ByteLimit, NoMemory, DoorFault, NoThread}

abbrev pub status_of : Exit → ℕ
status_of Done = 0
status_of CutShort = 1
status_of Protocol = 1
status_of Usage = 2
status_of ReadFault = 3
status_of WriteFault = 4
status_of ByteLimit = 5
status_of NoMemory = 6
status_of DoorFault = 7
status_of NoThread = 8
