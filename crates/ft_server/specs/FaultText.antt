-- What a client is told of a fault of the wire, before its connection ends: a refusal as Redis words it.
use Rattle.std.specs.Prelude.{ℕ, List, ◌∷◌, ◌++◌, codes, nat_le, ◌&&◌, if◌then◌else◌}
use Rattle.ft_base.specs.Reply.{line}
use Rattle.resp_wire.specs.declared.fault.WireFault.{WireFault}
use Rattle.resp_wire.specs.declared.fault.WireFault.TheVariants.{MultiLength, BulkLength, NoDollar}

-- a byte that is no printable one of ASCII is shown as a question mark
abbrev pub shown : ℕ → ℕ
shown byte = if nat_le 32 byte && nat_le byte 126 then byte else 63

abbrev pub fault_line : WireFault → List ℕ
fault_line MultiLength = codes "ERR Protocol error: invalid multibulk length"
fault_line BulkLength = codes "ERR Protocol error: invalid bulk length"
fault_line (NoDollar got) = codes "ERR Protocol error: expected '$', got '" ++ (shown got ∷ codes "'")

-- a line of type `-`
abbrev pub fault_text : WireFault → List ℕ
fault_text kind = line 45 (fault_line kind)
