-- What one more read of the link gives, and why there may be none.
use Rattle.std.specs.Prelude.{◌≡◌, ◌<◌, ◌≤◌, ◌^◌, ◌++◌, ℕ, List, length}
use Rattle.std.specs.declared.option.Option.{Option}
use Rattle.std.specs.Io.KnownBytes.{Consumes, IsAtEnd}
use Rattle.fs_ports.specs.Causes.{Rose}
use Rattle.resp_wire.specs.Decoding.{Decoding}
use Rattle.ft_server.specs.declared.connection.End.{End}
use Rattle.ft_server.specs.declared.connection.End.TheVariants as end

-- What was read was fed to the decoder.
pub record Further (held later : Decoding) (left left' : Option (List ℕ)) : Type 0 where
  pub piece : List ℕ
  pub taken : later.taken ≡ held.taken
  pub longer : later.left ≡ held.left ++ piece
  pub read : Consumes left left' piece

-- The connection ends so, after so many bytes of which these are left: the link is at its end or failed, or no more may be read.
abbrev pub NoMore : End → ℕ → List ℕ → Option (List ℕ) → ℕ → ℕ → Type 0
NoMore end.Closed total held left faults faults' = (total < 2 ^ 40) × (length held ≡ 0) × IsAtEnd left
NoMore (end.CutShort n) total held left faults faults' = (total < 2 ^ 40) × (0 < n) × (length held ≡ n) × IsAtEnd left
NoMore end.ReadFault total held left faults faults' = (total < 2 ^ 40) × Rose faults faults'
NoMore end.ByteLimit total held left faults faults' = total ≡ 2 ^ 40
NoMore end.NoMemory total held left faults faults' = (total < 2 ^ 40) × (65536 ≤ length held)
NoMore _ total held left faults faults' = ⊥

-- The connection ends so where the link is at its end and so many bytes are left.
abbrev pub AtEnd : End → ℕ → Type 0
AtEnd end.Closed left = left ≡ 0
AtEnd (end.CutShort n) left = (0 < n) × (left ≡ n)
AtEnd _ left = ⊥
