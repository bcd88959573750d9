-- A link that holds back what is written, and what it does to the link below when it hands that on.
use Rattle.std.specs.Prelude.{◌≡◌, ◌⊎◌, ℕ, ◌≤◌, List, [], ◌++◌}
use Rattle.std.specs.declared.option.Option.{Option}
use Rattle.std.specs.Io.KnownBytes.{Appends, Keeps, append_known}
use Rattle.fs_ports.specs.Causes.{Rose}
use Rattle.fs_ports.specs.declared.link.Link as Link

-- what such a link is made of
pub record Held (L : Type 0) : Type 0 where
  -- the link below
  pub below : L
  -- what was written and not handed on to the link below
  pub held : List ℕ
  -- how many of its own reads and writes failed
  pub reads : ℕ
  pub writes : ℕ

-- one that has just been made
abbrev pub fresh : {L : Type 0} → L → Held L
fresh below = record { below = below; held = []; reads = 0; writes = 0 }

module _ {L : Type 0} (port : Link.Ghosts L) where
  -- the bytes written, where they are told: those of the link below, and behind them what is held
  abbrev pub written_and_held : Held L → Option (List ℕ)
  written_and_held link = append_known (port.written link.below) link.held

  -- A front of what was held was written to the link below, and the rest is still held.
  pub record HandsOn (before after : L) (held rest : List ℕ) : Type 0 where
    pub front : List ℕ
    pub whole : held ≡ front ++ rest
    pub bytes : Appends (port.written before) (port.written after) front
    pub left : Keeps (port.left before) (port.left after)
    pub later : port.write_faults before ≤ port.write_faults after
    pub other : port.read_faults after ≡ port.read_faults before

  -- The link below may be read once what is held was handed on as far as it was taken.
  abbrev pub IsReadableBelow : Held L → Type 0
  IsReadableBelow link = (after : L) (rest : List ℕ) → HandsOn link.below after link.held rest → port.readable after

  -- A call of the link below failed.
  abbrev pub FailedBelow : L → L → Type 0
  FailedBelow before after = Rose (port.write_faults before) (port.write_faults after) ⊎ Rose (port.read_faults before) (port.read_faults after)

  -- What is left at the end of such a link: the link below, behind all that was held, or behind a front of it and a
  -- write that failed.
  pub record ComesApart (link : Held L) (last : L) : Type 0 where
    pub rest : List ℕ
    pub hands : HandsOn link.below last link.held rest
    pub whole : (rest ≡ []) ⊎ Rose (port.write_faults link.below) (port.write_faults last)
