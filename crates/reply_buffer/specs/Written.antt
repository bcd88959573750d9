-- What a contract sees of a reply that is written.
use Rattle.std.specs.Prelude.{◌≡◌, ◌≤◌, ◌⊎◌, ℕ, List, Bool, Option, Result, Ok, Err, IfOk, IsTrue, [], is_some, vec_capacity}
use Rattle.std.specs.declared.alloc.Global.{Global}
use Rattle.std.specs.declared.vec.Vec.{Vec}
use Rattle.ft_base.specs.Memory.{out_of_memory}
use Rattle.ft_base.specs.Reply.{fits_wire, spelling}
use Rattle.ft_base.specs.Docs.{Doc}
use Rattle.ft_base.specs.declared.reply.Reply.{Reply}
use Rattle.ft_base.specs.declared.reply.Reply.TheVariants.{Bulk, Line}
use Rattle.ft_machine.specs.Reads.{kind_of}
use Rattle.reply_buffer.specs.declared.short_reply.TheConstants.{SHORT_REPLY}

pub record Written : Type 0 where
  -- the bytes of the reply that was written last
  pub bytes : List ℕ
  -- how many bytes there is room for
  pub room : ℕ

-- what is written in bytes
abbrev pub written_in : Vec ℕ Global → Written
written_in out = record { bytes = out.items; room = vec_capacity out }

-- there is room for a short reply
abbrev pub HasRoom : Vec ℕ Global → Type 0
HasRoom out = SHORT_REPLY ≤ vec_capacity out

-- nothing is written yet, and there is room for a short reply
pub record IsCleared (out : Vec ℕ Global) : Type 0 where
  pub empty : out.items ≡ []
  pub room : HasRoom out

-- what was made, where it was made, can be written
abbrev pub CanBeWritten : {E : Type 0} → Result Reply E → Type 0
CanBeWritten made = IfOk made (λ reply. IsTrue (fits_wire reply))

-- what was made is written
abbrev pub IsWritten : {E : Type 0} → Result Reply E → List ℕ → Type 0
IsWritten (Ok reply) written = written ≡ spelling reply
IsWritten (Err e) written = ⊥

-- the type of a key's value is written, where it is told whether the key has a hash
abbrev pub TellsKind : Bool → List ℕ → Type 0
TellsKind there written = (doc : Option Doc) → there ≡ is_some doc → written ≡ spelling (Line (kind_of doc))

-- a message is written as it is, or that memory ran out
abbrev pub IsEchoed : List ℕ → List ℕ → Type 0
IsEchoed message written = (written ≡ spelling (Bulk message)) ⊎ (written ≡ spelling out_of_memory)
