-- What follows of a call that succeeds, and of one that fails.
use Rattle.std.proofs.Common.{Result, OnOk, OnErr}
use Rattle.std.specs.Prelude.{Ok, Err}

pub either : {X E P Q R : Type 0} (result : Result X E) → OnOk result P → OnErr result Q → (P → R) → (Q → R) → R
either (Ok x) ok err f g = f ok
either (Err e) ok err f g = g err

-- and of two facts on success
pub either-both : {X E P Q R S : Type 0} (result : Result X E) → OnOk result P → OnOk result Q → OnErr result R → (P → Q → S) → (R → S) → S
either-both (Ok x) first second err f g = f first second
either-both (Err e) first second err f g = g err
