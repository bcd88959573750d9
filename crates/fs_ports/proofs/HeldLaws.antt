-- What is held is handed on piece by piece, and reads between leave it alone.
use Rattle.std.proofs.Common.{ℕ, ◌≡◌, ◌≤◌, ◌∙◌, Result, Ok, Err, None, Some, List, ◌++◌, length, take, append_assoc, sym, ap, subst, arith}
use Rattle.std.proofs.KnownBytes.{Appends-kept, Appends-trans, Keeps-trans}
use Rattle.std.specs.declared.option.Option.{Option}
use Rattle.std.specs.Io.{WritesAtMost}
use Rattle.std.specs.Io.KnownBytes.{Appends, Keeps, WriteAppends}
use Rattle.fs_ports.specs.Causes.{TriesRead, TriesWrite, some_count}
use Rattle.fs_ports.specs.Held.{HandsOn}
use Rattle.fs_ports.specs.declared.link.Link as Link

appended : (a b c : Option (List ℕ)) (bs : List ℕ) → Keeps a b → Appends b c bs → Appends a c bs
appended None b c bs k p = tt
appended (Some x) None c bs k p = absurd k
appended (Some x) (Some y) None bs k p = absurd p
appended (Some x) (Some y) (Some z) bs k p = p ∙ ap (λ l. l ++ bs) k

module _ {E : Type 0} where
  -- a write that was tried and took so many bytes
  pub took-few : (r : Result (Option ℕ) E) (n : ℕ) (piece : List ℕ) → r ≡ Ok (Some n) → WritesAtMost (some_count r) piece → n ≤ length piece
  took-few r n piece e h = subst (λ (q : Result (Option ℕ) E). WritesAtMost (some_count q) piece) e h

  pub took : (r : Result (Option ℕ) E) (n : ℕ) (a b : Option (List ℕ)) (piece : List ℕ) → r ≡ Ok (Some n) → TriesWrite a b r piece → Appends a b (take n piece)
  took r n a b piece e h = subst (λ (q : Result (Option ℕ) E). TriesWrite a b q piece) e h

  -- one that took none, and a read that gave none
  pub took-none : (r : Result (Option ℕ) E) (a b : Option (List ℕ)) (piece : List ℕ) → r ≡ Ok None → TriesWrite a b r piece → Keeps a b
  took-none r a b piece e h = subst (λ (q : Result (Option ℕ) E). TriesWrite a b q piece) e h

  pub gave-none : (r : Result (Option ℕ) E) (a b : Option (List ℕ)) (buf : List ℕ) → r ≡ Ok None → TriesRead a b r buf → Keeps a b
  gave-none r a b buf e h = subst (λ (q : Result (Option ℕ) E). TriesRead a b q buf) e h

  -- what a write did behind what left the bytes alone
  pub written-behind : (a b c : Option (List ℕ)) (r : Result ℕ E) (piece : List ℕ) → Keeps a b → WriteAppends b c r piece → WriteAppends a c r piece
  written-behind a b c (Ok n) piece k w = appended a b c (take n piece) k w
  written-behind a b c (Err e) piece k w = Keeps-trans a b c k w

module _ {L : Type 0} (port : Link.Ghosts L) where
  pub hands-again : (a b c : L) (held kept rest : List ℕ) → HandsOn port a b held kept → HandsOn port b c kept rest → HandsOn port a c held rest
  hands-again a b c held kept rest p q = record {
    front = p.front ++ q.front;
    whole = p.whole ∙ ap (λ x. p.front ++ x) q.whole ∙ sym (append_assoc p.front q.front rest);
    bytes = Appends-trans _ _ _ _ _ p.bytes q.bytes;
    left = Keeps-trans _ _ _ p.left q.left;
    later = omega (arith, p.later, q.later);
    other = q.other ∙ p.other;
  }

  -- a read that gave nothing
  pub hands-still : (a b c : L) (held rest : List ℕ) → HandsOn port a b held rest → Keeps (port.left b) (port.left c) → Keeps (port.written b) (port.written c)
      → port.write_faults c ≡ port.write_faults b → port.read_faults c ≡ port.read_faults b → HandsOn port a c held rest
  hands-still a b c held rest p left written writes reads = record {
    front = p.front;
    whole = p.whole;
    bytes = Appends-kept _ _ _ _ p.bytes written;
    left = Keeps-trans _ _ _ p.left left;
    later = omega (arith, p.later, writes);
    other = reads ∙ p.other;
  }
