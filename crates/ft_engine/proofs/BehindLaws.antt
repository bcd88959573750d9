-- What waits behind a read, waits.
use Rattle.std.specs.Prelude.{◌≡◌, ℕ, ℤ, List, Some, Result, Ok, Err, IfOk}
use Rattle.std.proofs.Common.{◌∙◌, ap, arith, subst}
use Rattle.ft_base.specs.Hash.{Hash}
use Rattle.ft_base.specs.Docs.{Doc}
use Rattle.ft_index.specs.Index.{Index}
use Rattle.indexed_store.specs.DefinitionsOf.{definitions_of}
use Rattle.indexed_store.specs.Holding.{Holding}
use Rattle.indexed_store.specs.Listed.{EntersDoc}
use Rattle.indexed_store.specs.Preparing.{OnlyReads, Stays, WaitsFor}
use Rattle.indexed_store.specs.Writing.{Waits}
use Rattle.ft_engine.specs.Hashes.{SetsNumber, hash_held, with_number}
use Rattle.indexed_store.proofs.MovingLaws.{moves-again, moves-kept}

-- a hash that is made of the documents, and waits behind a read, waits
pub waits-behind : (key : List ℕ) (hash : List Doc → Hash) (put : ℕ) (old mid new : Holding) → OnlyReads old mid → WaitsFor key (hash mid.space) put mid new → WaitsFor key (hash old.space) put old new
waits-behind key hash put old mid new reads waits =
    let doc : ℕ → List Doc → Doc = λ (n : ℕ) (docs : List Doc). record { id = n; key = key; hash = hash docs } in
    record {
      ready = waits.ready ∙ (ap (λ (n : ℕ). Some (doc n mid.space)) reads.next ∙ ap (λ (docs : List Doc). Some (doc old.next docs)) reads.space);
      waits = subst (λ (n : ℕ). Waits put n new.space new.indexes new.waits) reads.next waits.waits;
      enters = subst (λ (olds : List Index). EntersDoc (doc old.next old.space) olds new.indexes) reads.indexes
          (subst (λ (docs : List Doc). EntersDoc (doc old.next docs) mid.indexes new.indexes) reads.space
          (subst (λ (n : ℕ). EntersDoc (doc n mid.space) mid.indexes new.indexes) reads.next waits.enters));
    }

-- also where it is known to be another hash
pub waits-after : (key : List ℕ) (hash made : Hash) (put : ℕ) (old mid new : Holding) → OnlyReads old mid → hash ≡ made → WaitsFor key hash put mid new → WaitsFor key made put old new
waits-after key hash made put old mid new reads same waits =
    subst (λ (h : Hash). WaitsFor key h put old new) same (waits-behind key (λ docs. hash) put old mid new reads waits)

-- and where there was memory for it
pub waits-made : {E : Type 0} (key : List ℕ) (hash made : Hash) (put : Result ℕ E) (old mid new : Holding) → OnlyReads old mid → hash ≡ made → IfOk put (λ p. WaitsFor key hash p mid new) → IfOk put (λ p. WaitsFor key made p old new)
waits-made key hash made (Ok put) old mid new reads same waits = waits-after key hash made put old mid new reads same waits
waits-made key hash made (Err fault) old mid new reads same waits = tt

-- a hash that was read, with a field set to a number
pub waits-number : {E : Type 0} (key field : List ℕ) (said number : ℤ) (hash made : Hash) (put : Result ℕ E) (old mid new : Holding) → said ≡ number → OnlyReads old mid → hash ≡ hash_held old key → SetsNumber field said hash made
    → IfOk put (λ p. WaitsFor key made p mid new) → IfOk put (λ p. WaitsFor key (with_number (hash_held old key) field number) p old new)
waits-number key field said number hash made put old mid new is reads same sets waits =
    waits-made key made (with_number (hash_held old key) field number) put old mid new reads
    (sets.set ∙ (ap (λ (h : Hash). with_number h field said) same ∙ ap (λ (n : ℤ). with_number (hash_held old key) field n) is)) waits

-- what is not seen behind a read is not seen
pub stays-behind : (old mid new : Holding) → OnlyReads old mid → Stays mid new → Stays old new
stays-behind old mid new reads stays = record {
  space = stays.space ∙ reads.space;
  definitions = stays.definitions ∙ ap (λ (is : List Index). definitions_of is) reads.indexes;
  cursors = stays.cursors ∙ reads.cursors;
  latest = stays.latest ∙ reads.latest;
  next = omega (arith, stays.next, reads.next);
  moves = moves-again old.next mid.next old.indexes mid.indexes new.indexes (omega (arith, reads.next)) (moves-kept old.next old.indexes mid.indexes reads.indexes) stays.moves;
}

-- a read is not seen
pub stays-read : (old new : Holding) → OnlyReads old new → Stays old new
stays-read old new reads = record {
  space = reads.space;
  definitions = ap (λ (is : List Index). definitions_of is) reads.indexes;
  cursors = reads.cursors;
  latest = reads.latest;
  next = omega (arith, reads.next);
  moves = moves-kept old.next old.indexes new.indexes reads.indexes;
}

-- what is the same only reads
pub reads-nothing : (old new : Holding) → new ≡ old → OnlyReads old new
reads-nothing old new same = record {
  space = ap (λ (held : Holding). held.space) same;
  indexes = ap (λ (held : Holding). held.indexes) same;
  cursors = ap (λ (held : Holding). held.cursors) same;
  latest = ap (λ (held : Holding). held.latest) same;
  waits = ap (λ (held : Holding). held.waits) same;
  opens = ap (λ (held : Holding). held.opens) same;
  next = ap (λ (held : Holding). held.next) same;
}
