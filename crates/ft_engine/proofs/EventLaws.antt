-- What an event leaves that is no command: a scan changes nothing, and a splice the lists of one index.
use Rattle.std.specs.Prelude.{◌≡◌, ◌≤◌, ℕ, List, Bool, Option, false}
use Rattle.std.proofs.Common.{ap, arith, sym, ◌∙◌}
use Rattle.ft_index.specs.Index.{Index}
use Rattle.ft_machine.specs.Definitions.{Defined}
use Rattle.ft_machine.specs.Step.{last_number, next_number}
use Rattle.indexed_store.specs.DefinitionsOf.{definitions_of}
use Rattle.indexed_store.specs.Holding.{Holding}
use Rattle.ft_engine.specs.Stands.{Stands, stands_of}
use Rattle.ft_engine.specs.declared.last_splice.LastSplice.{LastSplice}
use Rattle.ft_engine.specs.Stepping.{counted}

-- an event that changed nothing has ended
pub counted-still : (held : Holding) (next : ℕ) (pending : Bool) (last : Option LastSplice) (old : Stands) → pending ≡ false → stands_of held next pending last ≡ old → stands_of held (next_number next) false last ≡ counted old
counted-still held next pending last old free same = ap (λ (waits : Bool). stands_of held (next_number next) waits last) (sym free) ∙ ap counted same

-- one that changed lists
pub counted-lists : (held new : Holding) (lists : List Index) (next number : ℕ) (pending : Bool) (last : Option LastSplice) (old : Stands) → pending ≡ false → stands_of held next pending last ≡ old
    → new ≡ record held { indexes = lists; next = number } → definitions_of lists ≡ definitions_of held.indexes → stands_of new (next_number next) false last ≡ record (counted old) { indexes = lists }
counted-lists held new lists next number pending last old free view same definitions =
    ap (λ (h : Holding). stands_of h (next_number next) false last) same
    ∙ (ap (λ (ds : List Defined). record {
      state = record { space = held.space; definitions = ds; cursors = held.cursors; latest = held.latest };
      next = next_number next;
      indexes = lists;
      waits = held.waits;
      opens = held.opens;
      pending = false;
      reads = held.reads;
      last = last;
    }) definitions
    ∙ (ap (λ (waits : Bool). record (counted (stands_of held next waits last)) { indexes = lists }) (sym free) ∙ ap (λ (e : Stands). record (counted e) { indexes = lists }) view))

-- at the last number there is none
pub counted-last : (engine : Stands) → last_number ≤ engine.next → engine.next ≤ last_number → engine ≡ counted engine
counted-last engine late number = ap (λ (n : ℕ). record engine { next = n }) (next-same engine.next late number)
  where
    next-same : (n : ℕ) → last_number ≤ n → n ≤ last_number → n ≡ next_number n
    next-same n late number = omega (arith, late, number)

-- so also where only the lists could have changed, and did not
pub last-still : (old new : Stands) → old.next ≤ last_number → new ≡ record (counted old) { indexes = new.indexes } → new.indexes ≡ old.indexes → last_number ≤ old.next → new ≡ old
last-still old new most still same late = still ∙ (ap (λ (xs : List Index). record (counted old) { indexes = xs }) same ∙ sym (counted-last old late most))
