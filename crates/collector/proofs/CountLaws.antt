-- The counts of splices with one more, and that they have room.
use Rattle.std.proofs.Common.{◌≡◌, ◌≢◌, ◌<◌, ◌≤◌, ℕ, ◌+◌, ◌^◌, min, Bool, cond, List, [], ◌∷◌, ◌++◌, length, Option, Some, None, refl, arith}
use Rattle.std.specs.Prelude.{count_by, sum_by}
use Rattle.std.specs.List.{AllByRecursion}
use Rattle.std.proofs.lemmas.List.Sums.{count_by-le-length, sum_by_push}
use Rattle.fs_ports.specs.Paces.{AskedOnce}
use Rattle.gc_splice.specs.declared.splice.Spliced.{Spliced}
use Rattle.gc_splice.specs.declared.splice.Spliced.TheVariants.{Done, Gone, LastEvent, Moved}
use Rattle.id_iters.specs.declared.list_name.ListName.{ListName}
use Rattle.collector.specs.Cycles.{AskedTimes, NoneLast, Tried, is_done, is_gone, is_moved, removed_by}
use Rattle.collector.specs.Ways.{AreCounts, HasRoom, counted}
use Rattle.collector.specs.declared.counts.Counts.{Counts}

-- a count with one more
count-more : (test : Spliced → Bool) (tried : List Tried) (name : ListName) (answer : Spliced)
    → count_by (λ (t : Tried). test t.answer) (tried ++ record { name = name; answer = answer } ∷ []) ≡ count_by (λ (t : Tried). test t.answer) tried + cond (test answer) 1 0
count-more test tried name answer = sum_by_push (λ (t : Tried). cond (test t.answer) 1 0) tried (record { name = name; answer = answer })

removed-more : (tried : List Tried) (name : ListName) (answer : Spliced)
    → sum_by (λ (t : Tried). removed_by t.answer) (tried ++ record { name = name; answer = answer } ∷ []) ≡ sum_by (λ (t : Tried). removed_by t.answer) tried + removed_by answer
removed-more tried name answer = sum_by_push (λ (t : Tried). removed_by t.answer) tried (record { name = name; answer = answer })

one-more : (count before after : ℕ) → count ≡ before → after ≡ before + 1 → count + 1 ≡ after
one-more count before after is grows = omega (arith, is, grows)

no-more : (count before after : ℕ) → count ≡ before → after ≡ before + 0 → count ≡ after
no-more count before after is grows = omega (arith, is, grows)

-- a sum that stays at a top
sum-more : (top before sum more after : ℕ) → before ≡ min sum top → after ≡ sum + more → min (before + more) top ≡ min after top
sum-more top before sum more after is grows = omega (arith, is, grows)

sum-same : (top before sum after : ℕ) → before ≡ min sum top → after ≡ sum + 0 → before ≡ min after top
sum-same top before sum after is grows = omega (arith, is, grows)

-- the counts with one splice more
pub counts-more : (counts : Counts) (tried : List Tried) (name : ListName) (answer : Spliced) → AreCounts tried counts → AreCounts (tried ++ record { name = name; answer = answer } ∷ []) (counted counts answer)
counts-more counts tried name (Done removed tail_kept) are = record {
  spliced = one-more _ _ _ are.spliced (count-more is_done tried name (Done removed tail_kept));
  moved = no-more _ _ _ are.moved (count-more is_moved tried name (Done removed tail_kept));
  gone = no-more _ _ _ are.gone (count-more is_gone tried name (Done removed tail_kept));
  removed = sum-more _ _ _ _ _ are.removed (removed-more tried name (Done removed tail_kept));
}
counts-more counts tried name (Moved seen now) are = record {
  spliced = no-more _ _ _ are.spliced (count-more is_done tried name (Moved seen now));
  moved = one-more _ _ _ are.moved (count-more is_moved tried name (Moved seen now));
  gone = no-more _ _ _ are.gone (count-more is_gone tried name (Moved seen now));
  removed = sum-same _ _ _ _ are.removed (removed-more tried name (Moved seen now));
}
counts-more counts tried name Gone are = record {
  spliced = no-more _ _ _ are.spliced (count-more is_done tried name Gone);
  moved = no-more _ _ _ are.moved (count-more is_moved tried name Gone);
  gone = one-more _ _ _ are.gone (count-more is_gone tried name Gone);
  removed = sum-same _ _ _ _ are.removed (removed-more tried name Gone);
}
counts-more counts tried name LastEvent are = record {
  spliced = no-more _ _ _ are.spliced (count-more is_done tried name LastEvent);
  moved = no-more _ _ _ are.moved (count-more is_moved tried name LastEvent);
  gone = no-more _ _ _ are.gone (count-more is_gone tried name LastEvent);
  removed = sum-same _ _ _ _ are.removed (removed-more tried name LastEvent);
}

-- counts of few splices have room
pub room-for : (tried : List Tried) (counts : Counts) (number : ℕ) → AreCounts tried counts → length tried ≤ number → number + 1 < 2 ^ 64 → HasRoom counts
room-for tried counts number are few low = (
  omega (arith, are.spliced, count_by-le-length (λ (t : Tried). is_done t.answer) tried, few, low),
  omega (arith, are.moved, count_by-le-length (λ (t : Tried). is_moved t.answer) tried, few, low),
  omega (arith, are.gone, count_by-le-length (λ (t : Tried). is_gone t.answer) tried, few, low),
)

-- none of them found the last event, with one more
pub none-more : (tried : List Tried) (one : Tried) → NoneLast tried → one.answer ≢ LastEvent → NoneLast (tried ++ one ∷ [])
none-more [] one none other = (other, tt)
none-more (first ∷ tried) one none other = (none.0, none-more tried one none.1 other)

-- a pace that was not asked, and one that was asked once more
pub asked-none : (asked : Option ℕ) → AskedTimes asked asked 0
asked-none None = tt
asked-none (Some count) = omega arith

pub asked-more : (first mid last : Option ℕ) (times : ℕ) → AskedTimes first mid times → AskedOnce mid last → AskedTimes first last (times + 1)
asked-more None None None times asked once = tt
asked-more None None (Some after) times asked once = absurd once
asked-more None (Some between) last times asked once = absurd asked
asked-more (Some before) None None times asked once = tt
asked-more (Some before) None (Some after) times asked once = absurd once
asked-more (Some before) (Some between) None times asked once = tt
asked-more (Some before) (Some between) (Some after) times asked once = omega (arith, asked, once)
