-- Commands that are prepared, and those for which memory ran out.
use Rattle.std.proofs.Common.{◌≡◌, ◌-◌, ◌<◌, Bor, ℕ, List, [], ◌∷◌, length, drop, refl, sym, ap, ◌∙◌, arith, subst, inl, inr}
use Rattle.std.specs.Prelude.{◌⊎◌, ◌+ℤ◌, ℤ, pos, codes, Bool, true, false, nat_lt, Option, Some, is_some}
use Rattle.std.specs.Fmt.{signed_decimal}
use Rattle.std.specs.Str.{bytes_eq}
use Rattle.std.proofs.lemmas.Bool.Decides.{nat_tests}
use Rattle.std.proofs.lemmas.Slice.Eq.{bytes_eq-Decides}
use Rattle.cmd_parse.specs.Read.{Asked, Plain}
use Rattle.cmd_parse.specs.declared.command.Verb.TheVariants.{Hset, Hsetnx, Hdel, Hincrby, Rename}
use Rattle.ft_base.specs.Hash.{Hash, get_field, set_field}
use Rattle.ft_base.specs.Memory.{out_of_memory}
use Rattle.ft_base.specs.Number.{int_of, is_i64}
use Rattle.ft_base.specs.Reply.{spelling}
use Rattle.ft_base.specs.Space.{doc_of}
use Rattle.ft_base.specs.Docs.{Doc}
use Rattle.ft_base.specs.declared.reply.Reply.{Reply}
use Rattle.ft_base.specs.declared.reply.Reply.TheVariants.{Line, Number}
use Rattle.ft_base.specs.Words.{first, second, third}
use Rattle.ft_machine.specs.Definitions.{all_tried}
use Rattle.ft_machine.specs.Machine.{Outcome, State, hash_of}
use Rattle.ft_machine.specs.Reads.{hash_in}
use Rattle.ft_machine.specs.Step.{Does, MayWant, given, outcomes}
use Rattle.ft_machine.specs.Writes.{fields_gone, hash_left, hdel, hincrby, hset_unless, number_in, put, set_pairs, without_fields}
use Rattle.ft_machine.proofs.Stepping.{gives, wants, widened}
use Rattle.indexed_store.specs.Changing.{IsOther, changed}
use Rattle.indexed_store.specs.Holding.{Holding, state_of}
use Rattle.indexed_store.specs.Listed.{Enters, Gathers}
use Rattle.ft_index.specs.Index.{Index}
use Rattle.indexed_store.specs.Preparing.{OnlyReads, Prepares, Stays, WaitsFor}
use Rattle.indexed_store.proofs.ListedLaws.{enters-waiting}
use Rattle.indexed_store.proofs.PreparingLaws.{prepares-read}
use Rattle.ft_engine.specs.Hashes.{TakesOut, hash_held}
use Rattle.ft_engine.proofs.BehindLaws.{reads-nothing, stays-behind, waits-after, waits-behind}
use Rattle.ft_engine.proofs.PlainLaws.{moved, renamed, same-words, stays-plain}
use Rattle.indexed_store.specs.Writing.{written}
use Rattle.indexed_store.specs.declared.change.Change.{Change}
use Rattle.indexed_store.specs.declared.change.Change.TheVariants.{Nothing, Move, Write}

-- a command for which memory ran out
pub prepares-wanting : (asks : Asked) (old new : Holding) (said : List ℕ) → MayWant asks → Stays old new → said ≡ spelling out_of_memory → Prepares asks old new said Nothing
prepares-wanting asks old new said may stays is = record {
  does = wants asks old.next (state_of old) said may is;
  stays = stays;
  ready = tt;
  enters = inl is;
}

-- a command that leaves everything as it was
pub prepares-same : (asks : Asked) (old new : Holding) (said : List ℕ) → new ≡ old → Does asks old.next (state_of old) said (state_of old) → Prepares asks old new said Nothing
prepares-same asks old new said same does = prepares-read asks old new said (reads-nothing old new same) does

-- the state once the document that waits is written
abbrev pub after_write : Option Doc → State → State
after_write waits state = record state { space = written waits state.space; definitions = all_tried waits state.definitions }

-- a command that lets a hash wait
pub prepares-write : (asks : Asked) (old new : Holding) (said key : List ℕ) (hash : Hash) (token : ℕ) (reply : Reply)
    → given asks old.next (state_of old) (record { reply = reply; after = put key hash old.next (state_of old) }) → WaitsFor key hash token old new → Stays old new → said ≡ spelling reply
    → Prepares asks old new said (Write token)
prepares-write asks old new said key hash token reply may waits stays is = record {
  does =
      let state : State = state_of old in
      gives asks old.next state (record { reply = reply; after = put key hash old.next state }) said (after_write new.waits state)
      may is (ap (λ (w : Option Doc). after_write w state) waits.ready);
  stays = stays;
  ready = waits.waits;
  enters = inr (inl (enters-waiting (record { id = old.next; key = key; hash = hash }) new.waits old.indexes new.indexes waits.ready waits.enters));
}

-- HSET of a key and pairs that are among the arguments
pub hset-gives : (args : List (List ℕ)) (number fresh : ℕ) (state : State) (key : List ℕ) (pairs : List (List ℕ)) → key ≡ first args → pairs ≡ drop 1 args
    → fresh ≡ length (set_pairs (hash_of state key) pairs) - length (hash_of state key)
    → given (Plain Hset args) number state (record { reply = Number (pos fresh); after = put key (set_pairs (hash_of state key) pairs) number state })
hset-gives args number fresh state key pairs k p f =
    let made : ℕ → List ℕ → List (List ℕ) → Outcome =
    λ (n : ℕ) (word : List ℕ) (words : List (List ℕ)). record { reply = Number (pos n); after = put word (set_pairs (hash_of state word) words) number state } in
    let count : List ℕ → List (List ℕ) → ℕ = λ (word : List ℕ) (words : List (List ℕ)). length (set_pairs (hash_of state word) words) - length (hash_of state word) in
    ap (λ (n : ℕ). made n key pairs) f
    ∙ (ap (λ (word : List ℕ). made (count word pairs) word pairs) k ∙ ap (λ (words : List (List ℕ)). made (count (first args) words) (first args) words) p)

-- whether the field is there, by equal words
pub there-by : (docs : List Doc) (args : List (List ℕ)) (key field : List ℕ) (said test : Bool) → key ≡ first args → field ≡ second args → said ≡ is_some (get_field (hash_in (doc_of docs key)) field) → said ≡ test
    → is_some (get_field (hash_in (doc_of docs (first args))) (second args)) ≡ test
there-by docs args key field said test k f is tested =
    sym (ap (λ (word : List ℕ). is_some (get_field (hash_in (doc_of docs word)) field)) k ∙ ap (λ (word : List ℕ). is_some (get_field (hash_in (doc_of docs (first args))) word)) f) ∙ (sym is ∙ tested)

-- HSETNX of a field that is there
pub kept-there : (args : List (List ℕ)) (number : ℕ) (state : State) (said : List ℕ) → is_some (get_field (hash_of state (first args)) (second args)) ≡ true → said ≡ spelling (Number (pos 0)) → Does (Plain Hsetnx args) number state said state
kept-there args number state said there is = stays-plain Hsetnx Hsetnx args number state said (Number (pos 0)) refl (sym (ap (λ (test : Bool). hset_unless test args number state) there)) is

-- what HSET enters HSETNX does
also-enters : (args : List (List ℕ)) (olds news : List Index) (change : Change) (waits : Option Doc) (said : List ℕ)
    → (said ≡ spelling out_of_memory) ⊎ (Enters change waits olds news ⊎ Gathers (Plain Hset args) olds news)
    → (said ≡ spelling out_of_memory) ⊎ (Enters change waits olds news ⊎ Gathers (Plain Hsetnx args) olds news)
also-enters args olds news change waits said (inl want) = inl want
also-enters args olds news change waits said (inr (inl enters)) = inr (inl enters)
also-enters args olds news change waits said (inr (inr gathers)) = absurd gathers

-- HSETNX of another field is HSET
pub sets-absent : (args : List (List ℕ)) (old new : Holding) (said : List ℕ) (change : Change) → is_some (get_field (hash_in (doc_of old.space (first args))) (second args)) ≡ false
    → Prepares (Plain Hset args) old new said change → Prepares (Plain Hsetnx args) old new said change
sets-absent args old new said change absent prepares = record {
  does = widened (outcomes (Plain Hset args) old.next (state_of old)) (outcomes (Plain Hsetnx args) old.next (state_of old)) said _ (by_case (state_of old) refl) prepares.does;
  stays = prepares.stays;
  ready = prepares.ready;
  enters = also-enters args old.indexes new.indexes change new.waits said prepares.enters;
}
  where
    by_case : (state : State) → state.space ≡ old.space → (outcome : Outcome) → outcomes (Plain Hset args) old.next state outcome → outcomes (Plain Hsetnx args) old.next state outcome
    by_case state same outcome (inl may) =
        inl (may ∙ sym (ap (λ (test : Bool). hset_unless test args old.next state) (ap (λ (docs : List Doc). is_some (get_field (hash_in (doc_of docs (first args))) (second args))) same ∙ absent)))
    by_case state same outcome (inr want) = inr want

-- a hash that has fewer fields, and has some, is written
left-some : (less : Bool) (left : Hash) (key : List ℕ) (number : ℕ) (state : State) → less ≡ true → 0 < length left → put key left number state ≡ hash_left less left key number state
left-some less [] key number state is some = absurd (omega (arith, some))
left-some false (field ∷ left) key number state is some = cc (is)
left-some true (field ∷ left) key number state is some = refl

-- HDEL of some fields, but not of all: what is left of the hash waits
pub takes-some : (key : List ℕ) (fields : List (List ℕ)) (before gone token : ℕ) (left : Hash) (old mid new : Holding) → before ≡ length (hash_held old key) → left ≡ without_fields (hash_held old key) fields
    → gone ≡ before - length left → 0 < gone → 0 < length left → OnlyReads old mid → WaitsFor key left token mid new → TakesOut key fields old new (Write token, gone)
takes-some key fields before gone token left old mid new count is fewer some more reads waits =
    let held : Hash = hash_held old key in
    let rest : Hash = without_fields held fields in
    let made : WaitsFor key rest token old new = waits-after key left rest token old mid new reads is waits in
    let size : length left ≡ length rest = ap (λ (hash : Hash). length hash) is in
    let less : length rest < length held = omega (arith, count, fewer, some, size) in
    record {
      change = λ state same.
          ap (λ (w : Option Doc). after_write w state) made.ready
          ∙ (left-some (nat_lt (length rest) (length held)) rest key old.next state (grind (arith, nat_tests, less)) (omega (arith, size, more))
          ∙ ap (λ (docs : List Doc). gone_from (hash_in (doc_of docs key)) state) (sym same));
      gone = omega (arith, count, fewer, size);
      ready = record {
        ready = made.waits;
        enters = enters-waiting (record { id = old.next; key = key; hash = rest }) new.waits old.indexes new.indexes made.ready made.enters;
      };
    }
  where
    gone_from : Hash → State → State
    gone_from hash state = hash_left (nat_lt (length (without_fields hash fields)) (length hash)) (without_fields hash fields) key old.next state

-- HDEL of a key and fields that are among the arguments
pub hdel-prepares : (args : List (List ℕ)) (old new : Holding) (said key : List ℕ) (fields : List (List ℕ)) (change : Change) (gone : ℕ) → key ≡ first args → fields ≡ drop 1 args
    → TakesOut key fields old new (change, gone) → Stays old new → said ≡ spelling (Number (pos gone)) → Prepares (Plain Hdel args) old new said change
hdel-prepares args old new said key fields change gone k f taken stays is = record {
  does =
      (let state : State = state_of old in
      gives (Plain Hdel args) old.next state (hdel args old.next state) said (changed change new.waits new.opens state) refl
      (is ∙ ap (λ (n : ℕ). spelling (Number (pos n))) (taken.gone ∙ (ap (λ (word : List ℕ). lost word fields) k ∙ ap (λ (words : List (List ℕ)). lost (first args) words) f)))
      (taken.change state refl ∙ (ap (λ (word : List ℕ). fields_gone word fields old.next state) k ∙ ap (λ (words : List (List ℕ)). fields_gone (first args) words old.next state) f)));
  stays = stays;
  ready = taken.ready.ready;
  enters = inr (inl taken.ready.enters);
}
  where
    lost : List ℕ → List (List ℕ) → ℕ
    lost word words = length (hash_held old word) - length (without_fields (hash_held old word) words)

-- HINCRBY whose sum has 64 bits
hincrby-gives : (args : List (List ℕ)) (number : ℕ) (state : State) (key field : List ℕ) (old by sum : ℤ) → key ≡ first args → field ≡ second args → number_in (get_field (hash_of state (first args)) (second args)) ≡ Some old
    → int_of (third args) ≡ Some by → is_i64 (old +ℤ by) ≡ true → sum ≡ old +ℤ by
    → given (Plain Hincrby args) number state (record { reply = Number sum; after = put key (set_field (hash_of state key) field (signed_decimal sum)) number state })
hincrby-gives args number state key field old by sum k f is more fits same =
    let made : ℤ → List ℕ → List ℕ → Outcome =
    λ (n : ℤ) (word name : List ℕ). record { reply = Number n; after = put word (set_field (hash_of state word) name (signed_decimal n)) number state } in
    ap (λ (n : ℤ). made n key field) same
    ∙ (ap (λ (word : List ℕ). made (old +ℤ by) word field) k
    ∙ (ap (λ (name : List ℕ). made (old +ℤ by) (first args) name) f
    ∙ sym (ap (λ (o : Option ℤ). hincrby o (int_of (third args)) args number state) is ∙ (ap (λ (o : Option ℤ). hincrby (Some old) o args number state) more ∙ summed))))
  where
    summed : hincrby (Some old) (Some by) args number state ≡ record { reply = Number (old +ℤ by); after = put (first args) (set_field (hash_of state (first args)) (second args) (signed_decimal (old +ℤ by))) number state }
    summed = rw fits refl

-- HINCRBY whose sum has 64 bits, behind a read
pub hincrby-prepares : (args : List (List ℕ)) (old mid new : Holding) (said key field : List ℕ) (first_value by sum : ℤ) (token : ℕ) → key ≡ first args → field ≡ second args
    → number_in (get_field (hash_in (doc_of old.space (first args))) (second args)) ≡ Some first_value → int_of (third args) ≡ Some by → (is_i64 (first_value +ℤ by) ≡ true) × (sum ≡ first_value +ℤ by)
    → OnlyReads old mid → WaitsFor key (set_field (hash_in (doc_of mid.space key)) field (signed_decimal sum)) token mid new → Stays mid new → said ≡ spelling (Number sum)
    → Prepares (Plain Hincrby args) old new said (Write token)
hincrby-prepares args old mid new said key field first_value by sum token k f is more total reads waits stays told =
    prepares-write (Plain Hincrby args) old new said key (set_field (hash_in (doc_of old.space key)) field (signed_decimal sum)) token (Number sum)
    (hincrby-gives args old.next (state_of old) key field first_value by sum k f is more total.0 total.1)
    (waits-behind key (λ (docs : List Doc). set_field (hash_in (doc_of docs key)) field (signed_decimal sum)) token old mid new reads waits) (stays-behind old mid new reads stays) told

-- a hash that waits is under another key than this one
pub is-other : (waits : Option Doc) (doc : Doc) (from : List ℕ) → waits ≡ Some doc → bytes_eq from doc.key ≡ false → IsOther from waits
is-other waits doc from is apart = subst (λ (w : Option Doc). IsOther from w) (sym is) (λ same. cc ((bytes_eq-Decides from doc.key).1 same, apart))

-- RENAME onto another key, for which a copy waits
pub rename-prepares : (args : List (List ℕ)) (old new : Holding) (said : List ℕ) (from : Bor (List ℕ)) (to : List ℕ) (token : ℕ) (test : Bool) → from.now ≡ first args → to ≡ second args
    → is_some (doc_of old.space from.now) ≡ true → test ≡ bytes_eq from.now to → test ≡ false → WaitsFor to (hash_in (doc_of old.space from.now)) token old new → Stays old new → said ≡ spelling (Line (codes "OK"))
    → Prepares (Plain Rename args) old new said (Move token from)
rename-prepares args old new said from to token test f t there is apart waits stays ok = record {
  does =
      (let state : State = state_of old in
      renamed args old.next state _ said (ap (λ (word : List ℕ). is_some (doc_of old.space word)) (sym f) ∙ there)
      (same-words from.now to (first args) (second args) test false f t is apart) ok
      (moved new.waits state from.now to (first args) (second args) old.next f t waits.ready));
  stays = stays;
  ready = (waits.waits, is-other new.waits (record { id = old.next; key = to; hash = hash_in (doc_of old.space from.now) }) from.now waits.ready (sym is ∙ apart));
  enters = inr (inl (enters-waiting (record { id = old.next; key = to; hash = hash_in (doc_of old.space from.now) }) new.waits old.indexes new.indexes waits.ready waits.enters));
}
