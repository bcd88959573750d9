-- Steps of plain commands.
use Rattle.std.proofs.Common.{◌≡◌, ℕ, List, refl, subst, sym, ap, ◌∙◌, inl, inr, w64, FitsSigned, to_z, of_z, cond}
use Rattle.std.specs.Prelude.{◌+ℤ◌, ℤ, pos, codes, is_some, Bool, true, false, Option, Some, None}
use Rattle.std.specs.Str.{bytes_eq}
use Rattle.std.specs.Fmt.{signed_decimal}
use Rattle.std.specs.Str.Parse.{signed_digits_value}
use Rattle.std.proofs.lemmas.Bool.{and_parts, cases_Bool}
use Rattle.std.proofs.lemmas.Int.{to_z-of_z}
use Rattle.ft_base.specs.Hash.{Hash, get_field}
use Rattle.ft_base.specs.Number.{int_of, is_i64, is_spelling}
use Rattle.ft_base.specs.Space.{doc_of, erase}
use Rattle.ft_base.proofs.Ints.{fits_from_test, test_from_fits}
use Rattle.ft_base.specs.Words.{first, second, third}
use Rattle.cmd_parse.specs.Read.{Plain}
use Rattle.cmd_parse.specs.declared.command.Verb.{Verb}
use Rattle.cmd_parse.specs.declared.command.Verb.TheVariants.{Hincrby, Rename}
use Rattle.ft_base.specs.Reply.{spelling}
use Rattle.ft_base.specs.Docs.{Doc}
use Rattle.ft_base.specs.declared.reply.Reply.{Reply}
use Rattle.ft_base.specs.declared.reply.Reply.TheVariants.{Fault, Line}
use Rattle.ft_machine.specs.Reads.{hash_in}
use Rattle.ft_machine.specs.Machine.{State, answered, hash_of}
use Rattle.ft_machine.specs.Definitions.{all_tried}
use Rattle.indexed_store.specs.Writing.{written}
use Rattle.ft_machine.specs.PlainCommands.{plain}
use Rattle.ft_machine.specs.Step.{Does}
use Rattle.ft_machine.specs.Writes.{hincrby, number_in, put, rename}
use Rattle.ft_machine.proofs.Stepping.{gives}

-- a step of a verb that is this one
pub of_verb : (verb known : Verb) (args : List (List ℕ)) (number : ℕ) (old new : State) (written : List ℕ) → verb ≡ known → Does (Plain known args) number old written new → Does (Plain verb args) number old written new
of_verb verb known args number old new written is does = subst (λ (v : Verb). Does (Plain v args) number old written new) (sym is) does

-- a command of this verb that changes nothing
pub stays-plain : (verb known : Verb) (args : List (List ℕ)) (number : ℕ) (state : State) (written : List ℕ) (reply : Reply) → verb ≡ known → plain known args number state (answered reply state) → written ≡ spelling reply
    → Does (Plain verb args) number state written state
stays-plain verb known args number state written reply is may said =
    of_verb verb known args number state state written is (gives (Plain known args) number state (answered reply state) written state may said refl)

-- a key's field, by equal names
pub same-field : (docs : List Doc) (key key' field field' : List ℕ) → key ≡ key' → field ≡ field' → number_in (get_field (hash_in (doc_of docs key)) field) ≡ number_in (get_field (hash_in (doc_of docs key')) field')
same-field docs key key' field field' k f =
    ap (λ (word : List ℕ). number_in (get_field (hash_in (doc_of docs word)) field)) k ∙ ap (λ (word : List ℕ). number_in (get_field (hash_in (doc_of docs key')) word)) f

-- HINCRBY of a value that is no number
pub not-number : (args : List (List ℕ)) (number : ℕ) (state : State) (written : List ℕ) (by : ℤ) → number_in (get_field (hash_of state (first args)) (second args)) ≡ None → int_of (third args) ≡ Some by → written ≡ spelling (Fault (codes "ERR hash value is not an integer"))
    → Does (Plain Hincrby args) number state written state
not-number args number state written by none more said =
    stays-plain Hincrby Hincrby args number state written (Fault (codes "ERR hash value is not an integer")) refl
    (sym (ap (λ (old : Option ℤ). hincrby old (int_of (third args)) args number state) none ∙ ap (λ (o : Option ℤ). hincrby None o args number state) more)) said

overflow : (old by : ℤ) (args : List (List ℕ)) (number : ℕ) (state : State) → is_i64 (old +ℤ by) ≡ false → hincrby (Some old) (Some by) args number state ≡ answered (Fault (codes "ERR increment or decrement would overflow")) state
overflow old by args number state over = rw over refl

-- HINCRBY whose sum has more than 64 bits
pub overflows : (args : List (List ℕ)) (number : ℕ) (state : State) (written : List ℕ) (old by : ℤ) → number_in (get_field (hash_of state (first args)) (second args)) ≡ Some old → int_of (third args) ≡ Some by → is_i64 (old +ℤ by) ≡ false
    → written ≡ spelling (Fault (codes "ERR increment or decrement would overflow")) → Does (Plain Hincrby args) number state written state
overflows args number state written old by is more over said =
    stays-plain Hincrby Hincrby args number state written (Fault (codes "ERR increment or decrement would overflow")) refl
    (sym (ap (λ (o : Option ℤ). hincrby o (int_of (third args)) args number state) is ∙ (ap (λ (o : Option ℤ). hincrby (Some old) o args number state) more ∙ overflow old by args number state over))) said

-- a number that a text spells has 64 bits
spelled-fits : (text : List ℕ) (n : ℤ) → int_of text ≡ Some n → is_i64 n ≡ true
unfolding int_of
spelled-fits text n is = by_test (is_spelling text (signed_digits_value 10 text)) refl is
  where
    by_test : (test : Bool) → is_spelling text (signed_digits_value 10 text) ≡ test → cond test (Some (signed_digits_value 10 text)) None ≡ Some n → is_i64 n ≡ true
    by_test true spells is =
        let same : signed_digits_value 10 text ≡ n = cc (is) in
        subst (λ (m : ℤ). is_i64 m ≡ true) same (and_parts (is_i64 (signed_digits_value 10 text)) (bytes_eq text (signed_decimal (signed_digits_value 10 text))) spells).0
    by_test false spells is = cc (is)

pub value-fits : (value : Option (List ℕ)) (n : ℤ) → number_in value ≡ Some n → is_i64 n ≡ true
value-fits None n is = let same : pos 0 ≡ n = cc (is) in subst (λ (m : ℤ). is_i64 m ≡ true) same refl
value-fits (Some value) n is = spelled-fits value n is

pub increment-fits : (text : List ℕ) (n : ℤ) → int_of text ≡ Some n → is_i64 n ≡ true
increment-fits text n is = spelled-fits text n is

-- a sum that does not fit has more than 64 bits
pub too-wide : (old by : ℤ) → is_i64 old ≡ true → is_i64 by ≡ true → (FitsSigned w64 (to_z w64 (of_z w64 old) +ℤ to_z w64 (of_z w64 by)) → ⊥) → is_i64 (old +ℤ by) ≡ false
too-wide old by a b wide = elim (cases_Bool (is_i64 (old +ℤ by))) [
  | inl fits ↦
      let whole : FitsSigned w64 (old +ℤ by) = fits_from_test (old +ℤ by) fits in
      absurd (wide (subst (λ (n : ℤ). FitsSigned w64 (n +ℤ to_z w64 (of_z w64 by))) (sym (to_z-of_z w64 old (fits_from_test old a)))
      (subst (λ (n : ℤ). FitsSigned w64 (old +ℤ n)) (sym (to_z-of_z w64 by (fits_from_test by b))) whole)))
  | inr over ↦ over
]

-- a sum that fits is the sum
pub sum-is : (old by sum : ℤ) → is_i64 old ≡ true → is_i64 by ≡ true → FitsSigned w64 (to_z w64 (of_z w64 old) +ℤ to_z w64 (of_z w64 by)) → sum ≡ to_z w64 (of_z w64 old) +ℤ to_z w64 (of_z w64 by)
    → (is_i64 (old +ℤ by) ≡ true) × (to_z w64 (of_z w64 sum) ≡ old +ℤ by)
sum-is old by sum a b fits is =
    let same : to_z w64 (of_z w64 old) +ℤ to_z w64 (of_z w64 by) ≡ old +ℤ by =
    ap (λ (n : ℤ). n +ℤ to_z w64 (of_z w64 by)) (to_z-of_z w64 old (fits_from_test old a)) ∙ ap (λ (n : ℤ). old +ℤ n) (to_z-of_z w64 by (fits_from_test by b)) in
    let whole : FitsSigned w64 (old +ℤ by) = subst (λ (n : ℤ). FitsSigned w64 n) same fits in
    (test_from_fits (old +ℤ by) whole, ap (λ (n : ℤ). to_z w64 (of_z w64 n)) (is ∙ same) ∙ to_z-of_z w64 (old +ℤ by) whole)

-- RENAME of a key that is not there
pub renamed-none : (args : List (List ℕ)) (number : ℕ) (state : State) (written : List ℕ) → is_some (doc_of state.space (first args)) ≡ false → written ≡ spelling (Fault (codes "ERR no such key"))
    → Does (Plain Rename args) number state written state
renamed-none args number state written none said =
    stays-plain Rename Rename args number state written (Fault (codes "ERR no such key")) refl (sym (by_doc (doc_of state.space (first args)) none)) said
  where
    by_doc : (doc : Option Doc) → is_some doc ≡ false → rename doc (first args) (second args) number state ≡ answered (Fault (codes "ERR no such key")) state
    by_doc None none = refl
    by_doc (Some doc) none = cc (none)

-- RENAME of a key onto itself
pub renamed-same : (args : List (List ℕ)) (number : ℕ) (state : State) (written : List ℕ) → is_some (doc_of state.space (first args)) ≡ true → bytes_eq (first args) (second args) ≡ true → written ≡ spelling (Line (codes "OK"))
    → Does (Plain Rename args) number state written state
renamed-same args number state written there same said = stays-plain Rename Rename args number state written (Line (codes "OK")) refl (sym (by_doc (doc_of state.space (first args)) there)) said
  where
    by_doc : (doc : Option Doc) → is_some doc ≡ true → rename doc (first args) (second args) number state ≡ answered (Line (codes "OK")) state
    by_doc None there = cc (there)
    by_doc (Some doc) there = rw same refl

-- the state once a hash is put under another key, and the first is gone
abbrev pub moved_to : State → List ℕ → Hash → ℕ → List ℕ → State
moved_to state to hash number from = record (put to hash number state) { space = erase (put to hash number state).space from }

-- RENAME onto another key
pub renamed : (args : List (List ℕ)) (number : ℕ) (state new : State) (said : List ℕ) → is_some (doc_of state.space (first args)) ≡ true → bytes_eq (first args) (second args) ≡ false → said ≡ spelling (Line (codes "OK"))
    → new ≡ moved_to state (second args) (hash_of state (first args)) number (first args) → Does (Plain Rename args) number state said new
renamed args number state new said there apart is_said is = by_doc (doc_of state.space (first args)) refl there
  where
    step : (doc : Doc) → rename (Some doc) (first args) (second args) number state ≡ record { reply = Line (codes "OK"); after = moved_to state (second args) doc.hash number (first args) }
    step doc = rw apart refl

    by_doc : (doc : Option Doc) → doc_of state.space (first args) ≡ doc → is_some doc ≡ true → Does (Plain Rename args) number state said new
    by_doc None found there = cc (there)
    by_doc (Some doc) found there =
        let given = ap (λ (d : Option Doc). rename d (first args) (second args) number state) found ∙ step doc in
        gives (Plain Rename args) number state (record { reply = Line (codes "OK"); after = moved_to state (second args) doc.hash number (first args) }) said new
        (sym given) is_said (is ∙ ap (λ (d : Option Doc). moved_to state (second args) (hash_in d) number (first args)) found)

-- whether two words are one, by equal words
pub same-words : (a b from to : List ℕ) (said test : Bool) → a ≡ from → b ≡ to → said ≡ bytes_eq a b → said ≡ test → bytes_eq from to ≡ test
same-words a b from to said test x y is tested = sym (ap (λ (w : List ℕ). bytes_eq w b) x ∙ ap (λ (w : List ℕ). bytes_eq from w) y) ∙ (sym is ∙ tested)

-- the state once a copy that waits is written under another key and the first is taken out
pub moved : (ready : Option Doc) (state : State) (a b from to : List ℕ) (id : ℕ) → a ≡ from → b ≡ to → ready ≡ Some (record { id = id; key = b; hash = hash_in (doc_of state.space a) })
    → record state { space = erase (written ready state.space) a; definitions = all_tried ready state.definitions } ≡ moved_to state to (hash_of state from) id from
moved ready state a b from to id x y is =
    ap (λ (r : Option Doc). record state { space = erase (written r state.space) a; definitions = all_tried r state.definitions }) is
    ∙ (ap (λ (w : List ℕ). moved_to state w (hash_in (doc_of state.space a)) id a) y
    ∙ ap (λ (w : List ℕ). moved_to state to (hash_in (doc_of state.space w)) id w) x)
