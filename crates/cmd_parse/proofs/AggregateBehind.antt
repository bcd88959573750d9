-- What each reader of FT.AGGREGATE says of the words behind what it reads: they are the last words of the command.
use Rattle.std.proofs.Common.{◌≡◌, ◌-◌, ◌==◌, ℕ, Bool, true, false, cond, List, [], ◌∷◌, length, Option, Some, None, Result, Ok, Err, refl, subst}
use Rattle.std.specs.Prelude.{◌&&◌, codes, nat_le}
use Rattle.ft_base.proofs.PartsLaws.{all_keep}
use Rattle.ft_base.specs.Names.{is_name}
use Rattle.ft_base.specs.Reading.{◌>>=◌, parts_at}
use Rattle.ft_schema.proofs.LawfulLaws.{is_ok_of}
use Rattle.agg_pipeline.specs.declared.step.Load.TheVariants.{All, Fields}
use Rattle.agg_pipeline.specs.declared.step.ReduceKind.{ReduceKind}
use Rattle.agg_pipeline.specs.declared.step.Reducer.{Reducer}
use Rattle.agg_pipeline.specs.declared.step.SortKey.{SortKey}
use Rattle.expr_eval.specs.declared.tree.Expr.{Expr}
use Rattle.cmd_parse.specs.AggregateNames.{reducer_of}
use Rattle.cmd_parse.specs.AggregateSteps.{argument_at, argument_with, arguments, cell_at, direction_before, group_at, is_count, is_no_reduce, is_star, key_at, keys_up_to, kind_at, kind_with, load_at, max_at, reduce_at, reducer_at, reducers_at, sorted_at, step_at, usual_name}
use Rattle.cmd_parse.specs.AggregateWords.{are_behind, as_at, count_at, counted_names, cursor_at, expression_at, expression_with, limited_at, most_count, most_idle, name_at, name_of, named_at, named_with, number_or, tree_of, usual_count, usual_idle}
use Rattle.cmd_parse.specs.Options.{direction_at, is_as, window_at}
use Rattle.cmd_parse.specs.Words.{Word, Read, fault, number_at, word_at}
use Rattle.cmd_parse.specs.declared.aggregate_names.NameForm.{NameForm}
use Rattle.cmd_parse.specs.declared.aggregate_names.NameForm.TheVariants as form
use Rattle.cmd_parse.specs.declared.aggregate_names.StepName.{StepName}
use Rattle.cmd_parse.specs.declared.aggregate_names.StepName.TheVariants as step
use Rattle.cmd_parse.specs.declared.stop.Cause.{Cause}
use Rattle.cmd_parse.specs.declared.stop.Cause.TheVariants.{Limit, Syntax}
use Rattle.cmd_parse.proofs.BehindLaws.{Behind, behind-next, number_at-Ok}
use Rattle.cmd_parse.proofs.OptionLaws.{direction_at-Behind, window_at-Ok}

-- what is read leaves the last of the words
abbrev pub Leaves : {A : Type 0} → List Word → Read A → Type 0
Leaves all (Ok read) = Behind all read.1
Leaves all (Err stop) = Unit {0}

-- a reader that leaves the last of the words where it is given such
abbrev pub Keeps : {A : Type 0} → List Word → (List Word → Read A) → Type 0
Keeps all reader = (words : List Word) → Behind all words → Leaves all (reader words)

-- where the first leaves the last of the words, so does what goes on with it
abbrev After : {A B : Type 0} → List Word → (A × List Word → Read B) → Type 0
After {A = A} all next = (x : A) (words : List Word) → Behind all words → Leaves all (next (x, words))

then : {A B : Type 0} (all : List Word) (first : Read A) (next : A × List Word → Read B) → Leaves all first → After all next → Leaves all (first >>= next)
then all (Ok read) next leaves after = after read.0 read.1 leaves
then all (Err stop) next leaves after = tt

pub leaves-read : {A : Type 0} (all : List Word) (words : List Word) (r : Read A) → Behind all words → ((read : A × List Word) → r ≡ Ok read → Behind all read.1) → Leaves all r
leaves-read all words (Ok read) behind says = says read refl
leaves-read all words (Err stop) behind says = tt

-- a test chooses
either : {A : Type 0} (all : List Word) (b : Bool) (x y : Read A) → Leaves all x → Leaves all y → Leaves all (cond {A = Read A} b x y)
either all true x y p q = p
either all false x y p q = q

word-keeps : (all : List Word) → Keeps all word_at
word-keeps all [] behind = tt
word-keeps all (word ∷ words) behind = behind-next all word words behind

pub number-keeps : (all : List Word) → Keeps all number_at
number-keeps all words behind = leaves-read all words (number_at words) behind (λ read e. number_at-Ok all words read behind e)

pub of-read : {A : Type 0} (all : List Word) (r : Read A) (read : A × List Word) → Leaves all r → r ≡ Ok read → Behind all read.1
of-read {A = A} all (Ok other) read leaves e =
    let same : other ≡ read = is_ok_of e in
    subst (λ (x : A × List Word). Behind all x.1) same leaves
of-read all (Err stop) read leaves e = absurd (cc)

-- one part after another
parts-keep : {A : Type 0} (all : List Word) (ends : List Word → Bool) (part : A → List Word → Read A) → ((before : A) → Keeps all (part before)) → (first : A)
    → Keeps all (λ words. parts_at ends part first words)
parts-keep {A = A} all ends part keeps first words behind = leaves-read all words (parts_at ends part first words) behind (λ read e.
    all_keep (λ (before : A) (rest : List Word). Behind all rest) ends part (λ before rest next b is. of-read all (part before rest) next (keeps before rest b) is) first words read behind e)

-- names
named_with-leaves : (all : List Word) (found : Result Word Cause) (from words : List Word) → Behind all words → Leaves all (named_with found from words)
named_with-leaves all (Ok name) from words behind = behind
named_with-leaves all (Err cause) from words behind = tt

named-keeps : (all : List Word) (form : NameForm) → Keeps all (named_at form)
named-keeps all form words behind = then all (word_at words) _ (word-keeps all words behind) (λ word rest b. named_with-leaves all (name_of form word) words rest b)

count-keeps : (all : List Word) → Keeps all count_at
count-keeps all words behind =
    then all (number_at words) _ (number-keeps all words behind) (λ n rest b. either all (nat_le n (length rest)) (Ok (length rest - n, rest)) (fault Syntax words) b tt)

name-keeps : (all : List Word) (form : NameForm) (names : List Word) → Keeps all (name_at form names)
unfolding name_at
name-keeps all form names words behind = then all (named_at form words) _ (named-keeps all form words behind) (λ name rest b. b)

counted_names-keep : (all : List Word) (form : NameForm) → Keeps all (counted_names form)
counted_names-keep all form words behind =
    then all (count_at words) _ (count-keeps all words behind) (λ n rest b. parts-keep all (are_behind n) (name_at form) (name-keeps all form) [] rest b)

-- LOAD
pub load-keeps : (all : List Word) → Keeps all load_at
unfolding load_at
load-keeps all [] behind = tt
load-keeps all (word ∷ words) behind =
    either all (is_star word) (Ok (All, words)) (counted_names form.Loaded (word ∷ words) >>= λ names. Ok (Fields names.0, names.1)) (behind-next all word words behind)
    (then all (counted_names form.Loaded (word ∷ words)) _ (counted_names-keep all form.Loaded (word ∷ words) behind) (λ names rest b. b))

-- WITHCURSOR
limited-keeps : (all : List Word) (most : ℕ) → Keeps all (limited_at most)
limited-keeps all most words behind =
    then all (number_at words) _ (number-keeps all words behind) (λ n rest b. either all (nat_le 1 n && nat_le n most) (Ok (n, rest)) (fault Limit words) b tt)

number_or-keeps : (all : List Word) (name : List ℕ) (most other : ℕ) → Keeps all (number_or name most other)
number_or-keeps all name most other [] behind = behind
number_or-keeps all name most other (word ∷ words) behind =
    either all (is_name word name) (limited_at most words) (Ok (other, word ∷ words)) (limited-keeps all most words (behind-next all word words behind)) behind

pub cursor-keeps : (all : List Word) → Keeps all cursor_at
cursor-keeps all words behind =
    then all (number_or (codes "COUNT") most_count usual_count words) _ (number_or-keeps all (codes "COUNT") most_count usual_count words behind)
    (λ count rest b. then all (number_or (codes "MAXIDLE") most_idle usual_idle rest) _ (number_or-keeps all (codes "MAXIDLE") most_idle usual_idle rest b) (λ idle more d. d))

-- REDUCE
kind_with-leaves : (all : List Word) (found : Result ReduceKind Cause) (from words : List Word) → Behind all words → Leaves all (kind_with found from words)
kind_with-leaves all (Ok kind) from words behind = behind
kind_with-leaves all (Err cause) from words behind = tt

kind-keeps : (all : List Word) → Keeps all kind_at
kind-keeps all words behind = then all (word_at words) _ (word-keeps all words behind) (λ word rest b. kind_with-leaves all (reducer_of word) words rest b)

argument_with-keeps : (all : List Word) (none : Bool) → Keeps all (argument_with none)
argument_with-keeps all true words behind = behind
argument_with-keeps all false words behind = then all (named_at form.Property words) _ (named-keeps all form.Property words behind) (λ name rest b. b)

argument-keeps : (all : List Word) (kind : ReduceKind) → Keeps all (argument_at kind)
argument-keeps all kind words behind =
    then all (number_at words) _ (number-keeps all words behind) (λ n rest b. either all ((n == arguments kind) && nat_le n (length rest)) (argument_with (is_count kind) rest) (fault Syntax words)
    (argument_with-keeps all (is_count kind) rest b) tt)

cell-keeps : (all : List Word) (kind : ReduceKind) (property : Option Word) → Keeps all (cell_at kind property)
unfolding cell_at
cell-keeps all kind property [] behind = behind
cell-keeps all kind property (word ∷ words) behind =
    either all (is_as word) (word_at words) (Ok (usual_name kind property, word ∷ words)) (word-keeps all words (behind-next all word words behind)) behind

reduce-keeps : (all : List Word) → Keeps all reduce_at
reduce-keeps all words behind =
    then all (kind_at words) _ (kind-keeps all words behind) (λ kind rest b. then all (argument_at kind rest) _ (argument-keeps all kind rest b) (λ property more d.
    then all (cell_at kind property more) _ (cell-keeps all kind property more d) (λ name last f. f)))

reducer-keeps : (all : List Word) (before : List Reducer) → Keeps all (reducer_at before)
unfolding reducer_at
reducer-keeps all before [] behind = tt
reducer-keeps all before (word ∷ words) behind = then all (reduce_at words) _ (reduce-keeps all words (behind-next all word words behind)) (λ reducer rest b. b)

-- each step
group-keeps : (all : List Word) → Keeps all group_at
group-keeps all words behind =
    then all (counted_names form.Property words) _ (counted_names-keep all form.Property words behind)
    (λ by rest b. then all (reducers_at rest) _ (parts-keep all is_no_reduce reducer_at (reducer-keeps all) [] rest b) (λ reduce more d. d))

direction-behind : (all : List Word) (behind : ℕ) (words : List Word) → Behind all words → Behind all (direction_before behind words).1
direction-behind all behind words b = by_test (are_behind behind words)
  where
    by_test : (none : Bool) → Behind all (cond {A = Bool × List Word} none (false, words) (direction_at words)).1
    by_test true = b
    by_test false = direction_at-Behind all words b

key-keeps : (all : List Word) (behind : ℕ) (keys : List SortKey) → Keeps all (key_at behind keys)
unfolding key_at
key-keeps all behind keys words b = then all (named_at form.Property words) _ (named-keeps all form.Property words b) (λ name rest d. direction-behind all behind rest d)

max-keeps : (all : List Word) → Keeps all max_at
unfolding max_at
max-keeps all [] behind = behind
max-keeps all (word ∷ words) behind =
    either all (is_name word (codes "MAX")) (number_at words >>= λ n. Ok (Some n.0, n.1)) (Ok (None, word ∷ words))
    (then all (number_at words) _ (number-keeps all words (behind-next all word words behind)) (λ n rest b. b)) behind

sorted-keeps : (all : List Word) → Keeps all sorted_at
sorted-keeps all words behind =
    then all (count_at words) _ (count-keeps all words behind) (λ n rest b.
    then all (keys_up_to n rest) _ (parts-keep all (are_behind n) (key_at n) (key-keeps all n) [] rest b) (λ keys more d.
    then all (max_at more) _ (max-keeps all more d) (λ max last f. f)))

expression_with-leaves : (all : List Word) (found : Option Expr) (from words : List Word) → Behind all words → Leaves all (expression_with found from words)
expression_with-leaves all None from words behind = tt
expression_with-leaves all (Some tree) from words behind = behind

expression-keeps : (all : List Word) → Keeps all expression_at
expression-keeps all words behind = then all (word_at words) _ (word-keeps all words behind) (λ text rest b. expression_with-leaves all (tree_of text) words rest b)

as-keeps : (all : List Word) → Keeps all as_at
as-keeps all words behind =
    then all (word_at words) _ (word-keeps all words behind) (λ word rest b. either all (is_as word) (word_at rest) (fault Syntax words) (word-keeps all rest b) tt)

pub step-keeps : (all : List Word) (name : StepName) → Keeps all (step_at name)
unfolding step_at
step-keeps all step.Group words behind = group-keeps all words behind
step-keeps all step.Sort words behind = sorted-keeps all words behind
step-keeps all step.Apply words behind =
    then all (expression_at words) _ (expression-keeps all words behind) (λ tree rest b. then all (as_at rest) _ (as-keeps all rest b) (λ name more d. d))
step-keeps all step.Filter words behind = then all (expression_at words) _ (expression-keeps all words behind) (λ tree rest b. b)
step-keeps all step.Limit words behind =
    then all (window_at words) _ (leaves-read all words (window_at words) behind (λ read e. (window_at-Ok all words read behind e).0)) (λ window rest b. b)
