-- A caller's items among the entries of others: one item more, and a caller that is alone.
use Rattle.std.proofs.Common.{◌≡◌, ◌≢◌, ℕ, true, false, List, [], ◌∷◌, ◌++◌, refl, sym, ap, subst, ◌∙◌, arith, append_assoc, rules}
use Rattle.std.specs.Prelude.{nat_eq}
use Rattle.std.specs.List.{All}
use Rattle.std.specs.declared.option.Option.{Option}
use Rattle.std.proofs.lemmas.Bool.Decides.{nat_tests}
use Rattle.std.proofs.lemmas.List.{append-nil, map-append, map_push}
use Rattle.std.proofs.lemmas.List.Elements.{All-append, All-map, All-nil}
use Rattle.fs_ports.specs.Moments.{Gives}
use Rattle.fs_ports.proofs.MomentLaws.{Gives-nil, Gives-trans}
use Rattle.history_core.specs.Commands.{Said, caller_of, commands_of, own}
use Rattle.ft_engine.specs.Entries.{Entry}
use Rattle.history_core.specs.Entries.{Exec}
use Rattle.history_core.proofs.CommandLaws.{own-append}
use Rattle.turn_gate.specs.Known.{Known}
use Rattle.turn_gate.specs.Log.{NoneBy}
use Rattle.ft_machine.specs.Clean.{empty_marked}
use Rattle.ft_server.specs.Answer.{AddsItem}
use Rattle.ft_server.specs.Callers.{Answered, Called}
use Rattle.ft_server.specs.Items.{Item, Woven, moment_of, said_in, said_of}
use Rattle.ft_server.specs.Passes.{LegalFrom}

another : (caller other : ℕ) → other ≢ caller → nat_eq caller other ≡ false
another caller other differ = grind (arith, nat_tests, differ)

-- entries of others have no command of this caller
own-none : (caller : ℕ) (others : List Entry) → NoneBy caller_of caller others → own caller others ≡ []
own-none caller [] none = refl
own-none caller (entry ∷ others) none = rw (another caller (caller_of entry) none.0) (own-none caller others none.1)

same-number : (n : ℕ) → nat_eq n n ≡ true
same-number n = search rules

abbrev entries_of : ℕ → List Said → List Entry
entries_of caller said = commands_of caller said

-- its own commands are all its own
own-all : (caller : ℕ) (said : List Said) → own caller (entries_of caller said) ≡ entries_of caller said
own-all caller [] = refl
own-all caller (one ∷ said) =
    rw (same-number caller) (ap (λ (l : List Entry). Exec caller one.moment one.words one.reply ∷ l) (own-all caller said))

none-append : (caller : ℕ) (first others : List Entry) → NoneBy caller_of caller first → NoneBy caller_of caller others → NoneBy caller_of caller (first ++ others)
none-append caller [] others p q = q
none-append caller (entry ∷ first) others p q = (p.0, none-append caller first others p.1 q)

-- ---- an item more

moved : (before its rest others more : List Entry) → ((before ++ (its ++ rest)) ++ others) ++ more ≡ before ++ (its ++ ((rest ++ others) ++ more))
moved before its rest others more =
    append_assoc (before ++ (its ++ rest)) others more
    ∙ (append_assoc before (its ++ rest) (others ++ more)
    ∙ (ap (λ (l : List Entry). before ++ l) (append_assoc its rest (others ++ more))
    ∙ ap (λ (l : List Entry). before ++ (its ++ l)) (sym (append_assoc rest others more))))

-- Its entries come behind all others.
woven_more : (caller : ℕ) (items : List Item) (item : Item) (added others : List Entry) → Woven caller items added → NoneBy caller_of caller others
    → Woven caller (items ++ item ∷ []) ((added ++ others) ++ commands_of caller (said_of item))
woven_more caller [] item added others woven none =
    let its : List Entry = commands_of caller (said_of item) in
    (added ++ others, [], none-append caller added others woven none, ap (λ (l : List Entry). (added ++ others) ++ l) (sym (append-nil its)), tt)
woven_more caller (first ∷ items) item added others woven none =
    let its : List Entry = commands_of caller (said_of item) in (
      woven.0,
      (woven.1 ++ others) ++ its,
      woven.2,
      ap (λ (l : List Entry). (l ++ others) ++ its) woven.3 ∙ moved woven.0 (commands_of caller (said_of first)) woven.1 others its,
      woven_more caller items item woven.1 others woven.4 none,
    )

-- the caller's own entries are the commands that were executed for its items, in order
pub woven_own : (caller : ℕ) (items : List Item) (entries : List Entry) → Woven caller items entries → own caller entries ≡ commands_of caller (said_in items)
woven_own caller [] entries woven = own-none caller entries woven
woven_own caller (item ∷ items) entries woven =
    let its : List Entry = commands_of caller (said_of item) in
    ap (λ (l : List Entry). own caller l) woven.3
    ∙ (own-append caller woven.0 (its ++ woven.1)
    ∙ (ap (λ (l : List Entry). l ++ own caller (its ++ woven.1)) (own-none caller woven.0 woven.2)
    ∙ (own-append caller its woven.1
    ∙ (ap (λ (l : List Entry). l ++ own caller woven.1) (own-all caller (said_of item))
    ∙ (ap (λ (l : List Entry). its ++ l) (woven_own caller items woven.1 woven.4)
    ∙ sym (map-append (λ (one : Said). Exec caller one.moment one.words one.reply) (said_of item) (said_in items)))))))

-- no item yet
pub called_none : (pass : Known Entry) (given : Option (List ℕ)) → Called pass pass [] given given
called_none pass given = record {
  added = [];
  seen = sym (append-nil pass.seen);
  woven = tt;
  alone = λ _. All-nil _;
  moments = Gives-nil given;
}

-- one item more
module _ (pass later next : Known Entry) (items : List Item) (item : Item) (given given' given'' : Option (List ℕ))
    (called : Called pass later items given given') (same : later.caller ≡ pass.caller) (alone : later.alone ≡ pass.alone)
    (adds : AddsItem later next item) (asked : Gives given' given'' (moment_of item ∷ [])) where
  abbrev its : ℕ → List Entry
  its caller = commands_of caller (said_of item)

  abbrev others : List Entry
  others = adds.others

  seen_more : next.seen ≡ pass.seen ++ ((called.added ++ others) ++ its pass.caller)
  seen_more =
      adds.seen
      ∙ (ap (λ (caller : ℕ). (later.seen ++ others) ++ its caller) same
      ∙ (ap (λ (log : List Entry). (log ++ others) ++ its pass.caller) called.seen
      ∙ (ap (λ (log : List Entry). log ++ its pass.caller) (append_assoc pass.seen called.added others)
      ∙ append_assoc pass.seen (called.added ++ others) (its pass.caller))))

  alone_more : pass.alone ≡ true → All (λ (entry : Entry). caller_of entry ≡ pass.caller) ((called.added ++ others) ++ its pass.caller)
  alone_more is =
      All-append (λ (entry : Entry). caller_of entry ≡ pass.caller) (called.added ++ others) (its pass.caller)
      (subst (λ (entries : List Entry). All (λ (entry : Entry). caller_of entry ≡ pass.caller) entries)
      (sym (ap (λ (entries : List Entry). called.added ++ entries) (adds.none (alone ∙ is)) ∙ append-nil called.added)) (called.alone is))
      (All-map (λ (entry : Entry). caller_of entry ≡ pass.caller) (λ (one : Said). Exec pass.caller one.moment one.words one.reply) (said_of item) (λ _ _ _. refl))

  pub called_more : Called pass next (items ++ item ∷ []) given given''
  called_more = record {
    added = (called.added ++ others) ++ its pass.caller;
    seen = seen_more;
    woven = woven_more pass.caller items item called.added others called.woven (subst (λ (caller : ℕ). NoneBy caller_of caller others) same adds.none_own);
    alone = alone_more;
    moments = subst (Gives given given'') (sym (map_push moment_of items item)) (Gives-trans given given' given'' _ _ called.moments asked);
  }

-- a caller that began alone, with nothing seen
pub called_alone : (pass later : Known Entry) (items : List Item) (given given' : Option (List ℕ)) → pass.seen ≡ [] → pass.alone ≡ true → pass.caller ≡ 0 → LegalFrom 1 later.seen
    → Called pass later items given given' → Answered items given given'
called_alone pass later items given given' none alone first legal called =
    let all : later.seen ≡ called.added = called.seen ∙ ap (λ (log : List Entry). log ++ called.added) none in
    record {
      entries = called.added;
      after = legal.0;
      legal = rw (sym all) legal.1;
      woven = subst (λ (caller : ℕ). Woven caller items called.added) first called.woven;
      alone = subst (λ (caller : ℕ). All (λ (entry : Entry). caller_of entry ≡ caller) called.added) first (called.alone alone);
      moments = called.moments;
    }

-- nothing was answered yet
pub answered_none : (given : Option (List ℕ)) → Answered [] given given
answered_none given = record { entries = []; after = empty_marked; legal = refl; woven = tt; alone = All-nil _; moments = Gives-nil given }
