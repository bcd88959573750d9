-- What is promised of a connection where items came about in one way is promised where that is a case of another.
use Rattle.std.specs.Prelude.{◌⊎◌}
use Rattle.std.proofs.Common.{ℕ, inl, inr, List, []}
use Rattle.std.specs.declared.option.Option.{Option}
use Rattle.resp_wire.specs.Stream.{Command, FaultAt}
use Rattle.ft_server.specs.Ends.{Ends, IsFaulty}
use Rattle.ft_server.specs.FaultText.{fault_text}
use Rattle.ft_server.specs.Items.{Item}
use Rattle.ft_server.specs.Session.{AllAnswered, IsCut, Outside, ReplyCut, Served}
use Rattle.ft_server.specs.declared.connection.End.{End}
use Rattle.ft_server.specs.declared.connection.End.TheVariants as end

module _ (A B : List Item → Option (List ℕ) → Option (List ℕ) → Type 0) (weaker : (items : List Item) (given given' : Option (List ℕ)) → A items given given' → B items given given') where
  served_so : (input : List ℕ) (others : List Command) (text : List ℕ) (before after : Outside) → Served A input others text before after → Served B input others text before after
  served_so input others text before after served = record {
    commands = served.commands;
    items = served.items;
    session = served.session;
    read = served.read;
    due_are = served.due_are;
    talks = served.talks;
    answered = weaker served.items before.given after.given served.answered;
    written = served.written;
  }

  cut_so : (input : List ℕ) (before after : Outside) → ReplyCut A input before after → ReplyCut B input before after
  cut_so input before after cut = record {
    commands = cut.commands;
    items = cut.items;
    last = cut.last;
    session = cut.session;
    others = cut.others;
    front = cut.front;
    read = cut.read;
    due_are = cut.due_are;
    talks = cut.talks;
    answered = weaker _ before.given after.given cut.answered;
    cut = cut.cut;
    written = cut.written;
  }

  fault_so : (input : List ℕ) (before after : Outside)
      → ReplyCut A input before after ⊎ ((fault : FaultAt) × (front : List ℕ) × IsFaulty input fault × IsCut front (fault_text fault.kind) × Served A input [] front before after)
      → ReplyCut B input before after ⊎ ((fault : FaultAt) × (front : List ℕ) × IsFaulty input fault × IsCut front (fault_text fault.kind) × Served B input [] front before after)
  fault_so input before after (inl cut) = inl (cut_so input before after cut)
  fault_so input before after (inr text) = inr (text.0, text.1, text.2, text.3, served_so input _ _ before after text.4)

  pub all_answered_so : (before after : Outside) → AllAnswered A before after → AllAnswered B before after
  all_answered_so before after all = record { input = all.input; wants = all.wants; served = served_so all.input _ _ before after all.served }

  pub ends_so : (how : End) (before after : Outside) → Ends A how before after → Ends B how before after
  ends_so end.Closed before after e = (e.0, e.1, e.2, e.3, served_so e.0 _ _ before after e.4)
  ends_so end.Quit before after e = (e.0, e.1, served_so e.0 _ _ before after e.2)
  ends_so (end.CutShort left) before after e = (e.0, e.1, e.2, e.3, e.4, served_so e.0 _ _ before after e.5)
  ends_so (end.Protocol at kind) before after e = (e.0, e.1, served_so e.0 _ _ before after e.2)
  ends_so end.ReadFault before after e = (e.0, (e.1.0, e.1.1, served_so e.1.0 _ _ before after e.1.2))
  ends_so end.WriteFault before after e = (e.0, (e.1.0, fault_so e.1.0 before after e.1.1))
  ends_so end.ByteLimit before after e = (e.0, e.1, e.2, served_so e.0 _ _ before after e.3)
  ends_so end.NoMemory before after e = (e.0, e.1, e.2, served_so e.0 _ _ before after e.3)
