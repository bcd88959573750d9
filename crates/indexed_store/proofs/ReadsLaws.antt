-- Replies that show fields and values of a hash: each fits the wire.
use Rattle.std.proofs.Common.{◌≡◌, ℕ, List, map, true, Option, Some, None}
use Rattle.std.specs.Prelude.{IsTrue}
use Rattle.ft_base.specs.Hash.{Hash, get_field}
use Rattle.ft_base.specs.Reply.{fits_wire}
use Rattle.ft_base.specs.declared.reply.Reply.TheVariants.{Array, Bulk}
use Rattle.ft_base.proofs.RepliesLaws.{fits-Bulk, fits-NullBulk, shown-fits}
use Rattle.ft_machine.specs.Reads.{names, value_reply, values}

pub value-fits : (value : Option (List ℕ)) → fits_wire (value_reply value) ≡ true
value-fits None = fits-NullBulk
value-fits (Some value) = fits-Bulk value

pub values-fit : (hash : Hash) (fields : List (List ℕ)) → IsTrue (fits_wire (Array (map (λ field. value_reply (get_field hash field)) fields)))
values-fit hash fields = shown-fits (λ field. value_reply (get_field hash field)) fields (λ field. value-fits (get_field hash field))

pub names-fit : (hash : Hash) → IsTrue (fits_wire (Array (names hash)))
names-fit hash = shown-fits (λ (f : List ℕ × List ℕ). Bulk f.0) hash (λ f. fits-Bulk f.0)

pub all_values-fit : (hash : Hash) → IsTrue (fits_wire (Array (values hash)))
all_values-fit hash = shown-fits (λ (f : List ℕ × List ℕ). Bulk f.1) hash (λ f. fits-Bulk f.1)
