use Rattle.std.proofs.Common.{ap, arith, List, ℕ}
use Rattle.std.specs.Prelude.{length, not}
use Rattle.std.specs.List.{list_any}
use Rattle.std.specs.Str.{bytes_eq}
use Rattle.ft_base.specs.Hash.{Hash}
use Rattle.indexed_store.proofs.VersionsLaws.{filter-fewer}
use Rattle.indexed_store.proofs.versions.left_of.Goals as goal

pub returns-in_ok-without_fields-in-Some-clause-fewer : goal.returns-in_ok-without_fields-in-Some-clause-fewer
returns-in_ok-without_fields-in-Some-clause-fewer c =
    omega (arith, ap (λ (hash : Hash). length hash) c.in_ok-without_fields-in-Some.ensures, c.len.ensures.len, filter-fewer (λ (field : List ℕ × List ℕ). not (list_any (bytes_eq field.0) c.args.fields.now)) c.hash-hash.result)
