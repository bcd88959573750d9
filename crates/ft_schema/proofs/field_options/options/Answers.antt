use Rattle.std.proofs.Common.{◌≡◌, true, false, List, length, ap, rules, arith}
use Rattle.ft_base.specs.declared.definition.FieldKind.{FieldKind}
use Rattle.ft_base.proofs.PartsLaws.{Reads, begins, goes_on, ended}
use Rattle.ft_schema.specs.declared.field_options.FieldOptions.{FieldOptions}
use Rattle.ft_schema.specs.Names.{Word}
use Rattle.ft_schema.specs.Fields.{no_field_options, is_past_options, field_option_at, field_options_at}
use Rattle.ft_schema.proofs.Parts.{stops_so}
use Rattle.ft_schema.proofs.field_options.options.Goals as goal

-- reading begins with no option at all words
from_all : (kind : FieldKind) (given : FieldOptions) (words rest : List Word) → given ≡ no_field_options → rest ≡ words
    → Reads (is_past_options kind) (field_option_at kind) given rest (field_options_at kind words)
unfolding field_options_at
from_all kind given words rest none all = rw (none, all) (begins (is_past_options kind) (field_option_at kind) no_field_options words)

pub reading-init : goal.reading-init
reading-init c = record {
  reads = from_all _ _ _ _ c.no_options-given.ensures c.rest-rest.ensures;
  within = omega (arith, ap length c.rest-rest.ensures);
}

pub reading-preserved : goal.reading-preserved
reading-preserved c =
    let more : is_past_options c.args.kind c.reading.rest ≡ false = search rules in
    record {
      reads = goes_on (is_past_options c.args.kind) (field_option_at c.args.kind) _ _ _ _ _ more c.in-Ok.ensures.read c.in-Ok.ensures.shorter c.reading.invariant.reads;
      within = omega (arith, c.in-Ok.ensures.shorter, c.reading.invariant.within);
    }

pub returns-in-Err-clause-read : goal.returns-in-Err-clause-read
returns-in-Err-clause-read c =
    let more : is_past_options c.args.kind c.reading.rest ≡ false = search rules in
    stops_so (is_past_options c.args.kind) (field_option_at c.args.kind) _ _ _ c.in-Err.stop more c.in-Err.ensures.read c.reading.invariant.reads

pub returns-clause-read : goal.returns-clause-read
returns-clause-read c =
    let done : is_past_options c.args.kind c.reading.rest ≡ true = search rules in
    ended (is_past_options c.args.kind) (field_option_at c.args.kind) _ _ _ done c.reading.invariant.reads
