-- How a document fits an index.
use Rattle.std.specs.Prelude.{if◌then◌else◌}
use Rattle.ft_base.specs.declared.definition.IndexDef.{IndexDef}
use Rattle.ft_base.specs.Docs.{Doc}
use Rattle.ft_meaning.specs.Member.{failed, member}
use Rattle.ft_index.specs.declared.ready.Fit.{Fit}
use Rattle.ft_index.specs.declared.ready.Fit.TheVariants.{Member, NoPrefix, Failed}

-- a member, one that fails to be, or one whose key the index does not take
abbrev pub fit_of : IndexDef → Doc → Fit
fit_of def doc = if member def doc then Member else (if failed def doc then Failed else NoPrefix)
