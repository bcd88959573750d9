-- What a search is answered (RediSearch, FT.SEARCH).
use Rattle.std.specs.Prelude.{ℕ, List, ◌++◌, codes, Option, Some, None}
use Rattle.std.specs.Fmt.{decimal}
use Rattle.cmd_parse.specs.Searching.{Searching}
use Rattle.ft_base.specs.declared.definition.IndexDef.{IndexDef}
use Rattle.ft_base.specs.Docs.{Doc}
use Rattle.ft_base.specs.declared.query.Query.{Query}
use Rattle.ft_base.specs.declared.reply.Reply.{Reply}
use Rattle.ft_base.specs.declared.reply.Reply.TheVariants.{Fault}
use Rattle.ft_machine.specs.Answering.{queried}
use Rattle.ft_machine.specs.Counted.{counted, first_unknown, in_order}
use Rattle.ft_machine.specs.Definitions.{Defined}
use Rattle.ft_machine.specs.Machine.{Outcome, State, answered}
use Rattle.ft_machine.specs.Shown.{found_reply}

-- the text for a name of SORTBY or FILTER that is no such field's, by its word
abbrev pub unknown_field : ℕ → List ℕ
unknown_field at = codes "Unknown field at word " ++ decimal at

-- the refusal of such a name, where there is one
abbrev pub unless_unknown : Option ℕ → Reply → Reply
unless_unknown None reply = reply
unless_unknown (Some at) reply = Fault (unknown_field at)

-- the reply where these documents count: they are shown in the order that SORTBY asks for
abbrev pub counted_reply : Searching → IndexDef → List Doc → Reply
counted_reply what def docs = found_reply what def (in_order what.sort def docs)

-- What a query finds is shown. A fault of the query comes before an unknown field.
abbrev pub search_reply : Searching → List Doc → IndexDef → Query → Reply
search_reply what docs def query =
    unless_unknown (first_unknown def.fields what) (counted_reply what def (counted what query def docs))

-- what a search may give, where there is the index or none
abbrev pub searched : Option Defined → Searching → State → Outcome → Type 0
searched index what state outcome =
    queried index what.params what.query (λ def query. answered (search_reply what state.space def query) state) state outcome
