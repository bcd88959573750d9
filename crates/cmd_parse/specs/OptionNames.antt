-- The words that name options of FT.SEARCH (RediSearch). They are read in any case.
use Rattle.std.specs.Prelude.{Bool, ◌||◌, codes, if◌then◌else◌}
use Rattle.ft_base.specs.Names.{is_name}
use Rattle.cmd_parse.specs.Words.{Word}
use Rattle.cmd_parse.specs.declared.option_names.SearchOption.{SearchOption}
use Rattle.cmd_parse.specs.declared.option_names.SearchOption.TheVariants as option

-- options of a search that RediSearch has and this server leaves out
abbrev pub is_left_out : Word → Bool
is_left_out word =
    is_name word (codes "WITHSCORES")
    || (is_name word (codes "SCORER")
    || (is_name word (codes "EXPLAINSCORE")
    || (is_name word (codes "WITHSORTKEYS")
    || (is_name word (codes "SUMMARIZE")
    || (is_name word (codes "HIGHLIGHT")
    || (is_name word (codes "SLOP")
    || (is_name word (codes "INORDER")
    || (is_name word (codes "NOSTOPWORDS")
    || (is_name word (codes "INFIELDS")
    || is_name word (codes "LANGUAGE"))))))))))

-- the option that a word names
unfoldable pub option_of : Word → SearchOption
option_of word =
    if is_name word (codes "NOCONTENT") then option.NoContent
    else (if is_name word (codes "VERBATIM") then option.Verbatim
    else (if is_name word (codes "TIMEOUT") then option.Timeout
    else (if is_name word (codes "DIALECT") then option.Dialect
    else (if is_name word (codes "RETURN") then option.Return
    else (if is_name word (codes "INKEYS") then option.InKeys
    else (if is_name word (codes "FILTER") then option.Filter
    else (if is_name word (codes "SORTBY") then option.SortBy
    else (if is_name word (codes "LIMIT") then option.Limit
    else (if is_name word (codes "PARAMS") then option.Params
    else (if is_left_out word then option.LeftOut
    else option.Other))))))))))
