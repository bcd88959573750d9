-- What a caller may rely on of what FT.AGGREGATE asks.
use Rattle.std.specs.Prelude.{◌≡◌, List, [], slice_index_or, IfSome}
use Rattle.cmd_parse.specs.Aggregating.{Aggregating}
use Rattle.cmd_parse.specs.LawfulCursor.{IsLawfulCursor}
use Rattle.cmd_parse.specs.LawfulSearch.{AreParams}
use Rattle.cmd_parse.specs.Words.{Word}

-- What an aggregate asks is made of these words.
pub record IsLawfulAggregate (words : List Word) (what : Aggregating) : Type 0 where
  pub index : what.index ≡ slice_index_or words 1 []
  pub query : what.query ≡ slice_index_or words 2 []
  pub params : AreParams words what.params
  pub cursor : IfSome what.cursor IsLawfulCursor
