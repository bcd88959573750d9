-- How contracts see what the code holds of a search: words that are lent as the words that they are.
use Rattle.std.specs.Prelude.{map, option_map}
use Rattle.cmd_parse.specs.Filters.{Filter}
use Rattle.cmd_parse.specs.Options.{Sort}
use Rattle.cmd_parse.specs.Given.{Given}
use Rattle.cmd_parse.specs.Searching.{Searching}
use Rattle.cmd_parse.specs.declared.options.Given.{Given as Options}
use Rattle.cmd_parse.specs.declared.option_words.FilterSpec.{FilterSpec}
use Rattle.cmd_parse.specs.declared.option_words.SortSpec.{SortSpec}
use Rattle.cmd_parse.specs.declared.search.SearchSpec.{SearchSpec}

abbrev pub filter_of : FilterSpec → Filter
filter_of filter = record { at = filter.at; field = filter.field.now; interval = filter.interval }

abbrev pub sort_of : SortSpec → Sort
sort_of sort = record { at = sort.at; field = sort.field.now; descending = sort.descending }

abbrev pub given_of : Options → Given
given_of given = record {
  no_content = given.no_content;
  verbatim = given.verbatim;
  timeout = given.timeout;
  dialect = given.dialect;
  fields = given.fields;
  keys = given.keys;
  filters = map filter_of given.filters;
  sort = option_map sort_of given.sort;
  window = given.window;
  params = given.params;
}

abbrev pub search_of : SearchSpec → Searching
search_of spec = record {
  index = spec.index.now;
  query = spec.query.now;
  no_content = spec.no_content;
  fields = spec.fields;
  keys = spec.keys;
  filters = map filter_of spec.filters;
  sort = option_map sort_of spec.sort;
  offset = spec.offset;
  num = spec.num;
  params = spec.params;
}
