use Rattle.zeb_search.proofs.Cited.{Has, posted, occurs_in, is_kept_in}
use Rattle.zeb_search.proofs.AttributeRows.{has_row, held_by, held_by_query}
use Rattle.zeb_search.proofs.KeptValues.{kept_by_query}
use Rattle.zeb_search.proofs.laws.a_term_holds_by_its_attributes.Goals as goal

pub returns-clause-query : goal.returns-clause-query
returns-clause-query c = λ occurrences kept. held_by_query (occurs_in occurrences) (Has kept)

pub returns-clause-tables : goal.returns-clause-tables
returns-clause-tables c = λ trees content db. held_by (posted content db) (is_kept_in trees db)

pub returns-clause-rows : goal.returns-clause-rows
returns-clause-rows c = has_row

pub returns-clause-kept : goal.returns-clause-kept
returns-clause-kept c = kept_by_query
