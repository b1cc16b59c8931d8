use Rattle.zeb_register.proofs.FormatLemmas.{registers_have_terms}
use Rattle.zeb_register.proofs.OccurringLemmas.{one_terms, one_totals, terms_as, totals_as}
use Rattle.zeb_register.proofs.occurring.occurrences_have_one_list_of_terms.Goals as goal

pub returns-clause-terms : goal.returns-clause-terms
returns-clause-terms g c = one_terms g.O.OccurrenceSet.has

pub returns-clause-totals : goal.returns-clause-totals
returns-clause-totals g c = one_totals g.O.OccurrenceSet.has

pub returns-clause-told : goal.returns-clause-told
returns-clause-told g c = terms_as g.O.OccurrenceSet.has g.P.OccurrenceSet.has

pub returns-clause-totals_told : goal.returns-clause-totals_told
returns-clause-totals_told g c = totals_as g.O.OccurrenceSet.has g.P.OccurrenceSet.has

pub returns-clause-held : goal.returns-clause-held
returns-clause-held g c = registers_have_terms
