-- Where each identifier can be read, each that a plan names can.
use Rattle.zeb_search.proofs.Cited.{ℕ, ℤ, pos, Trees, PlanValue, TermOf, PairOf, NearOf, TermPlanValue, RecordNumberOf, AreReadableIdents, NamesReadable, TermNamesReadable}

module _ (trees : Trees) (db : ℤ) (readable : (n : ℕ) → AreReadableIdents trees db (pos n)) where
  term_readable : (plan : TermPlanValue) → TermNamesReadable trees db plan
  term_readable (RecordNumberOf number) = readable number
  term_readable _ = tt

  pub names_readable : (plan : PlanValue) → NamesReadable trees db plan
  names_readable (TermOf plan) = term_readable plan
  names_readable (PairOf operator left right) = (names_readable left, names_readable right)
  names_readable (NearOf index left right separation) = tt
