-- What only the contracts of private functions speak of; no public clause reaches it.
-- The postings that are P, as a list that rises.
use Rattle.std.specs.Prelude.{List}
use Rattle.zeb_register.specs.Content.{posting_cmp, Posting}
use Rattle.zeb_search.specs.Lists.{AreJust}

-- just the postings that are P, rising
abbrev pub ArePostings : (P : Posting → Type 0) → List Posting → Type 0
ArePostings P = AreJust posting_cmp P
