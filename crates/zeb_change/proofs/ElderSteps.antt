-- What the records of a fold found kept under their identifiers.
use Rattle.zeb_change.proofs.Cited.{◌≡◌, ℕ, ℤ, List, None, Some, Result, Ok, Trees, first_fault, Split, Directive, Refusal, FindsWhole, FirstFindsWhole, KeepsWhole, first_record, ident_in}
use Rattle.zeb_change.proofs.Elders.{is_so}

module _ (profile : List Directive) (trees : Trees) (db : ℤ) where
  -- what is kept under its identifier is whole
  abbrev pub FoundWhole : List ℕ → Type 0
  FoundWhole bytes = (ident : List ℕ) → first_fault bytes ≡ None → ident_in profile bytes ≡ Ok ident → KeepsWhole profile trees db ident

  finds : {T : Type 0} (result : Result T Refusal) (bytes : List ℕ) → FoundWhole bytes → FindsWhole profile trees db bytes result
  finds result bytes found ident whole named = is_so _ result (found ident whole named)

  pub files_find : {T : Type 0} (result : Result T Refusal) (splits : List Split) → ((bytes : List ℕ) → first_record splits ≡ Some bytes → FoundWhole bytes) → FirstFindsWhole profile trees db splits result
  files_find result splits found bytes is = finds result bytes (found bytes is)
