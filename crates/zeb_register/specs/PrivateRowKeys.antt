-- What only the contracts of private functions speak of; no public clause reaches it.
-- Rows of `dict` beside the postings of their keys.
use Rattle.std.specs.Prelude.{◌≡◌, ◌≢◌, ⊤, ℕ, pos, List, [], ◌∷◌, ◌++◌, map, drop}
use Rattle.std.specs.List.Sorted.{IsStrictlySortedBy}
use Rattle.sqlite.specs.declared.types.Value.TheVariants.{Int}
use Rattle.sqlite.specs.Order.{Row}
use Rattle.zeb_blocks.specs.declared.postings.Posting.{Posting}
use Rattle.zeb_keys.specs.declared.keys.Key.{Key}
use Rattle.zeb_register.specs.declared.expected.KeyPosting.{KeyPosting}
use Rattle.zeb_register.specs.Expected.{key_posting_order}
use Rattle.zeb_register.specs.Occurring.{IsCount}
use Rattle.zeb_register.specs.PrivateRowExpected.{key_shown, with_key}
use Rattle.zeb_register.specs.PrivateRowTerms.{IsInRecord}

-- no posting of the key stands at the front
abbrev pub BeginsOther : Key → List KeyPosting → Type 0
BeginsOther key [] = ⊤
BeginsOther key (p ∷ rest) = p.key ≢ key

-- the run is all that stands before the rest of the key
abbrev pub IsFrontOf : Key → List Posting → List KeyPosting → List KeyPosting → Type 0
IsFrontOf key run postings rest = (postings ≡ map (with_key key) run ++ rest) × BeginsOther key rest

-- the postings of the key from a place on end there, and where they rise so many records have one of them
abbrev pub IsRunFrom : Key → List KeyPosting → ℕ → ℕ → ℕ → Type 0
IsRunFrom key postings at end records =
    (run : List Posting) × IsFrontOf key run (drop at postings) (drop end postings)
    × (IsStrictlySortedBy key_posting_order postings → IsCount (IsInRecord run) records)

abbrev pub dict_rest : Key → ℕ → Row
dict_rest key records = key_shown key ++ Int (pos records) ∷ []

-- the row shows the key of the postings that stand before the rest, and how many records have one of them
abbrev pub IsRunBefore : Row → List KeyPosting → List KeyPosting → Type 0
IsRunBefore row postings rest =
    (key : Key) × (records : ℕ) × (run : List Posting) × (row ≡ dict_rest key records) × (run ≢ []) × IsCount (IsInRecord run) records
    × IsFrontOf key run postings rest
