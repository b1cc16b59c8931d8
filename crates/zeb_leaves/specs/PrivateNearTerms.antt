-- What only the contracts of private functions speak of; no public clause reaches it: the terms nearest to a text are counted leaf by leaf,
-- until there are enough of them.
use Rattle.std.specs.Prelude.{◌≡◌, ◌≢◌, ◌⊎◌, ◌++◌, ◌∷◌, ℕ, Bool, true, false, List, [], Some, None, length, reverse}
use Rattle.sqlite.specs.Order.{Row}
use Rattle.zeb_leaf.specs.declared.entries.Entry.{Entry}
use Rattle.zeb_leaves.specs.PrivateSpans.{ShowsKey, ShowsNone}
use Rattle.zeb_leaves.specs.PrivateTermReads.{CountsIn, End, IsNoText, ShowsOwn}
use Rattle.zeb_register.specs.declared.registers.TermCount.{TermCount}

module _ (n : ℕ) where
  -- n terms are counted, and the last of them isn't this one: no entry further on is of one of them
  abbrev pub AreEnough : List TermCount → (term : List ℕ) → Type 0
  AreEnough counts term =
      (length counts ≡ n) × (front : List TermCount) × (last : TermCount) × (counts ≡ front ++ last ∷ []) × (last.term ≢ term)

  -- ---- entries, one after the other

  -- each is counted, or those in front of one that there are enough for
  abbrev pub CountUntil : List Entry → (old new : List TermCount) → (enough : Bool) → Type 0
  CountUntil [] old new enough = (enough ≡ false) × (new ≡ old)
  CountUntil (e ∷ own) old new enough =
      (AreEnough old e.term × (new ≡ old) × (enough ≡ true))
      ⊎ ((¬ AreEnough old e.term) × (mid : List TermCount) × CountsIn e old mid × CountUntil own mid new enough)

  -- one that there aren't enough for has a term that isn't UTF-8
  abbrev pub MeetNoText : List Entry → (old : List TermCount) → Type 0
  MeetNoText [] old = ⊥
  MeetNoText (e ∷ own) old =
      (¬ AreEnough old e.term) × (IsNoText e ⊎ ((mid : List TermCount) × CountsIn e old mid × MeetNoText own mid))

  -- ---- leaves, from a text on

  module _ (first : List ℕ) (from : ℕ) where
    -- those that a row has from the first key on and below the end
    abbrev pub CountsRow : End → Row → (old new : List TermCount) → (enough : Bool) → Type 0
    CountsRow end row old new enough = (own : List Entry) × ShowsOwn first from end row own × CountUntil own old new enough

    abbrev pub HidesRow : End → Row → (old : List TermCount) → Type 0
    HidesRow end row old = ShowsNone row ⊎ ((own : List Entry) × ShowsOwn first from end row own × MeetNoText own old)

    -- below the own key of the next row there are enough, or there aren't
    abbrev pub StopsAt : (term : List ℕ) (block : ℕ) → Row → (old new : List TermCount) → Type 0
    StopsAt term block row old new =
        CountsRow (Some (term, block)) row old new true ⊎ (CountsRow (Some (term, block)) row old new false × AreEnough new term)

    abbrev pub GoesPast : (term : List ℕ) (block : ℕ) → Row → (old new : List TermCount) → Type 0
    GoesPast term block row old new = CountsRow (Some (term, block)) row old new false × ¬ AreEnough new term

  -- the rows of all keys from the first on are counted, or those in front of one that there are enough for
  abbrev pub CountRows : (first : List ℕ) → ℕ → Row → List Row → (old new : List TermCount) → Type 0
  CountRows first from row [] old new = (enough : Bool) × CountsRow first from None row old new enough
  CountRows first from row (next ∷ rows) old new =
      (term : List ℕ) × (block : ℕ) × ShowsKey next term block
      × (StopsAt first from term block row old new
      ⊎ ((mid : List TermCount) × GoesPast first from term block row old mid × CountRows term block next rows mid new))

  -- one that there aren't enough for shows no entries, or such an entry that isn't UTF-8
  abbrev pub HideRows : (first : List ℕ) → ℕ → Row → List Row → (old : List TermCount) → Type 0
  HideRows first from row [] old = HidesRow first from None row old
  HideRows first from row (next ∷ rows) old =
      ((term : List ℕ) (block : ℕ) → ¬ ShowsKey next term block)
      ⊎ ((term : List ℕ) × (block : ℕ) × ShowsKey next term block
      × (HidesRow first from (Some (term, block)) row old
      ⊎ ((mid : List TermCount) × GoesPast first from term block row old mid × HideRows term block next rows mid)))

  -- ---- leaves, below a text

  -- no entry of a key below this one is of one of n terms that are counted
  abbrev pub AreEnoughAt : List TermCount → (term : List ℕ) → ℕ → Type 0
  AreEnoughAt counts term block = AreEnough counts term ⊎ ((block ≡ 0) × (length counts ≡ n))

  -- a row's entries from its own key on and below the end, the greatest first
  module _ (end : List ℕ) (below : ℕ) (term : List ℕ) (block : ℕ) where
    abbrev pub CountsDown : Row → (old new : List TermCount) → (enough : Bool) → Type 0
    CountsDown row old new enough =
        (own : List Entry) × ShowsOwn term block (Some (end, below)) row own × CountUntil (reverse own) old new enough

    abbrev pub HidesDown : Row → (old : List TermCount) → Type 0
    HidesDown row old =
        ShowsNone row ⊎ ((own : List Entry) × ShowsOwn term block (Some (end, below)) row own × MeetNoText (reverse own) old)

    -- at the row's own key there are enough, or there aren't
    abbrev pub StopsDown : Row → (old new : List TermCount) → Type 0
    StopsDown row old new = CountsDown row old new true ⊎ (CountsDown row old new false × AreEnoughAt new term block)

    abbrev pub GoesDown : Row → (old new : List TermCount) → Type 0
    GoesDown row old new = CountsDown row old new false × ¬ AreEnoughAt new term block

  -- the rows of all keys below the end are counted, the greatest first, or those in front of one that there are enough for
  abbrev pub CountBelow : (end : List ℕ) → ℕ → List Row → (old new : List TermCount) → Type 0
  CountBelow end below [] old new = ((end ≡ []) × (below ≡ 0)) × (new ≡ old)
  CountBelow end below (row ∷ rows) old new =
      (term : List ℕ) × (block : ℕ) × ShowsKey row term block
      × (StopsDown end below term block row old new
      ⊎ ((mid : List TermCount) × GoesDown end below term block row old mid × CountBelow term block rows mid new))

  -- one that there aren't enough for shows no entries, or such an entry that isn't UTF-8; or there are keys that no row covers
  abbrev pub HideBelow : (end : List ℕ) → ℕ → List Row → (old : List TermCount) → Type 0
  HideBelow end below [] old = ¬ ((end ≡ []) × (below ≡ 0))
  HideBelow end below (row ∷ rows) old =
      ((term : List ℕ) (block : ℕ) → ¬ ShowsKey row term block)
      ⊎ ((term : List ℕ) × (block : ℕ) × ShowsKey row term block
      × (HidesDown end below term block row old
      ⊎ ((mid : List TermCount) × GoesDown end below term block row old mid × HideBelow term block rows mid)))
