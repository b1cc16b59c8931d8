-- How entries and rows are counted until there are enough terms, one by one.
use Rattle.zeb_leaves.proofs.Cited.{Row, ◌≡◌, ◌∙◌, ◌+◌, ◌<◌, ◌≤◌, ◌++◌, ◌∷◌, ℕ, true, List, Some, [], drop, length, refl, sym, ap, subst, inl, inr, Entry, TermCount, Bool, get_or, drop_all, drop_more, AreEnough, CountBelow, CountRows, CountUntil, GoesDown, GoesPast, HideBelow, HideRows, HidesDown, HidesRow, MeetNoText, StopsAt, StopsDown, ShowsKey, CountsIn, IsNoText}

standing : {X : Type 0} (xs : List X) (i : ℕ) (x : X) → i < length xs → x ≡ get_or xs i x → drop i xs ≡ x ∷ drop (i + 1) xs
standing xs i x within is = drop_more xs i x within ∙ ap (λ r. r ∷ drop (i + 1) xs) (sym is)

-- behind the last of all rows none is left
pub left : (rows rest : List Row) (i : ℕ) → length rows ≤ i → rest ≡ [] → drop i rows ++ rest ≡ []
left rows rest i past none = ap (λ (l : List Row). l ++ rest) (drop_all i rows past) ∙ none

module _ (n : ℕ) where
  module _ (own : List Entry) (i : ℕ) (e : Entry) (within : i < length own) (is : e ≡ get_or own i e) (old : List TermCount) where
    here : drop i own ≡ e ∷ drop (i + 1) own
    here = standing own i e within is

    pub stop_here : AreEnough n old e.term → CountUntil n (drop i own) old old true
    stop_here enough = subst (λ (l : List Entry). CountUntil n l old old true) (sym here) (inl (enough, refl, refl))

    pub no_text_here : (¬ AreEnough n old e.term) → IsNoText e → MeetNoText n (drop i own) old
    no_text_here less bad = subst (λ (l : List Entry). MeetNoText n l old) (sym here) (less, inl bad)

    module _ (less : ¬ AreEnough n old e.term) (mid : List TermCount) (counts : CountsIn e old mid) where
      pub count_here : (new : List TermCount) (enough : Bool) → CountUntil n (drop (i + 1) own) mid new enough → CountUntil n (drop i own) old new enough
      count_here new enough more = subst (λ (l : List Entry). CountUntil n l old new enough) (sym here) (inr (less, mid, counts, more))

      pub no_text_later : MeetNoText n (drop (i + 1) own) mid → MeetNoText n (drop i own) old
      no_text_later more = subst (λ (l : List Entry). MeetNoText n l old) (sym here) (less, inr (mid, counts, more))

  module _ (first : List ℕ) (from : ℕ) (row next : Row) (rows rest : List Row) (i : ℕ) (within : i < length rows) (is : next ≡ get_or rows i next) (old : List TermCount) where
    next_row : drop i rows ++ rest ≡ next ∷ (drop (i + 1) rows ++ rest)
    next_row = ap (λ (l : List Row). l ++ rest) (standing rows i next within is)

    pub keyless_row : ((term : List ℕ) (block : ℕ) → ¬ ShowsKey next term block) → HideRows n first from row (drop i rows ++ rest) old
    keyless_row none = subst (λ (l : List Row). HideRows n first from row l old) (sym next_row) (inl none)

    module _ (term : List ℕ) (block : ℕ) (key : ShowsKey next term block) where
      pub stop_row : (new : List TermCount) → StopsAt n first from term block row old new → CountRows n first from row (drop i rows ++ rest) old new
      stop_row new stops = subst (λ (l : List Row). CountRows n first from row l old new) (sym next_row) (term, block, key, inl stops)

      pub hidden_row : HidesRow n first from (Some (term, block)) row old → HideRows n first from row (drop i rows ++ rest) old
      hidden_row bad = subst (λ (l : List Row). HideRows n first from row l old) (sym next_row) (inr (term, block, key, inl bad))

      module _ (mid : List TermCount) (goes : GoesPast n first from term block row old mid) where
        pub past_row : (new : List TermCount) → CountRows n term block next (drop (i + 1) rows ++ rest) mid new → CountRows n first from row (drop i rows ++ rest) old new
        past_row new more = subst (λ (l : List Row). CountRows n first from row l old new) (sym next_row) (term, block, key, inr (mid, goes, more))

        pub hidden_past : HideRows n term block next (drop (i + 1) rows ++ rest) mid → HideRows n first from row (drop i rows ++ rest) old
        hidden_past bad = subst (λ (l : List Row). HideRows n first from row l old) (sym next_row) (inr (term, block, key, inr (mid, goes, bad)))

  module _ (end : List ℕ) (below : ℕ) (row : Row) (rows rest : List Row) (i : ℕ) (within : i < length rows) (is : row ≡ get_or rows i row) (old : List TermCount) where
    this_row : drop i rows ++ rest ≡ row ∷ (drop (i + 1) rows ++ rest)
    this_row = ap (λ (l : List Row). l ++ rest) (standing rows i row within is)

    pub keyless_below : ((term : List ℕ) (block : ℕ) → ¬ ShowsKey row term block) → HideBelow n end below (drop i rows ++ rest) old
    keyless_below none = subst (λ (l : List Row). HideBelow n end below l old) (sym this_row) (inl none)

    module _ (term : List ℕ) (block : ℕ) (key : ShowsKey row term block) where
      pub stop_below : (new : List TermCount) → StopsDown n end below term block row old new → CountBelow n end below (drop i rows ++ rest) old new
      stop_below new stops = subst (λ (l : List Row). CountBelow n end below l old new) (sym this_row) (term, block, key, inl stops)

      pub hidden_here : HidesDown n end below term block row old → HideBelow n end below (drop i rows ++ rest) old
      hidden_here bad = subst (λ (l : List Row). HideBelow n end below l old) (sym this_row) (inr (term, block, key, inl bad))

      module _ (mid : List TermCount) (goes : GoesDown n end below term block row old mid) where
        pub down_past : (new : List TermCount) → CountBelow n term block (drop (i + 1) rows ++ rest) mid new → CountBelow n end below (drop i rows ++ rest) old new
        down_past new more = subst (λ (l : List Row). CountBelow n end below l old new) (sym this_row) (term, block, key, inr (mid, goes, more))

        pub hidden_further : HideBelow n term block (drop (i + 1) rows ++ rest) mid → HideBelow n end below (drop i rows ++ rest) old
        hidden_further bad = subst (λ (l : List Row). HideBelow n end below l old) (sym this_row) (inr (term, block, key, inr (mid, goes, bad)))
