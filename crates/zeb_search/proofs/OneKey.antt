-- The list of a key that is the only one.
use Rattle.zeb_search.proofs.Cited.{◌≡◌, ◌∙◌, ◌∷◌, [], ℕ, ℤ, List, Result, Ok, Err, Vec, OnOk, arith, ap, get_or, length, sym, Global, State, Key, TellsHeld, Content, Posting, Format, holds_in, Works, RegFault, Work, CountsAtMost, OnStore, rows_under, subst}
use Rattle.zeb_search.proofs.SearchCountLemmas.{list_counts}

pub one_alone : {X : Type 0} (keys : List X) (key : X) → length keys ≡ 1 → key ≡ get_or keys 0 key → keys ≡ key ∷ []
one_alone [] key one is = absurd (omega arith)
one_alone (first ∷ []) key one is = ap (λ k. k ∷ []) (sym is)
one_alone (first ∷ second ∷ more) key one is = absurd (omega arith)

module _ (format : Format) (db : ℤ) (keys : List Key) (key : Key) (one : length keys ≡ 1) (is : key ≡ get_or keys 0 key) where
  module _ (rows : List Posting → ℕ) where
    rows_of_one : (content : Content) → rows (content db key) ≡ rows_under rows content db keys
    rows_of_one content = rw (one_alone keys key one is) (omega arith)

    pub one_counted : (old new : State) (result : Result (Vec Posting Global) RegFault) (before after : Work) → TellsHeld (holds_in format) old new result (λ content list. list.items ≡ content db key)
        → TellsHeld (holds_in format) old new result (λ _ list. Works 0 0 (rows list.items) 0 before after)
        → OnOk result (OnStore old new (λ trees. (content : Content) → holds_in format trees content → CountsAtMost 0 (rows_under rows content db keys) before after))
    one_counted old new (Err why) before after told works = tt
    one_counted old new (Ok list) before after told works = λ clean store content has.
        subst (λ n. CountsAtMost 0 n before after) (ap rows (told clean store content has) ∙ rows_of_one content) (list_counts (rows list.items) before after (works clean store content has))
