-- A page of a register's terms that a search asks for.
use Rattle.zeb_search.proofs.Cited.{◌≡◌, ◌*◌, ℕ, List, Vec, Ok, length, refl, subst, Global, Trees, State, RegisterOf, TermCount, Work, Format, HidesFrom, ListsFrom, TellsFrom, Works, Searches}
use Rattle.zeb_search.proofs.DictCounts.{CountsTerms}
use Rattle.zeb_search.proofs.SearchCountLemmas.{terms_count}
use Rattle.zeb_search.proofs.SearchesInTurn.{as_searched}

-- `text` is the start as the call is given it
pub page_searched : (format : Format) (row_work : ℕ) (of : RegisterOf) (text start : List ℕ) (n : ℕ) (a b : State) (v w : Work) (page : Vec TermCount Global) → text ≡ start
    → TellsFrom format of text n a b (Ok page) → (row_work ≡ 0 → w ≡ v) → Works (row_work * length page.items) 0 0 0 v w
    → Searches format row_work (λ trees. HidesFrom format trees of.db.0 of.index of.register start n)
    (λ (trees : Trees) (list : Vec TermCount Global). ListsFrom format trees of.db.0 of.index of.register start n list.items) (λ _. CountsTerms row_work page.items) a b v w (Ok page)
page_searched format row_work of text start n a b v w page same looks none works =
    as_searched (subst (λ (t : List ℕ). TellsFrom format of t n a b (Ok page)) same looks) none
    (λ clean store content has. (row_work * length page.items, 0, refl, refl, terms_count (row_work * length page.items) v w works))
