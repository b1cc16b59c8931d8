use Rattle.zeb_search.proofs.Cited.{rules, true, false, ◌≡◌, ◌↔◌, ◌∙◌, ◌++◌, ◌∷◌, [], ℕ, List, ap, refl, sym, subst, inl, inr, state, Key, key_in, NoRows, EntryDict, RegisterDict, IsWanted, NamesEntry, StandTogether, TermsRise}
use Rattle.zeb_search.proofs.MetTerms.{keys_met, named_met}
use Rattle.zeb_search.proofs.SearchCountLemmas.{rows_for, rows_still}
use Rattle.zeb_search.proofs.SearchesInTurn.{searches_failed, searches_handed, searches_so, searches_starved, searches_still}
use Rattle.zeb_search.proofs.keys.keys_wanted.Goals as goal

pub returns-in_err-term : goal.returns-in_err-term
returns-in_err-term g c = searches_starved c.from_residual.ensures.1

pub returns-in_err-push : goal.returns-in_err-push
returns-in_err-push g c = searches_starved c.from_residual-in_err-push.ensures.1

pub returns-in-Some : goal.returns-in-Some
returns-in-Some g c =
    let of = c.args.of in
    let wanted = c.args.wanted in
    let one : (term : List ℕ) → IsWanted wanted term ↔ (term ≡ c.in-Some.term) = search rules in
    let named : NamesEntry wanted = search rules in
    let key : Key = key_in of.index of.register c.in-Some.term in
    let keys : c.push.new.self.items ≡ key ∷ [] = c.in_ok-push.ensures.items ∙ ap (λ (l : List Key). l ++ key ∷ []) c.new-keys.ensures.items in
    searches_still
    (λ store. named_met of wanted g.L.Layout.format (state g.S.Store c.args.connection.now).now.trees (record { keys = c.push.new.self; are_neighbours = false }) c.in-Some.term named one keys (λ is. let e : false ≡ true = is in cc))
    (λ content has. rows_still (EntryDict g.L.Layout.row_work content of.db.0 (NamesEntry wanted) of.index of.register) NoRows c.args.work.now (inl (named, refl)) refl)

pub returns-in_err-terms : goal.returns-in_err-terms
returns-in_err-terms g c =
    let unnamed : ¬ NamesEntry c.args.wanted = search rules in
    searches_handed c.in_err-terms.ensures c.from_residual-in_err-terms.ensures.1 (λ store hidden. (unnamed, hidden))

pub returns-in_err-keys : goal.returns-in_err-keys
returns-in_err-keys g c = searches_failed c.in_ok-terms.ensures c.from_residual-in_err-keys.ensures.1

pub returns : goal.returns
returns g c =
    let of = c.args.of in
    let wanted = c.args.wanted in
    let row_work = g.L.Layout.row_work in
    let unnamed : ¬ NamesEntry wanted = search rules in
    searches_so c.in_ok-terms.ensures
    (λ store met. keys_met of wanted g.L.Layout.format (state g.S.Store c.args.connection.now).now.trees c.in_ok-terms.terms.items (record { keys = c.in_ok-keys.keys; are_neighbours = c.stand_together-are_neighbours.result }) unnamed met
    c.in_ok-keys.ensures (λ is. subst (StandTogether wanted) c.deref.ensures.value (c.stand_together-are_neighbours.ensures (subst TermsRise (sym c.deref.ensures.value) met.rising) is)))
    (λ content has met. rows_for (RegisterDict row_work content of.db.0 of.index of.register) (EntryDict row_work content of.db.0 (NamesEntry wanted) of.index of.register) NoRows c.args.work.now c.terms_wanted.new.work
    (λ n all. inr (unnamed, all)))
