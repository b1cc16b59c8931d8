use Rattle.zeb_search.proofs.Cited.{◌≤◌, ◌-◌, ◌^◌, Vec, Ok, length, string_bytes, state, Global, Trees, TermCount, HidesSome, Searches}
use Rattle.zeb_search.proofs.DictCounts.{CountsTerms}
use Rattle.zeb_search.proofs.MetPages.{MetUpTo}
use Rattle.zeb_search.proofs.keys.terms_wanted.Given as goal

abbrev pub invariant-pages : goal.invariant-pages
invariant-pages g l =
    let format = g.L.Layout.format in
    let row_work = g.L.Layout.row_work in
    let of = l.fn.of in
    record {
      searched : Searches format row_work (λ trees. HidesSome format trees of.db.0 of.index of.register)
          (λ (trees : Trees) (terms : Vec TermCount Global). MetUpTo format trees of.db.0 of.index of.register l.wanted terms.items (string_bytes l.start))
          (λ _. CountsTerms row_work l.terms.items) (state g.S.Store l.fn.connection) (state g.S.Store l.connection) l.fn.work l.work (Ok l.terms);
      some : 1 ≤ l.page_terms;
    }

-- a page that leads to another one has some term
abbrev pub decreases-pages : goal.decreases-pages
decreases-pages g l = 2 ^ 63 - length l.terms.items
