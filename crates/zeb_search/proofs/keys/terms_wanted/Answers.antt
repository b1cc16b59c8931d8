use Rattle.zeb_search.proofs.Cited.{◌≡◌, ◌∙◌, ◌∷◌, ◌+◌, ◌*◌, [], List, None, Some, ap, arith, length, length-append, refl, sym, subst, string_bytes, state, Has, TermCount, NoRows, RegisterDict, HasMet, LeadsTo, TermsRise, all_told}
use Rattle.zeb_register.proofs.FormatLemmas.{registers_have_terms}
use Rattle.zeb_search.proofs.DictCounts.{pages_counted, within_register}
use Rattle.zeb_search.proofs.MetPages.{MetUpTo, all_met, last_met, met_of, more_of, more_rises, next_met, none_met}
use Rattle.zeb_search.proofs.PageCalls.{page_searched}
use Rattle.zeb_search.proofs.SearchCountLemmas.{if_ok_counted, rows_still, rows_within}
use Rattle.zeb_search.proofs.SearchesInTurn.{looks_handed_behind, looks_searched, searches_behind, searches_failed_behind, searches_starved, searches_still}
use Rattle.zeb_search.proofs.keys.terms_wanted.Goals as goal

pub returns-then-spans_register : goal.returns-then-spans_register
returns-then-spans_register g c =
    let of = c.args.of in
    let format = g.L.Layout.format in
    let old = state g.S.Store c.args.connection.now in
    let new = state g.S.Store c.terms_of.new.conn in
    looks_searched c.terms_of.ensures.units c.terms_of.ensures.no_work
    (if_ok_counted c.terms_of.result format g.L.Layout.row_work of.db.0 of.index of.register old new c.args.work.now c.terms_of.new.work (all_told format of old new c.terms_of.result c.terms_of.ensures.units).0 c.terms_of.ensures.work)
    (λ store hidden. hidden) (λ store terms. all_met format old.now.trees of.db.0 of.index of.register c.args.wanted terms.items)

pub returns-in_err-start : goal.returns-in_err-start
returns-in_err-start g c = searches_starved c.from_residual.ensures.1

pub pages-init : goal.pages-init
pages-init g c =
    let of = c.args.of in
    let format = g.L.Layout.format in
    let row_work = g.L.Layout.row_work in
    let trees = (state g.S.Store c.args.connection.now).now.trees in
    let start = string_bytes c.in_ok-start.start in
    let terms = c.new-terms.result.items in
    record {
      searched = searches_still
          (λ store. subst (λ (l : List TermCount). MetUpTo format trees of.db.0 of.index of.register c.args.wanted l start) (sym c.new-terms.ensures.items)
          (none_met format trees of.db.0 of.index of.register c.args.wanted start c.in_ok-start.ensures))
          (λ content has. rows_still (λ n. n ≡ row_work * length terms) NoRows c.args.work.now (omega (arith, ap (λ (l : List TermCount). row_work * length l) c.new-terms.ensures.items)) refl);
      some = omega (arith);
    }

pub pages-preserved : goal.pages-preserved
pages-preserved g c =
    let of = c.args.of in
    let format = g.L.Layout.format in
    let row_work = g.L.Layout.row_work in
    let trees = (state g.S.Store c.args.connection.now).now.trees in
    let page = c.in_ok-page.page in
    let terms = c.pages.terms.items in
    let all = c.append.new.self.items in
    let start = string_bytes c.pages.start in
    let leads : LeadsTo c.args.wanted page.items (Some c.in-Some.next) =
    subst (LeadsTo c.args.wanted page.items) c.in-Some.is (subst (λ (l : List TermCount). LeadsTo c.args.wanted l c.in_ok-next.next) c.deref.ensures.value c.in_ok-next.ensures) in
    record {
      searched = searches_behind c.pages.invariant.searched
          (page_searched format row_work of c.as_str.result.now start c.pages.page_terms (state g.S.Store c.pages.connection) (state g.S.Store c.terms_from.new.conn) c.pages.work c.terms_from.new.work page c.as_str.ensures.value
          c.in_ok-page.ensures.units c.terms_from.ensures.no_work c.in_ok-page.ensures.work)
          (λ store met listed. subst (λ (l : List TermCount). MetUpTo format trees of.db.0 of.index of.register c.args.wanted l (string_bytes c.in-Some.next)) (sym c.in_ok-append.ensures.items)
          (next_met format trees of.db.0 of.index of.register c.args.wanted start c.pages.page_terms c.pages.invariant.some terms page.items listed met c.in-Some.next leads))
          (λ content has met listed. pages_counted row_work terms page.items all c.in_ok-append.ensures.items c.args.work.now c.pages.work c.terms_from.new.work);
      some = omega (arith, c.pages.invariant.some);
    }

pub pages-smaller : goal.pages-smaller
pages-smaller g c =
    let page = c.in_ok-page.page.items in
    let terms = c.pages.terms in
    let leads : LeadsTo c.args.wanted page (Some c.in-Some.next) =
    subst (LeadsTo c.args.wanted page) c.in-Some.is (subst (λ (l : List TermCount). LeadsTo c.args.wanted l c.in_ok-next.next) c.deref.ensures.value c.in_ok-next.ensures) in
    let some : length page ≡ length leads.0 + 1 = ap length leads.2 ∙ length-append leads.0 (leads.1 ∷ []) in
    let more : length c.append.new.self.items ≡ length terms.items + length page = ap length c.in_ok-append.ensures.items ∙ length-append terms.items page in
    omega (arith, some, more, terms.ok.0, terms.ok.1, terms.small)

pub returns-in-None : goal.returns-in-None
returns-in-None g c =
    let of = c.args.of in
    let db = of.db.0 in
    let index = of.index in
    let register = of.register in
    let format = g.L.Layout.format in
    let row_work = g.L.Layout.row_work in
    let trees = (state g.S.Store c.args.connection.now).now.trees in
    let page = c.in_ok-page.page in
    let terms = c.pages.terms.items in
    let all = c.append.new.self.items in
    let joined = c.in_ok-append.ensures.items in
    let start = string_bytes c.pages.start in
    let n = c.pages.page_terms in
    let some = c.pages.invariant.some in
    let wanted = c.args.wanted in
    let ends : LeadsTo wanted page.items None = subst (LeadsTo wanted page.items) c.in-None.is (subst (λ (l : List TermCount). LeadsTo wanted l c.in_ok-next.next) c.deref.ensures.value c.in_ok-next.ensures) in
    searches_behind c.pages.invariant.searched
    (page_searched format row_work of c.as_str.result.now start n (state g.S.Store c.pages.connection) (state g.S.Store c.terms_from.new.conn) c.pages.work c.terms_from.new.work page c.as_str.ensures.value
    c.in_ok-page.ensures.units c.terms_from.ensures.no_work c.in_ok-page.ensures.work)
    (λ store met listed. subst (HasMet format trees db index register wanted) (sym joined) (last_met format trees db index register wanted start n some terms page.items listed met ends))
    (λ content has met listed one two.
    let every = registers_have_terms format trees content db index register has in
    let up : TermsRise all = subst TermsRise (sym joined) (more_rises format trees db index register wanted start n some terms page.items listed met) in
    rows_within (λ m. m ≡ row_work * length all) (RegisterDict row_work content db index register) NoRows c.args.work.now c.terms_from.new.work
    (λ m is. within_register row_work content db index register all every.0 m up
    (λ t there. met_of format trees db index register wanted t (more_of format trees db index register wanted start n some terms page.items listed met t (subst (λ (l : List TermCount). Has l t) joined there)) content has) every.1 is)
    (pages_counted row_work terms page.items all joined c.args.work.now c.pages.work c.terms_from.new.work one two))

pub returns-in_err-page : goal.returns-in_err-page
returns-in_err-page g c = looks_handed_behind c.pages.invariant.searched c.in_err-page.ensures.units c.terms_from.ensures.no_work c.from_residual-in_err-page.ensures.1 (λ store met hidden. (hidden.term, hidden.hidden))

pub returns-in_err-next : goal.returns-in_err-next
returns-in_err-next g c =
    searches_failed_behind c.pages.invariant.searched
    (page_searched g.L.Layout.format g.L.Layout.row_work c.args.of c.as_str.result.now (string_bytes c.pages.start) c.pages.page_terms (state g.S.Store c.pages.connection) (state g.S.Store c.terms_from.new.conn) c.pages.work
    c.terms_from.new.work c.in_ok-page.page c.as_str.ensures.value c.in_ok-page.ensures.units c.terms_from.ensures.no_work c.in_ok-page.ensures.work) c.from_residual-in_err-next.ensures.1

pub returns-in_err-append : goal.returns-in_err-append
returns-in_err-append g c =
    searches_failed_behind c.pages.invariant.searched
    (page_searched g.L.Layout.format g.L.Layout.row_work c.args.of c.as_str.result.now (string_bytes c.pages.start) c.pages.page_terms (state g.S.Store c.pages.connection) (state g.S.Store c.terms_from.new.conn) c.pages.work
    c.terms_from.new.work c.in_ok-page.page c.as_str.ensures.value c.in_ok-page.ensures.units c.terms_from.ensures.no_work c.in_ok-page.ensures.work) c.from_residual-in_err-append.ensures.1
