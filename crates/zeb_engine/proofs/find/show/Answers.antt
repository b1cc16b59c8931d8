use Rattle.zeb_engine.proofs.Cited.{rules, ◌≡◌, ◌∙◌, ◌+◌, ◌++◌, ◌∷◌, [], ℕ, List, map, string_bytes, Ok, arith, ap, get_or, refl, subst, sym, take, pos, state, Global, Option, String, Trees, IsIdentOf, map-append, has_ident_in, Hit, AreShown, take_whole}
use Rattle.zeb_register.specs.Clauses.{TellsByNumber}
use Rattle.zeb_search.proofs.SearchesInTurn.{searches_behind, searches_handed_behind, searches_so, searches_starved, searches_still}
use Rattle.zeb_engine.proofs.AskingInTurn.{SearchesUncounted, looks_uncounted, searched_through, searches_damaged}
use Rattle.zeb_engine.proofs.Showing.{hidden_shown, ident_stored, none_shown, shown_more}
use Rattle.zeb_engine.proofs.find.show.Goals as goal

abbrev told : Hit → ℕ × List ℕ
told hit = (hit.sysno, string_bytes hit.ident)

pub returns-in_err-shown : goal.returns-in_err-shown
returns-in_err-shown g c = searched_through (searches_starved c.from_residual.ensures.1)

pub loop-number-init : goal.loop-number-init
loop-number-init g c = record { count = search rules; room = search rules; searched = searches_still (λ store. search rules) (λ content has. tt) }

pub loop-number-preserved : goal.loop-number-preserved
loop-number-preserved g c =
    let trees = (state g.S.Store c.args.connection.now).now.trees in
    let db = c.args.database.0 in
    let numbers = c.args.numbers.now in
    let index = c.loop-number.number-index in
    let number = get_or numbers index 0 in
    record {
      count = search rules;
      room = search rules;
      searched = searches_behind c.loop-number.invariant.searched (looks_uncounted _ c.in_ok-ident.ensures) (λ store before found.
          let value = ident_stored trees db number c.in_ok-ident.field-0 c.in-Some.ident found.small found.large c.in-Some.is in
          let more = shown_more trees db numbers index number (map told c.loop-number.shown.items) c.in-Some.ident c.loop-number-test.true refl value before in
          let all : map told c.push_reserved.new.self.items ≡ map told c.loop-number.shown.items ++ told (record { sysno = number; ident = c.in-Some.ident }) ∷ [] =
          ap (map told) c.push_reserved.ensures.items ∙ map-append told c.loop-number.shown.items (record { sysno = number; ident = c.in-Some.ident } ∷ []) in
          subst (AreShown (has_ident_in trees db) (take (index + 1) numbers)) (sym all) more) (λ content has before found counts more. tt);
    }

pub returns : goal.returns
returns g c =
    let trees = (state g.S.Store c.args.connection.now).now.trees in
    let whole = take_whole c.args.numbers.now c.loop-number.number-index (omega (arith, c.loop-number-test.false)) in
    searched_through (searches_so c.loop-number.invariant.searched (λ store shows. subst (λ numbers. AreShown (has_ident_in trees c.args.database.0) numbers (map told c.loop-number.shown.items)) whole shows) (λ content has shows counts. tt))

pub returns-in_default : goal.returns-in_default
returns-in_default g c =
    let old = state g.S.Store c.args.connection.now in
    let db = c.args.database.0 in
    let index = c.loop-number.number-index in
    let number = get_or c.args.numbers.now index 0 in
    let looked : SearchesUncounted (λ t. ⊥) (λ (t : Trees) (found : Option (String Global)). TellsByNumber number (IsIdentOf t db (pos number)) found) old (state g.S.Store c.ident_of.new.conn) (Ok c.in_ok-ident.field-0) =
    searches_behind c.loop-number.invariant.searched (looks_uncounted _ c.in_ok-ident.ensures) (λ store before found. found) (λ content has before found counts more. tt) in
    searched_through (searches_damaged looked (λ store found small. none_shown old.now.trees db c.args.numbers.now index number c.in_ok-ident.field-0 c.loop-number-test.true refl small found.small c.in_default.is))

pub returns-in_err-ident : goal.returns-in_err-ident
returns-in_err-ident g c =
    let trees = (state g.S.Store c.args.connection.now).now.trees in
    let index = c.loop-number.number-index in
    searched_through (searches_handed_behind c.loop-number.invariant.searched (looks_uncounted _ c.in_err-ident.ensures) c.from_residual-in_err-ident.ensures.1 (λ store before hidden small.
    hidden_shown trees c.args.database.0 c.args.numbers.now index (get_or c.args.numbers.now index 0) c.loop-number-test.true refl hidden))
