use Rattle.zeb_search.proofs.Cited.{◌≡◌, ◌∙◌, IsTrue, inl, length, sym, state, holds_in, EntryDict, RegisterOf, CountsAtMost, rows_under, Fits, HasNoStar, told_held, list_told}
use Rattle.zeb_keys.specs.declared.Register.TheVariants as register
use Rattle.zeb_search.proofs.EntryReads.{entries_hidden, entries_read, reads_same}
use Rattle.zeb_search.proofs.FoundLaws.{found_held, keys_held}
use Rattle.zeb_search.proofs.KeyReads.{one_hides, one_lists}
use Rattle.zeb_search.proofs.NeighbourLemmas.{found_counted}
use Rattle.zeb_search.proofs.OneKey.{one_counted}
use Rattle.zeb_search.proofs.SearchesInTurn.{as_searched, searches_behind, searches_handed, searches_handed_behind, searches_then}
use Rattle.zeb_search.specs.declared.terms.Wanted.TheVariants as wanted
use Rattle.zeb_search.proofs.postings.places_of_words.Goals as goal

pub returns-in_err-found : goal.returns-in_err-found
returns-in_err-found g c = searches_handed c.in_err-found.ensures c.from_residual.ensures.1 (λ store hidden. inl hidden)

pub returns-then-len-eq1 : goal.returns-then-len-eq1
returns-then-len-eq1 g c =
    let pattern = c.args.pattern.now in
    let of : RegisterOf = record { db = c.args.of.db; index = c.args.of.index; register = register.Word } in
    let format = g.L.Layout.format in
    let rows = g.L.Layout.block_rows in
    let trees = (state g.S.Store c.args.connection.now).now.trees in
    let mid = state g.S.Store c.keys_wanted.new.connection in
    let new = state g.S.Store c.key_list.new.conn in
    let found = c.in_ok-found.found in
    let keys = found.keys.items in
    let key = c.index.result.now in
    let joint = IsTrue found.are_neighbours in
    let one : length keys ≡ 1 = sym found.keys.ok.0 ∙ sym c.len.ensures ∙ c.if-len-eq1.true in
    let listed = one_counted format of.db.0 keys key one c.index.ensures rows mid new c.key_list.result c.keys_wanted.new.work c.key_list.new.work
    (list_told format of.db.0 key mid new c.key_list.result c.key_list.ensures.units) (told_held (holds_in format) _ mid new c.key_list.result c.key_list.ensures.work) in
    searches_then c.in_ok-found.ensures (as_searched {C = λ content. CountsAtMost 0 (rows_under rows content of.db.0 keys)} c.key_list.ensures.units c.key_list.ensures.no_work listed)
    (λ store met bad. entries_hidden format trees of (wanted.Matching c.args.pattern) found met (one_hides format trees of joint keys key one c.index.ensures met.are bad))
    (λ store met list its. (entries_read format trees of (wanted.Matching c.args.pattern) found met list.items (one_lists format trees of joint keys key one c.index.ensures met.are list.items its), its.rising))
    (λ content has met. found_counted (EntryDict g.L.Layout.row_work content of.db.0 (HasNoStar pattern) of.index register.Word) rows of (Fits pattern) found content
    c.args.work.now c.keys_wanted.new.work c.key_list.new.work (keys_held format trees of (wanted.Matching c.args.pattern) found met content has))

pub returns-in_err-list : goal.returns-in_err-list
returns-in_err-list g c =
    let of : RegisterOf = record { db = c.args.of.db; index = c.args.of.index; register = register.Word } in
    searches_handed_behind c.in_ok-found.ensures c.in_err-list.ensures c.from_residual-in_err-list.ensures.1
    (λ store met hidden. entries_hidden g.L.Layout.format (state g.S.Store c.args.connection.now).now.trees of (wanted.Matching c.args.pattern) c.in_ok-found.found met (hidden met.are))

pub returns : goal.returns
returns g c =
    let pattern = c.args.pattern.now in
    let of : RegisterOf = record { db = c.args.of.db; index = c.args.of.index; register = register.Word } in
    let format = g.L.Layout.format in
    let trees = (state g.S.Store c.args.connection.now).now.trees in
    let found = c.in_ok-found.found in
    let list = c.in_ok-list.list.items in
    let asked = wanted.Matching c.args.pattern in
    searches_behind c.in_ok-found.ensures c.in_ok-list.ensures
    (λ store met lists. (
      reads_same format trees of.db.0 (HasNoStar pattern) of.index register.Word (Fits pattern) list c.postings_in_order.result.items c.postings_in_order.ensures.each (entries_read format trees of asked found met list (lists met.are)),
      c.postings_in_order.ensures.rising,
    ))
    (λ content has met lists one two. found_counted (EntryDict g.L.Layout.row_work content of.db.0 (HasNoStar pattern) of.index register.Word) g.L.Layout.block_rows of (Fits pattern) found content
    c.args.work.now c.keys_wanted.new.work c.list_found.new.work (keys_held format trees of asked found met content has) one (two (found_held format trees of asked found met content has)))
