use Rattle.zeb_search.proofs.Cited.{List, inl, subst, state, EntryDict, Posting, AreNumbers, HasPosting, IsWanted, NamesEntry}
use Rattle.zeb_search.proofs.EntryReads.{entries_hidden, entries_read}
use Rattle.zeb_search.proofs.FoundLaws.{found_held, keys_held}
use Rattle.zeb_search.proofs.NeighbourLemmas.{found_counted}
use Rattle.zeb_search.proofs.SearchesInTurn.{searches_behind, searches_failed_behind, searches_handed, searches_handed_behind}
use Rattle.zeb_search.proofs.postings.numbers_wanted.Goals as goal

pub returns-in_err-found : goal.returns-in_err-found
returns-in_err-found g c = searches_handed c.in_err-found.ensures c.from_residual.ensures.1 (λ store hidden. inl hidden)

pub returns-in_err-list : goal.returns-in_err-list
returns-in_err-list g c =
    searches_handed_behind c.in_ok-found.ensures c.in_err-list.ensures c.from_residual-in_err-list.ensures.1
    (λ store met hidden. entries_hidden g.L.Layout.format (state g.S.Store c.args.connection.now).now.trees c.args.of c.args.wanted c.in_ok-found.found met (hidden met.are))

pub returns-in_err-numbers_among : goal.returns-in_err-numbers_among
returns-in_err-numbers_among g c = searches_failed_behind c.in_ok-found.ensures c.in_ok-list.ensures c.from_residual-in_err-numbers_among.ensures.1

pub returns : goal.returns
returns g c =
    let of = c.args.of in
    let wanted = c.args.wanted in
    let format = g.L.Layout.format in
    let trees = (state g.S.Store c.args.connection.now).now.trees in
    let found = c.in_ok-found.found in
    let list = c.in_ok-list.list.items in
    searches_behind c.in_ok-found.ensures c.in_ok-list.ensures
    (λ store met lists.
    (list, entries_read format trees of wanted found met list (lists met.are), subst (λ (l : List Posting). AreNumbers (HasPosting l) c.in_ok-numbers_among.field-0.items) c.deref.ensures.value c.in_ok-numbers_among.ensures))
    (λ content has met lists one two. found_counted (EntryDict g.L.Layout.row_work content of.db.0 (NamesEntry wanted) of.index of.register) g.L.Layout.block_rows of (IsWanted wanted) found content
    c.args.work.now c.keys_wanted.new.work c.list_found.new.work (keys_held format trees of wanted found met content has) one (two (found_held format trees of wanted found met content has)))
