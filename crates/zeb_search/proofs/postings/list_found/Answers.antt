use Rattle.zeb_search.proofs.Cited.{rules, ◌≡◌, ◌∙◌, ◌++◌, [], List, IsTrue, ◌≤◌, length, arith, ap, sym, subst, append_assoc, append-nil, nil_from_length, sum_by-append, state, Has, has_left, has_right, Key, CountsAtMost, rows_under, ListsKeys}
use Rattle.zeb_search.proofs.KeyReads.{hides_more, lists_more, none_lists}
use Rattle.zeb_search.proofs.MetTerms.{part_in_order}
use Rattle.zeb_search.proofs.RunLemmas.{part_run}
use Rattle.zeb_search.proofs.SearchCountLemmas.{counts_still, counts_then}
use Rattle.zeb_search.proofs.SearchesInTurn.{searches_behind, searches_failed_behind, searches_handed_behind, searches_so, searches_still}
use Rattle.zeb_search.proofs.postings.list_found.Goals as goal

pub loop-left-init : goal.loop-left-init
loop-left-init g c =
    let of = c.args.of in
    let joint = IsTrue c.args.found.now.are_neighbours in
    let trees = (state g.S.Store c.args.connection.now).now.trees in
    record {
      searched = (
        [],
        sym c.as_slice-left.ensures.value,
        searches_still (λ store are. subst (ListsKeys g.L.Layout.format trees of [] joint) (sym c.new-postings.ensures.items) (none_lists g.L.Layout.format trees of joint)) (λ content has are. counts_still c.args.work.now),
      );
    }

pub loop-left-preserved : goal.loop-left-preserved
loop-left-preserved g c =
    let of = c.args.of in
    let found = c.args.found.now in
    let format = g.L.Layout.format in
    let rows = g.L.Layout.block_rows in
    let trees = (state g.S.Store c.args.connection.now).now.trees in
    let done = c.loop-left.invariant.searched.0 in
    let run = c.first_run.result.0.now in
    let behind = c.first_run.result.1.now in
    let list = c.in_ok-list.list.items in
    let whole : found.keys.items ≡ done ++ (run ++ behind) = c.loop-left.invariant.searched.1 ∙ ap (λ (l : List Key). done ++ l) c.first_run.ensures.whole in
    let joined : 2 ≤ length run → IsTrue found.are_neighbours = λ many. c.run_of-most.ensures.several (omega (arith, many, c.first_run.ensures.few)) in
    record {
      searched = (
        done ++ run,
        whole ∙ sym (append_assoc done run behind),
        searches_behind c.loop-left.invariant.searched.2 c.in_ok-list.ensures
            (λ store before here are. subst (ListsKeys format trees of (done ++ run) (IsTrue found.are_neighbours)) (sym c.in_ok-postings.ensures)
            (lists_more format trees of (2 ≤ length run) (IsTrue found.are_neighbours) joined done run c.loop-left.postings.items list (before are) (here (part_in_order of found.keys.items done run behind whole are))))
            (λ content has before here one two are. subst (λ n. CountsAtMost 0 n c.args.work.now c.list_of_run.new.work) (sym (sum_by-append (λ (key : Key). rows (content of.db.0 key)) done run))
            (counts_then 0 0 (rows_under rows content of.db.0 done) (rows_under rows content of.db.0 run) c.args.work.now c.loop-left.work c.list_of_run.new.work (one are)
            (two (part_run content of found done run behind whole joined are)))),
      );
    }

pub returns : goal.returns
returns g c =
    let of = c.args.of in
    let found = c.args.found.now in
    let done = c.loop-left.invariant.searched.0 in
    let none = nil_from_length c.loop-left.left.now (search rules) in
    let whole : found.keys.items ≡ done = c.loop-left.invariant.searched.1 ∙ ap (λ (l : List Key). done ++ l) none ∙ append-nil done in
    searches_so c.loop-left.invariant.searched.2
    (λ store lists are. subst (λ (l : List Key). ListsKeys g.L.Layout.format (state g.S.Store c.args.connection.now).now.trees of l (IsTrue found.are_neighbours) c.loop-left.postings.items) (sym whole) (lists are))
    (λ content has lists counted are. subst (λ (l : List Key). CountsAtMost 0 (rows_under g.L.Layout.block_rows content of.db.0 l) c.args.work.now c.loop-left.work) (sym whole) (counted are))

pub returns-in_err-list : goal.returns-in_err-list
returns-in_err-list g c =
    let of = c.args.of in
    let found = c.args.found.now in
    let done = c.loop-left.invariant.searched.0 in
    let run = c.first_run.result.0.now in
    let behind = c.first_run.result.1.now in
    let whole : found.keys.items ≡ done ++ (run ++ behind) = c.loop-left.invariant.searched.1 ∙ ap (λ (l : List Key). done ++ l) c.first_run.ensures.whole in
    let joined : 2 ≤ length run → IsTrue found.are_neighbours = λ many. c.run_of-most.ensures.several (omega (arith, many, c.first_run.ensures.few)) in
    searches_handed_behind c.loop-left.invariant.searched.2 c.in_err-list.ensures c.from_residual.ensures.1
    (λ store before hidden are. hides_more g.L.Layout.format (state g.S.Store c.args.connection.now).now.trees of (2 ≤ length run) (IsTrue found.are_neighbours) joined run found.keys.items
    (λ key here. subst (λ (l : List Key). Has l key) (sym whole) (has_right done (run ++ behind) key (has_left run behind key here))) (hidden (part_in_order of found.keys.items done run behind whole are)))

pub returns-in_err-postings : goal.returns-in_err-postings
returns-in_err-postings g c = searches_failed_behind c.loop-left.invariant.searched.2 c.in_ok-list.ensures c.from_residual-in_err-postings.ensures.1
