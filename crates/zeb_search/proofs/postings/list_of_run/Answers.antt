use Rattle.zeb_search.proofs.Cited.{on_ok_weaker, ◌≤◌, holds_in, length, state, told_held, list_told}
use Rattle.zeb_search.proofs.KeyReads.{between_hides, between_lists, one_hides, one_lists}
use Rattle.zeb_search.proofs.NeighbourLemmas.{between_counted, ends_got, several}
use Rattle.zeb_search.proofs.OneKey.{one_counted}
use Rattle.zeb_search.proofs.SearchesInTurn.{looks_searched}
use Rattle.zeb_search.proofs.postings.list_of_run.Goals as goal

pub returns-then-run-eq1 : goal.returns-then-run-eq1
returns-then-run-eq1 g c =
    let run = c.args.run.now in
    let of = c.args.of in
    let format = g.L.Layout.format in
    let key = c.index-run-0.result in
    let one = c.if-run-eq1.true in
    let is = c.index-run-0.is in
    let old = state g.S.Store c.args.connection.now in
    let new = state g.S.Store c.key_list.new.conn in
    looks_searched c.key_list.ensures.units c.key_list.ensures.no_work
    (on_ok_weaker c.key_list.result (λ counted clean store content has are. counted clean store content has)
    (one_counted format of.db.0 run key one is g.L.Layout.block_rows old new c.key_list.result c.args.work.now c.key_list.new.work (list_told format of.db.0 key old new c.key_list.result c.key_list.ensures.units)
    (told_held (holds_in format) _ old new c.key_list.result c.key_list.ensures.work)))
    (λ store hidden are. one_hides format old.now.trees of (2 ≤ length run) run key one is are hidden) (λ store list lists are. one_lists format old.now.trees of (2 ≤ length run) run key one is are list.items lists)

pub returns : goal.returns
returns g c =
    let run = c.args.run.now in
    let of = c.args.of in
    let format = g.L.Layout.format in
    let first = c.index-run-0-2.result in
    let last = c.index-run-run.result in
    let low = c.as_str.result.now in
    let high = c.as_str-2.result.now in
    let ends = ends_got run first last c.requires c.index-run-0-2.is c.index-run-run.is in
    let many = several run c.requires c.if-run-eq1.false in
    let old = state g.S.Store c.args.connection.now in
    let new = state g.S.Store c.postings_between.new.conn in
    looks_searched c.postings_between.ensures.units c.postings_between.ensures.no_work
    (between_counted format of run many first last ends low high c.as_str.ensures c.as_str-2.ensures old new g.L.Layout.block_rows c.args.work.now c.postings_between.new.work c.postings_between.result c.postings_between.ensures.work)
    (λ store hidden are. between_hides format old.now.trees of run first last ends low high c.as_str.ensures c.as_str-2.ensures many are hidden)
    (λ store list lists are. between_lists format old.now.trees of run first last ends low high c.as_str.ensures c.as_str-2.ensures many are list.items lists)
