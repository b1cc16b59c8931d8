use Rattle.zeb_leaves.proofs.Cited.{rules, arith, ◌+◌, false, List, [], state, sym, subst, AllByRecursion, Entry, IsEntry, entry_cmp, blocks_tree, take, IfToldPutsEntries, LackTurn, Changes, refused_rows}
use Rattle.std.specs.List.Sorted.{IsStrictlySortedBy}
use Rattle.zeb_leaves.proofs.FrontPieces.{all_within, at_front, first_front_lacks, first_front_put, front_of_one}
use Rattle.zeb_leaves.proofs.CountedLeaves.{front_counted}
use Rattle.zeb_leaves.specs.PrivateTurnedLeaves.{TurnsInto}
use Rattle.zeb_leaves.proofs.turning.register_begun.Goals as goal

pub entries_turned-requires-clause-pieces : goal.entries_turned-requires-clause-pieces
entries_turned-requires-clause-pieces g c =
    let n = c.count_covered-count.result in
    front_of_one c.args.at c.args.pieces.now n (at_front c.args.at c.args.pieces.now n c.requires c.count_covered-count.ensures.register)

pub entries_turned-requires-clause-rising : goal.entries_turned-requires-clause-rising
unfolding IsStrictlySortedBy
entries_turned-requires-clause-rising g c = subst (IsStrictlySortedBy entry_cmp) (sym c.new.ensures.items) tt

pub entries_turned-requires-clause-each : goal.entries_turned-requires-clause-each
entries_turned-requires-clause-each g c = subst (AllByRecursion IsEntry) (sym c.new.ensures.items) tt

pub returns-in_err-entries-clause-turned : goal.returns-in_err-entries-clause-turned
returns-in_err-entries-clause-turned g c = record {
  further = search rules;
  puts = λ clean inside store none.
      let n = c.count_covered-count.result in
      let front = at_front c.args.at c.args.pieces.now n c.requires c.count_covered-count.ensures.register in
      refused_rows c.in_err-entries.field-0.0 c.from_residual.result c.from_residual.ensures.1 _ _
      (λ told. first_front_lacks _ store c.args.at c.args.pieces.now n front none (subst (λ (own : List Entry). LackTurn own (take (1 + n) c.args.pieces.now)) c.new.ensures.items (c.in_err-entries.ensures told)));
}

pub entries_put-requires-clause-rising : goal.entries_put-requires-clause-rising
entries_put-requires-clause-rising g c = subst (IsStrictlySortedBy entry_cmp) (sym c.deref.ensures.value) c.in_ok-entries.ensures.merged.rising

pub entries_put-requires-clause-each : goal.entries_put-requires-clause-each
entries_put-requires-clause-each g c = subst (AllByRecursion IsEntry) (sym c.deref.ensures.value) c.in_ok-entries.ensures.merged.each

pub returns-clause-turned : goal.returns-clause-turned
returns-clause-turned g c = record {
  further = all_within c.args.pieces.now c.count_covered-count.result c.requires.some c.count_covered-count.ensures.within;
  puts = λ clean inside store none.
      let s = state g.S.Store c.args.tx.now.conn.now in
      let t = state g.S.Store c.entries_put.new.tx.conn.now in
      let n = c.count_covered-count.result in
      let pieces = c.args.pieces.now in
      let front = at_front c.args.at pieces n c.requires c.count_covered-count.ensures.register in
      let done = subst (λ (l : List Entry). Changes blocks_tree (IfToldPutsEntries false c.args.at [] 0 l) s t) c.deref.ensures.value (c.in_ok-written.ensures.put clean inside store) in
      let turned = subst (λ (own : List Entry). TurnsInto own (take (1 + n) pieces) c.in_ok-entries.entries.items) c.new.ensures.items c.in_ok-entries.ensures in
      first_front_put s store c.args.at pieces n front none t _ turned done;
}

pub returns-clause-work : goal.returns-clause-work
returns-clause-work g c clean inside store =
    let old = (state g.S.Store c.args.tx.now.conn.now).now.trees in
    let new = (state g.S.Store c.entries_put.new.tx.conn.now).now.trees in
    (c.count_leaves.ensures.reads_leaves, front_counted false 0 c.in_ok-written.written old new c.args.work.now c.count_leaves.new.work (omega arith) (c.in_ok-written.ensures.rows clean inside store) c.count_leaves.ensures)
