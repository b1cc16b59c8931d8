use Rattle.zeb_leaves.proofs.Cited.{rules, arith, ℕ, List, Option, true, subst, sym, AllByRecursion, Entry, IsEntry, blocks_tree, entry_cmp, state, option_map, KeyOfBlock, IfToldPutsEntries, End, refused_rows, Changes}
use Rattle.std.specs.List.Sorted.{IsStrictlySortedBy}
use Rattle.zeb_leaves.proofs.CountedLeaves.{front_counted}
use Rattle.zeb_leaves.proofs.FrontPieces.{all_within, at_front, below_front, front_of_one, key_shown, leaf_front_lacks, leaf_front_put}
use Rattle.zeb_leaves.proofs.turning.leaf_turned.Goals as goal

abbrev end_of : Option KeyOfBlock → End
end_of end = option_map (λ (k : KeyOfBlock). (k.term.now, k.block)) end

pub returns-in_err-own-clause-turned : goal.returns-in_err-own-clause-turned
returns-in_err-own-clause-turned g c = record {
  further = search rules;
  puts = λ clean inside store ends covers.
      absurd (key_shown _ store c.args.at c.args.pieces.now c.args.leaf.now c.requires.some covers c.in_err-own.ensures.refused.1);
}

pub leaf_entries_turned-requires : goal.leaf_entries_turned-requires
leaf_entries_turned-requires g c =
    let n = c.count_covered-count.result in
    front_of_one c.args.at c.args.pieces.now n (at_front c.args.at c.args.pieces.now n c.requires c.count_covered-count.ensures.register)

pub returns-in_err-entries-clause-turned : goal.returns-in_err-entries-clause-turned
returns-in_err-entries-clause-turned g c = record {
  further = search rules;
  puts = λ clean inside store ends covers.
      let n = c.count_covered-count.result in
      let pieces = c.args.pieces.now in
      let front = at_front c.args.at pieces n c.requires c.count_covered-count.ensures.register in
      refused_rows c.in_err-entries.field-0.0 c.from_residual-in_err-entries.result c.from_residual-in_err-entries.ensures.1 _ _
      (λ told. leaf_front_lacks _ store c.args.at pieces n front c.args.leaf.now c.in_ok-own.own.term.now c.in_ok-own.own.block (end_of c.args.end) c.in_ok-own.ensures.ok
      (below_front (end_of c.args.end) pieces n c.count_covered-count.ensures.below) ends covers (c.in_err-entries.ensures told));
}

pub entries_put-requires-clause-rising : goal.entries_put-requires-clause-rising
entries_put-requires-clause-rising g c = subst (IsStrictlySortedBy entry_cmp) (sym c.deref.ensures.value) c.in_ok-entries.ensures.2.merged.rising

pub entries_put-requires-clause-each : goal.entries_put-requires-clause-each
entries_put-requires-clause-each g c = subst (AllByRecursion IsEntry) (sym c.deref.ensures.value) c.in_ok-entries.ensures.2.merged.each

pub returns-clause-turned : goal.returns-clause-turned
returns-clause-turned g c = record {
  further = all_within c.args.pieces.now c.count_covered-count.result c.requires.some c.count_covered-count.ensures.within;
  puts = λ clean inside store ends covers.
      let s = state g.S.Store c.args.tx.now.conn.now in
      let t = state g.S.Store c.entries_put.new.tx.conn.now in
      let n = c.count_covered-count.result in
      let pieces = c.args.pieces.now in
      let term = c.in_ok-own.own.term.now in
      let block = c.in_ok-own.own.block in
      let end = end_of c.args.end in
      let front = at_front c.args.at pieces n c.requires c.count_covered-count.ensures.register in
      let named = subst (λ (t' : List ℕ). Changes blocks_tree (IfToldPutsEntries true c.args.at t' block c.deref.result.now) s t) c.text_of.ensures (c.in_ok-written.ensures.put clean inside store) in
      let done = subst (λ (l : List Entry). Changes blocks_tree (IfToldPutsEntries true c.args.at term block l) s t) c.deref.ensures.value named in
      leaf_front_put s store c.args.at pieces n front c.args.leaf.now term block end c.in_ok-own.ensures.ok (below_front end pieces n c.count_covered-count.ensures.below) ends covers t c.in_ok-entries.entries.items c.in_ok-entries.ensures done;
}

pub returns-clause-work : goal.returns-clause-work
returns-clause-work g c clean inside store =
    let old = (state g.S.Store c.args.tx.now.conn.now).now.trees in
    let new = (state g.S.Store c.entries_put.new.tx.conn.now).now.trees in
    (c.count_leaves.ensures.reads_leaves, front_counted true 1 c.in_ok-written.written old new c.args.work.now c.count_leaves.new.work (omega arith) (c.in_ok-written.ensures.rows clean inside store) c.count_leaves.ensures)
