use Rattle.zeb_leaves.proofs.Cited.{inl, inr, rules, Option, option_map, KeyOfBlock, End, refused_so}
use Rattle.zeb_leaves.proofs.OwnedEntries.{own_are, own_rise}
use Rattle.zeb_leaves.proofs.HandedOn.{answers_so}
use Rattle.zeb_leaves.proofs.turned_entries.leaf_entries_turned.Goals as goal

abbrev end_of : Option KeyOfBlock → End
end_of end = option_map (λ (k : KeyOfBlock). (k.term.now, k.block)) end

pub returns-in_err-entries : goal.returns-in_err-entries
returns-in_err-entries c =
    refused_so _ _ c.from_residual.result c.in_err-entries.field-0.0 (search rules) (λ told. inl (c.in_err-entries.ensures told))

pub entries_turned-requires-clause-rising : goal.entries_turned-requires-clause-rising
entries_turned-requires-clause-rising c = own_rise c.args.leaf.now c.args.own.term.now c.args.own.block (end_of c.args.end) c.in_ok-entries.entries.items c.in_ok-entries.ensures

pub entries_turned-requires-clause-each : goal.entries_turned-requires-clause-each
entries_turned-requires-clause-each c = own_are c.args.leaf.now c.args.own.term.now c.args.own.block (end_of c.args.end) c.in_ok-entries.entries.items c.in_ok-entries.ensures

pub returns : goal.returns
returns c =
    let own = c.in_ok-entries.entries.items in
    answers_so _ _ _ _ c.entries_turned.result (λ fault damage told. inr (own, c.in_ok-entries.ensures, damage told)) (λ news turns. (own, c.in_ok-entries.ensures, turns)) c.entries_turned.ensures
