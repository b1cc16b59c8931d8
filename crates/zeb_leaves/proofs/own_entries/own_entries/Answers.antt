use Rattle.zeb_leaves.proofs.Cited.{option_map, BlockKey}
use Rattle.zeb_leaves.proofs.WalkedRows.{own_answers}
use Rattle.zeb_leaves.proofs.own_entries.own_entries.Goals as goal

pub returns : goal.returns
returns c =
    let ok = c.in_ok-bytes.ensures.ok in
    own_answers c.args.row.now c.in_ok-bytes.bytes.now ok.0 ok.1 c.args.from.term.now c.args.from.block (option_map (λ (k : BlockKey). (k.term.now, k.block)) c.args.end) c.entries_in.result c.entries_in.ensures
