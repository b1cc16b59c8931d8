use Rattle.zeb_leaves.proofs.Cited.{inl, rules, option_map, BlockKey, refused_so}
use Rattle.zeb_leaves.proofs.WalkedRows.{until_answers}
use Rattle.zeb_leaves.proofs.until_enough.row_until.Goals as goal

pub returns-in_err-bytes : goal.returns-in_err-bytes
returns-in_err-bytes c = refused_so _ _ c.from_residual.result c.in_err-bytes.field-0.0 (search rules) (λ told. inl (λ entries shows. c.in_err-bytes.ensures.refused.1 shows.0 shows.1 shows.3))

pub returns : goal.returns
returns c =
    let ok = c.in_ok-bytes.ensures.ok in
    until_answers c.args.row.now c.in_ok-bytes.bytes.now ok.0 ok.1 c.args.n c.args.from.term.now c.args.from.block (option_map (λ (k : BlockKey). (k.term.now, k.block)) c.args.end) c.args.counts.now.items c.bytes_until.new.counts.items c.bytes_until.result c.bytes_until.ensures
