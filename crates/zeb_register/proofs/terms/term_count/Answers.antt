use Rattle.zeb_register.proofs.Cited.{state, ◌∙◌, ap, sym, subst, IsCount, key_in, IsInRecord, HasShownNone, RowsCount}
use Rattle.zeb_blocks.specs.Records.{record_count}
use Rattle.zeb_register.proofs.LooksInTurn.{looks_handed, looks_so}
use Rattle.zeb_register.proofs.PlainTerms.{list_counted}
use Rattle.zeb_register.proofs.TermRows.{records_counted}
use Rattle.zeb_register.proofs.terms.term_count.Goals as goal

pub returns-in_err-list : goal.returns-in_err-list
returns-in_err-list g c =
    looks_handed _ _ _ c.from_residual.result _ _ _ _ c.in_err-list.ensures c.from_residual.ensures.1
    (λ store. subst (λ t. HasShownNone (state g.S.Store c.args.conn.now).now.trees c.args.at.db.0 (key_in c.args.at.index c.args.at.register t)) c.as_str.ensures.value)

pub returns : goal.returns
returns g c =
    let trees = (state g.S.Store c.args.conn.now).now.trees in
    let list = c.in_ok-list.list.items in
    looks_so _ _ _ _ _ _ _ _ c.in_ok-list.ensures (λ store lists.
    let counted : IsCount (IsInRecord list) c.records_in-records.result =
    subst (IsCount (IsInRecord list)) (sym (c.records_in-records.ensures ∙ ap record_count c.deref.ensures.value)) (records_counted list lists.rising) in (
      c.new.ensures,
      subst (λ t. RowsCount trees c.args.at.db.0 (key_in c.args.at.index c.args.at.register t) c.records_in-records.result) c.as_str.ensures.value
          (list_counted trees c.args.at.db.0 c.args.at.index c.args.at.register c.as_str.result.now list c.records_in-records.result lists counted),
    ))
