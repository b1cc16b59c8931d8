use Rattle.zeb_register.proofs.Cited.{state, rules, Has, ◌∙◌, Ok, ap, subst, sym, map, IsListOf, IsRest, postings_tree, first_two}
use Rattle.zeb_register.proofs.Columns.{column_is, numbered_rows}
use Rattle.zeb_register.proofs.LooksInside.{shown_inside}
use Rattle.zeb_register.proofs.PlaceLemmas.{place_front}
use Rattle.zeb_register.proofs.RowFaults.{refused_rows}
use Rattle.zeb_register.proofs.UnitRows.{reads_told, two_numbers}
use Rattle.zeb_register.proofs.plain_changes.holds_places.Goals as goal

pub returns-clause-found : goal.returns-clause-found
returns-clause-found g c =
    let s = state g.S.Store c.args.tx.now.conn.now in
    let items = c.in_ok-rows.rows.items in
    let key = c.args.key.now in
    let same = c.deref.ensures.value in
    record {
      same = search rules;
      looks = shown_inside _ _ _ _ c.in_ok-rows.rows _ _ c.in_ok-rows.ensures.call.does (λ shown. shown.0) (λ shown store.
          let held : IsListOf (IsRest postings_tree (place_front c.args.db.0 key c.args.sysno) s.now.trees) items = numbered_rows s.now.trees postings_tree c.args.db.0 key _ c.args.sysno (column_is c.in_ok-number.ensures.ok.1 c.in_ok-number.ensures.ok.0) items (shown.1 store) in
          reads_told s store c.args.db.0 key c.args.sysno items c.args.places.now held c.in_ok-are_places.field-0
          (λ is. sym (ap (map first_two) same) ∙ c.in_ok-are_places.ensures.same (ap Ok is))
          (λ is shown. c.in_ok-are_places.ensures.other (ap Ok is) (ap (map first_two) same ∙ shown)));
    }

pub returns-in_err-are_places-clause-found : goal.returns-in_err-are_places-clause-found
returns-in_err-are_places-clause-found g c =
    let s = state g.S.Store c.args.tx.now.conn.now in
    let items = c.in_ok-rows.rows.items in
    let key = c.args.key.now in
    record {
      same = search rules;
      looks = shown_inside _ _ _ _ c.in_ok-rows.rows _ _ c.in_ok-rows.ensures.call.does (λ shown. shown.0) (λ shown store.
          let held : IsListOf (IsRest postings_tree (place_front c.args.db.0 key c.args.sysno) s.now.trees) items = numbered_rows s.now.trees postings_tree c.args.db.0 key _ c.args.sysno (column_is c.in_ok-number.ensures.ok.1 c.in_ok-number.ensures.ok.0) items (shown.1 store) in
          refused_rows c.in_err-are_places.field-0.0 c.from_residual-in_err-are_places.result c.from_residual-in_err-are_places.ensures.1 _ _
          (λ told reads. c.in_err-are_places.ensures.refused.1 (λ row here. two_numbers s store c.args.db.0 key c.args.sysno items c.args.places.now held reads row (subst (λ l. Has l row) c.deref.ensures.value here))));
    }
