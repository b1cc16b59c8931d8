use Rattle.zeb_change.proofs.Cited.{◌∷◌, [], refl, rules, Int, state, beside_seen, malformed_seen}
use Rattle.zeb_change.proofs.SettledChanges.{still_settled}
use Rattle.zeb_change.proofs.writing.write_where_full.Goals as goal

pub returns-clause-call : goal.returns-clause-call
returns-clause-call g c = record {
  same = search rules;
  does = record { stays = search rules; written = λ clean mode store. still_settled _ _ _ _ _ _ store; honest = λ clean mode store told. absurd (cc); crash = search rules };
}

pub returns-clause-keeps : goal.returns-clause-keeps
returns-clause-keeps g c clean mode store =
    let same = (state g.S.Store c.args.tx.now.conn.now).now in
    record { beside = beside_seen (Int c.args.db.0 ∷ []) same same refl; malformed = malformed_seen g.L.Layout.format same same refl }
