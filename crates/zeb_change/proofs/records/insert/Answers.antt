use Rattle.zeb_change.proofs.Cited.{refl, sym, subst, [], AreOccurrencesOf}
use Rattle.zeb_change.proofs.RecordParts.{wrote}
use Rattle.zeb_change.proofs.TurnLemmas.{none_rise}
use Rattle.zeb_change.proofs.records.insert.Goals as goal

pub returns-clause-inserts : goal.returns-clause-inserts
returns-clause-inserts g c clean mode store =
    let are = subst (AreOccurrencesOf c.args.setting.now.profile.now c.args.newer.now.bytes.now) (sym c.deref.ensures.value) c.in_ok-new.ensures in (
      refl,
      c.requires.free,
      refl,
      record {
        rows = wrote _ _ _ store (c.in_ok-record_put.ensures.call.does.ok clean mode);
        noted = record { were = []; are = c.deref.result.now; had = refl; has = are; keys = c.in_ok-note_keys.ensures none_rise are.rising };
      },
    )
