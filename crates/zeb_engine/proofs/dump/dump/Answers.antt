use Rattle.zeb_engine.proofs.Cited.{rules, pos, refl, inl, inr, state, AreReadable, DumpOver, DumpTells, HidesRecords, register_refusal, name_bytes, no_work}
use Rattle.zeb_engine.proofs.AskingInTurn.{asks_fail, asks_handed, asks_on, through_searched}
use Rattle.zeb_engine.proofs.HiddenRows.{hidden_of, misses_hidden}
use Rattle.zeb_engine.proofs.ListedDatabases.{fault_or_damage}
use Rattle.zeb_engine.proofs.dump.dump.Goals as goal

pub returns-in_err-database : goal.returns-in_err-database
returns-in_err-database g c =
    let trees = (state g.S.Store c.args.connection.now).now.trees in
    let name = name_bytes c.args.name.now in
    asks_handed c.in_err-database.field-0.0 c.in_err-database.ensures (search rules) (λ store missed. misses_hidden (DumpTells trees) name (HidesRecords name) trees (λ hides. inl hides) c.in_err-database.field-0.0 missed)

pub returns-in_err-bytes : goal.returns-in_err-bytes
returns-in_err-bytes g c =
    let trees = (state g.S.Store c.args.connection.now).now.trees in
    let database = c.in_ok-database.database in
    let name = name_bytes c.args.name.now in
    let fault = c.in_err-bytes.field-0.0 in
    asks_fail c.in_ok-database.ensures (through_searched {format = g.L.Layout.format} {row_work = g.L.Layout.row_work} {w = no_work} _ c.in_err-bytes.ensures) (search rules) (λ store found hidden.
    hidden_of (DumpOver name) (λ t id. ¬ AreReadable t id) name trees database.id.0 (pos database.last) found (register_refusal fault) (fault_or_damage (¬ AreReadable trees database.id.0) fault hidden))

pub returns : goal.returns
returns g c =
    let database = c.in_ok-database.database in
    asks_on c.in_ok-database.ensures (through_searched {format = g.L.Layout.format} {row_work = g.L.Layout.row_work} {w = no_work} _ c.in_ok-bytes.ensures) (λ store found joins. inl (inr (database.id.0, pos database.last, found, (c.in_ok-bytes.bytes.items, joins, refl))))
