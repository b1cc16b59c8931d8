use Rattle.zeb_register.proofs.Cited.{Has, ◌≢◌, take, ListedDatabase}
use Rattle.zeb_register.proofs.belonging.is_listed.Given as goal

abbrev pub invariant-loop-database : goal.invariant-loop-database
invariant-loop-database l = (d : ListedDatabase) → Has (take l.database-index l.listed) d → l.id ≢ d.id.0
