use Rattle.zeb_program.proofs.Cited.{subst, sym, Err, string_bytes, ReadsProfile, Fault}
use Rattle.zeb_program.proofs.performing.profile_at.Goals as goal

pub returns-in-Err-clause-read : goal.returns-in-Err-clause-read
returns-in-Err-clause-read g c = subst (λ (why : Fault). ReadsProfile (g.P.Paths.tells c.args.paths.now (string_bytes c.args.file)) c.args.file (Err why)) (sym c.of_path.ensures.fault) c.in-Err.ensures
