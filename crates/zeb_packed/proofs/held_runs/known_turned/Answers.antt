use Rattle.zeb_packed.proofs.Cited.{◌≡◌, arith, refl, subst, state, CountsAs}
use Rattle.zeb_packed.proofs.KnownKeys.{held_turns}
use Rattle.zeb_packed.proofs.held_runs.known_turned.Goals as goal

pub returns-clause-turned : goal.returns-clause-turned
returns-clause-turned g c opened clean inside store counts =
    let first = state g.S.Store c.args.tx.now.conn.now in
    let none : c.args.known.records ≡ 0 = omega (arith, c.if-known-ne0.false) in
    held_turns c.args.db.0 c.args.key.now c.args.changes.now first first c.in_ok-made.made c.args.held.now c.hold.new.held c.requires.some refl store
    (subst (CountsAs first.now.trees c.args.db.0 c.args.key.now) none counts) c.in_ok-made.ensures.begun c.in_ok-hold.ensures
