use Rattle.zeb_engine.proofs.Cited.{◌≡◌, refl, rules, subst, Held, MakesTables, state}
use Rattle.zeb_engine.proofs.CommitCrashes.{tables_survive}
use Rattle.zeb_engine.proofs.tables.make_absent_tables.Goals as goal

pub returns-in_err-commit-clause-survives : goal.returns-in_err-commit-clause-survives
returns-in_err-commit-clause-survives g c =
    let begun = c.transaction-tx.ensures.begun in
    let did = c.in-Ok.ensures in
    tables_survive g.S.Store c.args.connection.now c.transaction-tx.result.conn.now (state g.S.Store c.make_tables.new.tx.conn.now) c.commit.new.self.0 c.connection-2-1.given.0 (search rules) begun
    c.make_tables.ensures.call.does.crash c.commit.ensures.survives (λ first. did.call.does.ok first (rw begun refl)) (λ first. did.there first (rw begun refl)) (λ first. did.made first (rw begun refl))

pub returns-clause-survives : goal.returns-clause-survives
returns-clause-survives g c =
    let begun = c.transaction-tx.ensures.begun in
    let did = c.in-Ok.ensures in
    tables_survive g.S.Store c.args.connection.now c.transaction-tx.result.conn.now (state g.S.Store c.make_tables.new.tx.conn.now) c.commit.new.self.0 c.connection-2-1.given.0 (search rules) begun
    c.make_tables.ensures.call.does.crash c.commit.ensures.survives (λ first. did.call.does.ok first (rw begun refl)) (λ first. did.there first (rw begun refl)) (λ first. did.made first (rw begun refl))

pub returns-clause-makes : goal.returns-clause-makes
returns-clause-makes g c clean =
    let begun = c.transaction-tx.ensures.begun in
    let end = c.commit.new.self.0 in
    let same : end ≡ c.connection-2-1.given.0 = search rules in
    subst (λ (h : Held _). MakesTables (state g.S.Store c.args.connection.now) (state g.S.Store h)) same (record { made = search rules; there = search rules; rows = search rules })
