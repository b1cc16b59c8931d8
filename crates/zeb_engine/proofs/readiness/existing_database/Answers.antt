use Rattle.zeb_engine.proofs.Cited.{rules, ◌≡◌, Some, None, string_bytes, ap, subst, inl, inr, refl, state, AreCountedDatabases, IsDatabaseOf, diagnostic, name_bytes}
use Rattle.zeb_change.specs.declared.refusals.Refusal.TheVariants as refusal
use Rattle.zeb_engine.proofs.AskingInTurn.{looked_done, looked_ends, looked_fails}
use Rattle.zeb_engine.proofs.ListedDatabases.{fault_misses}
use Rattle.zeb_engine.proofs.readiness.existing_database.Goals as goal

pub returns-in_err-database : goal.returns-in_err-database
returns-in_err-database g c =
    looked_fails c.requires.idle c.in_err-database.ensures (search rules) (λ store hidden.
    fault_misses (state g.S.Store c.args.connection.now).now.trees (name_bytes c.args.name.now) c.in_err-database.field-0.0 (λ is. subst (λ n. ¬ AreCountedDatabases (state g.S.Store c.args.connection.now).now.trees n) c.as_str.ensures (hidden is)))

pub returns-in-Some : goal.returns-in-Some
returns-in-Some g c =
    looked_done c.requires.idle c.in_ok-database.ensures (λ store found.
    let trees = (state g.S.Store c.args.connection.now).now.trees in
    subst (λ n. IsDatabaseOf trees n (Some c.in-Some.database)) c.as_str.ensures (subst (IsDatabaseOf trees c.as_str.result.now) c.in-Some.is found))

pub returns-in_err-from_str-in-None : goal.returns-in_err-from_str-in-None
returns-in_err-from_str-in-None g c = looked_ends c.requires.idle c.in_ok-database.ensures refusal.Memory (λ store is. absurd cc) tt (search rules) (λ store found. inl (inr refl))

pub returns-in_ok-from_str-in-None : goal.returns-in_ok-from_str-in-None
returns-in_ok-from_str-in-None g c =
    looked_ends c.requires.idle c.in_ok-database.ensures (refusal.Diagnostic 235 0 c.in_ok-from_str-in-None.field-0) (λ store is. absurd cc) tt refl (λ store found.
    let trees = (state g.S.Store c.args.connection.now).now.trees in
    let none = subst (λ n. IsDatabaseOf trees n None) c.as_str.ensures (subst (IsDatabaseOf trees c.as_str.result.now) c.in-None.is found) in
    let text : string_bytes c.in_ok-from_str-in-None.field-0 ≡ name_bytes c.args.name.now = search rules in
    inr (inl (none, ap (diagnostic 235 0) text)))
