use Rattle.zeb_program.proofs.Cited.{Database, state, ◌∙◌, ap, rules, subst, sym, IsTrue}
use Rattle.sqlite_catalog.proofs.QuietLemmas.{quiet_then}
use Rattle.sqlite_trees.specs.View.{IsQuiet}
use Rattle.zeb_paths.specs.Closing.{HasReason}
use Rattle.zeb_engine.specs.Transactions.{IsDurable}
use Rattle.zeb_program.proofs.OpenedStores.{reason_then}
use Rattle.zeb_program.proofs.performing.close_register.Goals as goal

pub returns : goal.returns
returns g c =
    let s = g.P.Store.Store in
    let connection = c.release-connection.result in
    let idle : IsTrue c.is_autocommit-settled.result = search rules in
    let durable : IsDurable (state s connection) =
    λ is_open db left. g.met.P.Store.Store.settled connection.store db is_open left ∙ ap (λ (d : Database). d.trees) (sym (c.is_autocommit-settled.ensures.settled idle is_open)) in
    let left = c.close.ensures.left in
    record {
      left = left.0;
      stands = left.1;
      quiet = subst (λ held. IsQuiet s.view s.faults s.recovers s.is_shielded held.store left.0) c.release-connection.ensures.same (quiet_then c.into_store.ensures.quiet left.2);
      reason = subst (λ held. HasReason s.view s.faults held.store left.0 c.close.result) c.release-connection.ensures.same (reason_then c.into_store.ensures.quiet left.2 left.3);
      durable = subst (λ held. IsDurable (state s held)) c.release-connection.ensures.same durable;
    }
