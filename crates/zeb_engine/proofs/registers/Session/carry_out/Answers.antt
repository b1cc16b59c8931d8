use Rattle.zeb_engine.proofs.Cited.{◌≡◌, ◌∙◌, ap, rules, sym, string_bytes, no_work}
use Rattle.zeb_engine.proofs.CommandsDone.{analysis_done}
use Rattle.zeb_engine.proofs.registers.Session.carry_out.Goals as goal
use Rattle.zeb_engine.specs.Sessions.{conditions_in}

pub returns-in-Init-clause-done : goal.returns-in-Init-clause-done
returns-in-Init-clause-done g c =
    let fresh : c.default-self.result ≡ no_work = search rules in
    rw (c.in-Init.is, fresh) (c.init_register.ensures.done c.args.self.now.limits)

pub returns-in-Create-clause-done : goal.returns-in-Create-clause-done
returns-in-Create-clause-done g c =
    let same : c.in-Create.name-1-own.given.0.0 ≡ c.in-Create.name = search rules in
    rw (c.in-Create.is, ← same) c.create.ensures.done

pub returns-in-Drop-clause-done : goal.returns-in-Drop-clause-done
returns-in-Drop-clause-done g c =
    let same : c.in-Drop.name-in-Drop-1-own.given.0.0 ≡ c.in-Drop.name = search rules in
    rw (c.in-Drop.is, ← same) c.take.ensures.done

pub returns-in-Change-clause-done : goal.returns-in-Change-clause-done
returns-in-Change-clause-done g c =
    let kind : c.in-Change.kind-1-own.given.0.0 ≡ c.in-Change.kind = search rules in
    let name : c.in-Change.database-1-own.given.0.1.0 ≡ c.in-Change.database = search rules in
    let files : c.deref.result.now ≡ c.in-Change.files.items = search rules in
    rw (c.in-Change.is, ← kind, ← name) (c.change.ensures.done c.in-Change.files (sym files))

pub returns-in-Find-clause-done : goal.returns-in-Find-clause-done
returns-in-Find-clause-done g c =
    let name : c.in-Find.database-in-Find-1-own.given.0.0 ≡ c.in-Find.database = search rules in
    let first : c.in-Find.first-1-own.given.0.1.1.0 ≡ c.in-Find.first = search rules in
    let count : c.in-Find.count-1-own.given.0.1.1.1.0 ≡ c.in-Find.count = search rules in
    let query : c.in-Find.query-1-own.given.0.1.0 ≡ c.in-Find.query = search rules in
    rw (c.in-Find.is, ← name, ← first, ← count) (c.find.ensures.done c.in-Find.query (sym (c.as_str.ensures.value ∙ ap string_bytes query)))

pub returns-in-Check-clause-done : goal.returns-in-Check-clause-done
returns-in-Check-clause-done g c =
    rw c.in-Check.is c.check.ensures.done

pub returns-in-Reindex-clause-done : goal.returns-in-Reindex-clause-done
returns-in-Reindex-clause-done g c =
    let fresh : c.default-self.result ≡ no_work = search rules in
    rw (c.in-Reindex.is, fresh) (c.reindex.ensures.done c.args.self.now.limits)

pub returns-in-Upgrade-clause-done : goal.returns-in-Upgrade-clause-done
returns-in-Upgrade-clause-done g c =
    let fresh : c.default-self.result ≡ no_work = search rules in
    rw (c.in-Upgrade.is, fresh) (c.upgrade.ensures.done c.args.self.now.limits)

pub returns-in-Stat-clause-done : goal.returns-in-Stat-clause-done
returns-in-Stat-clause-done g c =
    let same : c.in-Stat.name-in-Stat-1-own.given.0.0 ≡ c.in-Stat.name = search rules in
    rw (c.in-Stat.is, ← same) c.stat.ensures.done

pub returns-in-Dump-clause-done : goal.returns-in-Dump-clause-done
returns-in-Dump-clause-done g c =
    let same : c.in-Dump.name-in-Dump-1-own.given.0.0 ≡ c.in-Dump.name = search rules in
    rw (c.in-Dump.is, ← same) c.dump.ensures.done

pub returns-in-Scan-clause-done : goal.returns-in-Scan-clause-done
returns-in-Scan-clause-done g c =
    let name : c.in-Scan.database-in-Scan-1-own.given.0.0 ≡ c.in-Scan.database = search rules in
    let number : c.in-Scan.number-1-own.given.0.1.1.0 ≡ c.in-Scan.number = search rules in
    let position : c.in-Scan.position-1-own.given.0.1.1.1.0 ≡ c.in-Scan.position = search rules in
    let query : c.in-Scan.query-in-Scan-1-own.given.0.1.0 ≡ c.in-Scan.query = search rules in
    rw (c.in-Scan.is, ← name, ← number, ← position) (c.scan.ensures.done c.in-Scan.query (sym (c.as_str-in-Scan.ensures.value ∙ ap string_bytes query)))

pub returns-in-Analyse-clause-done : goal.returns-in-Analyse-clause-done
returns-in-Analyse-clause-done g c =
    let k = conditions_in g.L.Layout.format c.args.self.now in
    let same : c.deref-in-Analyse.result.now ≡ c.in-Analyse.files.items = search rules in
    let fresh : c.default-self.result ≡ no_work = search rules in
    rw c.in-Analyse.is (analysis_done g.S.Store g.L.Layout.format g.L.Layout.row_work g.L.Layout.block_rows k c.args.self.now.connection c.analyse_files.result c.default-self.result fresh
    c.in-Analyse.files c.deref-in-Analyse.result.now same (search rules) c.analyse_files.ensures.told c.analyse_files.ensures.unread)
