use Rattle.zeb_engine.proofs.Cited.{rules, ◌≡◌, ◌∙◌, ◌⊎◌, pos, List, Vec, Global, Trees, Holding, IsRecordCount, map, Err, refl, subst, inl, inr, state, extent_of, refused, IsFailure, HidesRegister, HidesRegisters, IsSummedUp, StatOver, StatTells, Damaged, why_of, Paired, Target, target_list, name_bytes, register_refusal}
use Rattle.zeb_change.specs.declared.refusals.Refusal.TheVariants as refusal
use Rattle.zeb_search.proofs.SearchesInTurn.{as_searched, searches_behind, searches_handed_behind}
use Rattle.zeb_engine.proofs.AskingInTurn.{Uncounted, asks_end, asks_fail, asks_handed, asks_on}
use Rattle.zeb_engine.proofs.HiddenRows.{hidden_of, misses_hidden}
use Rattle.zeb_engine.proofs.ListedDatabases.{fault_fails, fault_or_damage}
use Rattle.zeb_engine.proofs.StatAnswers.{extents_told}
use Rattle.zeb_engine.proofs.stat.stat.Goals as goal

pub returns-in_err-database-clause-asks : goal.returns-in_err-database-clause-asks
returns-in_err-database-clause-asks g c =
    let trees = (state g.S.Store c.args.connection.now).now.trees in
    let name = name_bytes c.args.name.now in
    let format = g.L.Layout.format in
    let profile = c.args.profile.now in
    asks_handed c.in_err-database.field-0.0 c.in_err-database.ensures (search rules) (λ store missed.
    misses_hidden (StatTells format profile trees) name (HidesRegisters format profile name) trees (λ hides. inl hides) c.in_err-database.field-0.0 missed)

pub returns-in_err-kept-clause-asks : goal.returns-in_err-kept-clause-asks
returns-in_err-kept-clause-asks g c =
    asks_fail c.in_ok-database.ensures (as_searched {format = g.L.Layout.format} {row_work = g.L.Layout.row_work} {C = Uncounted} {v = c.args.work.now} c.in_err-kept.ensures (λ none. refl) tt) (search rules) (λ store found hidden.
    inr (inr (fault_fails c.in_err-kept.field-0.0 hidden)))

pub returns-in_err-targets-clause-asks : goal.returns-in_err-targets-clause-asks
returns-in_err-targets-clause-asks g c =
    asks_end c.in_ok-database.ensures (as_searched {format = g.L.Layout.format} {row_work = g.L.Layout.row_work} {C = Uncounted} {v = c.args.work.now} c.in_ok-kept.ensures (λ none. refl) (λ clean store content has. tt)) refusal.Memory (λ store is. absurd cc) tt (search rules)
    (λ store found kept. inr (inr (inr refl)))

pub returns-in_err-holdings-clause-asks : goal.returns-in_err-holdings-clause-asks
returns-in_err-holdings-clause-asks g c =
    let format = g.L.Layout.format in
    let profile = c.args.profile.now in
    let name = name_bytes c.args.name.now in
    let database = c.in_ok-database.database in
    let trees = (state g.S.Store c.args.connection.now).now.trees in
    let fault = c.in_err-holdings.field-0.0 in
    let targets = c.deref.ensures.value ∙ c.in_ok-targets.ensures in
    let counted = as_searched {format = format} {row_work = g.L.Layout.row_work} {C = Uncounted} {v = c.args.work.now} c.in_ok-kept.ensures (λ none. refl) (λ clean store content has. tt) in
    asks_fail c.in_ok-database.ensures (searches_handed_behind {B = Unit {0}} {E = λ trees. HidesRegister format c.deref.result.now trees database.id.0} {G = λ (t : Trees) (none : Unit {0}). ⊥} {K = Uncounted} {r = Err fault} counted c.in_err-holdings.ensures refl (λ store kept hidden. hidden)) (search rules) (λ store found hidden.
    let met = subst (λ (l : List Target). IsFailure (refused (why_of (register_refusal fault))) ⊎ ((register_refusal fault ≡ Damaged) × HidesRegister format l trees database.id.0)) targets (fault_or_damage (HidesRegister format c.deref.result.now trees database.id.0) fault hidden) in
    hidden_of (StatOver format profile name) (λ t id. HidesRegister format (target_list profile) t id) name trees database.id.0 (pos database.last) found (register_refusal fault) met)

pub returns-clause-asks : goal.returns-clause-asks
returns-clause-asks g c =
    let format = g.L.Layout.format in
    let profile = c.args.profile.now in
    let database = c.in_ok-database.database in
    let trees = (state g.S.Store c.args.connection.now).now.trees in
    let holdings = c.in_ok-holdings.holdings in
    let Sound = IsSummedUp format profile trees database.id.0 in
    let counted = as_searched {format = format} {row_work = g.L.Layout.row_work} {C = Uncounted} {v = c.args.work.now} c.in_ok-kept.ensures (λ none. refl) (λ clean store content has. tt) in
    asks_on c.in_ok-database.ensures (searches_behind {E = λ trees. ⊥} {G = λ (t : Trees) (summed : Vec Holding Global). IsRecordCount t database.id.0 c.in_ok-kept.kept × Paired (λ target holding. IsSummedUp format profile t database.id.0 target (extent_of holding)) c.deref.result.now summed.items} {K = Uncounted} {z = holdings} counted c.in_ok-holdings.ensures (λ store kept sums. (kept, sums)) (λ content has kept sums counted more. tt)) (λ store found both.
    let paired = subst (λ (l : List Target). Paired (λ target holding. Sound target (extent_of holding)) l holdings.items) (c.deref.ensures.value ∙ c.in_ok-targets.ensures) both.1 in
    inl (inr (database.id.0, pos database.last, found, (c.in_ok-kept.kept, database.last, both.0, refl, (map extent_of holdings.items, extents_told Sound _ holdings.items paired, refl)))))
