use Rattle.zeb_laws.proofs.Cited.{◌∙◌, refl, ap, canonical_text, Outcome, holding, rules_told, reindex_done, reindex_stays, ruled_good, upgrade_again, upgrade_stays}
use Rattle.zeb_laws.proofs.renewal_laws.the_databases_stay.Goals as goal

pub returns-clause-reindexed : goal.returns-clause-reindexed
returns-clause-reindexed c k before later step = reindex_stays k before later step

pub returns-clause-upgraded : goal.returns-clause-upgraded
returns-clause-upgraded c k before later step = upgrade_stays k before later step

pub returns-clause-again : goal.returns-clause-again
returns-clause-again c k bases answer later step = upgrade_again k bases answer later step

pub returns-clause-same : goal.returns-clause-same
returns-clause-same c k bases answer later sound step =
    let told = reindex_done k (holding k bases) bases (ruled_good k k.version (canonical_text k.profile) bases refl ((rules_told k.profile k.profile sound sound).1 refl)) in
    (step.0 ∙ ap (λ (o : Outcome). o.0) told, step.1 ∙ ap (λ (o : Outcome). o.1) told)
