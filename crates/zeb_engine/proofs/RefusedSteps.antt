-- A command whose answer is a refusal leaves what was held.
use Rattle.zeb_engine.proofs.Cited.{◌≡◌, ◌∙◌, ℕ, List, map, Option, Some, None, Result, Ok, Err, refl, sym, Split, Command, Init, Reindex, Upgrade, Create, Drop, Change, Kind, Answer, refused, Why, Conditions, Accepts, IsRefused, Progress, at_first, files_folded, splits_of, Base, Holdings, base_named, name_bytes, Turn, all_stay, change_ends, change_from, created_in, dropped_in, ends, start_of, turned_from}
use Rattle.zeb_engine.specs.Steps.{changed_by_files, created, dropped, initialised, ready, reindexed, ruled, turned, upgradable, upgraded}
use Rattle.zeb_engine.proofs.StepLemmas.{MayAnswer, after}

-- what a turn answers that is taken is no refusal
abbrev IsFine : Result (Answer × List Base) Why → Type 0
IsFine (Ok told) = Accepts told.0
IsFine (Err why) = Unit {0}

ends_still : (c : Conditions) (before : Holdings) (said : Result (Answer × List Base) Why) (why : Why) → IsFine said → (ends c before said).0 ≡ refused why → (ends c before said).1 ≡ before
ends_still c before (Ok told) why fine is = absurd (fine why is)
ends_still c before (Err other) why fine is = refl

from_still : (c : Conditions) (turn : Turn) → ((bases : List Base) → IsFine (turn bases)) → (before : Holdings) (why : Why) (said : Result (List Base) Why) → (turned_from c turn before said).0 ≡ refused why → (turned_from c turn before said).1 ≡ before
from_still c turn fine before why (Ok bases) is = ends_still c before (turn bases) why (fine bases) is
from_still c turn fine before why (Err other) is = refl

turned_still : (c : Conditions) (turn : Turn) → ((bases : List Base) → IsFine (turn bases)) → (before : Holdings) (why : Why) → (turned c turn before).0 ≡ refused why → (turned c turn before).1 ≡ before
unfolding turned
turned_still c turn fine before why is = from_still c turn fine before why (ready c before) is

created_fine : (name : List ℕ) (bases : List Base) → IsFine (created name bases)
unfolding created
created_fine name bases = from (base_named name bases)
  where
    from : (o : Option Base) → IsFine (created_in name bases o)
    from (Some base) = tt
    from None = λ why is. absurd cc

dropped_fine : (name : List ℕ) (bases : List Base) → IsFine (dropped name bases)
unfolding dropped
dropped_fine name bases = from (base_named name bases)
  where
    from : (o : Option Base) → IsFine (dropped_in name bases o)
    from (Some base) = λ why is. absurd cc
    from None = tt

folds_fine : (bases : List Base) (said : Result Progress Why) → IsFine (change_ends bases said)
folds_fine bases (Ok p) = λ why is. absurd cc
folds_fine bases (Err why) = tt

changed_fine : (c : Conditions) (kind : Kind) (name : List ℕ) (files : List Split) (bases : List Base) → IsFine (changed_by_files c kind name files bases)
unfolding changed_by_files
changed_fine c kind name files bases = from (start_of kind name (base_named name bases))
  where
    from : (start : Result Base Why) → IsFine (change_from c kind files bases start)
    from (Ok base) = folds_fine bases (files_folded c kind 1 files (at_first base))
    from (Err why) = tt

stay_fine : (bases : List Base) → IsFine (all_stay bases)
stay_fine bases = λ why is. absurd cc

reindexed_still : (c : Conditions) (before : Holdings) (why : Why) → (reindexed c before).0 ≡ refused why → (reindexed c before).1 ≡ before
unfolding reindexed
reindexed_still c before why is = from_still c all_stay stay_fine before why (ruled c before) is

upgraded_still : (c : Conditions) (before : Holdings) (why : Why) → (upgraded c before).0 ≡ refused why → (upgraded c before).1 ≡ before
unfolding upgraded
upgraded_still c before why is = from_still c all_stay stay_fine before why (upgradable c before) is

init_accepts : (c : Conditions) (before : Holdings) (why : Why) → (initialised c before).0 ≡ refused why → ⊥
unfolding initialised
init_accepts c before why is = absurd cc

pub refused_still : (c : Conditions) (command : Command) (before : Holdings) (answer : Answer) → MayAnswer c command before answer → IsRefused answer → after c command before ≡ before
refused_still c Init before answer told refuses = absurd (init_accepts c before refuses.0 (sym told ∙ refuses.1))
refused_still c Reindex before answer told refuses = reindexed_still c before refuses.0 (sym told ∙ refuses.1)
refused_still c Upgrade before answer told refuses = upgraded_still c before refuses.0 (sym told ∙ refuses.1)
refused_still c (Create name) before answer told refuses = turned_still c (created (name_bytes name)) (created_fine (name_bytes name)) before refuses.0 (sym told ∙ refuses.1)
refused_still c (Drop name) before answer told refuses = turned_still c (dropped (name_bytes name)) (dropped_fine (name_bytes name)) before refuses.0 (sym told ∙ refuses.1)
refused_still c (Change kind name files) before answer told refuses =
    let texts = splits_of (map (λ file. file.items) files.items) in
    turned_still c (changed_by_files c kind (name_bytes name) texts) (changed_fine c kind (name_bytes name) texts) before refuses.0 (sym told ∙ refuses.1)
refused_still c _ before answer told refuses = refl
