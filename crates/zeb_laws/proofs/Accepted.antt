-- An accepted change is a fold of all records of its files.
use Rattle.zeb_laws.proofs.Cited.{◌≡◌, ℕ, List, Result, Ok, Err, refl, Split, Kind, Why, changed, Conditions, IsAccepted, Progress, at_first, files_folded, Base, Holdings, base_named, change_ends, change_from, ends, start_of, turned_from}
use Rattle.zeb_engine.specs.Steps.{changed_by_files, ready, turned}

module _ (c : Conditions) (kind : Kind) (name : List ℕ) (files : List Split) (before : Holdings) (inserted updated deleted : ℕ) where
  module _ (bases : List Base) (is_ready : ready c before ≡ Ok bases) where
    module _ (base : Base) (begun : start_of kind name (base_named name bases) ≡ Ok base) where
      folds_so : (said : Result Progress Why) → files_folded c kind 1 files (at_first base) ≡ said → (ends c before (change_ends bases said)).0 ≡ changed inserted updated deleted
          → IsAccepted c kind name files before (ends c before (change_ends bases said))
      folds_so (Ok p) is answer = record { bases = bases; base = base; progress = p; is_ready = is_ready; begun = begun; folds = is; is = refl }
      folds_so (Err why) is answer = cc

    begins_so : (start : Result Base Why) → start_of kind name (base_named name bases) ≡ start → (ends c before (change_from c kind files bases start)).0 ≡ changed inserted updated deleted
        → IsAccepted c kind name files before (ends c before (change_from c kind files bases start))
    begins_so (Ok base) is answer = folds_so base is (files_folded c kind 1 files (at_first base)) refl answer
    begins_so (Err why) is answer = cc

  ready_so : (said : Result (List Base) Why) → ready c before ≡ said → (turned_from c (changed_by_files c kind name files) before said).0 ≡ changed inserted updated deleted
      → IsAccepted c kind name files before (turned_from c (changed_by_files c kind name files) before said)
  unfolding changed_by_files
  ready_so (Ok bases) is answer = begins_so bases is (start_of kind name (base_named name bases)) refl answer
  ready_so (Err why) is answer = cc

  pub change_accepted : (turned c (changed_by_files c kind name files) before).0 ≡ changed inserted updated deleted
      → IsAccepted c kind name files before (turned c (changed_by_files c kind name files) before)
  unfolding turned
  change_accepted answer = ready_so (ready c before) refl answer
