use Rattle.zeb_image.proofs.Cited.{◌≡◌, ◌++◌, AllZip, into_iter_items, state, HasCleanDisk, IsStore, IsMadeOf}
use Rattle.zeb_image.proofs.LookLemmas.{HasLooked}
use Rattle.zeb_image.proofs.checking_databases.expected_databases.Given as goal

abbrev pub invariant-loop-listed : goal.invariant-loop-listed
invariant-loop-listed g l =
    let old = state g.S.Store l.fn.connection in
    let now = state g.S.Store l.connection in
    record {
      looked : HasLooked old now;
      clean : HasCleanDisk now → HasCleanDisk (state g.S.Store l.initial.connection);
      items : into_iter_items l.initial.listed-iterator ≡ l.yielded ++ into_iter_items l.listed-iterator;
      made : HasCleanDisk now → IsStore old → AllZip (IsMadeOf l.profile old.now.trees) l.yielded l.expected.items;
    }
