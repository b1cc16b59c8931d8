-- The entry at which the search ends is that of the key; where it ends at none, each other is below the key or above it.
use Rattle.zeb_leaves.proofs.Cited.{◌∙◌, ap, rules}
use Rattle.std.proofs.lemmas.Fn.{always_returns_same}
use Rattle.zeb_register.proofs.ContentLemmas.{has_at}
use Rattle.zeb_leaves.proofs.SearchedEntries.{key_at, lies, none_at, rise}
use Rattle.zeb_leaves.proofs.turned_entries.entry_at.Goals as goal

pub returns-in-Ok : goal.returns-in-Ok
returns-in-Ok c =
    let term = c.args.key.term.now in
    let block = c.args.key.block in
    let found = rw c.in-Ok.is at (c.binary_search_by.ensures.position (lies term block) (always_returns_same _ _ _ (λ a r f' k. search rules))) in
    let e = c.index-entries-at.result in
    (has_at c.args.entries.now c.in-Ok.at e c.index-entries-at.is (search rules), key_at term block e (ap (lies term block) c.index-entries-at.is ∙ found e))

pub returns-in-Err : goal.returns-in-Err
returns-in-Err c =
    let term = c.args.key.term.now in
    let block = c.args.key.block in
    let found = rw c.in-Err.is at (c.binary_search_by.ensures.position (lies term block) (always_returns_same _ _ _ (λ a r f' k. search rules))) in
    none_at term block c.args.entries.now c.in-Err.field-0 (found (rise term block c.args.entries.now c.requires))
