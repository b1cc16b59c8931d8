-- The parts of the entry stand one behind the other.
use Rattle.zeb_leaf.proofs.Cited.{◌∙◌, drop, ap, shared_of}
use Rattle.std.proofs.lemmas.Result.{on_ok_weaker}
use Rattle.zeb_leaf.proofs.Pushing.{entry_put}
use Rattle.zeb_leaf.proofs.writing.write_entry.Goals as goal

pub returns-clause-ok : goal.returns-clause-ok
returns-clause-ok c =
    let n = c.shared_len-shared.result in
    let shared = c.shared_len-shared.ensures.value ∙ ap (shared_of c.args.before.now) c.as_slice-term.ensures in
    let rest = c.split_at.ensures.back ∙ ap (drop n) c.as_slice-term.ensures in
    on_ok_weaker c.write_counted-2.result
    (entry_put c.args.before.now c.args.entry.now n _ _ c.args.out.now.items _ _ _ _ _ shared rest c.as_slice.ensures c.in_ok-put_number.ensures.ok c.in_ok-write_counted.ensures.ok c.in_ok-put_number-2.ensures.ok c.in_ok-put_number-3.ensures.ok)
    c.write_counted-2.ensures.ok
