use Rattle.zeb_change.proofs.Cited.{rules, ◌≡◌, ◌∷◌, take, [], take_more, drop-cons, all-append}
use Rattle.zeb_change.proofs.KeyEquality.{same_key}
use Rattle.zeb_change.proofs.changed_keys.run_length.Goals as goal

pub returns-then-ne-clause-stops : goal.returns-then-ne-clause-stops
returns-then-ne-clause-stops c =
    let item = c.index-occurrences-index.result in
    rw (drop-cons c.args.occurrences.now c.loop-index.index item c.loop-index-test.true, ← c.index-occurrences-index.is) (λ same. absurd (search (rules, same, c.ne.ensures, c.if-ne.true)))

pub loop-index-preserved : goal.loop-index-preserved
loop-index-preserved c =
    let key = c.args.key.now in
    let all = c.args.occurrences.now in
    let index = c.loop-index.index in
    let item = c.index-occurrences-index.result in
    let same : item.key ≡ key = same_key item.key key (search (rules, c.ne.ensures, c.if-ne.false)) in
    record { so_far = rw (take_more all index item c.loop-index-test.true, ← c.index-occurrences-index.is) (all-append (λ o. o.key ≡ key) (take index all) (item ∷ []) c.loop-index.invariant.so_far (same, tt)) }
