use Rattle.zeb_register.proofs.Cited.{owned, ◌≡◌, ◌∙◌, ◌+◌, ◌++◌, ℕ, List, length, map, drop, sym, ap, subst, arith, BlockSpells, Key, IsBlockBefore, with_key}
use Rattle.zeb_register.proofs.PackedBeside.{drop_got, drop_over, key_before, map_none, moved_on, none_before, rest_is, same_rest}
use Rattle.zeb_register.proofs.YesNoAnswers.{match_so, some_so}
use Rattle.zeb_register.proofs.packed_agreeing.block_end.Goals as goal
use Rattle.zeb_register.proofs.packed_agreeing.block_end.Goals.{then-column_count-ne5-via-then-column_count-ne5, then-column_count-ne5-via-else-column_count-ne5+then-not-is_key}

pub returns-in_err-first-clause-fits : goal.returns-in_err-first-clause-fits
returns-in_err-first-clause-fits c = rw c.from_residual.ensures (λ rest. none_before c.args.row.now (drop c.args.at c.args.postings.now) rest (drop_over c.args.postings.now c.args.at (let e = c.in_err-first.ensures.lookup in omega (arith, e.3))))

pub returns-then-column_count-ne5-clause-fits : goal.returns-then-column_count-ne5-clause-fits
returns-then-column_count-ne5-clause-fits c rest it =
    let first = c.in_ok-first.first.now in
    let found = c.in_ok-first.ensures.lookup in
    let front = drop_got c.args.postings.now c.args.at first (omega (arith, found.3)) found.1 in
    elim c.then-column_count-ne5.branch [
      | then-column_count-ne5-via-then-column_count-ne5 w ↦ let e : length c.args.row.now ≡ 5 = ap length it.4 in absurd (omega (arith, c.column_count.ensures, w.if-column_count-ne5.true))
      | then-column_count-ne5-via-else-column_count-ne5+then-not-is_key w ↦
          w.is_key.ensures.other w.if-not-is_key.true (key_before c.args.row.now first (drop (c.args.at + 1) c.args.postings.now) rest (subst (λ l. IsBlockBefore c.args.row.now l rest) front it))
    ]

pub returns-in-Ok-Blob-clause-further : goal.returns-in-Ok-Blob-clause-further
returns-in-Ok-Blob-clause-further c = some_so _ _ _ c.spelled_end.result (λ end it. (moved_on c.args.postings.now _ c.args.at end it.1.2 (λ none. it.1.1.some (map_none _ it.1.0 none)), it.0)) c.spelled_end.ensures

pub returns-in-Ok-Blob-clause-fits : goal.returns-in-Ok-Blob-clause-fits
returns-in-Ok-Blob-clause-fits c =
    let first = c.in_ok-first.first.now in
    let key = first.key in
    let block = c.in_ok-block.block in
    let bytes = c.in-Ok-Blob.bytes.now in
    let five : length c.args.row.now ≡ 5 = omega (arith, c.column_count.ensures, c.if-column_count-ne5.false) in
    let row = rest_is key block bytes c.args.row.now five (c.is_key.ensures.same c.if-not-is_key.false) c.in_ok-block.ensures (sym c.in-Ok-Blob.ensures.ok.1 ∙ ap owned c.in-Ok-Blob.field-0-is) in
    match_so _ _ _ _ c.spelled_end.result
    (λ none rest it.
    let told = same_rest it.0 key it.1 block it.2 bytes (sym it.4 ∙ row) in
    let spells : BlockSpells block it.3 bytes = subst (λ (d : List ℕ). BlockSpells block it.3 d) told.2 (subst (λ (b : ℕ). BlockSpells b it.3 it.2) told.1 it.5) in
    none it.3 rest spells (it.6 ∙ ap (λ (k : Key). map (with_key k) it.3 ++ rest) told.0))
    (λ end it. (key, block, bytes, it.1.0, row, it.1.1, it.1.2))
    c.spelled_end.ensures
