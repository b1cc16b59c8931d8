use Rattle.zeb_packed.proofs.Cited.{◌≡◌, ◌∙◌, [], ◌∷◌, ◌++◌, Err, ap, inl, inr, map, rules, subst, sym, CountsTerm, count_row, refused_so, taken_more}
use Rattle.zeb_packed.proofs.DictTerms.{counted_more}
use Rattle.zeb_packed.proofs.packed.counts_in.Goals as goal

pub loop-row-preserved : goal.loop-row-preserved
loop-row-preserved c = record {
  shown =
      let pushed : c.push.new.self.items ≡ c.loop-row.counts.items ++ c.in_ok-count_of.field-0 ∷ [] = search rules in
      ap (map count_row) pushed ∙ counted_more c.args.rows.now c.loop-row.row-index c.row-item.result c.loop-row.counts.items c.in_ok-count_of.field-0 c.loop-row-test.true c.row-item.is c.loop-row.invariant.shown c.in_ok-count_of.ensures.ok;
  counted = λ row here. elim ((taken_more c.args.rows.now c.loop-row.row-index c.row-item.result c.loop-row-test.true c.row-item.is row).0 here) [
    | inl there ↦ c.loop-row.invariant.counted row there
    | inr same ↦ subst CountsTerm (sym same) c.in_ok-count_of.ensures.sound
  ];
}

pub returns-in_err-count_of-clause-tells : goal.returns-in_err-count_of-clause-tells
returns-in_err-count_of-clause-tells c = refused_so _ _ c.from_residual.result c.in_err-count_of.field-0.0 (search rules) (λ told. record {
  at = c.loop-row.row-index;
  within = c.loop-row-test.true;
  row = c.row-item.result;
  is = c.row-item.is;
  bad = c.in_err-count_of.ensures.honest (ap Err told);
  terms = c.loop-row.counts.items;
  told = c.loop-row.invariant;
})
