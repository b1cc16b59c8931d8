use Rattle.zeb_image.proofs.Cited.{◌≡◌, ◌∙◌, ◌+◌, ◌++◌, List, [], ◌∷◌, map, take, sym, ap, subst, arith, take_more, take_all, has_at, Record, AreOccurrencesOrNone, AreRecordsPostings, CanKeepAll, bare}
use Rattle.zeb_image.proofs.CheckedRecords.{one_kept, one_posted}
use Rattle.zeb_image.proofs.checking_records.postings_of.Goals as goal

pub returns-in_default : goal.returns-in_default
returns-in_default c all =
    let item = c.kept-item.result in
    subst (AreOccurrencesOrNone c.args.profile.now c.args.last item) c.in_default.is c.in_ok-found.ensures
    (all item (has_at c.args.records.now c.loop-kept.kept-index item c.loop-kept-test.true c.kept-item.is))

pub loop-kept-preserved : goal.loop-kept-preserved
loop-kept-preserved c =
    let profile = c.args.profile.now in
    let records = c.args.records.now in
    let index = c.loop-kept.kept-index in
    let item = c.kept-item.result in
    let found = subst (AreOccurrencesOrNone profile c.args.last item) c.in-Some.is c.in_ok-found.ensures in
    let split : take (index + 1) records ≡ take index records ++ item ∷ [] = take_more records index item c.loop-kept-test.true ∙ ap (λ (x : Record). take index records ++ x ∷ []) (sym c.kept-item.is) in
    record {
      sound = subst (CanKeepAll profile c.args.last) (sym split) (one_kept profile c.args.last (take index records) item c.loop-kept.invariant.sound found.0);
      postings = subst (λ (l : List Record). AreRecordsPostings profile l (map bare c.add_postings.new.postings.items)) (sym split)
          (one_posted profile (take index records) item (map bare c.loop-kept.postings.items) (map bare c.add_postings.new.postings.items) c.in-Some.found.items c.loop-kept.invariant.postings found.1 c.in_ok-add_postings.ensures);
    }

pub returns : goal.returns
returns c =
    let records = c.args.records.now in
    let whole : take c.loop-kept.kept-index records ≡ records = take_all c.loop-kept.kept-index records (omega (arith, c.loop-kept-test.false, c.loop-kept.auto.kept-index-end)) in (
      subst (CanKeepAll c.args.profile.now c.args.last) whole c.loop-kept.invariant.sound,
      c.in_ok-in_order.ensures.rising,
      λ it.
          let are = subst (λ (l : List Record). AreRecordsPostings c.args.profile.now l (map bare c.loop-kept.postings.items)) whole c.loop-kept.invariant.postings it in
          let same = c.in_ok-in_order.ensures.members it in
          (λ h. are.0 (same.0 h), λ h. same.1 (are.1 h)),
    )
