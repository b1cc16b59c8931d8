use Rattle.zeb_search.proofs.Cited.{◌≡◌, ◌∙◌, ◌↔◌, ◌<◌, ◌+◌, ◌++◌, ◌∷◌, [], Bool, true, false, cond, IsTrue, List, length, get_or, arith, refl, sym, ap, subst, Vec, get_or_default, posting_cmp, Posting, IsBehind, IsStrictlySortedBy}
use Rattle.std.proofs.Common.{Global}
use Rattle.zeb_search.proofs.FollowingPostings.{AreFollowed, follow_begins, follow_step, origin}
use Rattle.zeb_search.proofs.lists.with_one_within.Goals as goal
use Rattle.zeb_search.proofs.lists.with_one_within.Goals.{then-at-others+then-stands_behind+in_ok-push, else-at-others, else-at-others-via-then-at-others+else-stands_behind, else-at-others-via-else-at-others}

pub loop-posting-init : goal.loop-posting-init
loop-posting-init c = record {
  within = omega arith;
  followed = λ up down. subst (AreFollowed c.args.words c.args.postings.now c.args.others.now 0 0) (sym c.new-list.ensures.items) (follow_begins c.args.words c.args.postings.now c.args.others.now);
}

pub loop-posting-preserved : goal.loop-posting-preserved
loop-posting-preserved c =
    let postings : List Posting = c.args.postings.now in
    let others : List Posting = c.args.others.now in
    let i = c.loop-posting.posting-index in
    let next = c.first_from-at.result in
    let posting : Posting = get_or postings i origin in
    let step : (kept : Bool) → IsTrue kept ↔ ((next < length others) × IsBehind c.args.words (get_or others next origin) posting)
    → c.if-at-others.list.items ≡ cond kept (c.loop-posting.list.items ++ posting ∷ []) c.loop-posting.list.items
    → IsStrictlySortedBy posting_cmp postings → IsStrictlySortedBy posting_cmp others → AreFollowed c.args.words postings others (i + 1) next c.if-at-others.list.items =
    λ kept keeps pushed up down.
    follow_step c.args.words postings others i c.loop-posting.at next posting origin kept c.loop-posting.list.items c.if-at-others.list.items
    up down c.loop-posting-test.true (get_or_default postings i origin posting c.loop-posting-test.true)
    c.first_from-at.ensures.before c.first_from-at.ensures.first keeps pushed (c.loop-posting.invariant.followed up down) in
    record {
      within = c.first_from-at.ensures.bounds.1;
      followed = elim c.if-at-others.branch [
        | then-at-others+then-stands_behind+in_ok-push w ↦
            step true (λ kept. (w.if-at-others.true, w.stands_behind.ensures.0 w.if-stands_behind.true), λ behind. refl) (ap (λ (v : Vec Posting Global). v.items) w.list-is ∙ w.in_ok-push.ensures.items)
        | else-at-others w ↦ elim w.else-at-others.branch [
          | else-at-others-via-then-at-others+else-stands_behind v ↦
              step false (λ kept. absurd (cc), λ behind. sym v.if-stands_behind.false ∙ v.stands_behind.ensures.1 behind.1) (ap (λ (v : Vec Posting Global). v.items) w.list-is)
          | else-at-others-via-else-at-others v ↦
              step false (λ kept. absurd (cc), λ behind. absurd (omega (arith, behind.0, v.if-at-others.false))) (ap (λ (v : Vec Posting Global). v.items) w.list-is)
        ]
      ];
    }
