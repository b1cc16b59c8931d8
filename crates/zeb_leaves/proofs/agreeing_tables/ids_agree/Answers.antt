use Rattle.zeb_leaves.proofs.Cited.{state, ◌≡◌, ◌∙◌, sym, ap, subst, refl, inl, inr, arith, false, true, slice_get, column_is, key_posting_order, ListedDatabase, ExpectedDatabase}
use Rattle.std.proofs.lemmas.Int.{ints}
use Rattle.std.specs.List.Sorted.{IsStrictlySortedBy}
use Rattle.zeb_leaves.proofs.LeavesOfIds.{told_leaves}
use Rattle.zeb_register.proofs.AsksInTurn.{asks_behind, asks_handed, asks_handed_behind, asks_so}
use Rattle.zeb_register.proofs.ContentLemmas.{has_at}
use Rattle.zeb_register.proofs.ListsInStep.{at_or_below, got_in, got_is, got_same}
use Rattle.zeb_register.proofs.YesNoAnswers.{no_so}
use Rattle.zeb_leaves.proofs.agreeing_tables.ids_agree.Goals as goal

pub returns-in_err-others_are_empty : goal.returns-in_err-others_are_empty
returns-in_err-others_are_empty g c = asks_handed _ _ _ c.from_residual.result _ _ c.in_err-others_are_empty.ensures c.from_residual.ensures.1

pub returns-then-not-branch : goal.returns-then-not-branch
returns-then-not-branch g c = asks_so _ _ _ _ _ _ c.in_ok-others_are_empty.ensures (λ store others up. no_so _ _ _ c.if-not-branch.true others)

pub loop-at-init : goal.loop-at-init
loop-at-init g c = record { asks = asks_so _ _ _ true _ _ c.in_ok-others_are_empty.ensures (λ store others. (let yes' : c.in_ok-others_are_empty.field-0 ≡ true = c.if-not-branch.false in others.0 yes', λ up k one database below. absurd (omega arith))) }

pub returns-in_err-leaves_hold : goal.returns-in_err-leaves_hold
returns-in_err-leaves_hold g c = asks_handed_behind _ _ _ _ _ c.from_residual-in_err-leaves_hold.result _ _ _ c.loop-at.invariant.asks c.in_err-leaves_hold.ensures c.from_residual-in_err-leaves_hold.ensures.1

pub returns-then-not-branch-2 : goal.returns-then-not-branch-2
returns-then-not-branch-2 g c =
    let trees = (state g.S.Store c.args.conn.now).now.trees in
    let one = c.index-listed-at.result in
    let database = c.index-expected-at.result in
    asks_behind _ _ _ _ _ _ _ _ _ c.loop-at.invariant.asks c.in_ok-leaves_hold.ensures (λ store before value up.
    let rising = subst (IsStrictlySortedBy key_posting_order) (sym c.deref.ensures.value) (up database (has_at _ _ _ c.index-expected-at.is c.loop-at-test.true)) in
    let place = ap (λ (l : ListedDatabase). l.id.0) c.index-listed-at.is in
    let told = told_leaves trees _ one.id.0 _ database.postings.items _ (column_is c.column.ensures.fits (omega (arith, ints, c.column.ensures.value, place))) c.deref.ensures.value (value rising) in (
      λ h. absurd (let e : false ≡ true = h in cc),
      λ both.
          let here = both.1 one database
          (c.loop-at.at, got_is c.args.listed.now c.loop-at.at one c.index-listed-at.is (omega (arith, c.requires, c.loop-at-test.true)), got_is c.args.expected.now c.loop-at.at database c.index-expected-at.is c.loop-at-test.true) in
          let yes' : c.in_ok-leaves_hold.field-0 ≡ true = told.1 here in
          let no' : c.in_ok-leaves_hold.field-0 ≡ false = c.if-not-branch-2.true in
          absurd (cc),
    ))

pub loop-at-preserved : goal.loop-at-preserved
loop-at-preserved g c =
    let trees = (state g.S.Store c.args.conn.now).now.trees in
    record {
      asks = asks_behind _ _ _ _ _ true _ _ _ c.loop-at.invariant.asks c.in_ok-leaves_hold.ensures (λ store before value. (
        before.0,
        λ up k one database below here there.
            elim (at_or_below k c.loop-at.at below) [
              | inl earlier ↦ before.1 up k one database earlier here there
              | inr this ↦
                  let rising = subst (IsStrictlySortedBy key_posting_order) (sym c.deref.ensures.value) (up c.index-expected-at.result (has_at _ _ _ c.index-expected-at.is c.loop-at-test.true)) in
                  let left : one ≡ c.index-listed-at.result = got_same c.args.listed.now c.loop-at.at one c.index-listed-at.result (ap (slice_get c.args.listed.now) (sym this) ∙ here) c.index-listed-at.is in
                  let right : database ≡ c.index-expected-at.result = got_same c.args.expected.now c.loop-at.at database c.index-expected-at.result (ap (slice_get c.args.expected.now) (sym this) ∙ there) c.index-expected-at.is in
                  let place = ap (λ (l : ListedDatabase). l.id.0) (left ∙ c.index-listed-at.is) in
                  let told = told_leaves trees _ one.id.0 _ database.postings.items _ (column_is c.column.ensures.fits (omega (arith, ints, c.column.ensures.value, place))) (c.deref.ensures.value ∙ ap (λ (d : ExpectedDatabase). d.postings.items) (sym right)) (value rising) in
                  told.0 c.if-not-branch-2.false
            ],
      ));
    }

pub returns : goal.returns
returns g c = asks_so _ _ _ _ _ _ c.loop-at.invariant.asks (λ store done up. (
  λ h. (done.0, λ one database pair. done.1 up pair.0 one database (let e = got_in c.args.expected.now pair.0 database pair.2 in omega (arith, e, c.loop-at-test.false)) pair.1 pair.2),
  λ both. refl,
))
