use Rattle.zeb_leaves.proofs.Cited.{◌++◌, ◌+◌, [], refl, sym, subst, inl, inr, arith, rules, HideOwns, SaysNone, ShowOwns, refused_so}
use Rattle.std.proofs.lemmas.List.{append_assoc, drop_all}
use Rattle.zeb_leaves.proofs.SpotsSaid.{many_joined}
use Rattle.zeb_leaves.proofs.TermCalls.{hidden_step, keyless_step, own_step}
use Rattle.zeb_leaves.proofs.term_totals.postings_from.Goals as goal

pub loop-next-init : goal.loop-next-init
loop-next-init c = record { leads = ([], 0, refl, refl, λ rest shows. shows); hides = λ bad. bad }

pub returns-in_err-own : goal.returns-in_err-own
returns-in_err-own c = refused_so _ _ c.from_residual.result c.in_err-own.field-0.0 (search rules)
    (λ told. c.loop-next.invariant.hides (keyless_step c.loop-next.from.term.now c.loop-next.from.block c.loop-next.next-index c.loop-next.row.now c.next-item.result c.args.behind.now c.loop-next-test.true c.next-item.is SaysNone c.in_err-own.ensures.refused.1))

pub returns-in_err-row_postings : goal.returns-in_err-row_postings
returns-in_err-row_postings c = refused_so _ _ c.from_residual-in_err-row_postings.result c.in_err-row_postings.field-0.0 (search rules)
    (λ told. c.loop-next.invariant.hides (hidden_step c.loop-next.from.term.now c.loop-next.from.block c.loop-next.next-index c.loop-next.row.now c.next-item.result c.args.behind.now c.loop-next-test.true c.next-item.is SaysNone c.in_ok-own.own.term.now c.in_ok-own.own.block c.in_ok-own.ensures.ok (inl (c.in_err-row_postings.ensures told))))

pub loop-next-preserved : goal.loop-next-preserved
loop-next-preserved c =
    let put = c.in_ok-row_postings.ensures in
    let before = c.loop-next.invariant.leads in
    record {
      leads = (
        before.0 ++ put.0,
        before.1 + put.1,
        many_joined before.0 put.0 before.1 put.1 before.2 put.3,
        omega (arith, c.saturating_add-many.ensures, before.3, put.4),
        λ rest more.
            subst (ShowOwns c.args.first.now 0 c.args.leaf.now c.args.behind.now) (sym (append_assoc before.0 put.0 rest))
            (before.4 (put.0 ++ rest) (own_step c.loop-next.from.term.now c.loop-next.from.block c.loop-next.next-index c.loop-next.row.now c.next-item.result c.args.behind.now c.loop-next-test.true c.next-item.is c.in_ok-own.own.term.now c.in_ok-own.own.block put.0 rest c.in_ok-own.ensures.ok put.2 more)),
      );
      hides = λ bad. c.loop-next.invariant.hides (hidden_step c.loop-next.from.term.now c.loop-next.from.block c.loop-next.next-index c.loop-next.row.now c.next-item.result c.args.behind.now c.loop-next-test.true c.next-item.is SaysNone c.in_ok-own.own.term.now c.in_ok-own.own.block c.in_ok-own.ensures.ok (inr bad));
    }

pub returns-in_err-row_postings-2 : goal.returns-in_err-row_postings-2
returns-in_err-row_postings-2 c = refused_so _ _ c.from_residual-in_err-row_postings-2.result c.in_err-row_postings-2.field-0.0 (search rules) (λ told.
    let none = drop_all c.loop-next.next-index c.args.behind.now (search rules) in
    c.loop-next.invariant.hides (subst (λ rows. HideOwns SaysNone c.loop-next.from.term.now c.loop-next.from.block c.loop-next.row.now rows) (sym none) (c.in_err-row_postings-2.ensures told)))

pub returns : goal.returns
returns c =
    let put = c.in_ok-row_postings-2.ensures in
    let before = c.loop-next.invariant.leads in
    let none = drop_all c.loop-next.next-index c.args.behind.now (search rules) in (
      before.0 ++ put.0,
      before.1 + put.1,
      before.4 put.0 (subst (λ rows. ShowOwns c.loop-next.from.term.now c.loop-next.from.block c.loop-next.row.now rows put.0) (sym none) put.2),
      many_joined before.0 put.0 before.1 put.1 before.2 put.3,
      omega (arith, c.saturating_add.ensures, before.3, put.4),
    )
