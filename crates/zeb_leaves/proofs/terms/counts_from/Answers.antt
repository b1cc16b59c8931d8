use Rattle.zeb_leaves.proofs.Cited.{◌++◌, [], sym, subst, inl, inr, rules, HideOwns, IsNoText, ShowOwns, refused_so}
use Rattle.std.proofs.lemmas.List.{append_assoc, drop_all}
use Rattle.zeb_leaves.proofs.CountedTerms.{count_joined}
use Rattle.zeb_leaves.proofs.TermCalls.{hidden_step, keyless_step, own_step}
use Rattle.zeb_leaves.proofs.terms.counts_from.Goals as goal

pub loop-next-init : goal.loop-next-init
loop-next-init c = record { leads = ([], c.new-counts.ensures.items, λ rest shows. shows); hides = λ bad. bad }

pub returns-in_err-own : goal.returns-in_err-own
returns-in_err-own c = refused_so _ _ c.from_residual.result c.in_err-own.field-0.0 (search rules) (λ told. c.loop-next.invariant.hides (keyless_step c.loop-next.from.term.now c.loop-next.from.block c.loop-next.next-index c.loop-next.row.now c.next-item.result c.args.behind.now c.loop-next-test.true c.next-item.is IsNoText c.in_err-own.ensures.refused.1))

pub returns-in_err-count_row : goal.returns-in_err-count_row
returns-in_err-count_row c = refused_so _ _ c.from_residual-in_err-count_row.result c.in_err-count_row.field-0.0 (search rules) (λ told. c.loop-next.invariant.hides (hidden_step c.loop-next.from.term.now c.loop-next.from.block c.loop-next.next-index c.loop-next.row.now c.next-item.result c.args.behind.now c.loop-next-test.true c.next-item.is IsNoText c.in_ok-own.own.term.now c.in_ok-own.own.block c.in_ok-own.ensures.ok (inl (c.in_err-count_row.ensures told))))

pub loop-next-preserved : goal.loop-next-preserved
loop-next-preserved c =
    let put = c.in_ok-count_row.ensures in
    let before = c.loop-next.invariant.leads in
    record {
      leads = (
        before.0 ++ put.0,
        count_joined before.0 put.0 [] c.loop-next.counts.items _ before.1 put.2,
        λ rest more.
            subst (ShowOwns c.args.first.now 0 c.args.leaf.now c.args.behind.now) (sym (append_assoc before.0 put.0 rest))
            (before.2 (put.0 ++ rest) (own_step c.loop-next.from.term.now c.loop-next.from.block c.loop-next.next-index c.loop-next.row.now c.next-item.result c.args.behind.now c.loop-next-test.true c.next-item.is c.in_ok-own.own.term.now c.in_ok-own.own.block put.0 rest c.in_ok-own.ensures.ok put.1 more)),
      );
      hides = λ bad. c.loop-next.invariant.hides (hidden_step c.loop-next.from.term.now c.loop-next.from.block c.loop-next.next-index c.loop-next.row.now c.next-item.result c.args.behind.now c.loop-next-test.true c.next-item.is IsNoText c.in_ok-own.own.term.now c.in_ok-own.own.block c.in_ok-own.ensures.ok (inr bad));
    }

pub returns-in_err-count_row-2 : goal.returns-in_err-count_row-2
returns-in_err-count_row-2 c = refused_so _ _ c.from_residual-in_err-count_row-2.result c.in_err-count_row-2.field-0.0 (search rules) (λ told.
    let none = drop_all c.loop-next.next-index c.args.behind.now (search rules) in
    c.loop-next.invariant.hides (subst (λ rows. HideOwns IsNoText c.loop-next.from.term.now c.loop-next.from.block c.loop-next.row.now rows) (sym none) (c.in_err-count_row-2.ensures told)))

pub returns : goal.returns
returns c =
    let put = c.in_ok-count_row-2.ensures in
    let before = c.loop-next.invariant.leads in
    let none = drop_all c.loop-next.next-index c.args.behind.now (search rules) in
    (before.0 ++ put.0, before.2 put.0 (subst (λ rows. ShowOwns c.loop-next.from.term.now c.loop-next.from.block c.loop-next.row.now rows put.0) (sym none) put.1), count_joined before.0 put.0 [] c.loop-next.counts.items _ before.1 put.2)
