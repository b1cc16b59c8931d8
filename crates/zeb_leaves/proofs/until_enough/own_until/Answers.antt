-- The entry is another's, or there are enough before it, or it is counted.
use Rattle.zeb_leaves.proofs.Cited.{◌≡◌, ◌∙◌, List, TermCount, true, false, subst, sym, entry_of, AreEnough}
use Rattle.zeb_leaves.proofs.WalkedRows.{counted_one, enough_before, passed_over}
use Rattle.zeb_leaves.proofs.until_enough.own_until.Goals as goal

pub returns-then-not-chosen : goal.returns-then-not-chosen
returns-then-not-chosen c = passed_over c.args.n (λ _. c.args.chosen) (entry_of c.args.term.now c.args.held) c.args.counts.now.items c.if-not-chosen.true

pub returns-then-are_enough : goal.returns-then-are_enough
returns-then-are_enough c =
    enough_before c.args.n (λ _. c.args.chosen) (entry_of c.args.term.now c.args.held) c.args.counts.now.items c.if-not-chosen.false (subst (λ (l : List TermCount). AreEnough c.args.n l c.args.term.now) c.deref.ensures.value (c.are_enough.ensures.0 c.if-are_enough.true))

pub returns : goal.returns
returns c =
    counted_one c.args.n (λ _. c.args.chosen) (entry_of c.args.term.now c.args.held) c.args.counts.now.items c.count_records.new.counts.items c.if-not-chosen.false
    (λ enough. let e : false ≡ true = sym c.if-are_enough.false ∙ c.are_enough.ensures.1 (subst (λ (l : List TermCount). AreEnough c.args.n l c.args.term.now) (sym c.deref.ensures.value) enough) in cc) c.in_ok-count_records.ensures
