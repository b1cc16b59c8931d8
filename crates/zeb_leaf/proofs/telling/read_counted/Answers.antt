-- As many bytes as the number says, or fewer are left.
use Rattle.zeb_leaf.proofs.Parts.{counted-append, cut_counted, whole_counted}
use Rattle.zeb_leaf.proofs.Cited.{◌∙◌, ◌++◌, arith, sym, take-append-drop}
use Rattle.zeb_leaf.proofs.telling.read_counted.Goals as goal

pub returns-in_err-count : goal.returns-in_err-count
returns-in_err-count c = rw c.from_residual.ensures (λ part rest fits same. c.in_err-count.ensures _ _ fits (same ∙ counted-append part rest))

pub returns-in_err-part : goal.returns-in_err-part
returns-in_err-part c =
    let counted = c.in_ok-count.ensures in
    rw c.from_residual-in_err-part.ensures (cut_counted c.args.bytes.now c.in_ok-count.onward.now c.in_ok-count.count counted.0 counted.1 c.in_err-part.ensures.cases)

pub returns : goal.returns
returns c =
    let onward = c.in_ok-count.onward.now in
    let count = c.in_ok-count.count in
    let counted = c.in_ok-count.ensures in
    let split = c.in_ok-part.ensures.cases in
    let part = c.in_ok-part.part.now in
    let behind = c.in_ok-part.behind.now in (
      omega (arith, split.3, counted.0),
      whole_counted c.args.bytes.now onward part behind count counted.1 split.1 split.2 split.3,
      sym ((λ i. split.1 i ++ split.2 i) ∙ take-append-drop count onward),
    )
