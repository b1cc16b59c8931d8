use Rattle.zeb_query.proofs.Cited.{Some, None, sym, ◌∙◌, lit<, split_once_first}
use Rattle.zeb_query.proofs.GrammarLemmas.{kind_and_value-none, kind_and_value-some, if_any-empty, if_any-more}
use Rattle.zeb_query.proofs.grammar.kind_and_value.Goals as goal

pub returns-in_err-kind : goal.returns-in_err-kind
returns-in_err-kind c =
    rw c.from_residual.ensures (sym (kind_and_value-none c.args.text.now (split_once_first 61 c.args.text.now None c.in_err-kind.ensures.cases (lit< tt))))

pub returns-in_err-kind-2 : goal.returns-in_err-kind-2
returns-in_err-kind-2 c =
    let cut = split_once_first 61 c.args.text.now (Some (c.in_ok-kind.kind, c.in_ok-kind.value)) c.in_ok-kind.ensures.cases (lit< tt) in
    rw c.from_residual-in_err-kind-2.ensures (sym (kind_and_value-some c.args.text.now c.in_ok-kind.kind.now c.in_ok-kind.value.now None cut c.in_err-kind-2.ensures.value))

pub returns-then-is_empty : goal.returns-then-is_empty
returns-then-is_empty c =
    let cut = split_once_first 61 c.args.text.now (Some (c.in_ok-kind.kind, c.in_ok-kind.value)) c.in_ok-kind.ensures.cases (lit< tt) in
    sym (kind_and_value-some c.args.text.now c.in_ok-kind.kind.now c.in_ok-kind.value.now (Some c.in_ok-kind-2.kind) cut c.in_ok-kind-2.ensures.value
    ∙ if_any-empty c.in_ok-kind-2.kind c.in_ok-kind.value.now c.if-is_empty.ensures)

pub returns-else-is_empty : goal.returns-else-is_empty
returns-else-is_empty c =
    let cut = split_once_first 61 c.args.text.now (Some (c.in_ok-kind.kind, c.in_ok-kind.value)) c.in_ok-kind.ensures.cases (lit< tt) in
    sym (kind_and_value-some c.args.text.now c.in_ok-kind.kind.now c.in_ok-kind.value.now (Some c.in_ok-kind-2.kind) cut c.in_ok-kind-2.ensures.value
    ∙ if_any-more c.in_ok-kind-2.kind c.in_ok-kind.value.now c.if-is_empty.ensures)
