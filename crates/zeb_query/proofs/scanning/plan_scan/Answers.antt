use Rattle.zeb_query.proofs.Cited.{string_bytes, query_value, tree_value, head_value, heads, no_head, subst, sym, Gives, checked_by, scan_checks, scan_checks_in, scan_value, tree_scanned, BeginsAtKey}
use Rattle.zeb_query.specs.Attributes.{holding_of}
use Rattle.zeb_query.specs.Plans.{scan_asked}
use Rattle.zeb_query.proofs.CheckLemmas.{given_ok}
use Rattle.zeb_query.proofs.TermCheckLemmas.{scan_steps}
use Rattle.zeb_query.proofs.PlanNumbers.{leaf_begins}
use Rattle.zeb_query.proofs.scanning.plan_scan.Goals as goal

pub returns-in-Term-clause-planned : goal.returns-in-Term-clause-planned
returns-in-Term-clause-planned c =
    let profile = c.args.profile.now in
    let set = (query_value c.args.query.now).attrset in
    let leaf = c.in-Term.leaf in
    subst (λ tree. Gives scan_value c.scan_leaf.result (checked_by (scan_checks_in profile set (tree_value tree)) (tree_scanned profile set (tree_value tree)))) (sym c.in-Term.is)
    (subst (λ r. Gives scan_value c.scan_leaf.result r) (scan_steps profile (holding_of set (heads no_head (head_value leaf.head))) leaf.place (string_bytes leaf.text)) c.scan_leaf.ensures)

pub returns-in-Term-clause-number : goal.returns-in-Term-clause-number
returns-in-Term-clause-number c =
    let profile = c.args.profile.now in
    let leaf = c.in-Term.leaf in
    let h = holding_of (query_value c.args.query.now).attrset (heads no_head (head_value leaf.head)) in
    let text = string_bytes leaf.text in
    given_ok scan_value BeginsAtKey c.scan_leaf.result (checked_by (scan_checks profile leaf.place h text) (scan_asked profile h text))
    (subst (λ r. Gives scan_value c.scan_leaf.result r) (scan_steps profile h leaf.place text) c.scan_leaf.ensures)
    (leaf_begins profile h leaf.place text)
