-- One change is merged after the other, and what is left stays.
use Rattle.zeb_leaf.proofs.Cited.{◌≡◌, ◌∙◌, ◌∷◌, List, length, sym, ap, subst, arith, rules, Entry, AreMerged, BlockChange}
use Rattle.std.specs.Vec.Iter.{into_iter_items}
use Rattle.zeb_leaf.proofs.MergedLists.{MergesAll, merged_all, merged_end, merged_more}
use Rattle.zeb_leaf.proofs.merging.merge.Goals as goal

pub loop-change-init : goal.loop-change-init
loop-change-init c =
    let gives : into_iter_items c.into_iter-change-iterator.result ≡ c.args.changes.items = c.into_iter-change-iterator.ensures.into_iter_gives.0 in
    record {
      left = search rules;
      leads = λ end all. rw c.in_ok-merged.ensures.items (subst (λ (l : List Entry). MergesAll c.args.changes.items l end) c.from_vec-left.ensures.items (subst (λ (l : List BlockChange). MergesAll l c.from_vec-left.result.items end) gives all));
    }

pub loop-change-preserved : goal.loop-change-preserved
loop-change-preserved c =
    let at = c.loop-change in
    let items = into_iter_items c.next.new.self in
    let steps : into_iter_items at.change-iterator ≡ c.in-Some.change ∷ items = c.in-Some.ensures.steps.0 in
    record {
      left = let was = at.invariant.left in let gone = c.in-Some.ensures.steps.1 in let short = ap length steps in omega arith;
      leads = λ end all.
          let more = merged_more c.in-Some.change items at.left.items at.merged.items c.push_up_to.new.merged.items c.push_up_to.new.left.items end c.in_ok-push_up_to.ensures all in
          subst (λ (l : List Entry). MergesAll c.args.changes.items c.args.entries.items l) more.2
          (at.invariant.leads more.0 (subst (λ (l : List BlockChange). MergesAll l at.left.items more.0) (sym steps) more.1));
    }

pub returns : goal.returns
returns c =
    let at = c.loop-change in
    let none : length (into_iter_items at.change-iterator) ≡ 0 = sym at.invariant.left ∙ c.in-None.ensures.steps.0 in
    let all = at.invariant.leads at.left.items (merged_end (into_iter_items at.change-iterator) at.left.items none) in
    subst (λ (l : List Entry). AreMerged c.args.changes.items c.args.entries.items l) (sym c.in_ok-move_all.ensures) (merged_all c.args.changes.items c.args.entries.items _ all c.requires.rising c.requires.each c.requires.changes.rising c.requires.changes.each)
