-- The entries make no leaf, or the first has the key and the others stand beside.
use Rattle.zeb_leaves.proofs.Cited.{◌≡◌, ◌∷◌, ◌∙◌, ℕ, pos, List, [], length, sym, ap, subst, rules, state, blocks_tree, IfOk-weaker, IsUtf8, NewLeaf, IfToldPuts, Changes}
use Rattle.zeb_leaf.specs.Cuts.{AreCut, bytes_above}
use Rattle.zeb_leaves.proofs.PutEntries.{keys_are_texts, no_leaves, none_put, some_put}
use Rattle.zeb_leaves.proofs.writes.entries_put.Goals as goal

pub returns-in-None-clause-put : goal.returns-in-None-clause-put
returns-in-None-clause-put g c clean inside store =
    let above = bytes_above c.args.filling in
    let text : IsUtf8 c.args.key.term.now = search rules in
    let none : length c.in_ok-leaves.leaves.items ≡ 0 = ap length (sym c.deref.ensures.value) ∙ c.in-None.ensures.cases in
    let cut : AreCut above [] c.args.entries.now = subst (λ (l : List NewLeaf). AreCut above l c.args.entries.now) (no_leaves c.in_ok-leaves.leaves.items none) c.in_ok-leaves.ensures in
    IfOk-weaker c.leaves_put.result _ _
    (λ _ done. none_put above c.args.at c.args.key.term.now c.args.key.block c.args.is_there c.args.entries.now (state g.S.Store c.args.tx.now.conn.now) (state g.S.Store c.leaves_put.new.tx.conn.now) text cut done)
    (c.leaves_put.ensures.put clean inside store)

pub returns-clause-put : goal.returns-clause-put
returns-clause-put g c clean inside store =
    let above = bytes_above c.args.filling in
    let text : IsUtf8 c.args.key.term.now = search rules in
    let first = c.in-Some.first.now in
    let more = c.in-Some.more.now in
    let all : c.in_ok-leaves.leaves.items ≡ first ∷ more = sym c.deref.ensures.value ∙ c.in-Some.ensures.cases.0 in
    let cut : AreCut above (first ∷ more) c.args.entries.now = subst (λ (l : List NewLeaf). AreCut above l c.args.entries.now) all c.in_ok-leaves.ensures in
    let a = state g.S.Store c.args.tx.now.conn.now in
    let b = state g.S.Store c.leaves_put-in-Some.new.tx.conn.now in
    IfOk-weaker c.leaves_put-in-Some.result _ _
    (λ _ done. some_put above c.args.at c.args.key.term.now c.args.key.block first more c.args.is_there c.args.entries.now a b text cut
    (subst (λ (bytes : List ℕ). Changes blocks_tree (IfToldPuts c.args.is_there c.args.at c.args.key.term.now (pos c.args.key.block) bytes more) a b) c.as_slice.ensures done))
    (c.leaves_put-in-Some.ensures.put clean inside store)

pub leaves_put-requires-in-Some : goal.leaves_put-requires-in-Some
leaves_put-requires-in-Some g c =
    let above = bytes_above c.args.filling in
    let first = c.in-Some.first.now in
    let more = c.in-Some.more.now in
    let all : c.in_ok-leaves.leaves.items ≡ first ∷ more = sym c.deref.ensures.value ∙ c.in-Some.ensures.cases.0 in
    (keys_are_texts above (first ∷ more) c.args.entries.now (subst (λ (l : List NewLeaf). AreCut above l c.args.entries.now) all c.in_ok-leaves.ensures)).1
