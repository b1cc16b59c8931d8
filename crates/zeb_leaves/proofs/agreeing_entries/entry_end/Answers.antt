-- The postings of the part are those that the entry says.
use Rattle.zeb_leaves.proofs.Cited.{◌≡◌, ◌≢◌, ◌∙◌, ◌≤◌, ◌++◌, ℕ, List, Option, length, map, drop, ap, subst, Posting, SaysPart, key_in, MatchOption, one_said, match_so, with_key, KeyPosting}
use Rattle.zeb_leaves.specs.declared.agreeing_rows.ShownLeaf.{ShownLeaf}
use Rattle.zeb_leaves.proofs.agreeing_entries.entry_end.Goals as goal

-- where a part of a term ends
abbrev Ends : ShownLeaf → List KeyPosting → ℕ → Option ℕ → List ℕ → List Posting → Type 0
Ends leaf postings at found term part =
    MatchOption found ((rest : List KeyPosting) → drop at postings ≢ map (with_key (key_in leaf.index leaf.register term)) part ++ rest)
    (λ end. (end ≤ length postings) × (drop at postings ≡ map (with_key (key_in leaf.index leaf.register term)) part ++ drop end postings))

pub returns : goal.returns
returns c =
    let leaf = c.args.leaf.now in
    let postings = c.args.postings.now in
    let own = c.in-Some.part.items in
    let says : SaysPart c.args.entry.now own = rw c.in-Some.is at c.in_ok-part.ensures in
    let part = subst (Ends leaf postings c.args.at c.part_end.result c.as_slice.result.now) c.deref.ensures.value c.part_end.ensures in
    let told = subst (λ t. Ends leaf postings c.args.at c.part_end.result t own) c.as_slice.ensures part in
    match_so _ _ _ _ c.part_end.result
    (λ none part rest said is. none rest (is ∙ ap (λ (l : List Posting). map (with_key (key_in leaf.index leaf.register c.args.entry.now.term)) l ++ rest) (one_said c.args.entry.now part own said says)))
    (λ end it. (it.0, (own, says, it.1)))
    told
