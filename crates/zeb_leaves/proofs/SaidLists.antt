-- What the entries of a term say, as its units.
use Rattle.zeb_leaves.proofs.Cited.{Row, Trees, Has, all_has, has_either, has_left, has_right, ◌≡◌, ◌≢◌, ◌∙◌, ◌/◌, ◌<◌, ◌≤◌, ◌∷◌, ℕ, ℤ, List, [], map, refl, sym, ap, subst, inl, inr, arith, Less, Equal, nat_cmp, nat_list_cmp_total, slice_cmp, ordering_then, tied_itself, Key, Posting, Entry, entry_cmp, some_posting, is_less, in_part, part_in_block, part_in_list, part_in, joined_rises, kept_rises, same_list, nat_eq, posting_total, posting_cmp, own_part, place_of, Covers, HasEntriesAt, leaf_key, IsAt, IsEntryOf, IsLeafOf, LeavesReadBlock, PartReads, SaysPart, SayParts, one_said, one_shown, leaf_there, one_entry, packed_leaves, ListsUnits}
use Rattle.std.specs.List.Sorted.{IsStrictlySortedBy}
use Rattle.zeb_leaves.proofs.TermEntries.{HasOwn}
use Rattle.zeb_register.proofs.PackedLists.{posting_lower}

-- a posting that an entry says lies in its block
pub near : (e : Entry) (part : List Posting) → SaysPart e part → (p : Posting) → Has part p → p.sysno / 256 ≡ e.block
near e part says p here = all_has (λ (q : Posting). q.sysno / 256 ≡ e.block) part p says.spelled.lies.inside here

-- of two entries of one term the lower has the lower block
pub lower_block : (d e : Entry) → d.term ≡ e.term → entry_cmp d e ≡ Less → d.block < e.block
lower_block d e same less =
    let tie : slice_cmp nat_cmp d.term e.term ≡ Equal = ap (λ t. slice_cmp nat_cmp t e.term) same ∙ tied_itself nat_list_cmp_total e.term in
    is_less d.block e.block (sym (ap (λ o. ordering_then o (nat_cmp d.block e.block)) tie) ∙ less)

pub part_of : (own : List Entry) (list : List Posting) → SayParts own list → (e : Entry) → Has own e → (part : List Posting) × SaysPart e part
part_of [] list say e here = absurd here
part_of (d ∷ own) list say e (inl same) = (say.0, subst (λ (x : Entry). SaysPart x say.0) (sym same) say.2)
part_of (d ∷ own) list say e (inr later) = part_of own say.1 say.3 e later

pub posting_of : (own : List Entry) (list : List Posting) → SayParts own list → (p : Posting) → Has list p → (e : Entry) × (part : List Posting) × Has own e × SaysPart e part × Has part p
posting_of [] list say p here = absurd (subst (λ l. Has l p) say here)
posting_of (e ∷ own) list say p here = elim (has_either say.0 say.1 p (subst (λ l. Has l p) say.4 here)) [
  | inl first ↦ (e, say.0, inl refl, say.2, first)
  | inr later ↦ let it = posting_of own say.1 say.3 p later in (it.0, it.1, inr it.2, it.3, it.4)
]

pub posting_in : (own : List Entry) (list : List Posting) → SayParts own list → (e : Entry) (part : List Posting) → Has own e → SaysPart e part → (p : Posting) → Has part p → Has list p
posting_in [] list say e part there says p here = absurd there
posting_in (d ∷ own) list say e part (inl same) says p here =
    let moved : SaysPart d part = subst (λ (x : Entry). SaysPart x part) same says in
    subst (λ l. Has l p) (sym say.4) (has_left say.0 say.1 p (subst (λ l. Has l p) (one_said d part say.0 moved say.2) here))
posting_in (d ∷ own) list say e part (inr later) says p here =
    subst (λ l. Has l p) (sym say.4) (has_right say.0 say.1 p (posting_in own say.1 say.3 e part later says p here))

parts_rise : (term : List ℕ) (own : List Entry) (list : List Posting) → ((e : Entry) → Has own e → e.term ≡ term) → IsStrictlySortedBy entry_cmp own → SayParts own list → IsStrictlySortedBy posting_cmp list
unfolding IsStrictlySortedBy
parts_rise term [] list ours up say = subst (IsStrictlySortedBy posting_cmp) (sym say) tt
parts_rise term (e ∷ own) list ours up say =
    subst (IsStrictlySortedBy posting_cmp) (sym say.4) (joined_rises posting_total say.0 say.1 say.2.spelled.lies.rising (parts_rise term own say.1 (λ d h. ours d (inr h)) up.1 say.3) (λ p q here there.
    let it = posting_of own say.1 say.3 q there in
    let low = lower_block e it.0 (ours e (inl refl) ∙ sym (ours it.0 (inr it.2))) (all_has (λ d. entry_cmp e d ≡ Less) own it.0 up.0 it.2) in
    posting_lower p q (omega (arith, low, near e say.0 say.2 p here, near it.0 it.1 it.3 q it.4))))

module _ (Leaves : Row → Type 0) (term : List ℕ) (In : ℕ → Type 0) (own : List Entry) (has : HasOwn Leaves term In own) where
  is_of : (e : Entry) → Has own e → IsEntryOf Leaves term e
  is_of e here = ((has.each e).0 here).1

  module _ (list : List Posting) (say : SayParts own list) where
    rises : IsStrictlySortedBy posting_cmp list
    rises = parts_rise term own list (λ e h. (is_of e h).0) has.rising say

    -- what an entry says is the part of the list in its block
    says_its : (e : Entry) → Has own e → SaysPart e (part_in e.block list)
    says_its e there = subst (SaysPart e) same it.1
      where
        it : (part : List Posting) × SaysPart e part
        it = part_of own list say e there

        same : it.0 ≡ part_in e.block list
        same = same_list posting_total it.0 (part_in e.block list) it.1.spelled.lies.rising (kept_rises posting_total (λ q. nat_eq (q.sysno / 256) e.block) list rises)
            (λ p h. in_part e.block list p (posting_in own list say e it.0 there it.1 p h) (near e it.0 it.1 p h))
            (λ p h.
            let found = posting_of own list say p (part_in_list e.block list p h) in
            let block : found.0.block ≡ e.block = sym (near found.0 found.1 found.3 p found.4) ∙ part_in_block e.block list p h in
            let one : found.0 ≡ e = one_entry own found.0 e has.rising found.2 there ((is_of found.0 found.2).0 ∙ sym (is_of e there).0) block in
            subst (λ l. Has l p) (one_said e found.1 it.0 (subst (λ (d : Entry). SaysPart d found.1) one found.3) it.1) found.4)

    -- each posting lies in a block that is In
    posting_near : (p : Posting) → Has list p → In (p.sysno / 256)
    posting_near p here = let it = posting_of own list say p here in subst In (sym (near it.0 it.1 it.3 p it.4)) ((has.each it.0).0 it.2).0

    pub block_reads : (block : ℕ) → In block → PartReads Leaves term block (part_in block list)
    block_reads block in_it = (at.0, at.1, record { said = said; there = there })
      where
        at : (entries : List Entry) × HasEntriesAt Leaves (leaf_key term block) entries
        at = has.whole block in_it

        said : (e : Entry) → Has at.0 e → IsAt term block e → SaysPart e (part_in block list)
        said e here is =
            let leaf = leaf_there Leaves _ at.0 e here at.1 in
            let covers = subst (λ (b : ℕ). Covers Leaves (leaf_key term b) leaf.0) (sym is.1) leaf.1 in
            let own_is : Has own e = (has.each e).1 (subst In (sym is.1) in_it, (is.0, leaf.0, at.0, covers, at.1.shown leaf.0 leaf.1, here)) in
            subst (λ (b : ℕ). SaysPart e (part_in b list)) is.1 (says_its e own_is)

        there : part_in block list ≢ [] → (e : Entry) × Has at.0 e × IsAt term block e
        there some =
            let p = some_posting (part_in block list) some in
            let found = posting_of own list say p.0 (part_in_list block list p.0 p.1) in
            let number : found.0.block ≡ block = sym (near found.0 found.1 found.3 p.0 found.4) ∙ part_in_block block list p.0 p.1 in
            let of = is_of found.0 found.2 in
            let covers = subst (λ (b : ℕ). Covers Leaves (leaf_key term b) of.1) number of.3 in
            let same = one_shown of.1 of.2 at.0 of.4 (at.1.shown of.1 covers) in
            (found.0, subst (λ (l : List Entry). Has l found.0) same of.5, (of.0, number))

-- ---- the postings that a call puts together

-- what the entries of a key say is what its units say
pub list_of_parts : (trees : Trees) (db : ℤ) (key : Key) (own : List Entry) → HasOwn (IsLeafOf trees db key) key.term (λ b. 0 ≤ b) own → (list : List Posting) → SayParts own list → ListsUnits packed_leaves trees db key list
list_of_parts trees db key own has list parts =
    let reads : (block : ℕ) → LeavesReadBlock trees db key block (part_in block list) = λ block. block_reads (IsLeafOf trees db key) key.term (λ b. 0 ≤ b) own has list parts block (omega arith) in
    record {
      rising = rises (IsLeafOf trees db key) key.term (λ b. 0 ≤ b) own has list parts;
      units = λ sysno. (part_in (sysno / 256) list, reads (sysno / 256), ap (map place_of) (own_part sysno list));
      whole = λ block. (part_in block list, reads block);
    }
