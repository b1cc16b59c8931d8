-- What merged entries say: of a block that no change touches what the old ones said, of a changed one what its change puts.
use Rattle.zeb_leaves.proofs.Cited.{Has, ◌≡◌, ◌↔◌, ◌∙◌, ◌∷◌, ℕ, List, [], Some, None, Option, sym, ap, subst, inl, inr, Less, Equal, tied_itself, Posting, Entry, IsAt, SayPart, Contains-append_cases, Contains, AreChanges, AreMerged, change_cmp, entry_with, puts, key_cmp, BlockChange, entries_total}
use Rattle.std.specs.List.Sorted.{IsStrictlySortedBy}
use Rattle.zeb_leaf.specs.declared.merging.NewBlock.{NewBlock}
use Rattle.zeb_leaf.proofs.Members.{behind_in, first_below, first_in, none_in, only_in}

-- ---- membership in the words of both crates

pub has_of : {X : Type 0} (xs : List X) (x : X) → Contains xs x → Has xs x
has_of [] x h = absurd (none_in x h)
has_of (y ∷ xs) x h = elim (Contains-append_cases (y ∷ []) xs x h) [ inl same ↦ inl (sym (only_in y x same)) | inr more ↦ inr (has_of xs x more) ]

pub of_has : {X : Type 0} (xs : List X) (x : X) → Has xs x → Contains xs x
of_has [] x h = absurd h
of_has (y ∷ xs) x (inl same) = subst (Contains (y ∷ xs)) (sym same) (first_in y xs)
of_has (y ∷ xs) x (inr more) = behind_in y xs x (of_has xs x more)

-- ---- changes by their keys

-- what a change puts is of its block
pub put_at : (c : BlockChange) (e : Entry) → Contains (puts c) e → (e.term ≡ c.term) × (e.block ≡ c.block)
put_at c e h = by c.new h
  where
    by : (new : Option NewBlock) → Contains (entry_with c.term c.block new) e → (e.term ≡ c.term) × (e.block ≡ c.block)
    by None h = absurd (none_in e h)
    by (Some n) h =
        let same = only_in (record { term = c.term; block = c.block; records = n.records; bytes = n.bytes }) e h in
        (ap (λ (f : Entry). f.term) (sym same), ap (λ (f : Entry). f.block) (sym same))

level : (c d : BlockChange) → c.term ≡ d.term → c.block ≡ d.block → change_cmp c d ≡ Equal
level c d term block =
    let own : Entry = record { term = c.term; block = c.block; records = 0; bytes = [] } in
    subst (λ (t : List ℕ). key_cmp c.term c.block t d.block ≡ Equal) term (subst (λ (b : ℕ). key_cmp c.term c.block c.term b ≡ Equal) block (tied_itself entries_total own))

-- two changes of one block are one
one_change : (changes : List BlockChange) → IsStrictlySortedBy change_cmp changes → (c d : BlockChange) → Has changes c → Has changes d → c.term ≡ d.term → c.block ≡ d.block → c ≡ d
unfolding IsStrictlySortedBy
one_change [] up c d here there term block = absurd here
one_change (x ∷ changes) up c d (inl one) (inl two) term block = one ∙ sym two
one_change (x ∷ changes) up c d (inl one) (inr two) term block =
    let less : change_cmp x d ≡ Less = first_below change_cmp x changes d up (of_has changes d two) in
    let same : change_cmp x d ≡ Equal = subst (λ (y : BlockChange). change_cmp y d ≡ Equal) one (level c d term block) in
    absurd (let both : Less ≡ Equal = sym less ∙ same in cc)
one_change (x ∷ changes) up c d (inr one) (inl two) term block =
    let less : change_cmp x c ≡ Less = first_below change_cmp x changes c up (of_has changes c one) in
    let same : change_cmp x c ≡ Equal = subst (λ (y : BlockChange). change_cmp y c ≡ Equal) two (level d c (sym term) (sym block)) in
    absurd (let both : Less ≡ Equal = sym less ∙ same in cc)
one_change (x ∷ changes) up c d (inr one) (inr two) term block = one_change changes up.1 c d one two term block

-- ---- what entries say that are the same at a block

pub same_says : (old new : List Entry) (term : List ℕ) (block : ℕ) → ((e : Entry) → IsAt term block e → Has old e → Has new e) → ((e : Entry) → IsAt term block e → Has new e → Has old e) → (part : List Posting) → SayPart old term block part ↔ SayPart new term block part
same_says old new term block to back part = (
  λ says. record { said = λ e h at. says.said e (back e at h) at; there = λ some. let one = says.there some in (one.0, to one.0 one.2 one.1, one.2) },
  λ says. record { said = λ e h at. says.said e (to e at h) at; there = λ some. let one = says.there some in (one.0, back one.0 one.2 one.1, one.2) },
)

module _ (changes : List BlockChange) (old new : List Entry) (merged : AreMerged changes old new) where
  -- of a block that no change touches they have what the old ones had
  pub still_have : (term : List ℕ) (block : ℕ) → ((c : BlockChange) → Contains changes c → ¬ ((c.term ≡ term) × (c.block ≡ block))) → (e : Entry) → IsAt term block e → Has old e ↔ Has new e
  still_have term block free e at = (
    λ h. has_of new e ((merged.has e).1 (inl (of_has old e h, λ touched. free touched.0 touched.1 (sym touched.2.0 ∙ at.0, sym touched.2.1 ∙ at.1)))),
    λ h. elim ((merged.has e).0 (of_has new e h)) [
      | inl was ↦ has_of old e was.0
      | inr put ↦ let key = put_at put.0 e put.2 in absurd (free put.0 put.1 (sym key.0 ∙ at.0, sym key.1 ∙ at.1))
    ],
  )

  pub still_says : (term : List ℕ) (block : ℕ) → ((c : BlockChange) → Contains changes c → ¬ ((c.term ≡ term) × (c.block ≡ block))) → (part : List Posting) → SayPart old term block part ↔ SayPart new term block part
  still_says term block free = same_says old new term block (λ e at. (still_have term block free e at).0) (λ e at. (still_have term block free e at).1)

  pub now_says : AreChanges changes → (c : BlockChange) → Contains changes c → (part : List Posting) → SayPart (puts c) c.term c.block part ↔ SayPart new c.term c.block part
  now_says are c here = same_says (puts c) new c.term c.block
      (λ e at h. has_of new e ((merged.has e).1 (inr (c, here, of_has (puts c) e h))))
      (λ e at h. elim ((merged.has e).0 (of_has new e h)) [
        | inl was ↦ absurd (was.1 (c, here, at))
        | inr put ↦
            let key = put_at put.0 e put.2 in
            let same : put.0 ≡ c = one_change changes are.rising put.0 c (has_of changes put.0 put.1) (has_of changes c here) (sym key.0 ∙ at.0) (sym key.1 ∙ at.1) in
            has_of (puts c) e (subst (λ (d : BlockChange). Contains (puts d) e) same put.2)
      ])
