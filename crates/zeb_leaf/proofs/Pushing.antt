-- One entry more at the end of a leaf that is being written.
use Rattle.zeb_leaf.proofs.Cited.{◌≡◌, ℕ, suc, ◌+◌, ◌<◌, List, [], ◌∷◌, ◌++◌, length, take, drop, slice_index_or, refl, sym, ◌∙◌, ap, subst, append_assoc, append-nil, take-append-drop, take-suc, AllByRecursion, Entry, IsEntry, entry_cmp, shared_of, leaf_bytes, Place, first_place, behind_entry, last_place, Follows, Draft, draft_of}
use Rattle.std.specs.List.Sorted.{IsStrictlySortedBy}
use Rattle.zeb_blocks.specs.Numbers.{uleb}
use Rattle.zeb_leaf.specs.Leaves.{counted, entry_bytes, entries_bytes}
use Rattle.zeb_leaf.proofs.Order.{EachFollows, each_rest, follow_first, last_place-append}

pub entries_bytes-append : (place : Place) (xs ys : List Entry) → entries_bytes place.term (xs ++ ys) ≡ entries_bytes place.term xs ++ entries_bytes (last_place place xs).term ys
unfolding entries_bytes
entries_bytes-append place [] ys = refl
entries_bytes-append place (x ∷ xs) ys =
    ap (λ (b : List ℕ). entry_bytes place.term x ++ b) (entries_bytes-append (behind_entry x) xs ys) ∙ sym (append_assoc (entry_bytes place.term x) (entries_bytes x.term xs) (entries_bytes (last_place (behind_entry x) xs).term ys))

pub one_entry : (term : List ℕ) (e : Entry) → entries_bytes term (e ∷ []) ≡ entry_bytes term e
unfolding entries_bytes
one_entry term e = append-nil (entry_bytes term e)

-- the leaf with the entry at its end
pub draft_more : (list : List Entry) (e : Entry) → draft_of (list ++ e ∷ []) ≡ record { place = behind_entry e; bytes = leaf_bytes list ++ entry_bytes (last_place first_place list).term e }
draft_more list e =
    let place = last_place-append first_place list (e ∷ []) in
    let bytes = entries_bytes-append first_place list (e ∷ []) ∙ ap (λ (b : List ℕ). leaf_bytes list ++ b) (one_entry (last_place first_place list).term e) in
    (λ i. record { place = place i; bytes = bytes i })

-- of a rising list each entry may come behind those before it
pub next_follows : (list : List Entry) (i : ℕ) (d : Entry) → i < length list → IsStrictlySortedBy entry_cmp list → AllByRecursion IsEntry list → Follows (last_place first_place (take i list)) (slice_index_or list i d)
next_follows list i d inside up sound =
    let e = slice_index_or list i d in
    let front : list ≡ take i list ++ (e ∷ drop (suc i) list) =
    sym (take-append-drop (suc i) list) ∙ ap (λ (xs : List Entry). xs ++ drop (suc i) list) (take-suc list i d inside) ∙ append_assoc (take i list) (e ∷ []) (drop (suc i) list) in
    let each = subst (λ (xs : List Entry). EachFollows first_place xs) front (follow_first list up sound) in
    (each_rest first_place (take i list) (e ∷ drop (suc i) list) each).0

-- the bytes of an entry, put one part after the other
pub entry_put : (before : List ℕ) (e : Entry) (n : ℕ) (rest bytes : List ℕ) (old one two three four five : List ℕ) → n ≡ shared_of before e.term → rest ≡ drop n e.term → bytes ≡ e.bytes
    → one ≡ old ++ uleb n → two ≡ one ++ counted rest → three ≡ two ++ uleb e.block → four ≡ three ++ uleb e.records → five ≡ four ++ counted bytes → five ≡ old ++ entry_bytes before e
unfolding entry_bytes
entry_put before e n rest bytes old one two three four five shared rest_is bytes_is a b c d f =
    let suffix : rest ≡ drop (shared_of before e.term) e.term = rest_is ∙ ap (λ (k : ℕ). drop k e.term) shared in
    let front : four ≡ (((old ++ uleb (shared_of before e.term)) ++ counted (drop (shared_of before e.term) e.term)) ++ uleb e.block) ++ uleb e.records =
    d ∙ ap (λ (o : List ℕ). o ++ uleb e.records) (c ∙ ap (λ (o : List ℕ). o ++ uleb e.block) (b ∙ (λ i. (a ∙ ap (λ (k : ℕ). old ++ uleb k) shared) i ++ counted (suffix i)))) in
    f ∙ (λ i. front i ++ counted (bytes_is i)) ∙ simp append_assoc

pub pushed : (list : List Entry) (e : Entry) (old : Draft) (term bytes : List ℕ) → old ≡ draft_of list → term ≡ e.term → bytes ≡ old.bytes ++ entry_bytes old.place.term e → record { place = record { term = term; least = e.block + 1 }; bytes = bytes } ≡ draft_of (list ++ e ∷ [])
pushed list e old term bytes was term_is bytes_is =
    let all = bytes_is ∙ ap (λ (d : Draft). d.bytes ++ entry_bytes d.place.term e) was in
    (λ i. record { place = record { term = term_is i; least = e.block + 1 }; bytes = all i }) ∙ sym (draft_more list e)
