-- The postings that the entries of leaves are to say, one behind the other, and their order.
use Rattle.zeb_leaves.proofs.Cited.{Has, all_has, has_either, has_left, has_right, has_mapped, mapped_has, ◌≡◌, ◌⊎◌, ◌∙◌, ◌<◌, ◌/◌, ◌++◌, ◌∷◌, ℕ, List, [], map, refl, sym, ap, ap₂, subst, inl, inr, arith, nat_tests, nat_eq, Ordering, Less, Equal, Greater, nat_cmp, slice_cmp, ordering_then, tied_itself, is_less, less_is, joined_rises, kept_rises, Posting, posting_cmp, posting_total, in_part, part_in, part_in_block, part_in_list, Key, register_code, Entry, entry_cmp, SaysPart, key_total, IsBeside, TakeEntries, key_of, key_posting_total, under_has, under_rises, strictly_mapped, key_posting_order, list_under, with_key, KeyPosting}
use Rattle.std.proofs.lemmas.List.{append_assoc}
use Rattle.std.specs.List.Sorted.{IsStrictlySortedBy}
use Rattle.zeb_keys.specs.Order.{key_order}
use Rattle.zeb_leaves.proofs.DatabaseRows.{IsBelow}

-- ---- the order of postings, by their entries

-- the posting is under the key of the entry, in its block
abbrev pub IsOf : Key → Entry → KeyPosting → Type 0
IsOf key e x = (x.key ≡ key_of key e) × (x.posting.sysno / 256 ≡ e.block)

level : (m n : ℕ) → m ≡ n → nat_cmp m n ≡ Equal
level m n same = grind (arith, nat_tests, same)

block_lower : (p q : Posting) (b c : ℕ) → p.sysno / 256 ≡ b → q.sysno / 256 ≡ c → b < c → posting_cmp p q ≡ Less
block_lower p q b c one two low =
    let below : p.sysno < q.sysno = omega (arith, one, two, low) in
    ap (λ o. ordering_then o (ordering_then (nat_cmp p.seq q.seq) (nat_cmp p.pos q.pos))) (less_is p.sysno q.sysno below)

pub postings_lower : (k l : Key) (d e : Entry) (a b : KeyPosting) → IsOf k d a → IsOf l e b → IsBelow k l ⊎ (IsBeside k l × (entry_cmp d e ≡ Less)) → key_posting_order a b ≡ Less
postings_lower k l d e a b one two lies = ap (λ o. ordering_then o (posting_cmp a.posting b.posting)) keys ∙ from lies
  where
    terms : Ordering
    terms = slice_cmp nat_cmp d.term e.term

    codes : Ordering
    codes = nat_cmp (register_code k.register) (register_code l.register)

    whole : Ordering
    whole = ordering_then (nat_cmp k.index l.index) (ordering_then codes terms)

    keys : key_order a.key b.key ≡ whole
    keys = ap₂ key_order one.0 two.0

    later : (o : Ordering) → terms ≡ o → entry_cmp d e ≡ Less → ordering_then terms (posting_cmp a.posting b.posting) ≡ Less
    later Less is low = ap (λ o. ordering_then o (posting_cmp a.posting b.posting)) is
    later Greater is low = absurd (let e : Greater ≡ Less = sym (ap (λ o. ordering_then o (nat_cmp d.block e.block)) is) ∙ low in cc)
    later Equal is low =
        let blocks : nat_cmp d.block e.block ≡ Less = sym (ap (λ o. ordering_then o (nat_cmp d.block e.block)) is) ∙ low in
        ap (λ o. ordering_then o (posting_cmp a.posting b.posting)) is ∙ block_lower a.posting b.posting d.block e.block one.1 two.1 (is_less d.block e.block blocks)

    from : IsBelow k l ⊎ (IsBeside k l × (entry_cmp d e ≡ Less)) → ordering_then whole (posting_cmp a.posting b.posting) ≡ Less
    from (inl (inl low)) = ap (λ o. ordering_then (ordering_then o (ordering_then codes terms)) (posting_cmp a.posting b.posting)) (less_is k.index l.index low)
    from (inl (inr it)) =
        ap₂ (λ o p. ordering_then (ordering_then o (ordering_then p terms)) (posting_cmp a.posting b.posting)) (level k.index l.index it.0) (less_is (register_code k.register) (register_code l.register) it.1)
    from (inr it) =
        ap₂ (λ o p. ordering_then (ordering_then o (ordering_then p terms)) (posting_cmp a.posting b.posting)) (level k.index l.index it.0.0) (level (register_code k.register) (register_code l.register) (ap register_code it.0.1))
        ∙ later terms refl it.1

module _ (postings : List KeyPosting) (up : IsStrictlySortedBy key_posting_order postings) where
  -- ---- those of an entry

  abbrev pub part_of : Key → Entry → List Posting
  part_of key e = part_in e.block (list_under (key_of key e) postings)

  entry_part : Key → Entry → List KeyPosting
  entry_part key e = map (with_key (key_of key e)) (part_of key e)

  entry_is : (key : Key) (e : Entry) (x : KeyPosting) → Has (entry_part key e) x → Has postings x × IsOf key e x
  unfolding entry_part
  entry_is key e x h =
      let p = has_mapped (with_key (key_of key e)) (part_of key e) x h in
      let listed = (under_has (key_of key e) postings p.0).0 (part_in_list e.block (list_under (key_of key e) postings) p.0 p.1) in (
        subst (Has postings) (sym p.2) listed,
        (ap (λ (y : KeyPosting). y.key) p.2, ap (λ (y : KeyPosting). y.posting.sysno / 256) p.2 ∙ part_in_block e.block (list_under (key_of key e) postings) p.0 p.1),
      )

  is_entry : (key : Key) (e : Entry) (x : KeyPosting) → Has postings x → IsOf key e x → Has (entry_part key e) x
  unfolding entry_part
  is_entry key e x h is =
      let same : x ≡ with_key (key_of key e) x.posting = ap (λ (k : Key). with_key k x.posting) is.0 in
      let listed = (under_has (key_of key e) postings x.posting).1 (subst (Has postings) same h) in
      subst (Has (map (with_key (key_of key e)) (part_of key e))) (sym same)
      (mapped_has (with_key (key_of key e)) (part_of key e) x.posting (in_part e.block (list_under (key_of key e) postings) x.posting listed is.1))

  entry_rises : (key : Key) (e : Entry) → IsStrictlySortedBy key_posting_order (entry_part key e)
  unfolding entry_part
  entry_rises key e =
      strictly_mapped posting_cmp key_posting_order (with_key (key_of key e)) (part_of key e) (λ a b here there less. ap (λ o. ordering_then o (posting_cmp a b)) (tied_itself key_total (key_of key e)) ∙ less)
      (kept_rises posting_total (λ (p : Posting). nat_eq (p.sysno / 256) e.block) (list_under (key_of key e) postings) (under_rises (key_of key e) postings up))

  -- ---- those of the entries of a leaf

  pub leaf_part : Key → List Entry → List KeyPosting
  leaf_part key [] = []
  leaf_part key (e ∷ entries) = entry_part key e ++ leaf_part key entries

  pub leaf_from : (key : Key) (entries : List Entry) (x : KeyPosting) → Has (leaf_part key entries) x → (e : Entry) × Has entries e × Has postings x × IsOf key e x
  unfolding leaf_part
  leaf_from key [] x h = absurd h
  leaf_from key (e ∷ entries) x h = elim (has_either (entry_part key e) (leaf_part key entries) x h) [
    | inl front ↦ let it = entry_is key e x front in (e, inl refl, it.0, it.1)
    | inr later ↦ let it = leaf_from key entries x later in (it.0, inr it.1, it.2, it.3)
  ]

  pub leaf_has : (key : Key) (entries : List Entry) (e : Entry) → Has entries e → (x : KeyPosting) → Has postings x → IsOf key e x → Has (leaf_part key entries) x
  unfolding leaf_part
  leaf_has key [] e here x h is = absurd here
  leaf_has key (d ∷ entries) e (inl same) x h is = has_left (entry_part key d) (leaf_part key entries) x (is_entry key d x h (subst (λ (y : Entry). IsOf key y x) same is))
  leaf_has key (d ∷ entries) e (inr later) x h is = has_right (entry_part key d) (leaf_part key entries) x (leaf_has key entries e later x h is)

  pub leaf_rises : (key : Key) (entries : List Entry) → IsStrictlySortedBy entry_cmp entries → IsStrictlySortedBy key_posting_order (leaf_part key entries)
  unfolding leaf_part IsStrictlySortedBy
  leaf_rises key [] rising = tt
  leaf_rises key (e ∷ entries) rising =
      joined_rises key_posting_total (entry_part key e) (leaf_part key entries) (entry_rises key e) (leaf_rises key entries rising.1) (λ a b here there.
      let one = entry_is key e a here in
      let two = leaf_from key entries b there in
      postings_lower key key e two.0 a b one.1 two.3 (inr ((refl, refl), all_has (λ y. entry_cmp e y ≡ Less) entries two.0 rising.0 two.1)))

  pub leaf_takes : (key : Key) (entries : List Entry) (rest : List KeyPosting) → ((e : Entry) → Has entries e → SaysPart e (part_of key e)) → TakeEntries key entries (leaf_part key entries ++ rest) rest
  unfolding leaf_part entry_part
  leaf_takes key [] rest said = refl
  leaf_takes key (e ∷ entries) rest said =
      (part_of key e, leaf_part key entries ++ rest, said e (inl refl), append_assoc (entry_part key e) (leaf_part key entries) rest, leaf_takes key entries rest (λ d h. said d (inr h)))
