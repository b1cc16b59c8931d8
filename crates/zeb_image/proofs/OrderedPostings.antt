-- Postings under their keys, put in order: by key, system number, unit and place.
use Rattle.zeb_image.proofs.Cited.{◌≡◌, ◌↔◌, ◌∙◌, ◌&&◌, Bool, true, false, List, [], refl, sym, ap, subst, nat_eq, Decides, IsTotalOrder, Equal-is, on_total, then_total, IsFiltered, DiffersFromLast, IsPermutation, IsSorted, eq_by_cmp, is_eq, bytes_eq, and_from, and_parts, eq-eqb, eqb-true, bytes_eq-Decides, sameb, Has, has_contained, contains_had, Register, Word, the_type, Key, TellsApart, key_order, members_from_dedup, rising_from_dedup, key_total, keys_apart, both_equal, KeyPosting, Posting, posting_cmp, key_posting_order, posting_total, postings_apart, same_key, IsStrictlySortedBy}
use Rattle.std.proofs.lemmas.Cmp.{tied_itself}

pub order_total : IsTotalOrder key_posting_order
order_total = then_total (on_total (λ (it : KeyPosting). it.key) key_total) (on_total (λ (it : KeyPosting). it.posting) posting_total)

same_pair : (a b : KeyPosting) → a.key ≡ b.key → a.posting ≡ b.posting → a ≡ b
same_pair a b key posting = λ i. record { key = key i; posting = posting i }

apart : TellsApart key_posting_order
apart a b e =
    let both = both_equal (key_order a.key b.key) (posting_cmp a.posting b.posting) e in
    same_pair a b (keys_apart a.key b.key both.0) (postings_apart a.posting b.posting both.1)

-- ---- what `==` answers

abbrev pub key_eq : Key → Key → Bool
key_eq a b = nat_eq a.index b.index && (sameb the_type a.register b.register && bytes_eq a.term b.term)

abbrev pub posting_eq : Posting → Posting → Bool
posting_eq p q = nat_eq p.sysno q.sysno && (nat_eq p.seq q.seq && nat_eq p.pos q.pos)

abbrev pub pair_eq : KeyPosting → KeyPosting → Bool
pair_eq a b = key_eq a.key b.key && posting_eq a.posting b.posting

register_itself : (r : Register) → sameb the_type r r ≡ true
register_itself Word = refl
register_itself _ = refl

key_itself : (k : Key) → key_eq k k ≡ true
key_itself k =
    and_from (nat_eq k.index k.index) (sameb the_type k.register k.register && bytes_eq k.term k.term) (eq-eqb k.index k.index refl)
    (and_from (sameb the_type k.register k.register) (bytes_eq k.term k.term) (register_itself k.register) ((bytes_eq-Decides k.term k.term).1 refl))

posting_itself : (p : Posting) → posting_eq p p ≡ true
posting_itself p =
    and_from (nat_eq p.sysno p.sysno) (nat_eq p.seq p.seq && nat_eq p.pos p.pos) (eq-eqb p.sysno p.sysno refl)
    (and_from (nat_eq p.seq p.seq) (nat_eq p.pos p.pos) (eq-eqb p.seq p.seq refl) (eq-eqb p.pos p.pos refl))

same_posting : (p q : Posting) → posting_eq p q ≡ true → p ≡ q
same_posting p q e =
    let first = and_parts (nat_eq p.sysno q.sysno) (nat_eq p.seq q.seq && nat_eq p.pos q.pos) e in
    let second = and_parts (nat_eq p.seq q.seq) (nat_eq p.pos q.pos) first.1 in
    λ i. record { sysno = eqb-true p.sysno q.sysno first.0 i; seq = eqb-true p.seq q.seq second.0 i; pos = eqb-true p.pos q.pos second.1 i }

pair_decides : (a b : KeyPosting) → Decides (pair_eq a b) (a ≡ b)
pair_decides a b = (
  λ e. let both = and_parts (key_eq a.key b.key) (posting_eq a.posting b.posting) e in same_pair a b (same_key a.key b.key both.0) (same_posting a.posting b.posting both.1),
  λ same. subst (λ (c : KeyPosting). pair_eq a c ≡ true) same (and_from (key_eq a.key a.key) (posting_eq a.posting a.posting) (key_itself a.key) (posting_itself a.posting)),
)

alike : (a b : Bool) → (a ≡ true → b ≡ true) → (b ≡ true → a ≡ true) → a ≡ b
alike true b there back = sym (there refl)
alike false true there back = back refl
alike false false there back = refl

ties : (a b : KeyPosting) → pair_eq a b ≡ eq_by_cmp key_posting_order a b
ties a b =
    alike (pair_eq a b) (eq_by_cmp key_posting_order a b)
    (λ e. ap (λ (c : KeyPosting). eq_by_cmp key_posting_order a c) (sym ((pair_decides a b).0 e)) ∙ ap is_eq (tied_itself order_total a))
    (λ e. (pair_decides a b).1 (apart a b ((Equal-is (key_posting_order a b)).0 e)))

-- ---- after a sort, and with each once

module _ (given sorted kept : List KeyPosting) (moved : IsPermutation given sorted) (filtered : IsFiltered (DiffersFromLast pair_eq) [] sorted kept) where
  pub put_rises : IsSorted key_posting_order sorted → IsStrictlySortedBy key_posting_order kept
  put_rises up = rising_from_dedup order_total ties sorted kept up filtered

  pub put_members : (it : KeyPosting) → Has kept it ↔ Has given it
  put_members it =
      let same = members_from_dedup order_total ties apart given sorted kept moved filtered it in (
        λ h. has_contained given it (same.0 (contains_had kept it h)),
        λ h. has_contained kept it (same.1 (contains_had given it h)),
      )
