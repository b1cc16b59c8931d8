-- The places of records in a key's list of postings.
use Rattle.zeb_register.proofs.Cited.{has_filtered, has_kept, has_mapped, mapped_has, Has, ◌≡◌, ◌∙◌, ℕ, true, List, [], ◌∷◌, filter, refl, sym, ap, subst, inl, inr, Equal, eq-eqb, eqb-true, eqb_tells, nat_cmp_total, tied_itself, ordering_then, nat_cmp, nat_eq, ◌==◌, ◌/◌, Place, Posting, posting_at, posting_cmp, place_cmp, part_in, places_in}
use Rattle.std.specs.List.Sorted.{IsStrictlySortedBy}
use Rattle.zeb_register.proofs.ContentChanges.{posting_total}
use Rattle.zeb_register.proofs.RisingLists.{kept_rises}
use Rattle.zeb_register.proofs.Scans.{strictly_mapped}

abbrev pub place_of : Posting → Place
place_of p = record { seq = p.seq; pos = p.pos }

-- a record's places stand in its block's part
pub own_part : (sysno : ℕ) (list : List Posting) → filter (λ p. p.sysno == sysno) list ≡ filter (λ p. p.sysno == sysno) (part_in (sysno / 256) list)
own_part sysno [] = refl
own_part sysno (p ∷ list) = elim (eqb_tells p.sysno sysno) [
  | inl same ↦
      let block : nat_eq (p.sysno / 256) (sysno / 256) ≡ true = eq-eqb (p.sysno / 256) (sysno / 256) (ap (λ n. n / 256) same.1) in
      rw block (rw same.0 (ap (λ l. p ∷ l) (own_part sysno list)))
  | inr other ↦ elim (eqb_tells (p.sysno / 256) (sysno / 256)) [
    | inl near ↦ rw near.0 (rw other.0 (own_part sysno list))
    | inr far ↦ rw far.0 (rw other.0 (own_part sysno list))
  ]
]

-- a posting of the list is a place in its record
pub place_in : (list : List Posting) (p : Posting) → Has list p → Has (places_in p.sysno list) (place_of p)
place_in list p here = mapped_has place_of (filter (λ q. q.sysno == p.sysno) list) p (has_kept (λ q. nat_eq q.sysno p.sysno) list p here (eq-eqb p.sysno p.sysno refl))

-- and a place in a record is a posting of the list
pub placed_at : (sysno : ℕ) (list : List Posting) (place : Place) → Has (places_in sysno list) place → Has list (posting_at sysno place)
placed_at sysno list place here =
    let it = has_mapped place_of (filter (λ q. q.sysno == sysno) list) place here in
    let kept = has_filtered (λ q. nat_eq q.sysno sysno) list it.0 it.1 in
    let number : it.0.sysno ≡ sysno = eqb-true it.0.sysno sysno kept.1 in
    let same : it.0 ≡ posting_at sysno place = ap (λ n. posting_at n (place_of it.0)) number ∙ ap (posting_at sysno) (sym it.2) in
    subst (Has list) same kept.0

pub in_place : (list : List Posting) (p : Posting) → Has (places_in p.sysno list) (place_of p) → Has list p
in_place list p here = placed_at p.sysno list (place_of p) here

-- the places of a record rise
pub places_rising : (sysno : ℕ) (list : List Posting) → IsStrictlySortedBy posting_cmp list → IsStrictlySortedBy place_cmp (places_in sysno list)
places_rising sysno list up =
    strictly_mapped posting_cmp place_cmp place_of (filter (λ p. p.sysno == sysno) list) (λ p q here there less.
    let one = eqb-true p.sysno sysno (has_filtered (λ r. nat_eq r.sysno sysno) list p here).1 in
    let two = eqb-true q.sysno sysno (has_filtered (λ r. nat_eq r.sysno sysno) list q there).1 in
    let tie : nat_cmp p.sysno q.sysno ≡ Equal = ap (nat_cmp p.sysno) (two ∙ sym one) ∙ tied_itself nat_cmp_total p.sysno in
    sym (ap (λ o. ordering_then o (place_cmp (place_of p) (place_of q))) tie) ∙ less) (kept_rises posting_total (λ p. nat_eq p.sysno sysno) list up)
