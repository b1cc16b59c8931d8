-- The places of records in lists that rise.
use Rattle.zeb_register.proofs.Cited.{◌≡◌, ◌↔◌, ◌∙◌, ◌==◌, ℕ, List, [], ◌∷◌, filter, map, nat_eq, refl, sym, ap, subst, eq-eqb, eqb-true, Has, has_filtered, has_kept, has_mapped, mapped_has, Posting, Place, ArePlacesOf, place_cmp, posting_at, posting_cmp, Ordering, nat_cmp, nat_cmp_total, ordering_then, tied_itself, places_in}
use Rattle.zeb_register.proofs.ContentChanges.{posting_total}
use Rattle.zeb_register.proofs.RisingLists.{kept_rises, same_list}
use Rattle.zeb_register.proofs.KeyPlaces.{place_of}
use Rattle.std.specs.List.Sorted.{IsStrictlySortedBy}
use Rattle.zeb_register.proofs.Scans.{strictly_mapped}

then_again : (x : Ordering) (n : ℕ) → ordering_then (nat_cmp n n) x ≡ x
then_again x n = ap (λ o. ordering_then o x) (tied_itself nat_cmp_total n)

pub places_rise : (sysno : ℕ) (places : List Place) → IsStrictlySortedBy place_cmp places → IsStrictlySortedBy posting_cmp (map (posting_at sysno) places)
places_rise sysno places up = strictly_mapped place_cmp posting_cmp (posting_at sysno) places (λ p q here there less. then_again (place_cmp p q) sysno ∙ less) up

-- lists with the same postings of a record have the same places in it
pub same_places : (n : ℕ) (one two : List Posting) → IsStrictlySortedBy posting_cmp one → IsStrictlySortedBy posting_cmp two → ((p : Posting) → p.sysno ≡ n → Has one p ↔ Has two p) → places_in n one ≡ places_in n two
same_places n one two up down same =
    ap (map place_of) (same_list posting_total (filter (λ p. p.sysno == n) one) (filter (λ p. p.sysno == n) two) (kept_rises posting_total (λ p. nat_eq p.sysno n) one up) (kept_rises posting_total (λ p. nat_eq p.sysno n) two down)
    (λ p h. let it = has_filtered (λ q. nat_eq q.sysno n) one p h in has_kept (λ q. nat_eq q.sysno n) two p ((same p (eqb-true p.sysno n it.1)).0 it.0) it.1)
    (λ p h. let it = has_filtered (λ q. nat_eq q.sysno n) two p h in has_kept (λ q. nat_eq q.sysno n) one p ((same p (eqb-true p.sysno n it.1)).1 it.0) it.1))

pub mapped_back : (sysno : ℕ) (places : List Place) → map place_of (map (posting_at sysno) places) ≡ places
mapped_back sysno [] = refl
mapped_back sysno (p ∷ places) = ap (λ l. p ∷ l) (mapped_back sysno places)

-- rising places of a record are those of its list
pub are_in : (sysno : ℕ) (were : List Place) (list : List Posting) → IsStrictlySortedBy place_cmp were → IsStrictlySortedBy posting_cmp list → ArePlacesOf sysno were list → were ≡ places_in sysno list
are_in sysno were list up rising are =
    sym (mapped_back sysno were) ∙ ap (map place_of) (same_list posting_total (map (posting_at sysno) were) (filter (λ p. p.sysno == sysno) list) (places_rise sysno were up) (kept_rises posting_total (λ p. nat_eq p.sysno sysno) list rising)
    (λ p h. let it = has_mapped (posting_at sysno) were p h in
    subst (Has (filter (λ q. q.sysno == sysno) list)) (sym it.2) (has_kept (λ q. nat_eq q.sysno sysno) list (posting_at sysno it.0) ((are it.0).0 it.1) (eq-eqb sysno sysno refl)))
    (λ p h. let it = has_filtered (λ q. nat_eq q.sysno sysno) list p h in
    let same : posting_at sysno (place_of p) ≡ p = ap (λ n. posting_at n (place_of p)) (sym (eqb-true p.sysno sysno it.1)) in
    subst (Has (map (posting_at sysno) were)) same (mapped_has (posting_at sysno) were (place_of p) ((are (place_of p)).1 (subst (Has list) (sym same) it.0)))))
