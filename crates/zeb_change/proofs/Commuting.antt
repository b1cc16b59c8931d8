-- Changes of different records commute: given by the numbers of their records, the changes of a key come to the same content.
use Rattle.zeb_change.proofs.Cited.{◌≡◌, ◌≢◌, ◌↔◌, ◌⊎◌, List, [], ◌∷◌, ◌++◌, sym, subst, inl, inr, nat_cmp_total, IsStableByKey, Has, numbers_apart, RecordChange, AreListChanges, ArePlacesOf, IsListChanged, OldsRise, Posting, place_cmp, posting_at, posting_cmp, at_sysno, list_changed, posting_is, told_by, KeyChange, AreTurns, AreGivenInOrder, number_in, IsStrictlySortedBy, place_of}
use Rattle.std.proofs.Common.{nat_cmp}
use Rattle.zeb_change.proofs.LeadsToContent.{turns_given, turns_rise}
use Rattle.zeb_change.proofs.StableReorderings.{AreApart, all_of, of_reordered}

-- ---- two changes

module _ (x y : RecordChange) (apart : x.sysno ≢ y.sysno) (old mid next : List Posting) (up : IsStrictlySortedBy posting_cmp old)
    (x_stood : ArePlacesOf x.sysno x.old.now old) (x_done : IsListChanged x.sysno x.new.now old mid)
    (y_stood : ArePlacesOf y.sysno y.old.now mid) (y_done : IsListChanged y.sysno y.new.now mid next) where
  -- what the second of them makes of the old list
  abbrev between : List Posting
  between = at_sysno y.sysno y.new.now old

  y_first : IsListChanged y.sysno y.new.now old between
  y_first = list_changed y.sysno y.new.now old up

  y_found : ArePlacesOf y.sysno y.old.now old
  y_found place =
      let same = x_done.others (posting_at y.sysno place) (λ e. apart (sym e)) in
      (λ h. same.0 ((y_stood place).0 h), λ h. (y_stood place).1 (same.1 h))

  x_found : ArePlacesOf x.sysno x.old.now between
  x_found place =
      let same = y_first.others (posting_at x.sysno place) apart in
      (λ h. same.1 ((x_stood place).0 h), λ h. (x_stood place).1 (same.0 h))

  -- of the other records it makes then what both had made
  others_same : (p : Posting) → p.sysno ≢ x.sysno → (p.sysno ≡ y.sysno) ⊎ (p.sysno ≢ y.sysno) → Has next p ↔ Has between p
  others_same p other (inl same) =
      let is = posting_is p y.sysno same in (
        λ h. subst (Has between) (sym is) ((y_first.part (place_of p)).0 ((y_done.part (place_of p)).1 (subst (Has next) is h))),
        λ h. subst (Has next) (sym is) ((y_done.part (place_of p)).0 ((y_first.part (place_of p)).1 (subst (Has between) is h))),
      )
  others_same p other (inr differs) =
      let after = y_done.others p differs in
      let before = x_done.others p other in
      let instead = y_first.others p differs in
      (λ h. instead.1 (before.0 (after.0 h)), λ h. after.1 (before.1 (instead.0 h)))

  x_second : IsListChanged x.sysno x.new.now between next
  x_second = record {
    rising = y_done.rising;
    part = λ place.
        let same = y_done.others (posting_at x.sysno place) apart in
        (λ h. same.1 ((x_done.part place).0 h), λ h. (x_done.part place).1 (same.0 h));
    others = λ p other. others_same p other (told_by nat_cmp_total numbers_apart p.sysno y.sysno);
  }

swapped : (x y : RecordChange) (rest : List RecordChange) (old new : List Posting) → x.sysno ≢ y.sysno → IsStrictlySortedBy posting_cmp old
    → AreListChanges (x ∷ y ∷ rest) old new → AreListChanges (y ∷ x ∷ rest) old new
swapped x y rest old new apart up (mid, x_stood, x_done, (next, y_stood, y_done, later)) = (
  between x y apart old mid next up x_stood x_done y_stood y_done,
  y_found x y apart old mid next up x_stood x_done y_stood y_done,
  y_first x y apart old mid next up x_stood x_done y_stood y_done,
  (
    next,
    x_found x y apart old mid next up x_stood x_done y_stood y_done,
    x_second x y apart old mid next up x_stood x_done y_stood y_done,
    later,
  ),
)

-- ---- many changes

put_behind : (x : RecordChange) (front back : List RecordChange) (old new : List Posting) → AreApart number_in x front → IsStrictlySortedBy posting_cmp old
    → AreListChanges (x ∷ (front ++ back)) old new → AreListChanges (front ++ x ∷ back) old new
put_behind x [] back old new apart up are = are
put_behind x (y ∷ front) back old new apart up are =
    let moved = swapped x y (front ++ back) old new apart.0 up are in
    (moved.0, moved.1, moved.2, put_behind x front back moved.0 new apart.1 moved.2.rising moved.3)

in_order : (noted given : List RecordChange) → IsStableByKey number_in nat_cmp noted given → (old new : List Posting) → IsStrictlySortedBy posting_cmp old
    → AreListChanges noted old new → AreListChanges given old new
in_order = of_reordered number_in (λ noted given. (old new : List Posting) → IsStrictlySortedBy posting_cmp old → AreListChanges noted old new → AreListChanges given old new)
    (λ old new up are. are)
    (λ x noted front back apart rest old new up are. put_behind x front back old new apart up (are.0, are.1, are.2, rest are.0 new are.2.rising are.3))

-- ---- the changes of a key

module _ (changes : List KeyChange) (given : List RecordChange) (is : AreGivenInOrder changes given) where
  pub put_in_order : (old new : List Posting) → IsStrictlySortedBy posting_cmp old → AreTurns changes old new → AreListChanges given old new
  put_in_order old new up turns = in_order is.noted given is.stable old new up (turns_given changes is.noted old new is.same turns)

  pub olds_rise : (old new : List Posting) → AreTurns changes old new → OldsRise given
  olds_rise old new are = all_of number_in (λ (c : RecordChange). IsStrictlySortedBy place_cmp c.old.now) is.noted given is.stable (turns_rise changes is.noted old new is.same are)
