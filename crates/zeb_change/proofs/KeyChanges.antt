-- Two rising lists of occurrences, cut key by key: what is known of the keys that were cut off so far.
use Rattle.zeb_change.proofs.Cited.{◌≡◌, ◌≢◌, ◌↔◌, ◌⊎◌, ◌∙◌, List, [], ◌∷◌, ◌++◌, map, refl, sym, ap, subst, subst₂, inl, inr, Equal, Greater, Ordering, slice_get, Some, ordering_then, nat_cmp, tied_itself, map-append, append-nil, append_assoc, Has, has_left, has_right, has_either, contains_had, has_contained, all_has, all_from, Key, Occurrence, key_order, occurrence_order, key_total, keys_apart, Place, place_cmp, never_itself, ChangedKey, occurrence_at, AreChangedKeys, IsAddedIfChanged, key_in, new_in, old_in, place_in, AreOfKey, BeginsWithKey, Stops, IsNotAbove}
use Rattle.std.proofs.Common.{Less}
use Rattle.std.specs.List.Sorted.{IsStrictlySortedBy}

-- all of one key
abbrev pub IsRunOf : Key → List Occurrence → Type 0
IsRunOf key os = (o : Occurrence) → Has os o → o.key ≡ key

-- none of one key
abbrev pub LacksKey : Key → List Occurrence → Type 0
LacksKey key os = (o : Occurrence) → Has os o → o.key ≢ key

-- ---- images under a function

has_mapped : {A B : Type 0} (f : A → B) (xs : List A) (x : A) → Has xs x → Has (map f xs) (f x)
has_mapped f [] x h = absurd h
has_mapped f (y ∷ xs) x (inl same) = inl (ap f same)
has_mapped f (y ∷ xs) x (inr later) = inr (has_mapped f xs x later)

has_source : {A B : Type 0} (f : A → B) (xs : List A) (y : B) → Has (map f xs) y → (x : A) × Has xs x × (y ≡ f x)
has_source f [] y h = absurd h
has_source f (x ∷ xs) y (inl same) = (x, inl refl, same)
has_source f (x ∷ xs) y (inr later) = let found = has_source f xs y later in (found.0, inr found.1, found.2)

-- a greater value more at the end
pushed_rises : (xs : List Key) (x : Key) → IsStrictlySortedBy key_order xs → ((z : Key) → Has xs z → key_order z x ≡ Less) → IsStrictlySortedBy key_order (xs ++ x ∷ [])
unfolding IsStrictlySortedBy
pushed_rises [] x up lower = (tt, tt)
pushed_rises (y ∷ xs) x up lower = (
  all_from (λ z. key_order y z ≡ Less) (xs ++ x ∷ []) (λ z h. elim (has_either xs (x ∷ []) z h) [
    | inl there ↦ all_has (λ z. key_order y z ≡ Less) xs z up.0 there
    | inr last ↦ elim last [ inl same ↦ subst (λ w. key_order y w ≡ Less) (sym same) (lower y (inl refl)) | inr none ↦ absurd none ]
  ]),
  pushed_rises xs x up.1 (λ z h. lower z (inr h)),
)

-- ---- the places of one key's run

place_rises : (a b : Occurrence) → a.key ≡ b.key → occurrence_order a b ≡ Less → place_cmp (place_in a) (place_in b) ≡ Less
place_rises a b same less =
    let tied : key_order a.key b.key ≡ Equal = subst (λ k. key_order a.key k ≡ Equal) same (tied_itself key_total a.key) in
    rw tied at less

pub run_rises : (key : Key) (run : List Occurrence) → IsRunOf key run → IsStrictlySortedBy occurrence_order run → IsStrictlySortedBy place_cmp (map place_in run)
unfolding IsStrictlySortedBy
run_rises key [] of up = tt
run_rises key (o ∷ run) of up = (
  all_from (λ p. place_cmp (place_in o) p ≡ Less) (map place_in run) (λ p h.
      let from = has_source place_in run p h in
      subst (λ q. place_cmp (place_in o) q ≡ Less) (sym from.2)
      (place_rises o from.0 (of o (inl refl) ∙ sym (of from.0 (inr from.1))) (all_has (λ z. occurrence_order o z ≡ Less) run from.0 up.0 from.1))),
  run_rises key run (λ p h. of p (inr h)) up.1,
)

at_own_place : (o : Occurrence) (key : Key) → o.key ≡ key → o ≡ occurrence_at key (place_in o)
at_own_place o key same = λ i. record { key = same i; seq = o.seq; pos = o.pos }

-- the run's places are just the key's places in it
pub run_places : (key : Key) (run : List Occurrence) → IsRunOf key run → (place : Place) → Has (map place_in run) place ↔ Has run (occurrence_at key place)
run_places key run of place = (
  λ h. let from = has_source place_in run place h in
      subst (Has run) (at_own_place from.0 key (of from.0 from.1) ∙ ap (occurrence_at key) (sym from.2)) from.1,
  λ h. has_mapped place_in run (occurrence_at key place) h,
)

-- ---- keys that are done

-- as `AreChangedKeys`, and each is a key of one of the lists
pub record AreDone (elder newer : List Occurrence) (changed : List ChangedKey) : Type 0 where
  pub once : IsStrictlySortedBy key_order (map key_in changed)
  pub old : (c : ChangedKey) → Has changed c → IsStrictlySortedBy place_cmp (old_in c) × ((place : Place) → Has (old_in c) place ↔ Has elder (occurrence_at (key_in c) place))
  pub new : (c : ChangedKey) → Has changed c → IsStrictlySortedBy place_cmp (new_in c) × ((place : Place) → Has (new_in c) place ↔ Has newer (occurrence_at (key_in c) place))
  pub differ : (c : ChangedKey) → Has changed c → old_in c ≢ new_in c
  pub others : (key : Key) → ¬ Has (map key_in changed) key → (place : Place) → Has elder (occurrence_at key place) ↔ Has newer (occurrence_at key place)
  pub known : (c : ChangedKey) → Has changed c → (o : Occurrence) × (Has elder o ⊎ Has newer o) × (o.key ≡ key_in c)

pub none_done : AreDone [] [] []
unfolding IsStrictlySortedBy
none_done = record {
  once = tt;
  old = λ c h. absurd h;
  new = λ c h. absurd h;
  differ = λ c h. absurd h;
  others = λ key none place. (λ h. absurd h, λ h. absurd h);
  known = λ c h. absurd h;
}

pub done_changed : (elder newer : List Occurrence) (changed : List ChangedKey) → AreDone elder newer changed → AreChangedKeys elder newer changed
done_changed elder newer changed done = record {
  once = done.once;
  old = λ c h. let is = done.old c (has_contained changed c h) in
      record { rising = is.0; each = λ place. (λ p. contains_had elder _ ((is.1 place).0 p), λ p. (is.1 place).1 (has_contained elder _ p)) };
  new = λ c h. let is = done.new c (has_contained changed c h) in
      record { rising = is.0; each = λ place. (λ p. contains_had newer _ ((is.1 place).0 p), λ p. (is.1 place).1 (has_contained newer _ p)) };
  differ = λ c h. done.differ c (has_contained changed c h);
  others = λ key none place. let is = done.others key (λ h. none (contains_had (map key_in changed) key h)) place in
      (λ p. contains_had newer _ (is.0 (has_contained elder _ p)), λ p. contains_had elder _ (is.1 (has_contained newer _ p)));
}

-- a key that a run lacks has the places that it had
beside : (key other : Key) (cut run : List Occurrence) (place : Place) → IsRunOf key run → other ≢ key → Has (cut ++ run) (occurrence_at other place) ↔ Has cut (occurrence_at other place)
beside key other cut run place of differs = (
  λ h. elim (has_either cut run _ h) [ inl before ↦ before | inr here ↦ absurd (differs (of _ here)) ],
  λ h. has_left cut run _ h,
)

-- a key that no earlier part has, has the places of its run
alone : (key : Key) (cut run : List Occurrence) (place : Place) → LacksKey key cut → Has (cut ++ run) (occurrence_at key place) ↔ Has run (occurrence_at key place)
alone key cut run place lacks = (
  λ h. elim (has_either cut run _ h) [ inl before ↦ absurd (lacks _ before refl) | inr here ↦ here ],
  λ h. has_right cut run _ h,
)

-- the places of a run are those of its key, which no earlier part has
placed_as : (key : Key) (cut run : List Occurrence) → IsRunOf key run → IsStrictlySortedBy occurrence_order run → LacksKey key cut
    → IsStrictlySortedBy place_cmp (map place_in run) × ((place : Place) → Has (map place_in run) place ↔ Has (cut ++ run) (occurrence_at key place))
placed_as key cut run of up lacks = (
  run_rises key run of up,
  λ place.
      let own = alone key cut run place lacks in
      let told = run_places key run of place in
      (λ p. own.1 (told.0 p), λ p. told.1 (own.0 p)),
)

placed_at : (cut run : List Occurrence) (places : List Place) (k key : Key) → places ≡ map place_in run → k ≡ key → IsRunOf key run → IsStrictlySortedBy occurrence_order run → LacksKey key cut
    → IsStrictlySortedBy place_cmp places × ((place : Place) → Has places place ↔ Has (cut ++ run) (occurrence_at k place))
placed_at cut run places k key places_are k_is of up lacks =
    subst₂ (λ ps z. IsStrictlySortedBy place_cmp ps × ((place : Place) → Has ps place ↔ Has (cut ++ run) (occurrence_at z place))) (sym places_are) (sym k_is) (placed_as key cut run of up lacks)

module _ (key : Key) (elder newer run_elder run_newer : List Occurrence) (changed : List ChangedKey)
    (of_elder : IsRunOf key run_elder) (of_newer : IsRunOf key run_newer)
    (below : (o : Occurrence) → Has elder o ⊎ Has newer o → key_order o.key key ≡ Less)
    (done : AreDone elder newer changed) where
  lower : (k : Key) → k ≡ key → key_order k key ≡ Less → ⊥
  lower k same less = never_itself key_total key (subst (λ z. key_order z key ≡ Less) same less)

  lacks_elder : LacksKey key elder
  lacks_elder o h same = lower o.key same (below o (inl h))

  lacks_newer : LacksKey key newer
  lacks_newer o h same = lower o.key same (below o (inr h))

  -- each key that changed before is below this one
  changed_below : (c : ChangedKey) → Has changed c → key_order (key_in c) key ≡ Less
  changed_below c h = let from = done.known c h in subst (λ k. key_order k key ≡ Less) from.2 (below from.0 from.1)

  changed_differs : (c : ChangedKey) → Has changed c → key_in c ≢ key
  changed_differs c h same = lower (key_in c) same (changed_below c h)

  known_still : (c : ChangedKey) → Has changed c → (o : Occurrence) × (Has (elder ++ run_elder) o ⊎ Has (newer ++ run_newer) o) × (o.key ≡ key_in c)
  known_still c h = let from = done.known c h in
      (from.0, elim from.1 [ inl e ↦ inl (has_left elder run_elder _ e) | inr n ↦ inr (has_left newer run_newer _ n) ], from.2)

  old_still : (c : ChangedKey) → Has changed c
      → IsStrictlySortedBy place_cmp (old_in c) × ((place : Place) → Has (old_in c) place ↔ Has (elder ++ run_elder) (occurrence_at (key_in c) place))
  old_still c h = let is = done.old c h in (
    is.0,
    λ place. let same = beside key (key_in c) elder run_elder place of_elder (changed_differs c h) in
        (λ p. same.1 ((is.1 place).0 p), λ p. (is.1 place).1 (same.0 p)),
  )

  new_still : (c : ChangedKey) → Has changed c
      → IsStrictlySortedBy place_cmp (new_in c) × ((place : Place) → Has (new_in c) place ↔ Has (newer ++ run_newer) (occurrence_at (key_in c) place))
  new_still c h = let is = done.new c h in (
    is.0,
    λ place. let same = beside key (key_in c) newer run_newer place of_newer (changed_differs c h) in
        (λ p. same.1 ((is.1 place).0 p), λ p. (is.1 place).1 (same.0 p)),
  )

  -- the runs have the same places
  pub same_places : map place_in run_elder ≡ map place_in run_newer → AreDone (elder ++ run_elder) (newer ++ run_newer) changed
  same_places same = record {
    once = done.once;
    old = old_still;
    new = new_still;
    differ = done.differ;
    others = λ k none place. (
      λ h. elim (has_either elder run_elder _ h) [
        | inl before ↦ has_left newer run_newer _ ((done.others k none place).0 before)
        | inr here ↦ has_right newer run_newer _ (crossed k place run_elder run_newer of_elder of_newer same here)
      ],
      λ h. elim (has_either newer run_newer _ h) [
        | inl before ↦ has_left elder run_elder _ ((done.others k none place).1 before)
        | inr here ↦ has_right elder run_elder _ (crossed k place run_newer run_elder of_newer of_elder (sym same) here)
      ],
    );
    known = known_still;
  }
    where
      crossed : (k : Key) (place : Place) (from to : List Occurrence) → IsRunOf key from → IsRunOf key to → map place_in from ≡ map place_in to → Has from (occurrence_at k place) → Has to (occurrence_at k place)
      crossed k place from to of_from of_to same here =
          let is : k ≡ key = of_from _ here in
          subst (λ z. Has to (occurrence_at z place)) (sym is) ((run_places key to of_to place).0 (subst (λ ps. Has ps place) same (has_mapped place_in from (occurrence_at k place) here)))

  -- the runs differ, and the key is noted with both
  module _ (c : ChangedKey) (key_is : key_in c ≡ key) (old_is : old_in c ≡ map place_in run_elder) (new_is : new_in c ≡ map place_in run_newer)
      (differ : old_in c ≢ new_in c) (up_elder : IsStrictlySortedBy occurrence_order run_elder) (up_newer : IsStrictlySortedBy occurrence_order run_newer)
      (some : (o : Occurrence) × (Has run_elder o ⊎ Has run_newer o)) where
    old_here : IsStrictlySortedBy place_cmp (old_in c) × ((place : Place) → Has (old_in c) place ↔ Has (elder ++ run_elder) (occurrence_at (key_in c) place))
    old_here = placed_at elder run_elder (old_in c) (key_in c) key old_is key_is of_elder up_elder lacks_elder

    new_here : IsStrictlySortedBy place_cmp (new_in c) × ((place : Place) → Has (new_in c) place ↔ Has (newer ++ run_newer) (occurrence_at (key_in c) place))
    new_here = placed_at newer run_newer (new_in c) (key_in c) key new_is key_is of_newer up_newer lacks_newer

    known_here : (o : Occurrence) × (Has (elder ++ run_elder) o ⊎ Has (newer ++ run_newer) o) × (o.key ≡ key_in c)
    known_here = (
      some.0,
      elim some.1 [ inl e ↦ inl (has_right elder run_elder _ e) | inr n ↦ inr (has_right newer run_newer _ n) ],
      elim some.1 [ inl e ↦ of_elder _ e ∙ sym key_is | inr n ↦ of_newer _ n ∙ sym key_is ],
    )

    either : (P : ChangedKey → Type 0) → ((d : ChangedKey) → Has changed d → P d) → P c → (d : ChangedKey) → Has (changed ++ c ∷ []) d → P d
    either P before here d h = elim (has_either changed (c ∷ []) d h) [
      | inl there ↦ before d there
      | inr last ↦ elim last [ inl same ↦ subst P (sym same) here | inr none ↦ absurd none ]
    ]

    others_still : (k : Key) → ¬ Has (map key_in (changed ++ c ∷ [])) k → (place : Place) → Has (elder ++ run_elder) (occurrence_at k place) ↔ Has (newer ++ run_newer) (occurrence_at k place)
    others_still k none place =
        let not_key : k ≢ key = λ same. none (subst (Has (map key_in (changed ++ c ∷ []))) (key_is ∙ sym same) (has_mapped key_in (changed ++ c ∷ []) c (has_right changed (c ∷ []) c (inl refl)))) in
        let not_before : ¬ Has (map key_in changed) k = λ h. let from = has_source key_in changed k h in
        none (subst (Has (map key_in (changed ++ c ∷ []))) (sym from.2) (has_mapped key_in (changed ++ c ∷ []) from.0 (has_left changed (c ∷ []) from.0 from.1))) in
        let e = beside key k elder run_elder place of_elder not_key in
        let n = beside key k newer run_newer place of_newer not_key in
        let o = done.others k not_before place in
        (λ h. n.1 (o.0 (e.0 h)), λ h. e.1 (o.1 (n.0 h)))

    pub noted : AreDone (elder ++ run_elder) (newer ++ run_newer) (changed ++ c ∷ [])
    noted = record {
      once = rw (map-append key_in changed (c ∷ [])) (pushed_rises (map key_in changed) (key_in c) done.once (λ z h.
          let from = has_source key_in changed z h in
          subst (λ k. key_order k (key_in c) ≡ Less) (sym from.2) (rw key_is (changed_below from.0 from.1))));
      old = either (λ d. IsStrictlySortedBy place_cmp (old_in d) × ((place : Place) → Has (old_in d) place ↔ Has (elder ++ run_elder) (occurrence_at (key_in d) place))) old_still old_here;
      new = either (λ d. IsStrictlySortedBy place_cmp (new_in d) × ((place : Place) → Has (new_in d) place ↔ Has (newer ++ run_newer) (occurrence_at (key_in d) place))) new_still new_here;
      differ = either (λ d. old_in d ≢ new_in d) done.differ differ;
      others = others_still;
      known = either (λ d. (o : Occurrence) × (Has (elder ++ run_elder) o ⊎ Has (newer ++ run_newer) o) × (o.key ≡ key_in d)) known_still known_here;
    }

-- ---- cutting a run off of each list

-- what is cut off of two lists so far, and what is left
pub record SoFar (elder newer left_elder left_newer : List Occurrence) (changed : List ChangedKey) : Type 0 where
  pub cut_elder : List Occurrence
  pub cut_newer : List Occurrence
  pub elder_is : elder ≡ cut_elder ++ left_elder
  pub newer_is : newer ≡ cut_newer ++ left_newer
  pub below : (x y : Occurrence) → Has cut_elder x ⊎ Has cut_newer x → Has left_elder y ⊎ Has left_newer y → key_order x.key y.key ≡ Less
  pub done : AreDone cut_elder cut_newer changed

pub nothing_cut : (elder newer : List Occurrence) → SoFar elder newer elder newer []
nothing_cut elder newer = record {
  cut_elder = [];
  cut_newer = [];
  elder_is = refl;
  newer_is = refl;
  below = λ x y h. elim h [ inl e ↦ absurd e | inr n ↦ absurd n ];
  done = none_done;
}

pub all_cut : (elder newer : List Occurrence) (changed : List ChangedKey) → SoFar elder newer [] [] changed → AreChangedKeys elder newer changed
all_cut elder newer changed so =
    let e : elder ≡ so.cut_elder = so.elder_is ∙ append-nil so.cut_elder in
    let n : newer ≡ so.cut_newer = so.newer_is ∙ append-nil so.cut_newer in
    rw (e, n) (done_changed so.cut_elder so.cut_newer changed so.done)

-- the run of a key at the head of a rising list that has none below it, and what follows
pub record IsCut (key : Key) (left run rest : List Occurrence) : Type 0 where
  pub is : left ≡ run ++ rest
  pub of_key : (o : Occurrence) → Has run o → o.key ≡ key
  pub above : (o : Occurrence) → Has rest o → key_order key o.key ≡ Less

module _ (elder newer left_elder left_newer run_elder run_newer rest_elder rest_newer : List Occurrence) (changed : List ChangedKey) (key : Key)
    (so : SoFar elder newer left_elder left_newer changed) (cut_elder : IsCut key left_elder run_elder rest_elder) (cut_newer : IsCut key left_newer run_newer rest_newer)
    (some : (o : Occurrence) × (Has run_elder o ⊎ Has run_newer o)) where
  some_key : some.0.key ≡ key
  some_key = elim some.1 [ inl e ↦ cut_elder.of_key _ e | inr n ↦ cut_newer.of_key _ n ]

  some_left : Has left_elder some.0 ⊎ Has left_newer some.0
  some_left = elim some.1 [
    | inl e ↦ inl (subst (λ l. Has l some.0) (sym cut_elder.is) (has_left run_elder rest_elder _ e))
    | inr n ↦ inr (subst (λ l. Has l some.0) (sym cut_newer.is) (has_left run_newer rest_newer _ n))
  ]

  before_below : (o : Occurrence) → Has so.cut_elder o ⊎ Has so.cut_newer o → key_order o.key key ≡ Less
  before_below o h = subst (λ k. key_order o.key k ≡ Less) some_key (so.below o some.0 h some_left)

  run_below : (x y : Occurrence) → x.key ≡ key → Has rest_elder y ⊎ Has rest_newer y → key_order x.key y.key ≡ Less
  run_below x y same h = rw same (elim h [ inl e ↦ cut_elder.above y e | inr n ↦ cut_newer.above y n ])

  rest_left : (y : Occurrence) → Has rest_elder y ⊎ Has rest_newer y → Has left_elder y ⊎ Has left_newer y
  rest_left y h = elim h [
    | inl e ↦ inl (subst (λ l. Has l y) (sym cut_elder.is) (has_right run_elder rest_elder _ e))
    | inr n ↦ inr (subst (λ l. Has l y) (sym cut_newer.is) (has_right run_newer rest_newer _ n))
  ]

  still_below : (x y : Occurrence) → Has (so.cut_elder ++ run_elder) x ⊎ Has (so.cut_newer ++ run_newer) x → Has rest_elder y ⊎ Has rest_newer y → key_order x.key y.key ≡ Less
  still_below x y h later = elim h [
    | inl e ↦ elim (has_either so.cut_elder run_elder x e) [ inl before ↦ so.below x y (inl before) (rest_left y later) | inr here ↦ run_below x y (cut_elder.of_key x here) later ]
    | inr n ↦ elim (has_either so.cut_newer run_newer x n) [ inl before ↦ so.below x y (inr before) (rest_left y later) | inr here ↦ run_below x y (cut_newer.of_key x here) later ]
  ]

  cut_on : (after : List ChangedKey) → AreDone (so.cut_elder ++ run_elder) (so.cut_newer ++ run_newer) after → SoFar elder newer rest_elder rest_newer after
  cut_on after done = record {
    cut_elder = so.cut_elder ++ run_elder;
    cut_newer = so.cut_newer ++ run_newer;
    elder_is = so.elder_is ∙ ap (λ l. so.cut_elder ++ l) cut_elder.is ∙ sym (append_assoc so.cut_elder run_elder rest_elder);
    newer_is = so.newer_is ∙ ap (λ l. so.cut_newer ++ l) cut_newer.is ∙ sym (append_assoc so.cut_newer run_newer rest_newer);
    below = still_below;
    done = done;
  }

  pub same_run : map place_in run_elder ≡ map place_in run_newer → SoFar elder newer rest_elder rest_newer changed
  same_run same = cut_on changed (same_places key so.cut_elder so.cut_newer run_elder run_newer changed cut_elder.of_key cut_newer.of_key before_below so.done same)

  pub other_run : (c : ChangedKey) → key_in c ≡ key → old_in c ≡ map place_in run_elder → new_in c ≡ map place_in run_newer → old_in c ≢ new_in c
      → IsStrictlySortedBy occurrence_order run_elder → IsStrictlySortedBy occurrence_order run_newer → SoFar elder newer rest_elder rest_newer (changed ++ c ∷ [])
  other_run c key_is old_is new_is differ up_elder up_newer =
      cut_on (changed ++ c ∷ []) (noted key so.cut_elder so.cut_newer run_elder run_newer changed cut_elder.of_key cut_newer.of_key before_below so.done c key_is old_is new_is differ up_elder up_newer some)

  pub noted_run : (after : List ChangedKey) → IsAddedIfChanged key run_elder run_newer changed after
      → IsStrictlySortedBy occurrence_order run_elder → IsStrictlySortedBy occurrence_order run_newer → SoFar elder newer rest_elder rest_newer after
  noted_run after noted up_elder up_newer = elim noted [
    | inl same ↦ subst (SoFar elder newer rest_elder rest_newer) (sym same.1) (same_run same.0)
    | inr other ↦ let c = other.1.0 in
        let differ : old_in c ≢ new_in c = λ same. other.0 (sym other.1.3 ∙ same ∙ other.1.4) in
        subst (SoFar elder newer rest_elder rest_newer) (sym other.1.1) (other_run c other.1.2 other.1.3 other.1.4 differ up_elder up_newer)
  ]

-- ---- a run at the head of a rising list

-- what follows the first, in a rising list, has no key below its
later_not_below : (first : Occurrence) (rest : List Occurrence) → IsStrictlySortedBy occurrence_order (first ∷ rest) → (o : Occurrence) → Has rest o → (key_order first.key o.key ≡ Less) ⊎ (first.key ≡ o.key)
unfolding IsStrictlySortedBy
later_not_below first rest up o h = told first o (all_has (λ z. occurrence_order first z ≡ Less) rest o up.0 h)
  where
    told : (a b : Occurrence) → occurrence_order a b ≡ Less → (key_order a.key b.key ≡ Less) ⊎ (a.key ≡ b.key)
    told a b less = by_key (key_order a.key b.key) refl
      where
        by_key : (r : Ordering) → key_order a.key b.key ≡ r → (key_order a.key b.key ≡ Less) ⊎ (a.key ≡ b.key)
        by_key Less is = inl is
        by_key Equal is = inr (keys_apart a.key b.key is)
        by_key Greater is = let no : Greater ≡ Less = ap (λ r. ordering_then r (ordering_then (nat_cmp a.seq b.seq) (nat_cmp a.pos b.pos))) (sym is) ∙ less in absurd (cc)

-- no key of a rising list is below its first's
none_below : (key : Key) (left : List Occurrence) → IsStrictlySortedBy occurrence_order left → IsNotAbove key left → (o : Occurrence) → Has left o → (key_order key o.key ≡ Less) ⊎ (key ≡ o.key)
none_below key [] up low o h = absurd h
none_below key (first ∷ rest) up low o (inl same) = subst (λ z. (key_order key z.key ≡ Less) ⊎ (key ≡ z.key)) (sym same) low
none_below key (first ∷ rest) up low o (inr later) = elim low [
  | inl less ↦ elim (later_not_below first rest up o later) [ inl more ↦ inl (key_total.trans key first.key o.key less more) | inr same ↦ inl (subst (λ k. key_order key k ≡ Less) same less) ]
  | inr is ↦ elim (later_not_below first rest up o later) [ inl more ↦ inl (subst (λ k. key_order k o.key ≡ Less) (sym is) more) | inr same ↦ inr (is ∙ same) ]
]

-- behind the run, each key is above it
above_run : (key : Key) (rest : List Occurrence) → IsStrictlySortedBy occurrence_order rest → ((o : Occurrence) → Has rest o → (key_order key o.key ≡ Less) ⊎ (key ≡ o.key)) → Stops key rest
    → (o : Occurrence) → Has rest o → key_order key o.key ≡ Less
above_run key [] up low stops o h = absurd h
above_run key (first ∷ rest) up low stops o h =
    let first_above : key_order key first.key ≡ Less = elim (low first (inl refl)) [ inl less ↦ less | inr same ↦ absurd (stops (sym same)) ] in
    elim h [
      | inl same ↦ subst (λ z. key_order key z.key ≡ Less) (sym same) first_above
      | inr later ↦ elim (later_not_below first rest up o later) [ inl more ↦ key_total.trans key first.key o.key first_above more | inr same ↦ subst (λ k. key_order key k ≡ Less) same first_above ]
    ]

rest_rises : (xs ys : List Occurrence) → IsStrictlySortedBy occurrence_order (xs ++ ys) → IsStrictlySortedBy occurrence_order ys
unfolding IsStrictlySortedBy
rest_rises [] ys up = up
rest_rises (x ∷ xs) ys up = rest_rises xs ys up.1

run_rising : (xs ys : List Occurrence) → IsStrictlySortedBy occurrence_order (xs ++ ys) → IsStrictlySortedBy occurrence_order xs
unfolding IsStrictlySortedBy
run_rising [] ys up = tt
run_rising (x ∷ xs) ys up = (all_from (λ z. occurrence_order x z ≡ Less) xs (λ z h. all_has (λ z. occurrence_order x z ≡ Less) (xs ++ ys) z up.0 (has_left xs ys z h)), run_rising xs ys up.1)

-- what a run is that is as long as the key stands at the head of what is left
pub record IsRun (key : Key) (left run rest : List Occurrence) : Type 0 where
  pub cut : IsCut key left run rest
  pub run_up : IsStrictlySortedBy occurrence_order run
  pub rest_up : IsStrictlySortedBy occurrence_order rest

pub cut_run : (key : Key) (left run rest : List Occurrence) → left ≡ run ++ rest → IsStrictlySortedBy occurrence_order left → IsNotAbove key left → AreOfKey key run → Stops key rest → IsRun key left run rest
cut_run key left run rest is up low of stops =
    let both = subst (IsStrictlySortedBy occurrence_order) is up in
    let later = rest_rises run rest both in
    record {
      cut = record {
        is = is;
        of_key = λ o h. all_has (λ z. z.key ≡ key) run o of h;
        above = above_run key rest later (λ o h. none_below key left up low o (subst (λ l. Has l o) (sym is) (has_right run rest o h))) stops;
      };
      run_up = run_rising run rest both;
      rest_up = later;
    }

-- ---- the lesser of two first keys

pub at_least_itself : (key : Key) (list : List Occurrence) (first : Occurrence) (rest : List Occurrence) → list ≡ first ∷ rest → (key_order key first.key ≡ Less) ⊎ (key ≡ first.key) → IsNotAbove key list
at_least_itself key list first rest is low = subst (IsNotAbove key) (sym is) low

-- a list with a first
pub first_is : (list : List Occurrence) (first : Occurrence) → slice_get list 0 ≡ Some first → (rest : List Occurrence) × (list ≡ first ∷ rest)
first_is [] first is = absurd (cc)
first_is (x ∷ rest) first is = (rest, cc)

-- a list that begins with a key has an occurrence of it in its run
pub some_begins : (key : Key) (left run rest : List Occurrence) → left ≡ run ++ rest → BeginsWithKey key left → Stops key rest → (o : Occurrence) × Has run o
some_begins key left [] rest is begins stops = absurd (stops_there rest (subst (BeginsWithKey key) is begins) stops)
  where
    stops_there : (rest : List Occurrence) → BeginsWithKey key rest → Stops key rest → ⊥
    stops_there [] begins stops = begins
    stops_there (first ∷ more) begins stops = stops begins
some_begins key left (o ∷ run) rest is begins stops = (o, inl refl)
