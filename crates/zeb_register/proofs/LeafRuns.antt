-- What follows of changes of the keys of a run in leaves: for tables that hold a content, and for rows whatever they say.
use Rattle.zeb_register.proofs.Cited.{◌≡◌, ◌⊎◌, ◌∙◌, ◌/◌, ℕ, ℤ, List, [], ◌∷◌, refl, sym, ap, ap₂, subst, inl, inr, int_cmp_total, key_total, keys_apart, all_has, Has, Trees, Posting, Key, RecordChange, AreListChanges, Content, HasRisingLists, packed_leaves, posting_cmp, places_in, HoldsLeaves, HasUnit, LeavesRead, AreChangedBy, IsOfRun, IsUnitAmong, PutsKeys, TurnsAny, TurnsKey, KeepsMalformedUnits, IsTouched, KeyChanges}
use Rattle.std.specs.List.Sorted.{IsStrictlySortedBy}
use Rattle.zeb_register.proofs.ContentChanges.{integers_apart}
use Rattle.zeb_register.proofs.LeafChanges.{list_made, malformed_units, told_touched, unit_after, units_held, untouched_places}
use Rattle.zeb_register.proofs.ListChanges.{changes_rise}
use Rattle.zeb_register.proofs.RisingLists.{told_by}

-- ---- whether a key, and a unit, is of the run

told_of : (run : List KeyChanges) (key : Key) → IsOfRun run key ⊎ ¬ IsOfRun run key
told_of [] key = inr (λ it. it.1)
told_of (x ∷ xs) key = elim (told_by key_total keys_apart x.key.now key) [
  | inl same ↦ inl (x, inl refl, same)
  | inr other ↦ elim (told_of xs key) [
    | inl it ↦ inl (it.0, inr it.1, it.2)
    | inr none ↦ inr (λ it. elim it.1 [ inl first ↦ other (ap (λ (y : KeyChanges). y.key.now) (sym first) ∙ it.2) | inr later ↦ none (it.0, later, it.2) ])
  ]
]

told_among : (run : List KeyChanges) (key : Key) (n : ℕ) → IsUnitAmong run key n ⊎ ¬ IsUnitAmong run key n
told_among [] key n = inr (λ it. it.1)
told_among (x ∷ xs) key n = elim (told_touched x.key.now x.changes.now key n) [
  | inl here ↦ inl (x, inl refl, here)
  | inr other ↦ elim (told_among xs key n) [
    | inl it ↦ inl (it.0, inr it.1, it.2)
    | inr none ↦ inr (λ it. elim it.1 [
      | inl first ↦ other (subst (λ (y : KeyChanges). (key ≡ y.key.now) × IsTouched y.changes.now (n / 256)) first it.2)
      | inr later ↦ none (it.0, later, it.2)
    ])
  ]
]

-- a key with a change is turned
key_turned : (db : ℤ) (key : Key) (changes : List RecordChange) (old new : Trees) → TurnsAny packed_leaves db key changes old new → (block : ℕ) → IsTouched changes block → TurnsKey packed_leaves db key changes old new
key_turned db key [] old new turns block it = absurd it.1
key_turned db key (change ∷ changes) old new turns block it = turns

module _ (db : ℤ) (run : List KeyChanges) (old new : Trees) (puts : PutsKeys packed_leaves db run old new) where
  turned : (one : KeyChanges) → Has run one → (block : ℕ) → IsTouched one.changes.now block → TurnsKey packed_leaves db one.key.now one.changes.now old new
  turned one here = key_turned db one.key.now one.changes.now old new (all_has (λ (z : KeyChanges). TurnsAny packed_leaves db z.key.now z.changes.now old new) run one puts.each here)

  pub run_malformed : KeepsMalformedUnits old new
  run_malformed = malformed_units db (IsUnitAmong run) (told_among run) old new puts.rows (λ k n it.
      let one = it.0 in
      let turns = turned one it.1 (n / 256) it.2.1 in
      (turns.were.places n, subst (λ (l : Key). LeavesRead old db l n (turns.were.places n)) (sym it.2.0) (turns.allowed.found n it.2.1)))

  module _ (before after : Content) (holds : HoldsLeaves old before) (change : AreChangedBy db run before after) where
    list_changes : (one : KeyChanges) → Has run one → AreListChanges one.changes.now (before db one.key.now) (after db one.key.now)
    list_changes one here = all_has (λ (z : KeyChanges). AreListChanges z.changes.now (before db z.key.now) (after db z.key.now)) run one change.lists here

    rises : HasRisingLists after
    rises d k = elim (told_by int_cmp_total integers_apart d db) [
      | inr other ↦ subst (IsStrictlySortedBy posting_cmp) (sym (change.others d k (λ it. other it.0))) (holds.rising d k)
      | inl same ↦ elim (told_of run k) [
        | inr none ↦ subst (IsStrictlySortedBy posting_cmp) (sym (change.others d k (λ it. none it.1))) (holds.rising d k)
        | inl it ↦
            let one = it.0 in
            let up = changes_rise one.changes.now (before db one.key.now) (after db one.key.now) (holds.rising db one.key.now) (list_changes one it.1) in
            subst (IsStrictlySortedBy posting_cmp) (ap₂ after (sym same) it.2) up
      ]
    ]

    kept_places : (d : ℤ) (k : Key) (n : ℕ) → ¬ HasUnit db (IsUnitAmong run) d k n → places_in n (before d k) ≡ places_in n (after d k)
    kept_places d k n out = elim (told_by int_cmp_total integers_apart d db) [
      | inr other ↦ ap (places_in n) (sym (change.others d k (λ it. other it.0)))
      | inl same ↦ elim (told_of run k) [
        | inr none ↦ ap (places_in n) (sym (change.others d k (λ it. none it.1)))
        | inl it ↦
            let one = it.0 in
            let key = one.key.now in
            ap (places_in n) (ap₂ before same (sym it.2))
            ∙ untouched_places one.changes.now (before db key) (after db key) (holds.rising db key) (rises db key) (list_changes one it.1) n (λ touch. out (same, (one, it.1, (sym it.2, touch))))
            ∙ ap (places_in n) (ap₂ after (sym same) it.2)
      ]
    ]

    pub run_held : HoldsLeaves new after
    run_held = units_held db (IsUnitAmong run) (told_among run) old new puts.rows before after holds rises
        (λ k n it.
        let one = it.0 in
        let key = one.key.now in
        let turns = turned one it.1 (n / 256) it.2.1 in
        subst (λ (l : Key). LeavesRead new db l n (places_in n (after db l))) (sym it.2.0)
        (unit_after db key one.changes.now old before holds turns.were turns.are turns.allowed new turns.put (after db key) (list_changes one it.1) n it.2.1)) kept_places

  -- the changes of each key make a list of the content's
  pub lists_there : (content : Content) → HoldsLeaves old content → (one : KeyChanges) → Has run one → (list : List Posting) × AreListChanges one.changes.now (content db one.key.now) list
  lists_there content holds one here = from one.changes.now (all_has (λ (z : KeyChanges). TurnsAny packed_leaves db z.key.now z.changes.now old new) run one puts.each here)
    where
      from : (changes : List RecordChange) → TurnsAny packed_leaves db one.key.now changes old new → (list : List Posting) × AreListChanges changes (content db one.key.now) list
      from [] turns = (content db one.key.now, refl)
      from (change ∷ changes) turns = list_made db one.key.now (change ∷ changes) old content holds turns.were turns.are turns.allowed
