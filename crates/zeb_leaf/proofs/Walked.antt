-- Walks over a leaf: what is left at a place, and what the bytes have as a whole.
use Rattle.zeb_leaf.proofs.Cited.{◌≡◌, ◌≢◌, ℕ, ◌<◌, List, [], ◌∷◌, ◌++◌, length, arith, refl, sym, ◌∙◌, ap, subst, append_assoc, append-nil, Entry, IsLeaf, Place, first_place, behind_entry, Walk, Steps, IsStuck}
use Rattle.zeb_leaf.specs.Leaves.{entry_bytes, entries_bytes}
use Rattle.zeb_leaf.proofs.OneEntry.{same_entry, some_bytes}
use Rattle.zeb_leaf.proofs.Order.{EachFollows, each_sound, follow_first, rises}

-- the bytes are those of entries that may come at the place
pub record Spells (place : Place) (list : List Entry) (bytes : List ℕ) : Type 0 where
  pub follow : EachFollows place list
  pub spelled : bytes ≡ entries_bytes place.term list

pub leaf_spells : (bytes : List ℕ) (list : List Entry) → IsLeaf bytes list → Spells first_place list bytes
leaf_spells bytes list leaf = record { follow = follow_first list leaf.rising leaf.each; spelled = leaf.spelled }

pub spells_leaf : (bytes : List ℕ) (list : List Entry) → list ≢ [] → Spells first_place list bytes → IsLeaf bytes list
spells_leaf bytes list some spells = record {
  some = some;
  rising = rises first_place list spells.follow;
  each = each_sound first_place list spells.follow;
  spelled = spells.spelled;
}

-- a step, and then the rest
pub spells_more : (old new : Walk) (e : Entry) (rest : List Entry) → Steps old e new → Spells new.place rest new.left → Spells old.place (e ∷ rest) old.left
unfolding entries_bytes
spells_more old new e rest step spells =
    let here = subst (λ (place : Place). Spells place rest new.left) step.place spells in
    record {
      follow = (step.follows, here.follow);
      spelled = step.spelled ∙ ap (λ (b : List ℕ). entry_bytes old.place.term e ++ b) here.spelled;
    }

-- what the entries at a place say of a step there
pub record Stepped (e : Entry) (new : Walk) (list : List Entry) : Type 0 where
  pub rest : List Entry
  pub is : list ≡ e ∷ rest
  pub spells : Spells new.place rest new.left

pub spells_step : (old new : Walk) (e : Entry) (list : List Entry) → Steps old e new → Spells old.place list old.left → Stepped e new list
unfolding entries_bytes
spells_step old new e [] step spells = absurd (some_bytes old.place.term e new.left step.follows.sound (sym spells.spelled ∙ step.spelled))
spells_step old new e (f ∷ rest) step spells =
    let (entry, left) = same_entry old.place.term f e _ _ spells.follow.0.sound step.follows.sound (sym spells.spelled ∙ step.spelled) in
    let follow = subst (λ (g : Entry). EachFollows (behind_entry g) rest) entry spells.follow.1 in
    let spelled = subst (λ (g : Entry). new.left ≡ entries_bytes g.term rest) entry (sym left) in
    record {
      rest = rest;
      is = λ i. entry i ∷ rest;
      spells = subst (λ (place : Place). Spells place rest new.left) (sym step.place) record { follow = follow; spelled = spelled };
    }

-- the first entry of some at a place is a step
pub step_from : (walk : Walk) (e : Entry) (rest : List Entry) → Spells walk.place (e ∷ rest) walk.left → Steps walk e (record { place = behind_entry e; left = entries_bytes e.term rest })
unfolding entries_bytes
step_from walk e rest spells = record { follows = spells.follow.0; spelled = spells.spelled; place = refl }

-- where no entry stands, and something is left, no entries do
pub stuck_spells : (walk : Walk) → IsStuck walk → (list : List Entry) → ¬ Spells walk.place list walk.left
unfolding entries_bytes
stuck_spells walk stuck [] spells = stuck.some spells.spelled
stuck_spells walk stuck (e ∷ rest) spells = stuck.none e _ (step_from walk e rest spells)

-- ---- from the first entry on

-- a walk over the bytes came over these entries: what is left is the rest of what they have, and only that
pub record Reaches (bytes : List ℕ) (done : List Entry) (walk : Walk) : Type 0 where
  pub sound : (rest : List Entry) → Spells walk.place rest walk.left → Spells first_place (done ++ rest) bytes
  pub whole : (all : List Entry) → Spells first_place all bytes → (rest : List Entry) × (all ≡ done ++ rest) × Spells walk.place rest walk.left

pub reaches_first : (bytes : List ℕ) → Reaches bytes [] (record { place = first_place; left = bytes })
reaches_first bytes = record { sound = λ rest spells. spells; whole = λ all spells. (all, refl, spells) }

pub reaches_more : (bytes : List ℕ) (done : List Entry) (old new : Walk) (e : Entry) → Reaches bytes done old → Steps old e new → Reaches bytes (done ++ e ∷ []) new
reaches_more bytes done old new e so_far step = record {
  sound = λ rest spells.
      subst (λ (all : List Entry). Spells first_place all bytes) (sym (append_assoc done (e ∷ []) rest)) (so_far.sound (e ∷ rest) (spells_more old new e rest step spells));
  whole = λ all spells.
      let (more, is, at) = so_far.whole all spells in
      let stepped = spells_step old new e more step at in
      (stepped.rest, is ∙ ap (λ (list : List Entry). done ++ list) stepped.is ∙ sym (append_assoc done (e ∷ []) stepped.rest), stepped.spells);
}

nothing_left : (place : Place) → Spells place [] []
unfolding entries_bytes
nothing_left place = record { follow = tt; spelled = refl }

spells_some : (bytes : List ℕ) (list : List Entry) → 0 < length bytes → Spells first_place list bytes → list ≢ []
unfolding entries_bytes
spells_some bytes [] some spells none = let e = ap length spells.spelled in omega arith
spells_some bytes (e ∷ list) some spells none = cc

pub reaches_end : (bytes : List ℕ) (done : List Entry) (walk : Walk) → Reaches bytes done walk → walk.left ≡ [] → 0 < length bytes → IsLeaf bytes done
reaches_end bytes done walk all none some =
    let ends = subst (λ (left : List ℕ). Spells walk.place [] left) (sym none) (nothing_left walk.place) in
    let spells = subst (λ (list : List Entry). Spells first_place list bytes) (append-nil done) (all.sound [] ends) in
    spells_leaf bytes done (spells_some bytes done some spells) spells

pub reaches_stuck : (bytes : List ℕ) (done : List Entry) (walk : Walk) → Reaches bytes done walk → IsStuck walk → (list : List Entry) → ¬ IsLeaf bytes list
reaches_stuck bytes done walk so_far stuck list leaf =
    let (rest, is, spells) = so_far.whole list (leaf_spells bytes list leaf) in
    stuck_spells walk stuck rest spells

-- no bytes are no leaf
pub empty_leaf : (bytes : List ℕ) → length bytes ≡ 0 → (list : List Entry) → ¬ IsLeaf bytes list
unfolding entries_bytes
empty_leaf (byte ∷ bytes) none list leaf = absurd (omega arith)
empty_leaf [] none [] leaf = leaf.some refl
empty_leaf [] none (e ∷ list) leaf = some_bytes [] e _ leaf.each.0 leaf.spelled

-- bytes at a place are those of one list at most
pub same_list : (place : Place) (bytes : List ℕ) (list other : List Entry) → Spells place list bytes → Spells place other bytes → list ≡ other
unfolding entries_bytes
same_list place bytes [] [] one two = refl
same_list place bytes [] (f ∷ other) one two = absurd (some_bytes place.term f _ two.follow.0.sound (sym one.spelled ∙ two.spelled))
same_list place bytes (e ∷ list) [] one two = absurd (some_bytes place.term e _ one.follow.0.sound (sym two.spelled ∙ one.spelled))
same_list place bytes (e ∷ list) (f ∷ other) one two =
    let walk : Walk = record { place = place; left = bytes } in
    let new : Walk = record { place = behind_entry e; left = entries_bytes e.term list } in
    let step : Steps walk e new = step_from walk e list record { follow = one.follow; spelled = one.spelled } in
    let stepped = spells_step walk new e (f ∷ other) step record { follow = two.follow; spelled = two.spelled } in
    let behind = same_list (behind_entry e) (entries_bytes e.term list) list stepped.rest (record { follow = one.follow.1; spelled = refl }) stepped.spells in
    ap (λ (rest : List Entry). e ∷ rest) behind ∙ sym stepped.is
