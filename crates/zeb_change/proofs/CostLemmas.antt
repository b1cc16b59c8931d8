-- What is counted for the keys of records, one record after the other.
use Rattle.zeb_change.proofs.Cited.{◌≡◌, ◌↔◌, ◌∙◌, ◌+◌, ℕ, List, [], Option, Some, None, Result, Ok, Err, OnOk, map, length, inl, inr, refl, sym, ap, subst, subst₂, arith, length-map, Contains, has_contained, contains_had, has_mapped, Row, Trees, Occurrence, Place, Work, Format, plain_rows, packed_blocks, packed_leaves, blocks_tree, works_both, works_for, works_none, same_list, ChangedKey, Directive, Elder, place_total, Base, kept_as, IsElderAs, elder_bytes, IsRecordCost, bytes_of, newer_of, occurs_by, IsCostIn, Kind, ident_in, Pending, IsDueFor, IsNothingNoted, noted_count, AreInRange, occurrence_at, AreChangedKeys, key_in, new_in, old_in}
use Rattle.std.specs.List.Sorted.{IsStrictlySortedBy}
use Rattle.zeb_change.proofs.NotedChanges.{nothing_count}
use Rattle.zeb_change.proofs.ChangeKeysContent.{told_key}

-- ---- counts

module _ (format : Format) (row_work : ℕ) where
  -- changes that are noted are due, beside leaves that stay
  pub due_noted : (n : ℕ) (old new : Trees) (work : Work) (before after : Pending) → new blocks_tree ≡ old blocks_tree → noted_count after ≡ noted_count before + n
      → IsDueFor format row_work n old new work work before after
  due_noted n old new work before after same more = (0, works_none format row_work old new work same, omega (arith, more))

  pub due_then : (a b : ℕ) (old mid new : Trees) (was then is : Work) (before between after : Pending) → AreInRange is → IsDueFor format row_work a old mid was then before between
      → IsDueFor format row_work b mid new then is between after → IsDueFor format row_work (a + b) old new was is before after
  due_then a b old mid new was then is before between after are one two =
      (one.0 + two.0, works_both format row_work one.0 two.0 old mid new was then is are one.1 two.1, omega (arith, one.2, two.2))

  -- changes are noted, and then some are written
  pub due_more : (n : ℕ) (old mid new : Trees) (was is : Work) (before between after : Pending) → AreInRange is → mid blocks_tree ≡ old blocks_tree → noted_count between ≡ noted_count before + n
      → IsDueFor format row_work 0 mid new was is between after → IsDueFor format row_work n old new was is before after
  due_more n old mid new was is before between after are same more due =
      (0 + due.0, works_both format row_work 0 due.0 old mid new was was is are (works_none format row_work old mid was same) due.1, omega (arith, due.2, more))

  -- a run's changes are written
  pub due_written : (n : ℕ) (old mid new : Trees) (was then is : Work) (before between after : Pending) → AreInRange is → IsDueFor format row_work 0 old mid was then before between
      → works_for format row_work n mid new then is → noted_count between ≡ n + noted_count after → IsDueFor format row_work 0 old new was is before after
  due_written n old mid new was then is before between after are one two more =
      (one.0 + n, works_both format row_work one.0 n old mid new was then is are one.1 two, omega (arith, one.2, more))

  pub due_nothing : (n : ℕ) (old new : Trees) (was is : Work) (before one two : Pending) → IsNothingNoted one → IsNothingNoted two → IsDueFor format row_work n old new was is before one
      → IsDueFor format row_work n old new was is before two
  due_nothing n old new was is before one two none never due =
      let empty = nothing_count one none in
      let emptied = nothing_count two never in
      (due.0, due.1, omega (arith, due.2, empty, emptied))

  -- where nothing is noted at first and nothing at the end, what came up is counted
  pub due_end : (n : ℕ) (old mid new : Trees) (was then is : Work) (before between after : Pending) → AreInRange is → noted_count before ≡ 0 → noted_count after ≡ 0
      → IsDueFor format row_work n old mid was then before between → IsDueFor format row_work 0 mid new then is between after → works_for format row_work n old new was is
  due_end n old mid new was then is before between after are none done one two =
      let all = due_then n 0 old mid new was then is before between after are one two in
      let same : all.0 ≡ n = omega (arith, all.2, none, done) in
      subst (λ m. works_for format row_work m old new was is) same all.1

-- what stands in other tables before and after makes no difference
pub works_beside : (format : Format) (row_work n : ℕ) (first old new last : Trees) (was is : Work) → old blocks_tree ≡ first blocks_tree → last blocks_tree ≡ new blocks_tree
    → works_for format row_work n old new was is → works_for format row_work n first last was is
works_beside plain_rows row_work n first old new last was is before after works = works
works_beside packed_blocks row_work n first old new last was is before after works = works
works_beside packed_leaves row_work n first old new last was is before after works = record {
  reads_terms = works.reads_terms;
  writes_terms = works.writes_terms;
  reads_leaves = works.reads_leaves;
  more = works.more;
  comes = ap length after ∙ works.comes ∙ ap (λ (rows : List Row). length rows + works.more) before;
  writes_leaves = works.writes_leaves;
  unwritten = λ none. elim (works.unwritten none) [ inl full ↦ inl full | inr same ↦ inr (after ∙ same ∙ before) ];
}

-- ---- keys

-- the changed keys are just those whose places differ
pub keys_cost : (elder newer : List Occurrence) (changed : List ChangedKey) → AreChangedKeys elder newer changed → IsRecordCost (Contains elder) (Contains newer) (length changed)
keys_cost elder newer changed are = record {
  keys = map key_in changed;
  once = are.once;
  each = λ key. (
    λ there same.
        let from = has_mapped key_in changed key (has_contained (map key_in changed) key there) in
        let c = from.0 in
        let in_it = contains_had changed c from.1 in
        let old = are.old c in_it in
        let new = are.new c in_it in
        let both : (place : Place) → Contains elder (occurrence_at (key_in c) place) ↔ Contains newer (occurrence_at (key_in c) place) =
        λ place. subst (λ k. Contains elder (occurrence_at k place) ↔ Contains newer (occurrence_at k place)) from.2 (same place.seq place.pos) in
        are.differ c in_it (same_list place_total (old_in c) (new_in c) old.rising new.rising
        (λ place h. (new.each place).1 ((both place).0 ((old.each place).0 h)))
        (λ place h. (old.each place).1 ((both place).1 ((new.each place).0 h)))),
    λ differ. elim (told_key (map key_in changed) key) [
      | inl there ↦ contains_had (map key_in changed) key there
      | inr none ↦ absurd (differ (λ seq pos. are.others key (λ h. none (has_contained (map key_in changed) key h)) (record { seq = seq; pos = pos })))
    ],
  );
  many = sym (length-map changed key_in);
}

-- the same of sets of occurrences that are the same
pub cost_as : (elder newer elder' newer' : Occurrence → Type 0) (n : ℕ) → ((o : Occurrence) → elder o ↔ elder' o) → ((o : Occurrence) → newer o ↔ newer' o)
    → IsRecordCost elder newer n → IsRecordCost elder' newer' n
cost_as elder newer elder' newer' n one two cost = record {
  keys = cost.keys;
  once = cost.once;
  each = λ key. (
    λ there same. (cost.each key).0 there (λ seq pos. (
      λ h. (two _).1 ((same seq pos).0 ((one _).0 h)),
      λ h. (one _).1 ((same seq pos).1 ((two _).0 h)),
    )),
    λ differ. (cost.each key).1 (λ same. differ (λ seq pos. (
      λ h. (two _).0 ((same seq pos).0 ((one _).1 h)),
      λ h. (one _).0 ((same seq pos).1 ((two _).1 h)),
    ))),
  );
  many = cost.many;
}

-- the same of the records whose occurrences they are
module _ (profile : List Directive) where
  -- a record in its own place costs nothing, and no record in the place of none
  pub same_cost : (bytes : Option (List ℕ)) → IsRecordCost (occurs_by profile bytes) (occurs_by profile bytes) 0
  unfolding IsStrictlySortedBy
  same_cost bytes = record {
    keys = [];
    once = tt;
    each = λ key. (λ there. absurd (has_contained [] key there), λ differ. absurd (differ (λ seq pos. (λ h. h, λ h. h))));
    many = refl;
  }

-- the elder that was found is the one that the database keeps
pub elder_kept : (ident : List ℕ) (base : Base) (found : Option Elder) → IsElderAs ident base found → elder_bytes found ≡ bytes_of (kept_as ident base)
elder_kept ident base None none = ap bytes_of (sym none)
elder_kept ident base (Some elder) (kept, is, number, same) = ap Some (sym same) ∙ ap bytes_of (sym is)

pub cost_in : (profile : List Directive) (kind : Kind) (bytes ident : List ℕ) (base : Base) (found : Option Elder) (newer : Option (List ℕ)) (n : ℕ) → ident_in profile bytes ≡ Ok ident → IsElderAs ident base found → newer_of kind bytes ≡ newer
    → IsRecordCost (occurs_by profile (elder_bytes found)) (occurs_by profile newer) n → IsCostIn profile kind bytes base n
cost_in profile kind bytes ident base found newer n named there is cost =
    (ident, named, subst₂ (λ one two. IsRecordCost (occurs_by profile one) (occurs_by profile two) n) (elder_kept ident base found there) (sym is) cost)

-- what follows where a call is accepted
pub ok_so : {T E : Type 0} (result : Result T E) (One Two : Type 0) → (One → Two) → OnOk result One → OnOk result Two
ok_so (Ok value) One Two so one = so one
ok_so (Err fault) One Two so one = one
