-- What becomes of one record, as the calls on the tables say it.
use Rattle.zeb_change.proofs.Cited.{◌≡◌, ◌∙◌, ℕ, ℤ, pos, ◌+◌, ◌≤◌, ◌<◌, false, List, [], Some, None, Option, Result, Ok, refl, sym, ap, subst, arith, nat_le, nat_tests, Trees, State, Directive, Occurrence, IsRising, Elder, Content, Loses, Changes, KeepsRegisters, records_tree, HasNumber, Fate, Inserted, Updated, Deleted, Why, Meets, Conditions, Changed, updated, deleted, Base, Kept, kept_as, with_new, with_bytes, without_ident, IsNewer, IsElderAs, AreOccurrencesOf, Pending, WillBe, WillBeTaken, standing, Format, holds_in}
use Rattle.std.specs.List.Sorted.{IsStrictlySortedBy}
use Rattle.zeb_change.proofs.UnderWay.{same_way, same_names, IsMoved}
use Rattle.zeb_change.proofs.TakenLemmas.{PutAs, insert_taken, replace_taken, withdraw_taken}

-- nothing becomes of a record
pub passed_over : (format : Format) (profile : List Directive) (id : ℤ) (records_of : ℤ → List Kept) (old mid : State) (pending : Pending) (last : ℕ) (base : Base) (fate : Fate)
    → mid.now ≡ old.now → last ≡ base.last → WillBe format profile id records_of (standing old pending) base
    → WillBeTaken format profile id records_of (standing old pending) (standing mid pending) last (base, fate) fate
passed_over format profile id records_of old mid pending last base fate same is_last under =
    record { fate_is = refl; last_is = is_last; under_way = same_way format profile id records_of old mid pending base same under; names = same_names format profile id records_of old mid same }

pub none_rise : IsRising []
unfolding IsStrictlySortedBy
none_rise = tt

not_full : (numbers last : ℕ) → last < numbers → nat_le numbers last ≡ false
not_full numbers last = grind (arith, nat_tests)

module _ (format : Format) (stays : (old new : Trees) (content : Content) → KeepsRegisters old new → holds_in format old content → holds_in format new content)
    (profile : List Directive) (id : ℤ) (records_of : ℤ → List Kept) (old mid : State) (pending pending' : Pending) (base : Base) (under : WillBe format profile id records_of (standing old pending) base) (ident : List ℕ) where
  -- the number of a record that is put
  abbrev pub IsPut : ℕ → List ℕ → Type 0
  IsPut sysno bytes = PutAs format stays profile id records_of old mid pending pending' base under sysno ident bytes

  -- what is said of a record that is taken
  abbrev pub IsTurned : ℕ → Result Changed Why → Fate → Type 0
  IsTurned after said fate = Meets (WillBeTaken format profile id records_of (standing old pending) (standing mid pending') after) said (Ok fate)

  module _ (bytes : List ℕ) (newer : List Occurrence) (is : IsNewer profile ident bytes newer) (c : Conditions) where
    pub inserted : (last after : ℕ) → last ≡ base.last → kept_as ident base ≡ None → IsPut (last + 1) bytes → after ≡ last + 1 → last < c.limits.numbers → c.limits.numbers ≤ 999999999
        → IsMoved format profile id records_of (last + 1) [] newer pending pending' → IsTurned after (updated c ident bytes base (kept_as ident base)) Inserted
    inserted last after same none put is_next below most moved =
        let put_next = subst (λ (n : ℕ). IsPut (n + 1) bytes) same put in
        let moved_next = subst (λ (n : ℕ). IsMoved format profile id records_of (n + 1) [] newer pending pending') same moved in
        let few : base.last < 999999999 = omega (arith, same) in
        let taken = insert_taken format stays profile id records_of old mid pending pending' base under ident bytes newer none is put_next few moved_next in
        let free : nat_le c.limits.numbers base.last ≡ false = not_full c.limits.numbers base.last (omega (arith, same)) in
        subst (λ (found : Option Kept). IsTurned after (updated c ident bytes base found) Inserted) (sym none)
        (rw free (subst (λ (n : ℕ). WillBeTaken format profile id records_of (standing old pending) (standing mid pending') n (with_new ident bytes base, Inserted) Inserted)
        (sym (is_next ∙ ap (λ (n : ℕ). n + 1) same)) taken))

    pub replaced : (elder : Elder) (there : IsElderAs ident base (Some elder)) (occurrences : List Occurrence) → AreOccurrencesOf profile elder.bytes.items occurrences → IsPut elder.sysno bytes
        → (after : ℕ) → after ≡ base.last → IsMoved format profile id records_of elder.sysno occurrences newer pending pending'
        → IsTurned after (updated c ident bytes base (kept_as ident base)) Updated
    replaced elder there occurrences was put after is_last moved =
        let put_again = subst (λ (n : ℕ). IsPut n bytes) there.2 put in
        let of_kept = subst (λ (b : List ℕ). AreOccurrencesOf profile b occurrences) (sym there.3) was in
        let moved_kept = subst (λ (n : ℕ). IsMoved format profile id records_of n occurrences newer pending pending') there.2 moved in
        let taken = replace_taken format stays profile id records_of old mid pending pending' base under ident there.0 occurrences there.1 of_kept bytes newer is put_again moved_kept in
        subst (λ (found : Option Kept). IsTurned after (updated c ident bytes base found) Updated) (sym there.1)
        (subst (λ (n : ℕ). WillBeTaken format profile id records_of (standing old pending) (standing mid pending') n (with_bytes ident bytes base, Updated) Updated) (sym is_last) taken)

  pub withdrawn : (elder : Elder) (there : IsElderAs ident base (Some elder)) (occurrences : List Occurrence) → AreOccurrencesOf profile elder.bytes.items occurrences
      → Changes records_tree (Loses (HasNumber id (pos elder.sysno))) old mid → (absent : Result Changed Why) (after : ℕ) → after ≡ base.last
      → IsMoved format profile id records_of elder.sysno occurrences [] pending pending' → IsTurned after (deleted absent ident base (kept_as ident base)) Deleted
  withdrawn elder there occurrences was take absent after is_last moved =
      let take_kept_one = subst (λ (n : ℕ). Changes records_tree (Loses (HasNumber id (pos n))) old mid) there.2 take in
      let of_taken = subst (λ (b : List ℕ). AreOccurrencesOf profile b occurrences) (sym there.3) was in
      let moved_kept = subst (λ (n : ℕ). IsMoved format profile id records_of n occurrences [] pending pending') there.2 moved in
      let taken = withdraw_taken format stays profile id records_of old mid pending pending' base under ident there.0 occurrences there.1 of_taken take_kept_one moved_kept in
      subst (λ (found : Option Kept). IsTurned after (deleted absent ident base found) Deleted) (sym there.1)
      (subst (λ (n : ℕ). WillBeTaken format profile id records_of (standing old pending) (standing mid pending') n (without_ident ident base, Deleted) Deleted) (sym is_last) taken)
