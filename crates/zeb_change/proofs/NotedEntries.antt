-- Noted keys in their order, each with its notes: a key stands once, and what is noted of it is what stands there.
use Rattle.zeb_change.proofs.Cited.{◌≡◌, ◌≢◌, ◌∙◌, ◌++◌, List, [], ◌∷◌, Some, None, map, refl, sym, ap, subst, inl, inr, Less, Has, all_from, all_has, has_left, has_mapped, has_right, mapped_has, tied_itself, lookup, is_at, Key, key_order, key_total, never_itself, KeyNotes, Pending, notes_at, DoKeysRise}
use Rattle.std.specs.List.Sorted.{IsStrictlySortedBy}
use Rattle.zeb_change.proofs.NotedChanges.{apart_at}

-- the key of no value is that of one behind it
pub keys_apart_by : {X : Type 0} (key_of : X → Key) (front back : List X) → IsStrictlySortedBy key_order (map key_of (front ++ back)) → (x y : X) → Has front x → Has back y → key_of y ≢ key_of x
unfolding IsStrictlySortedBy
keys_apart_by key_of [] back rise x y here later is = absurd here
keys_apart_by key_of (first ∷ front) back rise x y (inl same) later is =
    let below = all_has (λ k. key_order (key_of first) k ≡ Less) (map key_of (front ++ back)) (key_of y) rise.0 (mapped_has key_of (front ++ back) y (has_right front back y later)) in
    never_itself key_total (key_of first) (subst (λ k. key_order (key_of first) k ≡ Less) (is ∙ ap key_of same) below)
keys_apart_by key_of (first ∷ front) back rise x y (inr here) later is = keys_apart_by key_of front back rise.1 x y here later is

pub front_rises : {X : Type 0} (key_of : X → Key) (front back : List X) → IsStrictlySortedBy key_order (map key_of (front ++ back)) → IsStrictlySortedBy key_order (map key_of front)
unfolding IsStrictlySortedBy
front_rises key_of [] back rise = tt
front_rises key_of (first ∷ front) back rise = (
  all_from (λ k. key_order (key_of first) k ≡ Less) (map key_of front) (λ k there.
      let from = has_mapped key_of front k there in
      all_has (λ k. key_order (key_of first) k ≡ Less) (map key_of (front ++ back)) k rise.0
      (subst (Has (map key_of (front ++ back))) (sym from.2) (mapped_has key_of (front ++ back) from.0 (has_left front back from.0 from.1)))),
  front_rises key_of front back rise.1,
)

abbrev pub key_noted : Key × KeyNotes → Key
key_noted entry = entry.0

-- what stands of a key is what is noted of it
noted_among : (entries : List (Key × KeyNotes)) → DoKeysRise entries → (entry : Key × KeyNotes) → Has entries entry → lookup (is_at (key_order entry.0)) entries ≡ Some entry.1
unfolding IsStrictlySortedBy
noted_among [] rise entry there = absurd there
noted_among (first ∷ entries) rise entry (inl same) = subst (λ (z : Key × KeyNotes). lookup (is_at (key_order z.0)) (first ∷ entries) ≡ Some z.1) (sym same) (rw (tied_itself key_total first.0) refl)
noted_among (first ∷ entries) rise entry (inr later) =
    let other : first.0 ≢ entry.0 = λ is. keys_apart_by key_noted (first ∷ []) entries rise first entry (inl refl) later (sym is) in
    rw (apart_at entry.0 first.0 other) (noted_among entries rise.1 entry later)

none_among : (entries : List (Key × KeyNotes)) (key : Key) → ¬ Has (map key_noted entries) key → lookup (is_at (key_order key)) entries ≡ None
none_among [] key none = refl
none_among (first ∷ entries) key none = rw (apart_at key first.0 (λ is. none (inl (sym is)))) (none_among entries key (λ h. none (inr h)))

pub noted_there : (pending : Pending) → DoKeysRise pending.notes.entries → (entry : Key × KeyNotes) → Has pending.notes.entries entry → notes_at pending entry.0 ≡ Some entry.1
noted_there pending = noted_among pending.notes.entries

pub noted_nowhere : (pending : Pending) (key : Key) → ¬ Has (map key_noted pending.notes.entries) key → notes_at pending key ≡ None
noted_nowhere pending = none_among pending.notes.entries
