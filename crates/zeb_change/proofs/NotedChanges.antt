-- The changes that are noted of each key, and how many there are, as a change is noted and as a key's changes are taken out.
use Rattle.zeb_change.proofs.Cited.{All, all_from, contains_had, ◌≡◌, ◌≢◌, ◌∙◌, ◌+◌, Bool, true, false, List, [], ◌∷◌, ◌++◌, Option, Some, None, refl, sym, ap, subst, arith, Less, is_eq, lookup, set_value, BTreeMap, get, insert_entry, is_at, Updates, WritesThrough, Key, key_order, keys_apart, KeyNotes, Pending, KeyChange, AreNoted, IsNotedIn, IsNothingNoted, changes_among, notes_at, noted_count, IsNotNoted, IsNotedAlso, IsTakenOut, change_words, IsOrdered, keys, DoKeysRise}
use Rattle.std.specs.declared.cmp.Ordering.{Ordering}
use Rattle.std.specs.declared.cmp.Ordering.TheVariants.{Equal, Greater}
use Rattle.std.specs.BTreeMap.Range.{IsLtBy}
use Rattle.std.specs.List.Sorted.{IsStrictlySortedBy}
use Rattle.zeb_change.proofs.NoteWords.{noted_more, one_noted}

-- ---- how many

set_more : (test : Key → Bool) (es : List (Key × KeyNotes)) (v w : KeyNotes) → lookup test es ≡ Some v → w.count ≡ v.count + 1
    → changes_among (set_value test es w) ≡ changes_among es + 1
set_more test [] v w found more = absurd (cc)
set_more test (e ∷ es) v w found more = by (test e.0) refl (λ later. set_more test es v w later more)
  where
    by : (b : Bool) → test e.0 ≡ b → (lookup test es ≡ Some v → changes_among (set_value test es w) ≡ changes_among es + 1) → changes_among (set_value test (e ∷ es) w) ≡ changes_among (e ∷ es) + 1
    by true is rest =
        let here : Some e.1 ≡ Some v = sym (rw is refl) ∙ found in
        let same : e.1 ≡ v = cc in
        let many : w.count ≡ e.1.count + 1 = more ∙ ap (λ (u : KeyNotes). u.count + 1) (sym same) in
        rw is (omega (arith, many))
    by false is rest =
        let later : lookup test es ≡ Some v = sym (rw is refl) ∙ found in
        let tail = rest later in
        rw is (omega (arith, tail))

insert_more : (es : List (Key × KeyNotes)) (key : Key) (v : KeyNotes) → lookup (is_at (key_order key)) es ≡ None → v.count ≡ 1
    → changes_among (insert_entry key_order es key v) ≡ changes_among es + 1
insert_more [] key v none one = omega (arith, one)
insert_more (e ∷ es) key v none one = by (key_order key e.0) refl (λ later. insert_more es key v later one)
  where
    by : (o : Ordering) → key_order key e.0 ≡ o → (lookup (is_at (key_order key)) es ≡ None → changes_among (insert_entry key_order es key v) ≡ changes_among es + 1)
        → changes_among (insert_entry key_order (e ∷ es) key v) ≡ changes_among (e ∷ es) + 1
    by Less is rest = rw is (omega (arith, one))
    by Equal is rest = let e : Some e.1 ≡ None = sym (rw is refl) ∙ none in absurd (cc)
    by Greater is rest =
        let later : lookup (is_at (key_order key)) es ≡ None = sym (rw is refl) ∙ none in
        let tail = rest later in
        rw is (omega (arith, tail))

-- ---- at which key

pub apart_at : (key k : Key) → k ≢ key → is_at (key_order key) k ≡ false
apart_at key k differs = by (key_order key k) refl
  where
    by : (o : Ordering) → key_order key k ≡ o → is_eq o ≡ false
    by Equal is = absurd (differs (sym (keys_apart key k is)))
    by _ is = refl

-- a key has a change already
noted_behind : (key : Key) (change : KeyChange) (v w : KeyNotes) (old new : Pending) → get key_order old.notes key ≡ Some v → w.count ≡ v.count + 1
    → w.words.items ≡ v.words.items ++ change_words change → WritesThrough key_order (key_order key) old.notes w new.notes → IsNotedAlso key change old new
noted_behind key change v w old new found more words writes =
    let updates = writes.3 (rw found refl) in
    record {
      here = λ changes noted. subst (λ (o : Option KeyNotes). AreNoted o (changes ++ change ∷ [])) (sym updates.1)
          (noted_more v w changes change more words (subst (λ (o : Option KeyNotes). AreNoted o changes) found noted));
      others = λ k differs. updates.2 k (apart_at key k differs);
      count = ap changes_among writes.0 ∙ set_more (is_at (key_order key)) old.notes.entries v w found more;
    }

-- what is noted is told by the map
pub noted_by : (key : Key) (change : KeyChange) (old old' new : Pending) → old'.notes ≡ old.notes → IsNotedAlso key change old new → IsNotedAlso key change old' new
noted_by key change old old' new same is = record {
  here = λ changes noted. is.here changes (subst (λ (m : BTreeMap Key KeyNotes). AreNoted (get key_order m key) changes) same noted);
  others = λ k differs. is.others k differs ∙ ap (λ (m : BTreeMap Key KeyNotes). get key_order m k) (sym same);
  count = is.count ∙ ap (λ (m : BTreeMap Key KeyNotes). changes_among m.entries + 1) (sym same);
}

-- it has none
noted_first : (key : Key) (change : KeyChange) (v : KeyNotes) (old new : Pending) → IsNotNoted key old → v.count ≡ 1 → v.words.items ≡ change_words change
    → new.notes.entries ≡ insert_entry key_order old.notes.entries key v → Updates key_order old.notes new.notes key (Some v) → IsNotedAlso key change old new
noted_first key change v old new none one words entries updates = record {
  here = λ changes noted. subst (λ (o : Option KeyNotes). AreNoted o (changes ++ change ∷ [])) (sym updates.1)
      (alone changes (subst (λ (o : Option KeyNotes). AreNoted o changes) none noted));
  others = λ k differs. updates.2 k (apart_at key k differs);
  count = ap changes_among entries ∙ insert_more old.notes.entries key v none one;
}
  where
    alone : (changes : List KeyChange) → changes ≡ [] → IsNotedIn v (changes ++ change ∷ [])
    alone changes empty = subst (λ (cs : List KeyChange). IsNotedIn v (cs ++ change ∷ [])) (sym empty) (record { count = one; words = words ∙ sym (one_noted change) })

-- the least key's changes are taken out
first_out : (key : Key) (v : KeyNotes) (old new : Pending) → old.notes.entries ≡ (key, v) ∷ new.notes.entries → All (IsLtBy key_order key) (keys new.notes) → IsOrdered key_order new.notes → IsTakenOut key v old new
unfolding IsStrictlySortedBy
first_out key v old new entries above ordered = record {
  first = entries;
  rising = subst DoKeysRise (sym entries) (all_from (IsLtBy key_order key) (keys new.notes) (λ k there. let at = contains_had (keys new.notes) k there in subst (IsLtBy key_order key) at.2 (above at.0 k at.1)), ordered);
}

-- ---- by the order of keys that the program goes by

module _ (cmp : Key → Key → Ordering) (law : (a b : Key) → cmp a b ≡ key_order a b) where
  same_order : cmp ≡ key_order
  same_order = λ i a b. law a b i

  pub behind : (key : Key) (change : KeyChange) (v w : KeyNotes) (old new : Pending) → get cmp old.notes key ≡ Some v → w.count ≡ v.count + 1
      → w.words.items ≡ v.words.items ++ change_words change → WritesThrough cmp (cmp key) old.notes w new.notes → IsNotedAlso key change old new
  behind key change v w old new found more words writes =
      noted_behind key change v w old new (subst (λ R. get R old.notes key ≡ Some v) same_order found) more words
      (subst (λ R. WritesThrough R (R key) old.notes w new.notes) same_order writes)

  pub first : (key : Key) (change : KeyChange) (v : KeyNotes) (old new : Pending) → IsNotNoted key old → v.count ≡ 1 → v.words.items ≡ change_words change
      → new.notes.entries ≡ insert_entry cmp old.notes.entries key v → Updates cmp old.notes new.notes key (Some v) → IsNotedAlso key change old new
  first key change v old new none one words entries updates =
      noted_first key change v old new none one words (subst (λ R. new.notes.entries ≡ insert_entry R old.notes.entries key v) same_order entries)
      (subst (λ R. Updates R old.notes new.notes key (Some v)) same_order updates)

  pub absent : (key : Key) (old : Pending) → get cmp old.notes key ≡ None → IsNotNoted key old
  absent key old none = subst (λ R. get R old.notes key ≡ None) same_order none

  pub out : (key : Key) (v : KeyNotes) (old new : Pending) → old.notes.entries ≡ (key, v) ∷ new.notes.entries → All (IsLtBy cmp key) (keys new.notes) → IsOrdered cmp new.notes → IsTakenOut key v old new
  out key v old new entries above ordered =
      first_out key v old new entries (subst (λ R. All (IsLtBy R key) (keys new.notes)) same_order above) (subst (λ R. IsOrdered R new.notes) same_order ordered)

-- where nothing is noted, no change is
pub nothing_at : (pending : Pending) → IsNothingNoted pending → (key : Key) → notes_at pending key ≡ None
nothing_at pending none key = ap (λ (es : List (Key × KeyNotes)). lookup (is_at (key_order key)) es) none

pub nothing_count : (pending : Pending) → IsNothingNoted pending → noted_count pending ≡ 0
nothing_count pending none = ap changes_among none

pub count_both : (front back : List (Key × KeyNotes)) → changes_among (front ++ back) ≡ changes_among front + changes_among back
count_both [] back = omega arith
count_both (entry ∷ front) back = omega (arith, count_both front back)
