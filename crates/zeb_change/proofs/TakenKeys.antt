-- Keys that are taken out of the notes with their changes, one after the other, and given to a layout as a run.
use Rattle.zeb_change.proofs.Cited.{◌≡◌, ◌≢◌, ◌∙◌, ◌++◌, ◌<◌, ◌≤◌, ℕ, true, false, List, [], ◌∷◌, length, length-append, eqb-true, map, refl, sym, ap, ap₂, subst, subst₂, arith, append-nil, append_assoc, AllZip, all_from, Key, key_order, KeyNotes, Pending, IsNothingNoted, changes_among, IsTakenOut, ◌==◌, IsStrictlySortedBy, IsRun, changes_in, run_key, NumbersRise, KeyChanges, TakenKey, GivenKey, AreTakenOut, DoKeysRise, IsGivenFrom, IsTakenFrom, IsGivenOf}
use Rattle.zeb_change.proofs.NotedEntries.{front_rises, key_noted}
use Rattle.zeb_change.proofs.ZippedLists.{zip_right, zip_same, zip_then}

-- ---- taken one after the other

-- what is taken further is taken behind these
abbrev pub AreTakenSoFar : List TakenKey → (start now : Pending) → Type 0
AreTakenSoFar run start now = (more : List TakenKey) (end : Pending) → AreTakenOut more now end → AreTakenOut (run ++ more) start end

pub one_taken : (run after : List TakenKey) (taken : TakenKey) (key : Key) (notes : KeyNotes) (start old new : Pending) → after ≡ run ++ taken ∷ [] → IsTakenOut key notes old new → IsTakenFrom (key, notes) taken
    → AreTakenSoFar run start old → AreTakenSoFar after start new
one_taken run after taken key notes start old new put out from so_far more end rest =
    let both = so_far (taken ∷ more) end (record {
      entries = (key, notes) ∷ rest.entries;
      first = out.first ∙ ap (λ (es : List (Key × KeyNotes)). (key, notes) ∷ es) rest.first;
      each = (from, rest.each);
      rising = λ some. out.rising;
    }) in
    subst (λ (l : List TakenKey). AreTakenOut l start end) (sym (append_assoc run (taken ∷ []) more) ∙ ap (λ (l : List TakenKey). l ++ more) (sym put)) both

pub all_taken : (run : List TakenKey) (start now end : Pending) → now.notes.entries ≡ end.notes.entries → AreTakenSoFar run start now → AreTakenOut run start end
all_taken run start now end same so_far =
    subst (λ (l : List TakenKey). AreTakenOut l start end) (append-nil run) (so_far [] end (record { entries = []; first = same; each = tt; rising = λ some. absurd (some refl) }))

pub none_taken : (run : List TakenKey) (old new : Pending) → run ≡ [] → AreTakenOut run old new → IsNothingNoted new → IsNothingNoted old
none_taken run old new none out empty = out.first ∙ ap₂ (λ (a b : List (Key × KeyNotes)). a ++ b) (alone out.entries (subst (AllZip IsTakenFrom out.entries) none out.each)) empty
  where
    alone : (entries : List (Key × KeyNotes)) → AllZip IsTakenFrom entries [] → entries ≡ []
    alone [] each = refl
    alone (entry ∷ entries) each = absurd each

-- whether any were taken, by how many there are
pub none_of : (taken : List TakenKey) (len : ℕ) → length taken ≡ len → (len == 0) ≡ true → taken ≡ []
none_of [] len long is = refl
none_of (one ∷ taken) len long is = absurd (omega (arith, long, eqb-true len 0 is))

pub some_of : (taken : List TakenKey) (len : ℕ) → length taken ≡ len → (len == 0) ≡ false → taken ≢ []
some_of taken len long is none =
    let zero : len ≡ 0 = sym long ∙ ap length none in
    let e : false ≡ true = sym is ∙ ap (λ (n : ℕ). n == 0) zero in
    cc

pub fewer_left : (taken : List TakenKey) (old new : Pending) → AreTakenOut taken old new → taken ≢ [] → length new.notes.entries < length old.notes.entries
fewer_left taken old new out some = omega (arith, ap length out.first, length-append out.entries new.notes.entries, any out.entries taken out.each some)
  where
    any : (entries : List (Key × KeyNotes)) (keys : List TakenKey) → AllZip IsTakenFrom entries keys → keys ≢ [] → 1 ≤ length entries
    any [] [] each there = absurd (there refl)
    any [] (one ∷ keys) each there = absurd each
    any (entry ∷ entries) keys each there = omega arith

-- ---- given as a run

abbrev pub GivesTaken : TakenKey → GivenKey → Type 0
GivesTaken taken given = IsGivenFrom taken given.key.now given.changes.items

abbrev pub IsInRun : GivenKey → KeyChanges → Type 0
IsInRun given one = (one.key.now ≡ given.key.now) × (one.changes.now ≡ given.changes.items)

module _ (taken : List TakenKey) (given : List GivenKey) (run : List KeyChanges) (each : AllZip GivesTaken taken given) (all : AllZip IsInRun given run) where
  abbrev RunsTaken : TakenKey → KeyChanges → Type 0
  RunsTaken one in_run = IsGivenFrom one in_run.key.now in_run.changes.now

  taken_run : AllZip RunsTaken taken run
  taken_run = zip_then GivesTaken IsInRun RunsTaken (λ one between in_run from same. subst₂ (IsGivenFrom one) (sym same.0) (sym same.1) from) taken given run each all

  pub run_is : IsStrictlySortedBy key_order (map (λ (one : TakenKey). one.key) taken) → IsRun run
  run_is rise = record {
    keys = subst (IsStrictlySortedBy key_order) (sym (zip_same RunsTaken (λ (one : TakenKey). one.key) run_key (λ one in_run from. from.same) taken run taken_run)) rise;
    numbers = all_from (λ (in_run : KeyChanges). NumbersRise in_run.changes.now) run (λ in_run here. (zip_right RunsTaken taken run taken_run in_run here).2.rising);
  }

  pub run_noted : (entries : List (Key × KeyNotes)) → AllZip IsTakenFrom entries taken → AllZip IsGivenOf entries run
  run_noted entries from = zip_then IsTakenFrom RunsTaken IsGivenOf (λ entry one in_run out is. record {
    key = is.same ∙ out.key;
    many = is.many ∙ out.many;
    rising = is.rising;
    told = λ changes noted. let read = out.told changes noted in is.told changes read.0 read.1;
  }) entries taken run from taken_run

pub as_many_noted : (entries : List (Key × KeyNotes)) (run : List KeyChanges) → AllZip IsGivenOf entries run → changes_in run ≡ changes_among entries
as_many_noted [] [] given = refl
as_many_noted [] (one ∷ run) given = absurd given
as_many_noted (entry ∷ entries) [] given = absurd given
as_many_noted (entry ∷ entries) (one ∷ run) given = omega (arith, given.0.many, as_many_noted entries run given.1)

-- the least keys rise
pub taken_rise : (entries : List (Key × KeyNotes)) (taken : List TakenKey) → AllZip IsTakenFrom entries taken → (back : List (Key × KeyNotes)) → DoKeysRise (entries ++ back) → IsStrictlySortedBy key_order (map (λ (one : TakenKey). one.key) taken)
taken_rise entries taken from back rise =
    subst (IsStrictlySortedBy key_order) (sym (zip_same IsTakenFrom key_noted (λ (one : TakenKey). one.key) (λ entry one is. is.key) entries taken from)) (front_rises key_noted entries back rise)
