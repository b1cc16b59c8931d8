-- The content that the registers hold once the noted changes are written, as a change is noted and where nothing is.
use Rattle.zeb_change.proofs.Cited.{◌≡◌, ◌≢◌, ◌⊎◌, ◌∙◌, ℕ, ℤ, List, [], ◌∷◌, ◌++◌, ◌+◌, drop, map, Option, None, inl, inr, refl, sym, ap, subst, subst₂, AllByRecursion, append-nil, append_assoc, Trees, Key, key_total, keys_apart, RecordChange, Place, AreListChanges, ArePlacesOf, Content, IsChangedAt, IsListChanged, HasRisingLists, IsStorable, Posting, place_cmp, posting_cmp, Format, holds_in, posting_total, registers_rise, same_list, told_by, KeyNotes, PlaceCounts, Pending, KeyChange, AreTurns, IsNothingNoted, LeadsList, LeadsTo, WillHold, notes_at, IsCutOff, counts_in, AreGivenAs, IsNotedAlso, IsStrictlySortedBy, places_in}
use Rattle.zeb_change.proofs.NotedChanges.{nothing_at}
use Rattle.zeb_change.proofs.StoredLemmas.{told_id}

-- ---- changes of one list

-- one change more
turns_more : (changes : List KeyChange) (change : KeyChange) (old mid new : List Posting) → AreTurns changes old mid → IsStrictlySortedBy place_cmp change.old
    → ArePlacesOf change.sysno change.old mid → IsListChanged change.sysno change.new mid new → AreTurns (changes ++ change ∷ []) old new
turns_more [] change old mid new are up stood changed =
    (new, up, subst (ArePlacesOf change.sysno change.old) are stood, subst (λ (l : List Posting). IsListChanged change.sysno change.new l new) are changed, refl)
turns_more (first ∷ changes) change old mid new are up stood changed =
    (are.0, are.1, are.2, are.3, turns_more changes change are.0 mid new are.4 up stood changed)

-- as a layout takes them
pub turns_given : (changes : List KeyChange) (given : List RecordChange) (old new : List Posting) → AreGivenAs changes given → AreTurns changes old new → AreListChanges given old new
turns_given [] [] old new same are = are
turns_given [] (g ∷ given) old new same are = absurd same
turns_given (change ∷ changes) [] old new same are = absurd same
turns_given (change ∷ changes) (g ∷ given) old new (number, before, after, rest) (next, up, stood, changed, later) = (
  next,
  subst₂ (λ n places. ArePlacesOf n places old) (sym number) (sym before) stood,
  subst₂ (λ n places. IsListChanged n places old next) (sym number) (sym after) changed,
  turns_given changes given next new rest later,
)

-- what stood in each record rises
pub turns_rise : (changes : List KeyChange) (given : List RecordChange) (old new : List Posting) → AreGivenAs changes given → AreTurns changes old new
    → AllByRecursion (λ c. IsStrictlySortedBy place_cmp c.old.now) given
turns_rise [] [] old new same are = tt
turns_rise [] (g ∷ given) old new same are = absurd same
turns_rise (change ∷ changes) [] old new same are = absurd same
turns_rise (change ∷ changes) (g ∷ given) old new (number, before, after, rest) (next, up, stood, changed, later) =
    (subst (IsStrictlySortedBy place_cmp) (sym before) up, turns_rise changes given next new rest later)

-- one change more is given
given_more : (changes : List KeyChange) (given : List RecordChange) (change : KeyChange) (g : RecordChange) → AreGivenAs changes given
    → (g.sysno ≡ change.sysno) × (g.old.now ≡ change.old) × (g.new.now ≡ change.new) → AreGivenAs (changes ++ change ∷ []) (given ++ g ∷ [])
given_more [] [] change g same is = (is.0, is.1, is.2, tt)
given_more [] (h ∷ given) change g same is = absurd same
given_more (c ∷ changes) [] change g same is = absurd same
given_more (c ∷ changes) (h ∷ given) change g same is = (same.0, same.1, same.2, given_more changes given change g same.3 is)

-- so many of the changes are given that have these counts and places, and these places are left
abbrev pub AreGivenSoFar : List PlaceCounts → List Place → ℕ → List Place → List RecordChange → Type 0
AreGivenSoFar counts places index left given =
    (changes : List KeyChange) → counts ≡ map counts_in changes → places ≡ places_in changes
    → (done : List KeyChange) × (more : List KeyChange) × (changes ≡ done ++ more) × (drop index counts ≡ map counts_in more) × (left ≡ places_in more)
    × AreGivenAs done given

pub one_given : (counts : List PlaceCounts) (places left behind back : List Place) (index : ℕ) (given after : List RecordChange) (count : PlaceCounts) (g : RecordChange)
    → drop index counts ≡ count ∷ drop (index + 1) counts → IsCutOff left count.old g.old.now behind → IsCutOff behind count.new g.new.now back → g.sysno ≡ count.sysno
    → after ≡ given ++ g ∷ [] → AreGivenSoFar counts places index left given → AreGivenSoFar counts places (index + 1) back after
one_given counts places left behind back index given after count g step one two number put so_far changes many are = by (so_far changes many are)
  where
    by : ((done : List KeyChange) × (more : List KeyChange) × (changes ≡ done ++ more) × (drop index counts ≡ map counts_in more) × (left ≡ places_in more) × AreGivenAs done given)
        → (done : List KeyChange) × (more : List KeyChange) × (changes ≡ done ++ more) × (drop (index + 1) counts ≡ map counts_in more) × (back ≡ places_in more)
        × AreGivenAs done after
    by (done, [], all, counted, left_is, so) = let e : count ∷ drop (index + 1) counts ≡ [] = sym step ∙ counted in absurd (cc)
    by (done, change ∷ more, all, counted, left_is, so) =
        let e : count ∷ drop (index + 1) counts ≡ counts_in change ∷ map counts_in more = sym step ∙ counted in
        let this : count ≡ counts_in change = cc in
        let later : drop (index + 1) counts ≡ map counts_in more = cc in
        let first = one change.old (change.new ++ places_in more) (ap (λ (c : PlaceCounts). c.old) (sym this)) left_is in
        let second = two change.new (places_in more) (ap (λ (c : PlaceCounts). c.new) (sym this)) first.1 in (
          done ++ change ∷ [],
          more,
          all ∙ sym (append_assoc done (change ∷ []) more),
          later,
          second.1,
          subst (λ (gs : List RecordChange). AreGivenAs (done ++ change ∷ []) gs) (sym put)
              (given_more done given change g so (number ∙ ap (λ (c : PlaceCounts). c.sysno) this, first.0, second.0)),
        )

pub all_given : (counts : List PlaceCounts) (places left : List Place) (index : ℕ) (given : List RecordChange) → drop index counts ≡ [] → AreGivenSoFar counts places index left given
    → (changes : List KeyChange) → counts ≡ map counts_in changes → places ≡ places_in changes → AreGivenAs changes given
all_given counts places left index given done so_far changes many are = by (so_far changes many are)
  where
    by : ((done : List KeyChange) × (more : List KeyChange) × (changes ≡ done ++ more) × (drop index counts ≡ map counts_in more) × (left ≡ places_in more) × AreGivenAs done given)
        → AreGivenAs changes given
    by (first, [], all, counted, left_is, so) = subst (λ (cs : List KeyChange). AreGivenAs cs given) (sym (all ∙ append-nil first)) so
    by (first, change ∷ more, all, counted, left_is, so) = let e : [] ≡ counts_in change ∷ map counts_in more = sym done ∙ counted in absurd (cc)

-- ---- a change is noted

-- a list elsewhere is as it was
list_kept : (db : ℤ) (key : Key) (sysno : ℕ) (places : List _) (old new : Content) → HasRisingLists old → IsChangedAt db key sysno places old new → (d : ℤ) (k : Key) → ¬ ((d ≡ db) × (k ≡ key)) → new d k ≡ old d k
list_kept db key sysno places old new up is d k other =
    same_list posting_total (new d k) (old d k) (is.rising d k) (up d k)
    (λ p. (is.others d k p (λ h. other (h.0, h.1))).0) (λ p. (is.others d k p (λ h. other (h.0, h.1))).1)

list_changed : (db : ℤ) (key : Key) (sysno : ℕ) (places : List _) (old new : Content) → IsChangedAt db key sysno places old new → IsListChanged sysno places (old db key) (new db key)
list_changed db key sysno places old new is = record { rising = is.rising db key; part = is.part; others = λ p differs. is.others db key p (λ h. differs h.2) }

pub leads_more : (db : ℤ) (key : Key) (change : KeyChange) (old new : Pending) (behind before after : Content) → LeadsTo db old behind before → HasRisingLists before → IsNotedAlso key change old new
    → IsStrictlySortedBy place_cmp change.old → ArePlacesOf change.sysno change.old (before db key) → IsChangedAt db key change.sysno change.new before after
    → LeadsTo db new behind after
leads_more db key change old new behind before after leads up noted rising stood changed = record {
  each = λ k. each k (told_by key_total keys_apart k key);
  others = λ d k other. list_kept db key change.sysno change.new before after up changed d k (λ h. other h.0) ∙ leads.others d k other;
}
  where
    at_key : LeadsList (notes_at new key) (behind db key) (after db key)
    at_key =
        let was = leads.each key in (
          was.0 ++ change ∷ [],
          noted.here was.0 was.1,
          turns_more was.0 change (behind db key) (before db key) (after db key) was.2 rising stood (list_changed db key change.sysno change.new before after changed),
        )

    each : (k : Key) → (k ≡ key) ⊎ (k ≢ key) → LeadsList (notes_at new k) (behind db k) (after db k)
    each k (inl same) = subst (λ (z : Key). LeadsList (notes_at new z) (behind db z) (after db z)) (sym same) at_key
    each k (inr other) = subst₂ (λ (notes : Option KeyNotes) (l : List Posting). LeadsList notes (behind db k) l) (sym (noted.others k other))
        (sym (list_kept db key change.sysno change.new before after up changed db k (λ h. other h.1))) (leads.each k)

-- ---- a content ahead

turns_lead_up : (changes : List KeyChange) (old new : List Posting) → IsStrictlySortedBy posting_cmp old → AreTurns changes old new → IsStrictlySortedBy posting_cmp new
turns_lead_up [] old new up are = subst (IsStrictlySortedBy posting_cmp) (sym are) up
turns_lead_up (change ∷ changes) old new up are = turns_lead_up changes are.0 new are.3.rising are.4

-- each list that the registers will hold rises
pub will_rise : (format : Format) (trees : Trees) (db : ℤ) (pending : Pending) (ahead : Content) → WillHold format trees db pending ahead → HasRisingLists ahead
will_rise format trees db pending ahead will d key = from (told_id d db)
  where
    up : HasRisingLists will.behind
    up = registers_rise format trees will.behind will.held

    from : (d ≡ db) ⊎ (d ≢ db) → IsStrictlySortedBy posting_cmp (ahead d key)
    from (inl same) = subst (λ (x : ℤ). IsStrictlySortedBy posting_cmp (ahead x key)) (sym same)
        (turns_lead_up (will.leads.each key).0 (will.behind db key) (ahead db key) (up db key) (will.leads.each key).2)
    from (inr other) = subst (IsStrictlySortedBy posting_cmp) (sym (will.leads.others d key other)) (up d key)

-- ---- nothing is noted

nothing_leads : (db : ℤ) (pending : Pending) (content : Content) → IsNothingNoted pending → LeadsTo db pending content content
nothing_leads db pending content none = record {
  each = λ key. subst (λ (o : Option KeyNotes). LeadsList o (content db key) (content db key)) (sym (nothing_at pending none key)) ([], refl, refl);
  others = λ d key other. refl;
}

pub will_begin : (format : Format) (trees : Trees) (db : ℤ) (pending : Pending) (content : Content) → IsNothingNoted pending → holds_in format trees content → IsStorable content
    → WillHold format trees db pending content
will_begin format trees db pending content none held storable = record { behind = content; held = held; storable = storable; leads = nothing_leads db pending content none }

-- where nothing is noted of a key its list stays
pub unled : (notes : Option KeyNotes) (old new : List Posting) → notes ≡ None → LeadsList notes old new → new ≡ old
unled notes old new none leads =
    let led = subst (λ (o : Option KeyNotes). LeadsList o old new) none leads in
    subst (λ (cs : List KeyChange). AreTurns cs old new) led.1 led.2

led_by_nothing : (db : ℤ) (pending : Pending) (behind ahead : Content) → IsNothingNoted pending → LeadsTo db pending behind ahead → ahead ≡ behind
led_by_nothing db pending behind ahead none leads = λ i d key. at d key (told_id d db) i
  where
    here : (key : Key) → ahead db key ≡ behind db key
    here key = unled (notes_at pending key) (behind db key) (ahead db key) (nothing_at pending none key) (leads.each key)

    at : (d : ℤ) (key : Key) → (d ≡ db) ⊎ (d ≢ db) → ahead d key ≡ behind d key
    at d key (inl same) = subst (λ (x : ℤ). ahead x key ≡ behind x key) (sym same) (here key)
    at d key (inr other) = leads.others d key other

pub held_whole : (format : Format) (trees : Trees) (db : ℤ) (pending : Pending) (ahead : Content) → IsNothingNoted pending → WillHold format trees db pending ahead → holds_in format trees ahead
held_whole format trees db pending ahead none holds = subst (holds_in format trees) (sym (led_by_nothing db pending holds.behind ahead none holds.leads)) holds.held
