-- Walks over the bytes of a row: which entries it has, and how they are counted one by one.
use Rattle.zeb_leaves.proofs.Cited.{Row, column, Blob, ◌≡◌, ◌≢◌, ◌∙◌, ◌++◌, ◌∷◌, ℕ, true, false, List, [], Ok, Err, Result, filter, refl, sym, ap, subst, inl, inr, arith, Ordering, Less, Equal, Greater, Entry, ShowsEntries, TermCount, first_place, filter-append, is_lt, Reaches, Spells, reaches_end, reaches_stuck, key_cmp, AreEnough, CountUntil, CountsRow, HidesRow, ShowsNone, AreEntries, CountsIn, End, ShowsOwn, is_own, Answers, IfRowDamaged, HasTextTerm}
use Rattle.std.proofs.Common.{Bool, Global, Vec, cond, not}
use Rattle.zeb_leaf.proofs.Behind.{past_behind, still_past}
use Rattle.zeb_leaf.specs.Leaves.{entries_bytes}
use Rattle.zeb_leaf.specs.Walks.{Follows, IsStuck, Place, Steps, Walk}
use Rattle.zeb_register.specs.declared.faults.RowFault.{RowFault}

-- ---- the entries of bytes

nothing_spelled : (place : Place) → Spells place [] []
unfolding entries_bytes
nothing_spelled place = record { follow = tt; spelled = refl }

none_left : {X : Type 0} (xs ys : List X) → [] ≡ xs ++ ys → (xs ≡ []) × (ys ≡ [])
none_left [] ys is = (refl, sym is)
none_left (x ∷ xs) ys is = absurd (cc)

-- no entries have no bytes
none_spelled : (place : Place) (rest : List Entry) (left : List ℕ) → rest ≡ [] → Spells place rest left → left ≡ []
unfolding entries_bytes
none_spelled place [] left is spells = spells.spelled
none_spelled place (e ∷ rest) left is spells = absurd (cc)

-- a walk that came to the end came over all entries
pub walked_all : (bytes : List ℕ) (done : List Entry) (walk : Walk) → Reaches bytes done walk → walk.left ≡ [] → AreEntries bytes done
walked_all [] done walk reaches ended =
    let whole = reaches.whole [] (nothing_spelled first_place) in
    inr (refl, (none_left done whole.0 whole.1).0)
walked_all (byte ∷ bytes) done walk reaches ended = inl (reaches_end (byte ∷ bytes) done walk reaches ended (omega arith))

-- and where no entry follows, though something does, there are none that the bytes have
pub stuck_none : (bytes : List ℕ) (done : List Entry) (walk : Walk) → Reaches bytes done walk → IsStuck walk → (list : List Entry) → ¬ AreEntries bytes list
stuck_none bytes done walk reaches stuck list (inl leaf) = reaches_stuck bytes done walk reaches stuck list leaf
stuck_none bytes done walk reaches stuck list (inr none) =
    let whole = reaches.whole [] (subst (Spells first_place []) (sym none.0) (nothing_spelled first_place)) in
    stuck.some (none_spelled walk.place whole.0 walk.left (none_left done whole.0 whole.1).1 whole.2)

-- ---- entries that are counted one by one

module _ (n : ℕ) where
  -- there are enough, whatever stands behind
  pub stays_enough : (own more : List Entry) (old new : List TermCount) → CountUntil n own old new true → CountUntil n (own ++ more) old new true
  stays_enough [] more old new counts = let e : true ≡ false = counts.0 in absurd (cc)
  stays_enough (e ∷ own) more old new (inl enough) = inl enough
  stays_enough (e ∷ own) more old new (inr counts) = inr (counts.0, counts.1, counts.2, stays_enough own more counts.1 new counts.3)

  -- there aren't enough, and it goes on
  pub counts_on : (own more : List Entry) (old mid new : List TermCount) (enough : Bool) → CountUntil n own old mid false → CountUntil n more mid new enough → CountUntil n (own ++ more) old new enough
  counts_on [] more old mid new enough counts next = subst (λ (from : List TermCount). CountUntil n more from new enough) counts.1 next
  counts_on (e ∷ own) more old mid new enough (inl many) next = let f : false ≡ true = many.2 in absurd (cc)
  counts_on (e ∷ own) more old mid new enough (inr counts) next = inr (counts.0, counts.1, counts.2, counts_on own more counts.1 mid new enough counts.3 next)

  module _ (test : Entry → Bool) (done : List Entry) (e : Entry) where
    both : filter test (done ++ e ∷ []) ≡ filter test done ++ filter test (e ∷ [])
    both = filter-append test done (e ∷ [])

    pub enough_more : (old new : List TermCount) → CountUntil n (filter test done) old new true → CountUntil n (filter test (done ++ e ∷ [])) old new true
    enough_more old new counts = subst (λ (l : List Entry). CountUntil n l old new true) (sym both) (stays_enough (filter test done) (filter test (e ∷ [])) old new counts)

    pub counted_more : (old mid new : List TermCount) (enough : Bool) → CountUntil n (filter test done) old mid false → CountUntil n (filter test (e ∷ [])) mid new enough → CountUntil n (filter test (done ++ e ∷ [])) old new enough
    counted_more old mid new enough counts next = subst (λ (l : List Entry). CountUntil n l old new enough) (sym both) (counts_on (filter test done) (filter test (e ∷ [])) old mid new enough counts next)

  -- an entry alone: it is another's, or there are enough before it, or it is counted
  module _ (test : Entry → Bool) (e : Entry) where
    skips : test e ≡ false → filter test (e ∷ []) ≡ []
    skips is = rw is refl

    takes : test e ≡ true → filter test (e ∷ []) ≡ e ∷ []
    takes is = rw is refl

    pub passed_over : (old : List TermCount) → test e ≡ false → CountUntil n (filter test (e ∷ [])) old old false
    passed_over old other = subst (λ (l : List Entry). CountUntil n l old old false) (sym (skips other)) (refl, refl)

    pub enough_before : (old : List TermCount) → test e ≡ true → AreEnough n old e.term → CountUntil n (filter test (e ∷ [])) old old true
    enough_before old own enough = subst (λ (l : List Entry). CountUntil n l old old true) (sym (takes own)) (inl (enough, refl, refl))

    pub counted_one : (old mid : List TermCount) → test e ≡ true → (¬ AreEnough n old e.term) → CountsIn e old mid → CountUntil n (filter test (e ∷ [])) old mid false
    counted_one old mid own less counts = subst (λ (l : List Entry). CountUntil n l old mid false) (sym (takes own)) (inr (less, mid, counts, (refl, refl)))

-- ---- entries that are chosen

pub told_own : (test : Entry → Bool) (e : Entry) (told : Bool) → told ≡ test e → filter (λ _. told) (e ∷ []) ≡ filter test (e ∷ [])
told_own test e told is = ap (λ b. cond b (e ∷ []) []) is

-- ---- where no key of an entry that may come is below the first one

not_less : (o : Ordering) → o ≢ Less → is_lt o ≡ false
not_less Less other = absurd (other refl)
not_less Equal other = refl
not_less Greater other = refl

less_not : (o : Ordering) → is_lt o ≡ false → o ≢ Less
less_not o is less = let e : true ≡ false = sym (ap is_lt less) ∙ is in cc

module _ (first : List ℕ) (from : ℕ) where
  abbrev pub AreFrom : Place → Type 0
  AreFrom place = (e : Entry) → Follows place e → is_lt (key_cmp e.term e.block first from) ≡ false

  -- nor is any behind an entry
  pub still_from : (old new : Walk) (e : Entry) → Steps old e new → AreFrom old.place → AreFrom new.place
  still_from old new e step all = subst AreFrom (sym step.place)
      (λ f follows. not_less (key_cmp f.term f.block first from) (still_past first from old.place e (λ g may. less_not (key_cmp g.term g.block first from) (all g may)) step.follows f follows))

  -- it is so behind an entry of which it is noted
  pub noted_from : (old new : Walk) (e : Entry) (noted : Bool) → Steps old e new → noted ≡ not (is_lt (key_cmp e.term e.block first from)) → noted ≡ true → AreFrom new.place
  noted_from old new e noted step is begun =
      let least : key_cmp e.term e.block first from ≢ Less = λ less. let f : false ≡ true = sym (ap (λ o. not (is_lt o)) less) ∙ sym is ∙ begun in cc in
      subst AreFrom (sym step.place) (λ f follows. not_less (key_cmp f.term f.block first from) (past_behind first from e least f follows))

-- ---- what a row shows, by its bytes

module _ (row : Row) (bytes : List ℕ) (blob : column row 2 ≡ Blob bytes) (text : HasTextTerm row) where
  shown : (entries : List Entry) → AreEntries bytes entries → ShowsEntries row entries
  shown entries are = (bytes, blob, are, text)

  none_shown : ((entries : List Entry) → ¬ AreEntries bytes entries) → ShowsNone row
  none_shown none entries shows =
      let both : Blob shows.0 ≡ Blob bytes = sym shows.1 ∙ blob in
      let same : shows.0 ≡ bytes = cc in
      none entries (subst (λ (b : List ℕ). AreEntries b entries) same shows.2)

  pub own_answers : (first : List ℕ) (from : ℕ) (end : End) (result : Result (Vec Entry Global) RowFault)
      → Answers (IfRowDamaged ((list : List Entry) → ¬ AreEntries bytes list)) (λ own. (list : List Entry) × AreEntries bytes list × (own.items ≡ filter (is_own first from end) list)) result
      → Answers (IfRowDamaged (ShowsNone row)) (λ own. ShowsOwn first from end row own.items) result
  own_answers first from end (Ok own) it = (it.0, shown it.0 it.1, it.2)
  own_answers first from end (Err fault) it = λ damaged. none_shown (it damaged)

  pub until_answers : (n : ℕ) (first : List ℕ) (from : ℕ) (end : End) (old new : List TermCount) (result : Result Bool RowFault)
      → Answers (IfRowDamaged ((list : List Entry) → ¬ AreEntries bytes list)) (λ enough. (list : List Entry) × AreEntries bytes list × CountUntil n (filter (is_own first from end) list) old new enough) result
      → Answers (IfRowDamaged (HidesRow n first from end row old)) (λ enough. CountsRow n first from end row old new enough) result
  until_answers n first from end old new (Ok enough) it = (filter (is_own first from end) it.0, (it.0, shown it.0 it.1, refl), it.2)
  until_answers n first from end old new (Err fault) it = λ damaged. inl (none_shown (it damaged))
