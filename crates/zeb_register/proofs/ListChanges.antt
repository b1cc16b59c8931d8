-- Changes of one key's list in turn: there is one outcome, and a change of a record stays in its block.
use Rattle.zeb_register.proofs.Cited.{Has, ◌≡◌, ◌⊎◌, ◌∙◌, ◌+◌, ◌-◌, ◌<◌, ◌≤◌, ℕ, ℤ, suc, arith, length-drop, List, [], ◌∷◌, drop, get_or, length, take, refl, sym, ap, ap₂, subst, inl, inr, drop-cons, length-take, length-take-le, take_rest, nat_cmp_total, Posting, Key, numbers_apart, Place, RecordChange, AreChangedAt, AreListChanges, Content, IsListChanged, HasRisingLists, posting_cmp, posting_at}
use Rattle.std.specs.List.Sorted.{IsStrictlySortedBy}
use Rattle.zeb_register.proofs.ContentChanges.{at_sysno, at_sysno_others, at_sysno_part, at_sysno_rises, posting_total, told_spot, with_list, with_list_here, with_list_there}
use Rattle.zeb_register.proofs.RisingLists.{same_list, told_by}

pub place_by : ℕ → ℕ → Place
place_by seq place = record { seq = seq; pos = place }

pub place_of : Posting → Place
place_of p = place_by p.seq p.pos

pub posting_is : (p : Posting) (sysno : ℕ) → p.sysno ≡ sysno → p ≡ posting_at sysno (place_of p)
unfolding place_of place_by
posting_is p sysno same = ap (λ n. posting_at n (place_of p)) same

pub place_is : (sysno : ℕ) (p q : Place) → posting_at sysno p ≡ posting_at sysno q → p ≡ q
unfolding place_by
place_is sysno p q same = ap₂ place_by (ap (λ (r : Posting). r.seq) same) (ap (λ (r : Posting). r.pos) same)

-- ---- one record's part of a list

module _ (sysno : ℕ) (places : List Place) where
  has_also : (old a b : List Posting) → IsListChanged sysno places old a → IsListChanged sysno places old b → (p : Posting) → Has a p → Has b p
  has_also old a b left right p h = elim (told_by nat_cmp_total numbers_apart p.sysno sysno) [
    | inl same ↦
        let is = posting_is p sysno same in
        subst (Has b) (sym is) ((right.part (place_of p)).0 ((left.part (place_of p)).1 (subst (Has a) is h)))
    | inr differs ↦ (right.others p differs).1 ((left.others p differs).0 h)
  ]

  pub one_changed : (old a b : List Posting) → IsListChanged sysno places old a → IsListChanged sysno places old b → a ≡ b
  one_changed old a b left right = same_list posting_total a b left.rising right.rising (has_also old a b left right) (has_also old b a right left)

  pub list_changed : (old : List Posting) → IsStrictlySortedBy posting_cmp old → IsListChanged sysno places old (at_sysno sysno places old)
  list_changed old up = record { rising = at_sysno_rises sysno places old up; part = at_sysno_part sysno places old; others = at_sysno_others sysno places old }

-- ---- changes in turn

pub changes_rise : (changes : List RecordChange) (old new : List Posting) → IsStrictlySortedBy posting_cmp old → AreListChanges changes old new → IsStrictlySortedBy posting_cmp new
changes_rise [] old new up is = subst (IsStrictlySortedBy posting_cmp) (sym is) up
changes_rise (change ∷ changes) old new up is = changes_rise changes is.0 new is.2.rising is.3

pub one_outcome : (changes : List RecordChange) (old a b : List Posting) → AreListChanges changes old a → AreListChanges changes old b → a ≡ b
one_outcome [] old a b left right = left ∙ sym right
one_outcome (change ∷ changes) old a b left right =
    let same = one_changed change.sysno change.new.now old left.0 right.0 left.2 right.2 in
    one_outcome changes right.0 a b (subst (λ next. AreListChanges changes next a) same left.3) right.3

-- the value that stands for a change where there is none
abbrev pub no_change : RecordChange
no_change = record { sysno = 0; old = record { ref_ptr = (0, 0); now = [] }; new = record { ref_ptr = (0, 0); now = [] } }

-- ---- a run of changes, cut out of all

module _ (xs : List RecordChange) (d n : ℕ) where
  abbrev pub rest : List RecordChange
  rest = take (length xs - d) (drop d xs)

  abbrev pub run : List RecordChange
  run = take n rest

  rest_is : rest ≡ drop d xs
  rest_is = take_rest xs d

  pub run_first : d < length xs → rest ≡ get_or xs d no_change ∷ drop (suc d) xs
  run_first below = rest_is ∙ drop-cons xs d no_change below

  pub run_within : d ≤ length xs → d + length run ≤ length xs
  run_within below = omega (arith, length-take n rest, ap length rest_is, length-drop d xs)

  pub run_long : n ≤ length rest → length run ≡ n
  run_long = length-take-le n rest

-- ---- the content that has the list

module _ (db : ℤ) (key : Key) where
  pub content_changed : (changes : List RecordChange) (old : Content) (list : List Posting) → AreListChanges changes (old db key) list → AreChangedAt db key changes old (with_list db key list old)
  content_changed changes old list are = record {
    list = subst (AreListChanges changes (old db key)) (sym (with_list_here db key list old)) are;
    others = with_list_there db key list old;
  }

  pub content_none : (a : Content) → AreChangedAt db key [] a a
  content_none a = record { list = refl; others = λ d k other. refl }

  pub content_rises : (changes : List RecordChange) (a b : Content) → HasRisingLists a → AreChangedAt db key changes a b → HasRisingLists b
  content_rises changes a b up change d k = elim (told_spot d db k key) [
    | inl same ↦ subst (IsStrictlySortedBy posting_cmp) (sym (ap₂ b same.0 same.1)) (changes_rise changes (a db key) (b db key) (up db key) change.list)
    | inr other ↦ subst (IsStrictlySortedBy posting_cmp) (sym (change.others d k other)) (up d k)
  ]

  pub one_content_changed : (changes : List RecordChange) (a b c : Content) → AreChangedAt db key changes a b → AreChangedAt db key changes a c → b ≡ c
  one_content_changed changes a b c left right = λ i d k. at d k (told_spot d db k key) i
    where
      at : (d : ℤ) (k : Key) → ((d ≡ db) × (k ≡ key)) ⊎ ¬ ((d ≡ db) × (k ≡ key)) → b d k ≡ c d k
      at d k (inl same) = ap₂ b same.0 same.1 ∙ one_outcome changes (a db key) (b db key) (c db key) left.list right.list ∙ sym (ap₂ c same.0 same.1)
      at d k (inr other) = left.others d k other ∙ sym (right.others d k other)
