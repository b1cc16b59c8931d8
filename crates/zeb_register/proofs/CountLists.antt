-- The terms of a register are told by their counts. What a call that tells them says of tables that hold a content.
use Rattle.zeb_register.proofs.Cited.{State, Trees, has_filtered, has_kept, Has, ◌≡◌, ◌≢◌, ◌↔◌, ◌⊎◌, ◌∙◌, ◌<◌, ◌≤◌, ℕ, ℤ, Bool, true, false, not, List, [], ◌∷◌, length, filter, take, reverse, refl, sym, ap, ap₂, subst, inl, inr, arith, cases_Bool, bytes_eq-Decides, reverse-reverse, length-reverse, is_lt, Result, Ok, Err, Vec, Global, Register, Posting, Spot, Totals, TermCount, RegFault, RegisterOf, Content, IsStorable, posted, Format, holds_in, HasKey, IsCount, AreTermsOf, AreTotals, HasSpot, TermIn, key_in, is_before, is_from, last, IsReasoned, LooksInto, OnStore, Damaged, IsHonestStorable, TellsHeld, places_in, AreTermsBefore, AreTermsFrom, counts_as}
use Rattle.std.specs.Str.{bytes_eq}
use Rattle.zeb_register.specs.Terms.{AreListed, Comes, HidesCount, HidesSome, IsNearest, ListsAll, ListsBefore, ListsCounts, ListsFrom, ListsNearest, SumsUp, TellsAll, shows_count}
use Rattle.zeb_register.proofs.BlockContents.{counted_list, some_counted}
use Rattle.zeb_register.proofs.CountLemmas.{comes_is, comes_not, counted_none, one_count, term_total}
use Rattle.zeb_register.proofs.FormatLemmas.{registers_have_terms}
use Rattle.zeb_register.proofs.KeyLists.{count_held, held_by_units, held_reads, one_listing, one_number}
use Rattle.zeb_register.proofs.KeyPlaces.{in_place, place_in, place_of}
use Rattle.zeb_register.proofs.OccurringLemmas.{key_posted}
use Rattle.zeb_register.proofs.RisingLists.{flipped_total, has_reversed, kept_rises, reversed_rises, same_list, taken_front}
use Rattle.zeb_register.proofs.TermLists.{last_reversed, one_of}
use Rattle.zeb_register.proofs.TermsAmong.{records_of}

not_true : (b : Bool) → not b ≡ true → b ≡ false
not_true true h = absurd (cc)
not_true false h = refl

-- a term is among those of a list, or it isn't
pub among_or : (terms : List TermCount) (term : List ℕ) → ((t : TermCount) × Has terms t × (t.term ≡ term)) ⊎ ((t : TermCount) → Has terms t → t.term ≢ term)
among_or [] term = inr (λ t h. absurd h)
among_or (t ∷ terms) term = elim (cases_Bool (bytes_eq t.term term)) [
  | inl is ↦ inl (t, inl refl, (bytes_eq-Decides t.term term).0 is)
  | inr isnt ↦ elim (among_or terms term) [
    | inl there ↦ inl (there.0, inr there.1, there.2)
    | inr none ↦ inr (λ u h same. elim h [
      | inl first ↦ (let e : true ≡ false = sym ((bytes_eq-Decides t.term term).1 (ap (λ (x : TermCount). x.term) (sym first) ∙ same)) ∙ isnt in cc)
      | inr later ↦ none u later same
    ])
  ]
]

module _ (format : Format) (trees : Trees) (db : ℤ) (index : ℕ) (register : Register) where
  abbrev Lists : (List ℕ → Type 0) → List TermCount → Type 0
  Lists = ListsCounts format trees db index register

  abbrev counts : List ℕ → ℕ → Type 0
  counts term = counts_as format trees db (key_in index register term)

  -- a term that is asked for is shown by its count, and is one of the list where some record has it
  pub asked_shown : (P : List ℕ → Type 0) (terms : List TermCount) → Lists P terms → (term : List ℕ) → P term
      → (records : ℕ) × shows_count format trees db (key_in index register term) records × (1 ≤ records → (t : TermCount) × Has terms t × (t.term ≡ term))
  asked_shown P terms lists term asked = elim (among_or terms term) [
    | inl it ↦ (it.0.records, subst (λ u. shows_count format trees db (key_in index register u) it.0.records) it.2 (lists.each it.0 it.1).2, λ _. it)
    | inr none ↦ (0, (lists.others term asked none, λ some. absurd (omega (arith, some))), λ some. absurd (omega (arith, some)))
  ]

  -- one that some record has is listed with its count
  pub shown_listed : (P : List ℕ → Type 0) (terms : List TermCount) → Lists P terms → (t : TermCount) → P t.term → 1 ≤ t.records → counts t.term t.records → Has terms t
  shown_listed P terms lists t asked some own =
      let it = asked_shown P terms lists t.term asked in
      let same : it.0 ≡ t.records = one_number format trees db (key_in index register t.term) it.0 t.records it.1.0 own in
      let u = it.2 (omega (arith, same, some)) in
      let records : u.0.records ≡ t.records = one_number format trees db (key_in index register t.term) u.0.records t.records (subst (λ v. counts v u.0.records) u.2 (lists.each u.0 u.1).2.0) own in
      let is : u.0 ≡ t = (λ i. record { term = u.2 i; records = records i }) in
      subst (Has terms) is u.1

  -- ---- tables that hold a content

  module _ (content : Content) (holds : holds_in format trees content) where
    abbrev term_in : List ℕ → ℕ → Type 0
    term_in = TermIn (posted content db) index register

    counted : (term : List ℕ) (records : ℕ) → counts term records → IsCount (term_in term) records
    counted term records it = count_held format trees content holds db (key_in index register term) records it

    has_some : (term : List ℕ) (records : ℕ) → counts term records → 1 ≤ records → (n : ℕ) × term_in term n
    has_some term records it some = some_counted (term_in term) records (counted term records it) some

    has_none : (term : List ℕ) → counts term 0 → (n : ℕ) → ¬ term_in term n
    has_none term it n = counted_none (term_in term) 0 n (counted term 0 it) refl

    -- all terms are those that the content has
    pub all_held : (terms : List TermCount) → ListsAll format trees db index register terms → AreTermsOf (posted content db) index register terms
    all_held terms lists = record {
      rising = lists.rising;
      found = λ term n has. elim (among_or terms term) [ inl there ↦ there | inr none ↦ absurd (has_none term (lists.others term tt none) n has) ];
      some = λ t h. let it = lists.each t h in has_some t.term t.records it.2.0 it.1;
      counts = λ t h. counted t.term t.records (lists.each t h).2.0;
    }

    module _ (all : List TermCount) (are : AreTermsOf (posted content db) index register all) where
      -- a term with its count is one of them
      listed_held : (P : List ℕ → Type 0) (terms : List TermCount) → Lists P terms → (t : TermCount) → Has terms t → Has all t
      listed_held P terms lists t h = let it = lists.each t h in one_of term_in all are t (has_some t.term t.records it.2.0 it.1) (counted t.term t.records it.2.0)

      held_listed : (P : List ℕ → Type 0) (terms : List TermCount) → Lists P terms → (x : TermCount) → Has all x → P x.term → Has terms x
      held_listed P terms lists x here asked = elim (among_or terms x.term) [
        | inr none ↦ (let n = are.some x here in absurd (has_none x.term (lists.others x.term asked none) n.0 n.1))
        | inl it ↦
            let records : it.0.records ≡ x.records = one_count (term_in x.term) it.0.records x.records (subst (λ u. IsCount (term_in u) it.0.records) it.2 (counted it.0.term it.0.records (lists.each it.0 it.1).2.0)) (are.counts x here) in
            let same : it.0 ≡ x = (λ i. record { term = it.2 i; records = records i }) in
            subst (Has terms) same it.1
      ]

      -- of those on one side of a text the nearest are listed
      nearest_held : (IsOn : List ℕ → Type 0) (IsNearer : List ℕ → List ℕ → Type 0) (n : ℕ) (near terms : List TermCount) → ((x : TermCount) → Has near x ↔ (Has all x × IsOn x.term)) → ListsNearest format trees db index register IsOn IsNearer n terms
          → ((t : TermCount) → Has terms t → Has near t) × ((x : TermCount) → Has near x → (length terms < n) ⊎ ((t : TermCount) × Has terms t × ¬ IsNearer t.term x.term) → Has terms x)
      nearest_held IsOn IsNearer n near terms has lists =
          let Asked = IsNearest format trees db index register IsOn IsNearer n terms in (
            λ t h. (has t).1 (listed_held Asked terms lists.are t h, (lists.are.each t h).0.0),
            λ x h reached. let it = (has x).0 h in held_listed Asked terms lists.are x it.0 (it.1, reached),
          )

    module _ (start : List ℕ) (n : ℕ) (terms : List TermCount) where
      pub from_held : ListsFrom format trees db index register start n terms → AreTermsFrom (posted content db) index register start n terms
      from_held lists =
          let all = registers_have_terms format trees content db index register holds in
          let near = filter (is_from start) all.0 in
          let has : (x : TermCount) → Has near x ↔ (Has all.0 x × ¬ Comes x.term start) = λ x. (
            λ h. let it = has_filtered (is_from start) all.0 x h in (it.0, (comes_not x.term start).0 (not_true (is_before start x) it.1)),
            λ it. has_kept (is_from start) all.0 x it.0 (ap not ((comes_not x.term start).1 it.1)),
          ) in
          let own = nearest_held all.0 all.1 (λ u. ¬ Comes u start) Comes n near terms has lists in
          record { all = all.0; are = all.1; is = taken_front term_total n near terms (kept_rises term_total (is_from start) all.0 all.1.rising) lists.are.rising lists.few own.0 own.1 }

      pub before_held : ListsBefore format trees db index register start n terms → AreTermsBefore (posted content db) index register start n terms
      before_held lists =
          let all = registers_have_terms format trees content db index register holds in
          let below = filter (is_before start) all.0 in
          let near = reverse below in
          let has : (x : TermCount) → Has near x ↔ (Has all.0 x × Comes x.term start) = λ x. let back = has_reversed below x in (
            λ h. let it = has_filtered (is_before start) all.0 x (back.0 h) in (it.0, comes_is x.term start it.1),
            λ it. back.1 (has_kept (is_before start) all.0 x it.0 (ap is_lt it.1)),
          ) in
          let own = nearest_held all.0 all.1 (λ u. Comes u start) (λ one other. Comes other one) n near terms has lists in
          let turned = has_reversed terms in
          let falls = flipped_total term_total in
          let first : reverse terms ≡ take n near =
          taken_front falls n near (reverse terms) (reversed_rises falls below (kept_rises term_total (is_before start) all.0 all.1.rising)) (reversed_rises falls terms lists.are.rising) (omega (arith, lists.few, length-reverse terms))
          (λ t h. own.0 t ((turned t).0 h)) (λ x h reached. (turned x).1 (own.1 x h (elim reached [
            | inl more ↦ inl (omega (arith, more, length-reverse terms))
            | inr it ↦ inr (it.0, (turned it.0).0 it.1, it.2)
          ]))) in
          record { all = all.0; are = all.1; is = sym (reverse-reverse terms) ∙ ap reverse first ∙ sym (last_reversed n near) ∙ ap (last n) (reverse-reverse below) }

    -- the sums are those of the content
    pub totals_held : (totals : Totals) → SumsUp format trees db index register totals → AreTotals (posted content db) index register totals
    totals_held totals sums = record {
      all = sums.all;
      are = all_held sums.all sums.are;
      terms = sums.terms;
      spots = sums.spots;
      stand = record { rising = sums.rising; each = λ spot. (spot_held spot, held_spot spot) };
      occurrences = sums.occurrences;
    }
      where
        list_of : List ℕ → List Posting
        list_of term = content db (key_in index register term)

        reads : (t : TermCount) → Has sums.all t → (p : Posting) → Has sums.spots (t.term, p) ↔ Has (places_in p.sysno (list_of t.term)) (place_of p)
        reads t h p = sums.told t h p.sysno (places_in p.sysno (list_of t.term)) (held_reads format trees content holds db (key_in index register t.term) p.sysno) (place_of p)

        spot_held : (spot : Spot) → Has sums.spots spot → HasSpot (posted content db) index register spot
        spot_held spot h =
            let t = sums.under spot h in
            let own : Has sums.spots (t.0.term, spot.1) = subst (λ u. Has sums.spots (u, spot.1)) (sym t.2) h in
            subst (λ u. Has (list_of u) spot.1) t.2 (in_place (list_of t.0.term) spot.1 ((reads t.0 t.1 spot.1).0 own))

        held_spot : (spot : Spot) → HasSpot (posted content db) index register spot → Has sums.spots spot
        held_spot spot h =
            let t = (all_held sums.all sums.are).found spot.0 spot.1.sysno ((key_posted content db (key_in index register spot.0) spot.1.sysno).1 (spot.1, h, refl)) in
            subst (λ u. Has sums.spots (u, spot.1)) t.2 ((reads t.0 t.1 spot.1).1 (place_in (list_of t.0.term) spot.1 (subst (λ u. Has (list_of u) spot.1) (sym t.2) h)))

    -- every count can be shown
    pub held_shows : IsStorable content → (term : List ℕ) → ¬ HidesCount format trees db index register term
    held_shows storable term hidden =
        let key = key_in index register term in
        hidden (records_of (content db key)) (
          (held_by_units format trees content storable holds).counts db key (records_of (content db key)) (counted_list trees content db key),
          λ some.
              let n = some_counted (HasKey (posted content db) key) (records_of (content db key)) (counted_list trees content db key) some in
              let p = (key_posted content db key n.0).0 n.1 in
              (storable db key p.0 p.1).text,
        )

-- ---- a call

-- what is told of any tables, where they hold a content
abbrev IsToldOf : {A : Type 0} → Format → (Content → A → Type 0) → State → State → Result A RegFault → Type 0
IsToldOf format Says old new result = TellsHeld (holds_in format) old new result Says × IsHonestStorable (holds_in format) old new result × IsReasoned old new result

module _ (format : Format) {A : Type 0} (Damage : Trees → Type 0) (Told : Trees → A → Type 0) (Says : Content → A → Type 0) (so : (trees : Trees) (answer : A) → Told trees answer → (content : Content) → holds_in format trees content → Says content answer)
    (never : (trees : Trees) (content : Content) → holds_in format trees content → IsStorable content → ¬ Damage trees) where
  says_held : (old new : State) (result : Result A RegFault) → LooksInto Damage Told old new result → TellsHeld (holds_in format) old new result Says
  says_held old new (Ok answer) looks clean store = λ content holds. so old.now.trees answer (looks.finds clean store) content holds
  says_held old new (Err fault) looks clean store = tt

  -- Damaged is told with its cause
  with_cause : (old new : State) (result : Result A RegFault) → LooksInto Damage Told old new result → OnStore old new (λ trees. result ≡ Err Damaged → Damage trees)
  with_cause old new (Ok answer) looks clean store is = absurd (let e : ◌≡◌ {A = Result A RegFault} (Ok answer) (Err Damaged) = is in cc)
  with_cause old new (Err fault) looks clean store is = looks.finds clean store (let e : ◌≡◌ {A = Result A RegFault} (Err fault) (Err Damaged) = is in cc)

  told_of : (old new : State) (result : Result A RegFault) → LooksInto Damage Told old new result → IsToldOf format Says old new result
  told_of old new result looks = (
    says_held old new result looks,
    λ clean store is content storable holds. never old.now.trees content holds storable (with_cause old new result looks clean store is),
    looks.refused,
  )

module _ (format : Format) (at : RegisterOf) where
  shows : (trees : Trees) (content : Content) → holds_in format trees content → IsStorable content → (term : List ℕ) → ¬ HidesCount format trees at.db.0 at.index at.register term
  shows trees content holds storable = held_shows format trees at.db.0 at.index at.register content holds storable

  pub all_told : (old new : State) (result : Result (Vec TermCount Global) RegFault) → TellsAll format at old new result → IsToldOf format (λ content list. AreTermsOf (posted content at.db.0) at.index at.register list.items) old new result
  all_told = told_of format (λ trees. HidesSome format trees at.db.0 at.index at.register) (λ (trees : Trees) (list : Vec TermCount Global). ListsAll format trees at.db.0 at.index at.register list.items)
      (λ content list. AreTermsOf (posted content at.db.0) at.index at.register list.items) (λ trees list lists content holds. all_held format trees at.db.0 at.index at.register content holds list.items lists)
      (λ trees content holds storable bad. shows trees content holds storable bad.0 bad.1)

-- ---- what is told is one thing

module _ (format : Format) (trees : Trees) (db : ℤ) (index : ℕ) (register : Register) where
  all_in : (one two : List TermCount) → ListsAll format trees db index register one → ListsAll format trees db index register two → (t : TermCount) → Has one t → Has two t
  all_in one two left right t h = let own = left.each t h in shown_listed format trees db index register (λ _. Unit {0}) two right t tt own.1 own.2.0

  pub one_all : (one two : List TermCount) → ListsAll format trees db index register one → ListsAll format trees db index register two → one ≡ two
  one_all one two left right = same_list term_total one two left.rising right.rising (all_in one two left right) (all_in two one right left)

  pub some_uncounted : (terms : List TermCount) → ListsAll format trees db index register terms → (t : TermCount) → Has terms t → ¬ counts_as format trees db (key_in index register t.term) 0
  some_uncounted terms all t h none =
      let it = all.each t h in
      absurd (omega (arith, it.1, one_number format trees db (key_in index register t.term) t.records 0 it.2.0 none))

  pub one_listed : (terms : List TermCount) (one two : List (List Posting)) → AreListed format trees db index register terms one → AreListed format trees db index register terms two → one ≡ two
  one_listed [] [] [] left right = refl
  one_listed [] [] (l ∷ two) left right = absurd right
  one_listed [] (k ∷ one) two left right = absurd left
  one_listed (t ∷ terms) [] two left right = absurd left
  one_listed (t ∷ terms) (k ∷ one) [] left right = absurd right
  one_listed (t ∷ terms) (k ∷ one) (l ∷ two) left right =
      ap₂ (λ a as'. a ∷ as') (one_listing format trees db (key_in index register t.term) k l left.0 right.0) (one_listed terms one two left.1 right.1)
