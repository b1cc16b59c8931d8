-- The ids with which rows of a table begin, one after the other, beside the databases that are listed.
use Rattle.zeb_register.proofs.Cited.{Row, Trees, Int, ◌≡◌, ◌∙◌, ◌≤◌, ◌+◌, ◌≤ℤ◌, ◌<ℤ◌, ◌+ℤ◌, ℕ, ℤ, pos, List, [], ◌∷◌, length, Option, Some, None, refl, sym, ap, subst, inl, inr, Ordering, Less, Equal, Greater, arith, int_cmp, int_ranked, ints, ListedDatabase, Ends, IsListedId, Owns, AreEnds, ShowsFirst, IsLeastFrom, IsFirst}
use Rattle.zeb_register.proofs.OwnerStatements.{cmp_below}

-- ---- what the first row shows

abbrev pub TellsId : List Row → Option ℤ → Type 0
TellsId rows found = (rows ≡ [] → found ≡ None) × ((id : ℤ) (more : List Row) → rows ≡ (Int id ∷ []) ∷ more → found ≡ Some id)

pub first_told : (Up : ℤ → ℤ → Type 0) (P : ℤ → Type 0) (rows : List Row) (found : Option ℤ) → ShowsFirst Up P rows → TellsId rows found → IsFirst Up P found
first_told Up P [] found none told = subst (IsFirst Up P) (sym (told.0 refl)) none
first_told Up P (row ∷ rows) found shows told = subst (IsFirst Up P) (sym (told.1 shows.0 rows (ap (λ r. r ∷ rows) shows.1))) (shows.2, shows.3)

-- what a list of rows tells is told of the slice that was looked at
pub first_seen : (Up : ℤ → ℤ → Type 0) (P : ℤ → Type 0) (rows seen : List Row) (found : Option ℤ) → ShowsFirst Up P rows → seen ≡ rows → TellsId seen found → IsFirst Up P found
first_seen Up P rows seen found shows same told = first_told Up P seen found (subst (ShowsFirst Up P) (sym same) shows) told

-- the first of those that are P and not below a start
pub least_from : (P : ℤ → Type 0) (start : ℤ) (found : Option ℤ) → IsFirst (λ a b. a ≤ℤ b) (λ id. P id × (start ≤ℤ id)) found → IsLeastFrom P start found
least_from P start None none = λ id is from. none id (is, from)
least_from P start (Some id) is = (is.0.0, is.0.1, λ other there from. is.1 other (there, from))

-- ---- how many of the databases have an id below a bound

pub one_if : Ordering → ℕ
one_if Less = 1
one_if Equal = 0
one_if Greater = 0

pub below : List ListedDatabase → ℤ → ℕ
below [] bound = 0
below (d ∷ listed) bound = one_if (int_cmp d.id.0 bound) + below listed bound

one_more : (id a b : ℤ) → a ≤ℤ b → one_if (int_cmp id a) ≤ one_if (int_cmp id b)
unfolding one_if
one_more id a b up = from (int_cmp id a) refl
  where
    from : (o : Ordering) → o ≡ int_cmp id a → one_if (int_cmp id a) ≤ one_if (int_cmp id b)
    from Less is =
        let low : id <ℤ a = int_ranked id a Less is in
        let later : int_cmp id b ≡ Less = cmp_below id b (omega (arith, ints, low, up)) in
        subst (λ o. one_if (int_cmp id a) ≤ one_if o) (sym later) (subst (λ o. one_if o ≤ 1) is (omega arith))
    from Equal is = subst (λ o. one_if o ≤ one_if (int_cmp id b)) is (omega arith)
    from Greater is = subst (λ o. one_if o ≤ one_if (int_cmp id b)) is (omega arith)

below_up : (listed : List ListedDatabase) (a b : ℤ) → a ≤ℤ b → below listed a ≤ below listed b
unfolding below
below_up [] a b up = omega arith
below_up (d ∷ listed) a b up = omega (arith, one_more d.id.0 a b up, below_up listed a b up)

-- an id between two bounds counts below the greater alone
below_more : (listed : List ListedDatabase) (id next : ℤ) → IsListedId listed id → id <ℤ next → below listed id + 1 ≤ below listed next
unfolding below one_if
below_more [] id next it less = absurd it.1
below_more (d ∷ listed) id next (database, inl same, is) less =
    let own : id ≡ d.id.0 = is ∙ ap (λ (x : ListedDatabase). x.id.0) same in
    let here : one_if (int_cmp d.id.0 next) ≡ 1 = ap one_if (cmp_below d.id.0 next (subst (λ i. i <ℤ next) own less)) in
    let none : one_if (int_cmp d.id.0 id) ≡ 0 = not_less d.id.0 id own in
    omega (arith, here, none, below_up listed id next (omega (arith, ints, less)))
  where
    not_less : (x y : ℤ) → y ≡ x → one_if (int_cmp x y) ≡ 0
    not_less x y same = from (int_cmp x y) refl
      where
        from : (o : Ordering) → o ≡ int_cmp x y → one_if (int_cmp x y) ≡ 0
        from Less is = let low : x <ℤ y = int_ranked x y Less is in absurd (omega (arith, ints, low, same))
        from Equal is = ap one_if (sym is)
        from Greater is = ap one_if (sym is)
below_more (d ∷ listed) id next (database, inr later, is) less = omega (arith, one_more d.id.0 id next (omega (arith, ints, less)), below_more listed id next (database, later, is) less)

pub below_few : (listed : List ListedDatabase) (bound : ℤ) → below listed bound ≤ length listed
unfolding below one_if
below_few [] bound = omega arith
below_few (d ∷ listed) bound = omega (arith, few (int_cmp d.id.0 bound), below_few listed bound)
  where
    few : (o : Ordering) → one_if o ≤ 1
    few Less = omega arith
    few Equal = omega arith
    few Greater = omega arith

-- ---- from one id to the next

-- the id occurs, those below it are listed, as many at least as turns were taken, and none is above the last
pub record IsReached (tree : ℕ) (trees : Trees) (listed : List ListedDatabase) (last id : ℤ) (turn : ℕ) : Type 0 where
  pub owns : Owns tree trees id
  pub lower : (other : ℤ) → Owns tree trees other → other <ℤ id → IsListedId listed other
  pub upper : (other : ℤ) → Owns tree trees other → other ≤ℤ last
  pub turns : turn ≤ below listed id

module _ (tree : ℕ) (trees : Trees) (listed : List ListedDatabase) where
  abbrev P : ℤ → Type 0
  P = IsListedId listed

  abbrev AllOwners : Type 0
  AllOwners = (other : ℤ) → Owns tree trees other → P other

  pub first_reached : (ends : Ends) → AreEnds tree trees (Some ends) → IsReached tree trees listed ends.last ends.first 0
  first_reached ends are = record {
    owns = are.0;
    lower = λ other there low. absurd (let e = (are.1 other there).0 in omega (arith, ints, e, low));
    upper = λ other there. (are.1 other there).1;
    turns = omega arith;
  }

  module _ (last id : ℤ) (turn : ℕ) (it : IsReached tree trees listed last id turn) where
    -- each id up to this one is P, where this one is
    up_to_id : P id → (other : ℤ) → Owns tree trees other → other ≤ℤ id → P other
    up_to_id here other there up = from (int_cmp other id) refl
      where
        from : (o : Ordering) → o ≡ int_cmp other id → P other
        from Less is = it.lower other there (int_ranked other id Less is)
        from Equal is = let same : other ≡ id = int_ranked other id Equal is in subst P (sym same) here
        from Greater is = let high : id <ℤ other = int_ranked other id Greater is in absurd (omega (arith, ints, high, up))

    pub all_reached : P id → last ≤ℤ id → AllOwners
    all_reached here over other there = up_to_id here other there (let e = it.upper other there in omega (arith, ints, e, over))

    pub none_next : P id → IsLeastFrom (Owns tree trees) (id +ℤ pos 1) None → AllOwners
    none_next here none other there = from (int_cmp other id) refl
      where
        from : (o : Ordering) → o ≡ int_cmp other id → P other
        from Less is = let low : other <ℤ id = int_ranked other id Less is in up_to_id here other there (omega (arith, ints, low))
        from Equal is = let same : other ≡ id = int_ranked other id Equal is in up_to_id here other there (omega (arith, ints, same))
        from Greater is = let high : id <ℤ other = int_ranked other id Greater is in absurd (none other there (omega (arith, ints, high)))

    pub next_reached : P id → (next : ℤ) → IsLeastFrom (Owns tree trees) (id +ℤ pos 1) (Some next) → IsReached tree trees listed last next (turn + 1)
    next_reached here next first = record {
      owns = first.0;
      lower = λ other there low. from other there low (int_cmp other id) refl;
      upper = it.upper;
      turns = omega (arith, it.turns, below_more listed id next here (let e = first.1 in omega (arith, ints, e)));
    }
      where
        from : (other : ℤ) → Owns tree trees other → other <ℤ next → (o : Ordering) → o ≡ int_cmp other id → P other
        from other there low Less is = let less : other <ℤ id = int_ranked other id Less is in up_to_id here other there (omega (arith, ints, less))
        from other there low Equal is = let same : other ≡ id = int_ranked other id Equal is in up_to_id here other there (omega (arith, ints, same))
        from other there low Greater is =
            let high : id <ℤ other = int_ranked other id Greater is in
            absurd (let e : next ≤ℤ other = first.2 other there (omega (arith, ints, high)) in omega (arith, ints, e, low))

-- the first from one on, where the number was worked out
pub from_next : (P : ℤ → Type 0) (id : ℤ) {start : ℤ} (found : Option ℤ) → IsLeastFrom P start found → start ≡ id +ℤ pos 1 → IsLeastFrom P (id +ℤ pos 1) found
from_next P id found least is = subst (λ b. IsLeastFrom P b found) is least
