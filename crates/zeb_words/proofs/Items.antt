-- What was found for arguments that take one value, each used once at most.
use Rattle.zeb_words.proofs.Cited.{◌≡◌, ◌∙◌, ◌||◌, Bool, refl, sym, ap, subst, List, [], ◌∷◌, ◌++◌, Some, None, true, false, map, ⊤, slice_get, option_map, is_some, if◌then◌else◌, bytes_eq, bytes_eq-Decides, Row, Text, at_row, first_of, has_row, more_values, one_of, with_values, without, is_given, read_as, Reading, CommandLine}

pub record Item : Type 0 where
  pub id : Text
  pub value : Text
  pub how : Reading

abbrev pub row : Item → Row
row i = record { id = i.id; values = i.value ∷ []; count = None; source = Some CommandLine; reading = i.how }

-- the values of an argument
abbrev pub values : Text → List Item → List Text
values id [] = []
values id (i ∷ items) = if bytes_eq i.id id then i.value ∷ values id items else values id items

-- none is used twice
abbrev pub Once : List Item → List Row → Type 0
Once [] rows = ⊤
Once (i ∷ items) rows = (has_row i.id rows ≡ false) × Once items (rows ++ row i ∷ [])

abbrev pub AtMostOne : {A : Type 0} → List A → Type 0
AtMostOne [] = ⊤
AtMostOne (x ∷ []) = ⊤
AtMostOne (x ∷ y ∷ more) = ⊥

or_none : (b : Bool) → (b || false) ≡ b
or_none true = refl
or_none false = refl

or_joined : (a b c : Bool) → ((a || b) || c) ≡ (a || (b || c))
or_joined true b c = refl
or_joined false b c = refl

or_yes : (b : Bool) → (b || true) ≡ true
or_yes true = refl
or_yes false = refl

pub unchanged : (id : Text) (rows : List Row) → has_row id rows ≡ false → without id rows ≡ rows
unchanged id [] e = refl
unchanged id (r ∷ rows) e = by (bytes_eq r.id id) refl e (unchanged id rows)
  where
    by : (is : Bool) → bytes_eq r.id id ≡ is → (is || has_row id rows) ≡ false → (has_row id rows ≡ false → without id rows ≡ rows) → without id (r ∷ rows) ≡ r ∷ rows
    by true same e again = cc
    by false same e again = rw same (ap (λ l. r ∷ l) (again e))

-- a row that isn't there comes last
pub appended : (id : Text) (change : Row → List Row) (missing rows : List Row) → has_row id rows ≡ false → at_row id change missing rows ≡ rows ++ missing
appended id change missing [] e = refl
appended id change missing (r ∷ rows) e = by (bytes_eq r.id id) refl e (appended id change missing rows)
  where
    by : (is : Bool) → bytes_eq r.id id ≡ is → (is || has_row id rows) ≡ false → (has_row id rows ≡ false → at_row id change missing rows ≡ rows ++ missing)
        → at_row id change missing (r ∷ rows) ≡ r ∷ (rows ++ missing)
    by true same e again = cc
    by false same e again = rw same (ap (λ l. r ∷ l) (again e))

pub used_new : (i : Item) (rows : List Row) → has_row i.id rows ≡ false
    → with_values i.id i.how CommandLine (i.value ∷ []) (without i.id rows) ≡ rows ++ row i ∷ []
used_new i rows e = ap (with_values i.id i.how CommandLine (i.value ∷ [])) (unchanged i.id rows e) ∙ appended i.id (more_values CommandLine (i.value ∷ [])) (row i ∷ []) rows e

pub has_more : (id : Text) (rows : List Row) (r : Row) → has_row id (rows ++ r ∷ []) ≡ (has_row id rows || bytes_eq r.id id)
has_more id [] r = or_none (bytes_eq r.id id)
has_more id (x ∷ rows) r = ap (λ b. bytes_eq x.id id || b) (has_more id rows r) ∙ sym (or_joined (bytes_eq x.id id) (has_row id rows) (bytes_eq r.id id))

same : (a b : Text) → bytes_eq a b ≡ true → a ≡ b
same a b = (bytes_eq-Decides a b).0

only_one : {A : Type 0} (x : A) (xs : List A) → xs ≡ [] → AtMostOne (x ∷ xs)
only_one x [] e = tt
only_one x (y ∷ ys) e = cc

none_more : {A : Type 0} (x : A) (xs : List A) → AtMostOne (x ∷ xs) → xs ≡ []
none_more x [] one = refl
none_more x (y ∷ ys) one = absurd one

abbrev Most : Text → List Item → List Row → Type 0
Most id items rows = (has_row id rows ≡ true → values id items ≡ []) × AtMostOne (values id items)

pub once_most : (items : List Item) (rows : List Row) (id : Text) → Once items rows → Most id items rows
once_most [] rows id once = (λ e. refl, tt)
once_most (i ∷ items) rows id once = by (bytes_eq i.id id) refl (once_most items (rows ++ row i ∷ []) id once.1)
  where
    by : (is : Bool) → bytes_eq i.id id ≡ is → Most id items (rows ++ row i ∷ []) → Most id (i ∷ items) rows
    by true e more =
        let is : i.id ≡ id = same i.id id e in
        let fresh : has_row id rows ≡ false = subst (λ x. has_row x rows ≡ false) is once.0 in
        let rest : values id items ≡ [] = more.0 (has_more id rows (row i) ∙ ap (λ b. has_row id rows || b) e ∙ or_yes (has_row id rows)) in
        let now : values id (i ∷ items) ≡ i.value ∷ values id items = rw e refl in
        (λ h. let bad : true ≡ false = sym h ∙ fresh in cc, subst AtMostOne (sym now) (only_one i.value (values id items) rest))
    by false e more =
        let now : values id (i ∷ items) ≡ values id items = rw e refl in
        (λ h. now ∙ more.0 (has_more id rows (row i) ∙ ap (λ b. b || bytes_eq i.id id) h), subst AtMostOne (sym now) more.1)

abbrev pub AllItems : (Text → Type 0) → List Item → Type 0
AllItems K [] = ⊤
AllItems K (i ∷ items) = K i.id × AllItems K items

pub most_once : (K : Text → Type 0) (items : List Item) (rows : List Row) → AllItems K items → ((id : Text) → K id → Most id items rows) → Once items rows
most_once K [] rows known most = tt
most_once K (i ∷ items) rows known most =
    let self : bytes_eq i.id i.id ≡ true = (bytes_eq-Decides i.id i.id).1 refl in
    let head : values i.id (i ∷ items) ≡ i.value ∷ values i.id items = rw self refl in
    (fresh (has_row i.id rows) refl (λ h. sym head ∙ (most i.id known.0).0 h), most_once K items (rows ++ row i ∷ []) known.1 (λ id k. rest id (bytes_eq i.id id) refl (most id k)))
  where
    fresh : (is : Bool) → has_row i.id rows ≡ is → (has_row i.id rows ≡ true → i.value ∷ values i.id items ≡ []) → has_row i.id rows ≡ false
    fresh false e h = e
    fresh true e h = let bad = h e in cc

    rest : (id : Text) (is : Bool) → bytes_eq i.id id ≡ is → Most id (i ∷ items) rows → Most id items (rows ++ row i ∷ [])
    rest id true e m =
        let now : values id (i ∷ items) ≡ i.value ∷ values id items = rw e refl in
        let none = none_more i.value (values id items) (subst AtMostOne now m.1) in
        (λ h. none, subst AtMostOne (sym none) tt)
    rest id false e m =
        let now : values id (i ∷ items) ≡ values id items = rw e refl in
        (λ h. sym now ∙ m.0 (before (sym (has_more id rows (row i)) ∙ h)), subst AtMostOne now m.1)
      where
        before : (has_row id rows || bytes_eq i.id id) ≡ true → has_row id rows ≡ true
        before h = sym (or_none (has_row id rows)) ∙ ap (λ b. has_row id rows || b) (sym e) ∙ h

-- what is read of an argument
pub first_is : (id : Text) (items : List Item) → first_of id (map row items) ≡ slice_get (values id items) 0
first_is id [] = refl
first_is id (i ∷ items) = by (bytes_eq i.id id) refl (first_is id items)
  where
    by : (is : Bool) → bytes_eq i.id id ≡ is → first_of id (map row items) ≡ slice_get (values id items) 0
        → first_of id (map row (i ∷ items)) ≡ slice_get (values id (i ∷ items)) 0
    by true e again = rw e refl
    by false e again = rw e again

abbrev pub AllRead : Text → Reading → List Item → Type 0
AllRead id how [] = ⊤
AllRead id how (i ∷ items) = (bytes_eq i.id id ≡ true → i.how ≡ how) × AllRead id how items

pub one_is : (id : Text) (how : Reading) (items : List Item) → AllRead id how items → one_of id (map row items) ≡ option_map (read_as how) (slice_get (values id items) 0)
one_is id how [] all = refl
one_is id how (i ∷ items) all = by (bytes_eq i.id id) refl (one_is id how items all.1)
  where
    by : (is : Bool) → bytes_eq i.id id ≡ is → one_of id (map row items) ≡ option_map (read_as how) (slice_get (values id items) 0)
        → one_of id (map row (i ∷ items)) ≡ option_map (read_as how) (slice_get (values id (i ∷ items)) 0)
    by true e again = rw e (ap (λ h. Some (read_as h i.value)) (all.0 e))
    by false e again = rw e again

pub has_is : (id : Text) (items : List Item) → has_row id (map row items) ≡ is_some (slice_get (values id items) 0)
has_is id [] = refl
has_is id (i ∷ items) = by (bytes_eq i.id id) refl (has_is id items)
  where
    by : (is : Bool) → bytes_eq i.id id ≡ is → has_row id (map row items) ≡ is_some (slice_get (values id items) 0)
        → has_row id (map row (i ∷ items)) ≡ is_some (slice_get (values id (i ∷ items)) 0)
    by true e again = rw e refl
    by false e again = rw e again

pub given_is : (id : Text) (items : List Item) → is_given id (map row items) ≡ is_some (slice_get (values id items) 0)
given_is id [] = refl
given_is id (i ∷ items) = by (bytes_eq i.id id) refl (given_is id items)
  where
    by : (is : Bool) → bytes_eq i.id id ≡ is → is_given id (map row items) ≡ is_some (slice_get (values id items) 0)
        → is_given id (map row (i ∷ items)) ≡ is_some (slice_get (values id (i ∷ items)) 0)
    by true e again = rw e refl
    by false e again = rw e again
