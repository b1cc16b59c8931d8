-- Two lists of numbers that rise, joined under an operator in one walk.
use Rattle.zeb_search.proofs.Cited.{◌≡◌, ◌∙◌, ◌↔◌, ◌⊎◌, ◌≤◌, ◌<◌, ℕ, ◌+◌, Bool, true, false, cond, length, get_or, take, List, [], ◌∷◌, ◌++◌, IsTrue, refl, sym, ap, subst, inl, inr, arith, bool_byte, nat_cmp_total, nat_cmp, is_less, less_is, cases_lt, get_or_default_zero, below_from_sorted, Has, has_left, has_right, has_either, Operator, And, Or, Not, pushed_rises, taken_below, taken_more, AreJoined, AreNumbers}
use Rattle.std.specs.List.Sorted.{IsStrictlySortedBy}

-- ---- one number more

abbrev Grows : (P Q : ℕ → Type 0) → Bool → ℕ → Type 0
Grows P Q flag m = (n : ℕ) → Q n ↔ (P n ⊎ (IsTrue flag × (n ≡ m)))

module _ (P Q P' Q' : ℕ → Type 0) (in_left in_right : Bool) (m : ℕ) (left : Grows P P' in_left m) (right : Grows Q Q' in_right m)
    (left_below : (n : ℕ) → P n → n < m) (right_below : (n : ℕ) → Q n → n < m) where
  join_grows : (operator : Operator) (n : ℕ)
      → AreJoined operator (P' n) (Q' n) ↔ (AreJoined operator (P n) (Q n) ⊎ (AreJoined operator (IsTrue in_left) (IsTrue in_right) × (n ≡ m)))
  join_grows And n = (
    λ h. elim ((left n).0 h.0) [
      | inl p ↦ elim ((right n).0 h.1) [ inl q ↦ inl (p, q) | inr new ↦ absurd (omega (arith, left_below n p, new.1)) ]
      | inr new ↦ elim ((right n).0 h.1) [ inl q ↦ absurd (omega (arith, right_below n q, new.1)) | inr other ↦ inr ((new.0, other.0), new.1) ]
    ],
    λ h. elim h [ inl both ↦ ((left n).1 (inl both.0), (right n).1 (inl both.1)) | inr new ↦ ((left n).1 (inr (new.0.0, new.1)), (right n).1 (inr (new.0.1, new.1))) ],
  )
  join_grows Or n = (
    λ h. elim h [
      | inl one ↦ elim ((left n).0 one) [ inl p ↦ inl (inl p) | inr new ↦ inr (inl new.0, new.1) ]
      | inr two ↦ elim ((right n).0 two) [ inl q ↦ inl (inr q) | inr new ↦ inr (inr new.0, new.1) ]
    ],
    λ h. elim h [
      | inl old ↦ elim old [ inl p ↦ inl ((left n).1 (inl p)) | inr q ↦ inr ((right n).1 (inl q)) ]
      | inr new ↦ elim new.0 [ inl one ↦ inl ((left n).1 (inr (one, new.1))) | inr two ↦ inr ((right n).1 (inr (two, new.1))) ]
    ],
  )
  join_grows Not n = (
    λ h. elim ((left n).0 h.0) [
      | inl p ↦ inl (p, λ q. h.1 ((right n).1 (inl q)))
      | inr new ↦ inr ((new.0, λ there. h.1 ((right n).1 (inr (there, new.1)))), new.1)
    ],
    λ h. elim h [
      | inl old ↦ ((left n).1 (inl old.0), λ q. elim ((right n).0 q) [ inl before ↦ old.1 before | inr new ↦ absurd (omega (arith, left_below n old.0, new.1)) ])
      | inr new ↦ ((left n).1 (inr (new.0.0, new.1)), λ q. elim ((right n).0 q) [ inl before ↦ absurd (omega (arith, right_below n before, new.1)) | inr there ↦ new.0.1 there.0 ])
    ],
  )

  joined_below : (operator : Operator) (n : ℕ) → AreJoined operator (P n) (Q n) → n < m
  joined_below Or n h = elim h [ inl p ↦ left_below n p | inr q ↦ right_below n q ]
  joined_below _ n h = left_below n h.0

  joined_more : (operator : Operator) (kept : Bool) (old new : List ℕ) → IsTrue kept ↔ AreJoined operator (IsTrue in_left) (IsTrue in_right)
      → new ≡ cond kept (old ++ m ∷ []) old → AreNumbers (λ n. AreJoined operator (P n) (Q n)) old → AreNumbers (λ n. AreJoined operator (P' n) (Q' n)) new
  joined_more operator true old new keeps is are = record {
    rising = rw is (pushed_rises nat_cmp_total old m are.rising (λ n h. less_is n m (joined_below operator n ((are.each n).0 h))));
    each = λ n. (
      λ h. (join_grows operator n).1 (elim (has_either old (m ∷ []) n (subst (λ l. Has l n) is h)) [
        | inl there ↦ inl ((are.each n).0 there)
        | inr last ↦ elim last [ inl same ↦ inr (keeps.0 refl, same) | inr none ↦ absurd none ]
      ]),
      λ h. subst (λ l. Has l n) (sym is) (elim ((join_grows operator n).0 h) [
        | inl there ↦ has_left old (m ∷ []) n ((are.each n).1 there)
        | inr one ↦ has_right old (m ∷ []) n (inl one.1)
      ]),
    );
  }
  joined_more operator false old new keeps is are = record {
    rising = rw is are.rising;
    each = λ n. (
      λ h. (join_grows operator n).1 (inl ((are.each n).0 (subst (λ l. Has l n) is h))),
      λ h. subst (λ l. Has l n) (sym is) (elim ((join_grows operator n).0 h) [
        | inl there ↦ (are.each n).1 there
        | inr one ↦ absurd (let e : false ≡ true = keeps.1 one.0 in cc)
      ]),
    );
  }

-- ---- the walk

-- the numbers before a place of each list are joined, and each of them is below what stands at the other list's place
pub record AreWalked (operator : Operator) (left right : List ℕ) (i j : ℕ) (numbers : List ℕ) : Type 0 where
  pub are : AreNumbers (λ n. AreJoined operator (Has (take i left) n) (Has (take j right) n)) numbers
  pub left_below : (n : ℕ) → Has (take i left) n → j < length right → n < get_or right j 0
  pub right_below : (n : ℕ) → Has (take j right) n → i < length left → n < get_or left i 0

-- the number at a place of one list is there, and not above the one at a place of another list
abbrev pub IsFirst : List ℕ → ℕ → List ℕ → ℕ → Type 0
IsFirst list place other other_place = (place < length list) × (other_place < length other → get_or list place 0 ≤ get_or other other_place 0)

-- a walk goes on by the flag
taken_by : (list : List ℕ) (i m after : ℕ) (flag : Bool) → after ≡ i + cond flag 1 0 → (IsTrue flag → (i < length list) × (m ≡ get_or list i 0)) → Grows (Has (take i list)) (Has (take after list)) flag m
taken_by list i m after true moves at n =
    let more = taken_more list i m (at refl).0 ((at refl).1 ∙ got list i m (at refl).0) n in
    let same : after ≡ i + 1 = moves in (
      λ h. elim (more.0 (subst (λ k. Has (take k list) n) same h)) [ inl before ↦ inl before | inr new ↦ inr (refl, new) ],
      λ h. subst (λ k. Has (take k list) n) (sym same) (more.1 (elim h [ inl before ↦ inl before | inr new ↦ inr new.1 ])),
    )
  where
    got : (list : List ℕ) (i m : ℕ) → i < length list → get_or list i 0 ≡ get_or list i m
    got list i m h = sym (get_or_default_zero list i m h)
taken_by list i m after false moves at n =
    let same : after ≡ i = omega (arith, moves) in (
      λ h. inl (subst (λ k. Has (take k list) n) same h),
      λ h. elim h [ inl before ↦ subst (λ k. Has (take k list) n) (sym same) before | inr new ↦ absurd (let e : false ≡ true = new.0 in cc) ],
    )

-- ---- a step of the walk

-- the flag says whether the least number stands first in the one list; if not, it stands first in the other
record IsLeast (list : List ℕ) (i : ℕ) (other : List ℕ) (j m : ℕ) (flag : Bool) : Type 0 where
  first : IsFirst list i other j → IsTrue flag
  here : IsTrue flag → (i < length list) × (m ≡ get_or list i 0)
  there : flag ≡ false → (j < length other) × (m ≡ get_or other j 0)

module _ (list other : List ℕ) (i j m after : ℕ) (flag : Bool) (up : IsStrictlySortedBy nat_cmp list) (least : IsLeast list i other j m flag) where
  taken_lower : ((n : ℕ) → Has (take i list) n → j < length other → n < get_or other j 0) → (n : ℕ) → Has (take i list) n → n < m
  taken_lower lower n h = elim flag as (λ f. flag ≡ f → n < m) [
    | true ↦ λ is. let at = least.here is in
        is_less n m (taken_below nat_cmp_total list i m up at.0 (at.1 ∙ sym (get_or_default_zero list i m at.0)) n h)
    | false ↦ λ is. let at = least.there is in omega (arith, lower n h at.0, at.1)
  ] refl

  next_above : after ≡ i + cond flag 1 0 → after < length list → m < get_or list after 0
  next_above moves within = elim flag as (λ f. flag ≡ f → after ≡ i + cond f 1 0 → m < get_or list after 0) [
    | true ↦ λ is moved. let at = least.here is in omega (arith, at.1, below_from_sorted list i after 0 up (omega (arith, moved)) within)
    | false ↦ λ is moved. let at = least.there is in let same : after ≡ i = omega (arith, moved) in
        elim (cases_lt m (get_or list after 0)) [
          | inl lower ↦ lower
          | inr upper ↦ absurd (let e : true ≡ false = sym (least.first (omega (arith, within, same), λ h. let low : get_or list i 0 ≤ m = subst (λ k. get_or list k 0 ≤ m) same upper in omega (arith, low, at.1))) ∙ is in cc)
        ]
  ] refl moves

-- what the two flags of a step say of its number
least_of : (left right : List ℕ) (i j m : ℕ) (in_left in_right : Bool) → (i < length left) ⊎ (j < length right) → IsTrue in_left ↔ IsFirst left i right j → IsTrue in_right ↔ IsFirst right j left i
    → m ≡ cond in_left (get_or left i 0) (get_or right j 0) → IsLeast left i right j m in_left × IsLeast right j left i m in_right
least_of left right i j m true true some one two is = (
  record { first = λ h. refl; here = λ h. ((one.0 refl).0, is); there = λ h. absurd (cc) },
  record { first = λ h. refl; here = λ h. ((two.0 refl).0, omega (arith, is, (one.0 refl).1 (two.0 refl).0, (two.0 refl).1 (one.0 refl).0)); there = λ h. absurd (cc) },
)
least_of left right i j m true false some one two is = (
  record { first = λ h. refl; here = λ h. ((one.0 refl).0, is); there = λ h. absurd (cc) },
  record { first = two.1; here = λ h. absurd (cc); there = λ h. ((one.0 refl).0, is) },
)
least_of left right i j m false true some one two is = (
  record { first = one.1; here = λ h. absurd (cc); there = λ h. ((two.0 refl).0, is) },
  record { first = λ h. refl; here = λ h. ((two.0 refl).0, is); there = λ h. absurd (cc) },
)
least_of left right i j m false false some one two is = absurd (elim (some_first left right i j some) [ inl h ↦ (let e = one.1 h in cc) | inr h ↦ (let e = two.1 h in cc) ])
  where
    some_first : (left right : List ℕ) (i j : ℕ) → (i < length left) ⊎ (j < length right) → IsFirst left i right j ⊎ IsFirst right j left i
    some_first left right i j some = elim (cases_lt i (length left)) [
      | inr past ↦ elim some [ inl h ↦ absurd (omega arith) | inr h ↦ inr (h, λ k. absurd (omega arith)) ]
      | inl within ↦ elim (cases_lt j (length right)) [
        | inr past ↦ inl (within, λ k. absurd (omega arith))
        | inl other ↦ elim (cases_lt (get_or left i 0) (get_or right j 0)) [
          | inl lower ↦ inl (within, λ k. omega (arith, lower))
          | inr upper ↦ inr (other, λ k. upper)
        ]
      ]
    ]

pub walk_step : (operator : Operator) (left right : List ℕ) (i j m left_after right_after : ℕ) (in_left in_right kept : Bool) (old new : List ℕ)
    → IsStrictlySortedBy nat_cmp left → IsStrictlySortedBy nat_cmp right → (i < length left) ⊎ (j < length right)
    → IsTrue in_left ↔ IsFirst left i right j → IsTrue in_right ↔ IsFirst right j left i → m ≡ cond in_left (get_or left i 0) (get_or right j 0)
    → left_after ≡ i + cond in_left 1 0 → right_after ≡ j + cond in_right 1 0 → IsTrue kept ↔ AreJoined operator (IsTrue in_left) (IsTrue in_right)
    → new ≡ cond kept (old ++ m ∷ []) old → AreWalked operator left right i j old → AreWalked operator left right left_after right_after new
walk_step operator left right i j m left_after right_after in_left in_right kept old new up down some one two is left_moves right_moves keeps pushed walked =
    let least = least_of left right i j m in_left in_right some one two is in
    let left_lower = taken_lower left right i j m left_after in_left up least.0 walked.left_below in
    let right_lower = taken_lower right left j i m right_after in_right down least.1 walked.right_below in
    let left_grows = taken_by left i m left_after in_left left_moves least.0.here in
    let right_grows = taken_by right j m right_after in_right right_moves least.1.here in
    record {
      are = joined_more (Has (take i left)) (Has (take j right)) (Has (take left_after left)) (Has (take right_after right)) in_left in_right m
          left_grows right_grows left_lower right_lower operator kept old new keeps pushed walked.are;
      left_below = λ n h within.
          let above = next_above right left j i m right_after in_right down least.1 right_moves within in
          elim ((left_grows n).0 h) [ inl before ↦ omega (arith, left_lower n before, above) | inr same ↦ omega (arith, same.1, above) ];
      right_below = λ n h within.
          let above = next_above left right i j m left_after in_left up least.0 left_moves within in
          elim ((right_grows n).0 h) [ inl before ↦ omega (arith, right_lower n before, above) | inr same ↦ omega (arith, same.1, above) ];
    }

pub walk_begins : (operator : Operator) (left right : List ℕ) → AreWalked operator left right 0 0 []
unfolding IsStrictlySortedBy
walk_begins operator left right = record {
  are = record { rising = tt; each = λ n. (λ h. absurd h, λ h. none operator n h) };
  left_below = λ n h. absurd h;
  right_below = λ n h. absurd h;
}
  where
    none : (operator : Operator) (n : ℕ) → AreJoined operator (Has [] n) (Has [] n) → ⊥
    none Or n h = elim h [ inl left ↦ left | inr right ↦ right ]
    none _ n h = h.0

pub byte_is : (flag : Bool) (i byte : ℕ) → byte ≡ bool_byte flag → i + byte ≡ i + cond flag 1 0
byte_is true i byte is = ap (λ k. i + k) is
byte_is false i byte is = ap (λ k. i + k) is

pub moves_within : (list other : List ℕ) (i j byte : ℕ) (flag : Bool) → i ≤ length list → IsTrue flag ↔ IsFirst list i other j → byte ≡ bool_byte flag → i + byte ≤ length list
moves_within list other i j byte true within is moved = omega (arith, (is.0 refl).0, byte_is true i byte moved)
moves_within list other i j byte false within is moved = omega (arith, within, byte_is false i byte moved)
