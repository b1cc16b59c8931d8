-- Why records of a change are refused, one behind the other, and what those before them lose.
use Rattle.zeb_change.proofs.Cited.{◌≡◌, ◌⊎◌, ◌+◌, ◌<◌, ◌≤◌, ℕ, ℤ, List, [], ◌∷◌, ◌++◌, length-append, Option, None, inl, inr, arith, refl, ap, sym, subst, State, Trees, has_either, has_left, has_right, MarcFault, Directive, Elder, Format, IsElderOf, records_tree, Refusal, TooManyRecords, Unknown, Kind, Delete, Update, Limits, Fate, Inserted, Tally, AreWholeBefore, IsWholeBefore, PassesOn, KeepsOtherRecords, IsDamageOrFailure, IsFullOrFails, IsRecordRefused, LosesJustNamed, TakesNamed, IsTallied, AreNamed, HasReasonAt, IsAllowed, IsAtFault, IsNamed, IsNewAt, NamesAny, why_of, IsFailing}
use Rattle.zeb_change.proofs.KeptStill.{rows_same, same_ident, up_more, whole_before}

-- ---- answers

-- ---- names

pub names_left : (profile : List Directive) (xs ys : List (List ℕ)) (ident : List ℕ) → NamesAny profile xs ident → NamesAny profile (xs ++ ys) ident
names_left profile xs ys ident names = (names.0, has_left xs ys names.0 names.1, names.2)

pub names_right : (profile : List Directive) (xs ys : List (List ℕ)) (ident : List ℕ) → NamesAny profile ys ident → NamesAny profile (xs ++ ys) ident
names_right profile xs ys ident names = (names.0, has_right xs ys names.0 names.1, names.2)

-- ---- one record

module _ (profile : List Directive) (db : ℤ) (bytes : List ℕ) (last : ℕ) where
  -- what is kept under another identifier than its own is kept still
  pub loses_own : (ident : List ℕ) → IsNamed profile bytes ident → (after : ℕ) (old new : State) → KeepsOtherRecords db ident last after old new → LosesJustNamed profile last db (bytes ∷ []) old.now.trees new.now.trees
  loses_own ident is after old new kept sysno other row there up = elim (same_ident other ident) [
    | inl same ↦ inr (bytes, inl refl, subst (IsNamed profile bytes) (sym same) is)
    | inr differs ↦ inl (kept.others other differs sysno row there up)
  ]

-- it is as it was when others were lost
pub loses_then : (profile : List Directive) (db : ℤ) (slices : List (List ℕ)) (last : ℕ) (old mid new : Trees) → LosesJustNamed profile last db slices old mid → new records_tree ≡ mid records_tree
    → LosesJustNamed profile last db slices old new
loses_then profile db slices last old mid new loses same sysno ident bytes there up = elim (loses sysno ident bytes there up) [
  | inl kept ↦ inl (rows_same mid new same db sysno ident bytes kept)
  | inr named ↦ inr named
]

-- ---- records that are taken

-- none so far
pub none_taken : (profile : List Directive) (db : ℤ) (last taken : ℕ) (trees : Trees) → TakesNamed profile db [] last taken trees last taken trees
none_taken profile db last taken trees = record {
  few = omega arith;
  all = omega arith;
  sound = λ slice there. absurd there;
  named = λ sysno ident bytes there up. inl there;
  whole = λ slice there. absurd there;
}

-- one of them
pub one_taken : (profile : List Directive) (db : ℤ) (bytes : List ℕ) (last taken : ℕ) (old : Trees) (after counted : ℕ) (new : Trees) → after ≤ last + 1 → counted ≡ taken + 1
    → (ident : List ℕ) × IsNamed profile bytes ident → LosesJustNamed profile last db (bytes ∷ []) old new → IsWholeBefore profile last old db bytes → TakesNamed profile db (bytes ∷ []) last taken old after counted new
one_taken profile db bytes last taken old after counted new few all sound named whole = record {
  few = few;
  all = all;
  sound = λ slice there. elim there [
    | inl same ↦ (sound.0, subst (λ (b : List ℕ). IsNamed profile b sound.0) (sym same) sound.1)
    | inr none ↦ absurd none
  ];
  named = named;
  whole = λ slice there. elim there [
    | inl same ↦ subst (IsWholeBefore profile last old db) (sym same) whole
    | inr none ↦ absurd none
  ];
}

pub counted_one : (fate : Fate) (old new : Tally) → IsTallied fate old new → new.records ≡ old.records + 1
counted_one Inserted old new is = is.0
counted_one _ old new is = is.0

-- what is written behind them leaves the table of records
pub taken_written : (profile : List Directive) (db : ℤ) (slices : List (List ℕ)) (last taken : ℕ) (old : Trees) (after counted : ℕ) (mid new : Trees) → TakesNamed profile db slices last taken old after counted mid
    → new records_tree ≡ mid records_tree → TakesNamed profile db slices last taken old after counted new
taken_written profile db slices last taken old after counted mid new takes same = record {
  few = takes.few;
  all = takes.all;
  sound = takes.sound;
  named = loses_then profile db slices last old mid new takes.named same;
  whole = takes.whole;
}

module _ {format : Format} (profile : List Directive) (db : ℤ) (last taken : ℕ) (a : State) (mid counted : ℕ) (b : State) (earlier : List (List ℕ)) (passes : PassesOn format profile db last mid a b)
    (one : TakesNamed profile db earlier last taken a.now.trees mid counted b.now.trees) where
  pub whole_behind : (later : List (List ℕ)) → AreWholeBefore profile mid b.now.trees db later → AreWholeBefore profile last a.now.trees db (earlier ++ later)
  whole_behind later second slice there = elim (has_either earlier later slice there) [
    | inl first ↦ one.whole slice first
    | inr behind ↦ λ ident whole named. whole_before format profile db last mid a b passes ident (second slice behind ident whole named)
  ]

  pub named_behind : (later : List (List ℕ)) → AreNamed profile later → AreNamed profile (earlier ++ later)
  named_behind later second slice there = elim (has_either earlier later slice there) [
    | inl first ↦ one.sound slice first
    | inr behind ↦ second slice behind
  ]

  -- others behind them
  pub takes_then : (later : List (List ℕ)) (after total : ℕ) (c : Trees) → TakesNamed profile db later mid counted b.now.trees after total c → TakesNamed profile db (earlier ++ later) last taken a.now.trees after total c
  takes_then later after total c two =
      let many = length-append earlier later in
      record {
        few = omega (arith, one.few, two.few, many);
        all = omega (arith, one.all, two.all, many);
        sound = named_behind later two.sound;
        named = λ sysno ident bytes there up. elim (one.named sysno ident bytes there up) [
          | inl kept ↦ elim (two.named sysno ident bytes kept (up_more last mid sysno passes.rises up)) [
            | inl still ↦ inl still
            | inr named ↦ inr (names_right profile earlier later ident named)
          ]
          | inr named ↦ inr (names_left profile earlier later ident named)
        ];
        whole = whole_behind later two.whole;
      }

  -- what is new behind them is new behind all
  new_behind : (before behind : List (List ℕ)) → IsNewAt profile mid b.now.trees db before behind → IsNewAt profile last a.now.trees db (earlier ++ before) behind
  new_behind before behind new = record {
    bytes = new.bytes;
    rest = new.rest;
    ident = new.ident;
    there = new.there;
    named = new.named;
    unkept = λ sysno kept there up. elim (one.named sysno new.ident kept there up) [
      | inl still ↦ names_right profile earlier before new.ident (new.unkept sysno kept still (up_more last mid sysno passes.rises up))
      | inr named ↦ names_left profile earlier before new.ident named
    ];
  }

  allowed_behind : (limits : Limits) (before behind : List (List ℕ)) → IsAllowed limits counted before behind → IsAllowed limits taken (earlier ++ before) behind
  allowed_behind limits before behind (inl none) = inl none
  allowed_behind limits before behind (inr fits) = inr (omega (arith, fits, one.all, length-append earlier before))

  -- so is a reason
  pub reason_behind : (kind : Kind) (limits : Limits) (file nth : ℕ) (before behind : List (List ℕ)) (f : Option MarcFault) (refusal : Refusal) → HasReasonAt profile kind limits mid counted b.now.trees db file nth before behind f refusal
      → HasReasonAt profile kind limits last taken a.now.trees db file nth (earlier ++ before) behind f refusal
  reason_behind kind limits file nth before behind f refusal (inl many) = inl (many.0, many.1, omega (arith, many.2, one.all, length-append earlier before))
  reason_behind kind limits file nth before behind f refusal (inr other) = inr (
    allowed_behind limits before behind other.0,
    elim other.1 [
      | inl at ↦ inl at
      | inr new ↦ inr (elim new [
        | inl unknown ↦ inl (unknown.0, unknown.1, new_behind before behind unknown.2)
        | inr full ↦ inr (full.0, full.1, omega (arith, full.2, one.few, length-append earlier before), new_behind before behind full.3)
      ])
    ],
  )

-- a record's own reason is one at its place, whatever stands behind it
module _ (profile : List Directive) (last : ℕ) (trees : Trees) (db : ℤ) (before : List (List ℕ)) (bytes : List ℕ) (rest : List (List ℕ)) where
  new_more : IsNewAt profile last trees db before (bytes ∷ []) → IsNewAt profile last trees db before (bytes ∷ rest)
  new_more new =
      let there = new.there in
      let same : bytes ≡ new.bytes = cc in
      record {
        bytes = new.bytes;
        rest = rest;
        ident = new.ident;
        there = ap (λ b. b ∷ rest) same;
        named = new.named;
        unkept = new.unkept;
      }

  allowed_more : (limits : Limits) (taken : ℕ) → IsAllowed limits taken before (bytes ∷ []) → IsAllowed limits taken before (bytes ∷ rest)
  allowed_more limits taken (inl none) = absurd (cc)
  allowed_more limits taken (inr fits) = inr fits

  pub reason_more : (kind : Kind) (limits : Limits) (taken file nth : ℕ) (f : Option MarcFault) (refusal : Refusal) → HasReasonAt profile kind limits last taken trees db file nth before (bytes ∷ []) None refusal
      → HasReasonAt profile kind limits last taken trees db file nth before (bytes ∷ rest) f refusal
  reason_more kind limits taken file nth f refusal (inl many) = inl (many.0, (λ none. cc), many.2)
  reason_more kind limits taken file nth f refusal (inr other) = inr (
    allowed_more limits taken other.0,
    elim other.1 [
      | inl at ↦ inl at
      | inr new ↦ inr (elim new [
        | inl unknown ↦ inl (unknown.0, unknown.1, new_more unknown.2)
        | inr full ↦ inr (full.0, full.1, full.2, new_more full.3)
      ])
    ],
  )

-- ---- one record that is refused

module _ (profile : List Directive) (kind : Kind) (limits : Limits) (last taken : ℕ) (trees : Trees) (db : ℤ) (file nth : ℕ) (bytes : List ℕ) where
  -- so many were taken already
  pub many_refuses : limits.records ≤ taken → IsRecordRefused profile kind limits last taken trees db file nth bytes TooManyRecords
  many_refuses many = inl (inl (refl, (λ none. cc), omega (arith, many)))

  -- nothing is kept under its identifier
  new_here : (ident : List ℕ) → IsNamed profile bytes ident → IsElderOf trees db ident None → IsNewAt profile last trees db [] (bytes ∷ [])
  new_here ident named none = record {
    bytes = bytes;
    rest = [];
    ident = ident;
    there = refl;
    named = named;
    unkept = λ sysno kept there up. absurd (none sysno kept there);
  }

  module _ (few : taken < limits.records) where
    -- the limit allows it
    allowed_here : IsAllowed limits taken [] (bytes ∷ [])
    allowed_here = inr (omega (arith, few))

    -- it is at fault, or memory ran out
    pub fault_refuses : (refusal : Refusal) → IsFailing (why_of refusal) ⊎ IsAtFault profile file nth (bytes ∷ []) None refusal → IsRecordRefused profile kind limits last taken trees db file nth bytes refusal
    fault_refuses refusal (inl failing) = inr (inr failing)
    fault_refuses refusal (inr at) = inl (inr (allowed_here, inl at))

    -- the limit leaves no number
    pub full_refuses : kind ≡ Update → (ident : List ℕ) → IsNamed profile bytes ident → (found : Option Elder) → IsElderOf trees db ident found → (refusal : Refusal)
        → ((found ≡ None) × IsFullOrFails limits last refusal) ⊎ IsDamageOrFailure refusal → IsRecordRefused profile kind limits last taken trees db file nth bytes refusal
    full_refuses is ident named found there refusal (inr failing) = inr failing
    full_refuses is ident named found there refusal (inl new) = elim new.1 [
      | inl full ↦ inl (inr (allowed_here, inr (inr (is, full.0, omega (arith, full.1), new_here ident named (subst (λ (e : Option Elder). IsElderOf trees db ident e) new.0 there)))))
      | inr failing ↦ inr failing
    ]

    -- a strict delete finds none
    pub unknown_refuses : kind ≡ Delete → (ident : List ℕ) → IsNamed profile bytes ident → IsElderOf trees db ident None → IsRecordRefused profile kind limits last taken trees db file nth bytes (Unknown file nth)
    unknown_refuses is ident named none = inl (inr (allowed_here, inr (inl (is, refl, new_here ident named none))))
