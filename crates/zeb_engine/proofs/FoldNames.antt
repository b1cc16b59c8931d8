-- Records that are folded into a database leave it its name.
use Rattle.zeb_engine.proofs.Cited.{◌≡◌, ◌∙◌, ◌+◌, ℕ, List, [], ◌∷◌, Bool, true, false, nat_le, Option, Some, None, Result, Ok, Err, IfOk, refl, ap, subst, if◌then◌else◌, MarcFault, first_fault, Split, IdentFault, Kind, Update, Delete, Adelete, Fate, Inserted, PassedOver, Why, database_full, too_many_records, unknown, Conditions, Changed, Progress, updated, deleted, changed_by, with_ident, ident_in, with_record, counted, ◌then◌, at_end, slices_folded, files_folded, Base, Kept, kept_as, with_new}
use Rattle.zeb_change.specs.Folding.{changed_record, record_folded, file_folded}

abbrev pub KeepsName : Base → Result Changed Why → Type 0
KeepsName base said = IfOk said (λ changed. changed.0.name ≡ base.name)

abbrev pub LeavesName : Base → Result Progress Why → Type 0
LeavesName base said = IfOk said (λ p. p.base.name ≡ base.name)

then_if : {A B : Type 0} (P : A → Type 0) (Q : B → Type 0) (said : Result A Why) (f : A → Result B Why) → IfOk said P → ((a : A) → P a → IfOk (f a) Q) → IfOk (said then f) Q
then_if P Q (Ok a) f is so = so a is
then_if P Q (Err why) f is so = tt

module _ (c : Conditions) (bytes : List ℕ) (base : Base) where
  added : (ident : List ℕ) (full : Bool) → KeepsName base (if full then Err database_full else Ok (with_new ident bytes base, Inserted))
  added ident true = tt
  added ident false = refl

  updated_keeps : (ident : List ℕ) (found : Option Kept) → KeepsName base (updated c ident bytes base found)
  updated_keeps ident (Some kept) = refl
  updated_keeps ident None = added ident (nat_le c.limits.numbers base.last)

  deleted_keeps : (absent : Result Changed Why) (ident : List ℕ) (found : Option Kept) → KeepsName base absent → KeepsName base (deleted absent ident base found)
  deleted_keeps absent ident (Some kept) keeps = refl
  deleted_keeps absent ident None keeps = keeps

  module _ (file nth : ℕ) where
    changed_keeps : (kind : Kind) (ident : List ℕ) → KeepsName base (changed_by c kind file nth bytes ident base)
    changed_keeps Update ident = updated_keeps ident (kept_as ident base)
    changed_keeps Delete ident = deleted_keeps (Err (unknown file nth)) ident (kept_as ident base) tt
    changed_keeps Adelete ident = deleted_keeps (Ok (base, PassedOver)) ident (kept_as ident base) refl

    ident_keeps : (kind : Kind) (ident : Result (List ℕ) IdentFault) → KeepsName base (with_ident c kind file nth bytes base ident)
    ident_keeps kind (Ok ident) = changed_keeps kind ident
    ident_keeps kind (Err fault) = tt

    record_keeps : (kind : Kind) (fault : Option MarcFault) → KeepsName base (with_record c kind file nth bytes base fault)
    record_keeps kind (Some fault) = tt
    record_keeps kind None = ident_keeps kind (ident_in c.profile bytes)

    one_keeps : (kind : Kind) → KeepsName base (changed_record c kind file nth bytes base)
    unfolding changed_record
    one_keeps kind = record_keeps kind (first_fault bytes)

pub counted_in : (base : Base) (p : Progress) (fate : Fate) → (counted base p fate).base ≡ base
counted_in base p Inserted = refl
counted_in base p _ = refl

module _ (c : Conditions) (kind : Kind) where
  folded_leaves : (file nth : ℕ) (bytes : List ℕ) (p : Progress) → LeavesName p.base (record_folded c kind file nth bytes p)
  unfolding record_folded
  folded_leaves file nth bytes p = from (nat_le c.limits.records p.taken)
    where
      from : (full : Bool) → LeavesName p.base (if full then Err too_many_records else changed_record c kind file nth bytes p.base then λ changed. Ok (counted changed.0 p changed.1))
      from true = tt
      from false = then_if (λ (changed : Changed). changed.0.name ≡ p.base.name) (λ (q : Progress). q.base.name ≡ p.base.name) (changed_record c kind file nth bytes p.base) (λ changed. Ok (counted changed.0 p changed.1))
          (one_keeps c bytes p.base file nth kind) (λ changed is. ap (λ (b : Base). b.name) (counted_in changed.0 p changed.1) ∙ is)

  end_leaves : (file nth : ℕ) (last : Option MarcFault) (p : Progress) → LeavesName p.base (at_end file nth last p)
  end_leaves file nth None p = refl
  end_leaves file nth (Some fault) p = tt

  -- the name after two steps
  further : (base : Base) (p : Progress) (said : Result Progress Why) → p.base.name ≡ base.name → LeavesName p.base said → LeavesName base said
  further base p (Ok q) is more = more ∙ is
  further base p (Err why) is more = tt

  slices_leave : (file nth : ℕ) (slices : List (List ℕ)) (last : Option MarcFault) (p : Progress) → LeavesName p.base (slices_folded c kind file nth slices last p)
  slices_leave file nth [] last p = end_leaves file nth last p
  slices_leave file nth (slice ∷ slices) last p =
      then_if (λ (q : Progress). q.base.name ≡ p.base.name) (λ (q : Progress). q.base.name ≡ p.base.name) (record_folded c kind file nth slice p) (slices_folded c kind file (nth + 1) slices last)
      (folded_leaves file nth slice p) (λ q is. further p.base q (slices_folded c kind file (nth + 1) slices last q) is (slices_leave file (nth + 1) slices last q))

  file_leaves : (file : ℕ) (split : Split) (p : Progress) → LeavesName p.base (file_folded c kind file split p)
  unfolding file_folded
  file_leaves file split p = slices_leave file 1 split.slices split.fault p

  files_leave : (file : ℕ) (splits : List Split) (p : Progress) → LeavesName p.base (files_folded c kind file splits p)
  files_leave file [] p = refl
  files_leave file (split ∷ splits) p =
      then_if (λ (q : Progress). q.base.name ≡ p.base.name) (λ (q : Progress). q.base.name ≡ p.base.name) (file_folded c kind file split p) (files_folded c kind (file + 1) splits)
      (file_leaves file split p) (λ q is. further p.base q (files_folded c kind (file + 1) splits q) is (files_leave (file + 1) splits q))

  pub files_named : (file : ℕ) (splits : List Split) (p q : Progress) → files_folded c kind file splits p ≡ Ok q → q.base.name ≡ p.base.name
  files_named file splits p q is = subst (LeavesName p.base) is (files_leave file splits p)
