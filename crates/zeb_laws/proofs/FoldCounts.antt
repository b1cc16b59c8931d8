-- What a change does to a database, record by record, and so what its counts say.
use Rattle.zeb_laws.proofs.Cited.{◌≡◌, ◌≢◌, ℕ, ◌+◌, ◌≤◌, Bool, true, false, cond, List, [], ◌∷◌, length, Option, Some, None, Result, Ok, Err, nat_le, refl, sym, ap, subst, arith, sum_by-cons, MarcFault, Split, IdentFault, Kind, Update, Delete, Adelete, Fate, Inserted, Updated, Deleted, PassedOver, Why, database_full, too_many_records, unknown, Conditions, FoldsTo, records_in, Changed, Progress, at_end, at_first, changed_by, counted, deleted, files_folded, ident_in, slices_folded, updated, with_ident, with_record, ◌then◌, Base, Kept, kept_as, with_new, with_bytes, without_ident, first_fault}
use Rattle.zeb_change.specs.Folding.{changed_record, file_folded, record_folded}

-- ---- one record

-- what a record did to a database
pub data DidTo (kind : Kind) (base : Base) (changed : Changed) : Type 0 where
  added : (ident bytes : List ℕ) → kind ≡ Update → kept_as ident base ≡ None → changed ≡ (with_new ident bytes base, Inserted) → DidTo kind base changed
  renewed : (ident bytes : List ℕ) → kind ≡ Update → changed ≡ (with_bytes ident bytes base, Updated) → DidTo kind base changed
  removed : (ident : List ℕ) (elder : Kept) → kind ≢ Update → kept_as ident base ≡ Some elder → changed ≡ (without_ident ident base, Deleted) → DidTo kind base changed
  passed : kind ≡ Adelete → changed ≡ (base, PassedOver) → DidTo kind base changed

updated_did : (c : Conditions) (ident bytes : List ℕ) (base : Base) (changed : Changed) (elder : Option Kept) → kept_as ident base ≡ elder → updated c ident bytes base elder ≡ Ok changed → DidTo Update base changed
updated_did c ident bytes base changed (Some kept) found is = renewed ident bytes refl cc
updated_did c ident bytes base changed None none is = go (nat_le c.limits.numbers base.last) is
  where
    go : (full : Bool) → cond {A = Result Changed Why} full (Err database_full) (Ok (with_new ident bytes base, Inserted)) ≡ Ok changed → DidTo Update base changed
    go true h = cc
    go false h = added ident bytes refl none cc

deleted_did : (kind : Kind) (absent : Result Changed Why) (ident : List ℕ) (base : Base) (changed : Changed) (elder : Option Kept) → kind ≢ Update → kept_as ident base ≡ elder
    → (absent ≡ Ok changed → DidTo kind base changed) → deleted absent ident base elder ≡ Ok changed → DidTo kind base changed
deleted_did kind absent ident base changed (Some kept) other found passes is = removed ident kept other found cc
deleted_did kind absent ident base changed None other none passes is = passes is

module _ (c : Conditions) (file nth : ℕ) (bytes : List ℕ) (base : Base) (changed : Changed) where
  by_kind : (kind : Kind) (ident : List ℕ) → changed_by c kind file nth bytes ident base ≡ Ok changed → DidTo kind base changed
  by_kind Update ident is = updated_did c ident bytes base changed (kept_as ident base) refl is
  by_kind Delete ident is = deleted_did Delete (Err (unknown file nth)) ident base changed (kept_as ident base) (λ same. cc) refl (λ h. cc) is
  by_kind Adelete ident is = deleted_did Adelete (Ok (base, PassedOver)) ident base changed (kept_as ident base) (λ same. cc) refl (λ h. passed refl cc) is

  by_ident : (kind : Kind) (said : Result (List ℕ) IdentFault) → with_ident c kind file nth bytes base said ≡ Ok changed → DidTo kind base changed
  by_ident kind (Ok ident) is = by_kind kind ident is
  by_ident kind (Err fault) is = cc

  by_fault : (kind : Kind) (fault : Option MarcFault) → with_record c kind file nth bytes base fault ≡ Ok changed → DidTo kind base changed
  by_fault kind (Some fault) is = cc
  by_fault kind None is = by_ident kind (ident_in c.profile bytes) is

  pub record_did : (kind : Kind) → changed_record c kind file nth bytes base ≡ Ok changed → DidTo kind base changed
  unfolding changed_record
  record_did kind is = by_fault kind (first_fault bytes) is

-- ---- files

pub then_ok : {A B : Type 0} (said : Result A Why) (f : A → Result B Why) (b : B) → (said then f) ≡ Ok b → (a : A) × (said ≡ Ok a) × (f a ≡ Ok b)
then_ok (Ok a) f b is = (a, refl, is)
then_ok (Err why) f b is = cc

folded_did : (c : Conditions) (kind : Kind) (file nth : ℕ) (bytes : List ℕ) (p q : Progress) → record_folded c kind file nth bytes p ≡ Ok q → (changed : Changed) × DidTo kind p.base changed × (q ≡ counted changed.0 p changed.1)
unfolding record_folded
folded_did c kind file nth bytes p q is = go (nat_le c.limits.records p.taken) is
  where
    go : (full : Bool) → cond {A = Result Progress Why} full (Err too_many_records) (changed_record c kind file nth bytes p.base then λ changed. Ok (counted changed.0 p changed.1)) ≡ Ok q
        → (changed : Changed) × DidTo kind p.base changed × (q ≡ counted changed.0 p changed.1)
    go true h = cc
    go false h =
        let it = then_ok (changed_record c kind file nth bytes p.base) (λ changed. Ok (counted changed.0 p changed.1)) q h in
        (it.0, record_did c file nth bytes p.base it.0 kind it.1, cc it.2)

pub ends_still : (file nth : ℕ) (last : Option MarcFault) (p q : Progress) → at_end file nth last p ≡ Ok q → q ≡ p
ends_still file nth None p q is = cc
ends_still file nth (Some fault) p q is = cc

-- what each record keeps true stays true of all files
module _ (c : Conditions) (kind : Kind) (P : Progress → Type 0) (step : (p : Progress) (changed : Changed) → DidTo kind p.base changed → P p → P (counted changed.0 p changed.1)) where
  slices_keep : (file nth : ℕ) (slices : List (List ℕ)) (last : Option MarcFault) (p q : Progress) → slices_folded c kind file nth slices last p ≡ Ok q → P p → P q
  slices_keep file nth [] last p q is format = subst P (sym (ends_still file nth last p q is)) format
  slices_keep file nth (slice ∷ slices) last p q is format =
      let it = then_ok (record_folded c kind file nth slice p) (slices_folded c kind file (nth + 1) slices last) q is in
      let one = folded_did c kind file nth slice p it.0 it.1 in
      slices_keep file (nth + 1) slices last it.0 q it.2 (subst P (sym one.2) (step p one.0 one.1 format))

  file_keeps : (file : ℕ) (split : Split) (p q : Progress) → file_folded c kind file split p ≡ Ok q → P p → P q
  unfolding file_folded
  file_keeps file split p q is format = slices_keep file 1 split.slices split.fault p q is format

  pub files_keep : (file : ℕ) (files : List Split) (p q : Progress) → files_folded c kind file files p ≡ Ok q → P p → P q
  files_keep file [] p q is format = let same : q ≡ p = cc in subst P (sym same) format
  files_keep file (split ∷ splits) p q is format =
      let it = then_ok (file_folded c kind file split p) (files_folded c kind (file + 1) splits) q is in
      files_keep (file + 1) splits it.0 q it.2 (file_keeps file split p it.0 it.1 format)

-- ---- how many are taken

one_more : (base : Base) (p : Progress) (fate : Fate) → (counted base p fate).taken ≡ p.taken + 1
one_more base p Inserted = refl
one_more base p _ = refl

module _ (c : Conditions) (kind : Kind) where
  slices_taken : (file nth : ℕ) (slices : List (List ℕ)) (last : Option MarcFault) (p q : Progress) → slices_folded c kind file nth slices last p ≡ Ok q → q.taken ≡ p.taken + length slices
  slices_taken file nth [] last p q is = omega (arith, ap (λ (r : Progress). r.taken) (ends_still file nth last p q is))
  slices_taken file nth (slice ∷ slices) last p q is =
      let it = then_ok (record_folded c kind file nth slice p) (slices_folded c kind file (nth + 1) slices last) q is in
      let one = folded_did c kind file nth slice p it.0 it.1 in
      omega (arith, slices_taken file (nth + 1) slices last it.0 q it.2, ap (λ (r : Progress). r.taken) one.2, one_more one.0.0 p one.0.1)

  file_taken : (file : ℕ) (split : Split) (p q : Progress) → file_folded c kind file split p ≡ Ok q → q.taken ≡ p.taken + length split.slices
  unfolding file_folded
  file_taken file split p q is = slices_taken file 1 split.slices split.fault p q is

  files_taken : (file : ℕ) (files : List Split) (p q : Progress) → files_folded c kind file files p ≡ Ok q → q.taken ≡ p.taken + records_in files
  files_taken file [] p q is = let same : q ≡ p = cc in omega (arith, ap (λ (r : Progress). r.taken) same)
  files_taken file (split ∷ splits) p q is =
      let it = then_ok (file_folded c kind file split p) (files_folded c kind (file + 1) splits) q is in
      omega (arith, file_taken file split p it.0 it.1, files_taken (file + 1) splits it.0 q it.2, sum_by-cons (λ (f : Split). length f.slices) split splits)

  pub all_taken : (files : List Split) (base : Base) (p : Progress) → FoldsTo c kind files base p → p.taken ≡ records_in files
  all_taken files base p is = omega (arith, files_taken 1 files (at_first base) p is)

-- ---- how many are told, and the last number

pub record Counts (kind : Kind) (base : Base) (p : Progress) : Type 0 where
  pub last : p.base.last ≡ base.last + p.inserted
  pub told : p.inserted + p.updated + p.deleted ≤ p.taken
  pub each : kind ≢ Adelete → p.inserted + p.updated + p.deleted ≡ p.taken

module _ (kind : Kind) (base : Base) (p : Progress) (so : Counts kind base p) where
  count_step : (changed : Changed) → DidTo kind p.base changed → Counts kind base (counted changed.0 p changed.1)
  count_step changed (added ident bytes update none is) = subst (λ (ch : Changed). Counts kind base (counted ch.0 p ch.1)) (sym is) (record {
    last = omega (arith, so.last);
    told = omega (arith, so.told);
    each = λ other. omega (arith, so.each other);
  })
  count_step changed (renewed ident bytes update is) = subst (λ (ch : Changed). Counts kind base (counted ch.0 p ch.1)) (sym is) (record {
    last = so.last;
    told = omega (arith, so.told);
    each = λ other. omega (arith, so.each other);
  })
  count_step changed (removed ident elder other found is) = subst (λ (ch : Changed). Counts kind base (counted ch.0 p ch.1)) (sym is) (record {
    last = so.last;
    told = omega (arith, so.told);
    each = λ other. omega (arith, so.each other);
  })
  count_step changed (passed lenient is) = subst (λ (ch : Changed). Counts kind base (counted ch.0 p ch.1)) (sym is) (record {
    last = so.last;
    told = omega (arith, so.told);
    each = λ other. absurd (other lenient);
  })

pub all_counted : (c : Conditions) (kind : Kind) (files : List Split) (base : Base) (p : Progress) → FoldsTo c kind files base p → Counts kind base p
all_counted c kind files base p is = files_keep c kind (Counts kind base) (λ q changed did so. count_step kind base q so changed did) 1 files (at_first base) p is
    (record { last = omega arith; told = omega arith; each = λ other. refl })
