-- What holds of a database before and after each record of a change, and joins, holds of all slices of its files.
use Rattle.zeb_laws.proofs.Cited.{◌≡◌, ℕ, ◌+◌, Bool, true, false, cond, List, [], ◌∷◌, ◌++◌, Option, Result, Ok, Err, nat_le, sym, subst, MarcFault, Split, Kind, Why, too_many_records, Conditions, FoldsTo, Changed, Progress, at_first, counted, files_folded, slices_folded, ◌then◌, Base, slices_in, counted_in}
use Rattle.zeb_change.specs.Folding.{changed_record, file_folded, record_folded}
use Rattle.zeb_laws.proofs.FoldCounts.{then_ok, ends_still}

module _ (c : Conditions) (kind : Kind) (R : List (List ℕ) → Base → Base → Type 0) (none : (base : Base) → R [] base base)
    (one : (file nth : ℕ) (slice : List ℕ) (base : Base) (changed : Changed) → changed_record c kind file nth slice base ≡ Ok changed → R (slice ∷ []) base changed.0)
    (join : (xs ys : List (List ℕ)) (a b d : Base) → R xs a b → R ys b d → R (xs ++ ys) a d) where
  folded_one : (file nth : ℕ) (slice : List ℕ) (p q : Progress) → record_folded c kind file nth slice p ≡ Ok q → R (slice ∷ []) p.base q.base
  unfolding record_folded
  folded_one file nth slice p q is = go (nat_le c.limits.records p.taken) is
    where
      go : (full : Bool) → cond {A = Result Progress Why} full (Err too_many_records) (changed_record c kind file nth slice p.base then λ changed. Ok (counted changed.0 p changed.1)) ≡ Ok q
          → R (slice ∷ []) p.base q.base
      go true h = cc
      go false h =
          let it = then_ok (changed_record c kind file nth slice p.base) (λ changed. Ok (counted changed.0 p changed.1)) q h in
          let same : counted it.0.0 p it.0.1 ≡ q = cc in
          subst (λ (r : Progress). R (slice ∷ []) p.base r.base) same
          (subst (R (slice ∷ []) p.base) (sym (counted_in it.0.0 p it.0.1)) (one file nth slice p.base it.0 it.1))

  folded_slices : (file nth : ℕ) (slices : List (List ℕ)) (last : Option MarcFault) (p q : Progress) → slices_folded c kind file nth slices last p ≡ Ok q → R slices p.base q.base
  folded_slices file nth [] last p q is = subst (λ (r : Progress). R [] p.base r.base) (sym (ends_still file nth last p q is)) (none p.base)
  folded_slices file nth (slice ∷ slices) last p q is =
      let it = then_ok (record_folded c kind file nth slice p) (slices_folded c kind file (nth + 1) slices last) q is in
      join (slice ∷ []) slices p.base it.0.base q.base (folded_one file nth slice p it.0 it.1) (folded_slices file (nth + 1) slices last it.0 q it.2)

  folded_file : (file : ℕ) (split : Split) (p q : Progress) → file_folded c kind file split p ≡ Ok q → R split.slices p.base q.base
  unfolding file_folded
  folded_file file split p q is = folded_slices file 1 split.slices split.fault p q is

  folded_files : (file : ℕ) (files : List Split) (p q : Progress) → files_folded c kind file files p ≡ Ok q → R (slices_in files) p.base q.base
  folded_files file [] p q is = let same : q ≡ p = cc in subst (λ (r : Progress). R [] p.base r.base) (sym same) (none p.base)
  folded_files file (split ∷ splits) p q is =
      let it = then_ok (file_folded c kind file split p) (files_folded c kind (file + 1) splits) q is in
      join split.slices (slices_in splits) p.base it.0.base q.base (folded_file file split p it.0 it.1) (folded_files (file + 1) splits it.0 q it.2)

  pub all_folded : (files : List Split) (base : Base) (p : Progress) → FoldsTo c kind files base p → R (slices_in files) base p.base
  all_folded files base p is = folded_files 1 files (at_first base) p is
