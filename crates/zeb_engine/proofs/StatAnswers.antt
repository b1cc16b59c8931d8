-- What a stat answers: lists of pairs, one register after the other.
use Rattle.zeb_engine.proofs.Cited.{◌↔◌, ◌++◌, ℕ, List, [], ◌∷◌, map, Directive, Occurrence, totals_as, Holding, Extent, extent_of, IsExtent, Paired, Target}

-- ---- lists of pairs

pub paired_more : {X Y : Type 0} (P : X → Y → Type 0) (xs : List X) (ys : List Y) (x : X) (y : Y) → Paired P xs ys → P x y → Paired P (xs ++ x ∷ []) (ys ++ y ∷ [])
paired_more P [] [] x y all last = (last, tt)
paired_more P [] (b ∷ ys) x y all last = absurd all
paired_more P (a ∷ xs) [] x y all last = absurd all
paired_more P (a ∷ xs) (b ∷ ys) x y all last = (all.0, paired_more P xs ys x y all.1 last)

-- what is said of the holdings is said of their extents
pub extents_told : (P : Target → Extent → Type 0) (targets : List Target) (holdings : List Holding) → Paired (λ target holding. P target (extent_of holding)) targets holdings → Paired P targets (map extent_of holdings)
extents_told P [] [] all = tt
extents_told P [] (h ∷ holdings) all = absurd all
extents_told P (t ∷ targets) [] all = absurd all
extents_told P (t ∷ targets) (h ∷ holdings) all = (all.0, extents_told P targets holdings all.1)

-- what is said of each pair
pub paired_so : {X Y : Type 0} (P Q : X → Y → Type 0) → ((x : X) (y : Y) → P x y → Q x y) → (xs : List X) (ys : List Y) → Paired P xs ys → Paired Q xs ys
paired_so P Q so [] [] all = tt
paired_so P Q so [] (y ∷ ys) all = absurd all
paired_so P Q so (x ∷ xs) [] all = absurd all
paired_so P Q so (x ∷ xs) (y ∷ ys) all = (so x y all.0, paired_so P Q so xs ys all.1)

-- ---- sets of the same occurrences

module _ (O P : ℕ → Occurrence → Type 0) (same : (n : ℕ) (o : Occurrence) → O n o ↔ P n o) (profile : List Directive) where
  pub extent_as : (target : Target) (extent : Extent) → IsExtent O profile target extent → IsExtent P profile target extent
  extent_as target extent is = record {
    under = is.under;
    totals = totals_as O P same target.0 target.1 (record { terms = extent.terms; occurrences = extent.occurrences }) is.totals;
  }
