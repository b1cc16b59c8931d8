-- Work that is counted for a run of keys, and keys of a run that are left.
use Rattle.zeb_register.proofs.Cited.{◌≡◌, ◌+◌, ◌≤◌, ℕ, zero, suc, List, [], ◌∷◌, drop, length, ap, refl, subst, arith, Trees, blocks_tree, Format, changes_in, AreInRange, works_for, KeyChanges}
use Rattle.zeb_register.proofs.WorkCounts.{works_both, works_none}
use Rattle.zeb_register.specs.declared.registers.Work.{Work}

pub none_run : (i : ℕ) (run : List KeyChanges) → length run ≤ i → drop i run ≡ []
none_run zero [] all = refl
none_run zero (x ∷ run) all = absurd (omega (arith, all))
none_run (suc i) [] all = refl
none_run (suc i) (x ∷ run) all = none_run i run (omega (arith, all))

-- the changes of the keys before this one are counted
pub record WorksSoFar (format : Format) (row_work : ℕ) (run : List KeyChanges) (i : ℕ) (old new : Trees) (was is : Work) : Type 0 where
  pub done : ℕ
  pub all : done + changes_in (drop i run) ≡ changes_in run
  pub works : works_for format row_work done old new was is

module _ (format : Format) (w : ℕ) (run : List KeyChanges) where
  pub work_begun : (old new : Trees) (work : Work) → new blocks_tree ≡ old blocks_tree → WorksSoFar format w run 0 old new work work
  work_begun old new work same = record { done = 0; all = omega arith; works = works_none format w old new work same }

  pub work_more : (i : ℕ) (x : KeyChanges) (old mid new : Trees) (was then is : Work) → drop i run ≡ x ∷ drop (suc i) run → AreInRange is → WorksSoFar format w run i old mid was then
      → works_for format w (length x.changes.now) mid new then is → WorksSoFar format w run (i + 1) old new was is
  work_more i x old mid new was then is at are so_far one = record {
    done = so_far.done + length x.changes.now;
    all = let more : suc i ≡ i + 1 = omega arith in subst (λ n. so_far.done + length x.changes.now + changes_in (drop n run) ≡ changes_in run) more (omega (arith, so_far.all, ap changes_in at));
    works = works_both format w so_far.done (length x.changes.now) old mid new was then is are so_far.works one;
  }

  pub work_all : (i : ℕ) (old new : Trees) (was is : Work) → drop i run ≡ [] → WorksSoFar format w run i old new was is → works_for format w (changes_in run) old new was is
  work_all i old new was is none so_far =
      let all : so_far.done ≡ changes_in run = omega (arith, so_far.all, ap changes_in none) in
      subst (λ n. works_for format w n old new was is) all so_far.works
