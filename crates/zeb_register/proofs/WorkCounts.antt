-- Work that changes count adds up: nothing is counted of none, and what two count is what both do.
use Rattle.zeb_register.proofs.Cited.{◌≡◌, ◌⊎◌, ◌∙◌, ◌+◌, ◌<◌, ◌≤◌, ℕ, length, refl, sym, ap, subst, inl, inr, arith, Trees, blocks_tree, Format, packed_blocks, packed_leaves, plain_rows, Rises, ◌*◌, ◌-◌, ◌^◌, AreInRange, RisesWithin, Works, WorksOnLeaves, works_for}
use Rattle.std.proofs.Math.Nat.{mul-add, mul-zero}
use Rattle.zeb_register.proofs.CountLemmas.{rises_then}
use Rattle.zeb_register.specs.declared.registers.Work.{Work}

-- ---- rows

abbrev RowWorks : (row_work n : ℕ) (old new : Work) → Type 0
RowWorks w n old new = Works (w * n) (w * n) (w * n) (w * n) old new

no_rows : (w : ℕ) (work : Work) → RowWorks w 0 work work
no_rows w work = record { reads_terms = still _; writes_terms = still _; reads_blocks = still _; writes_blocks = still _ }
  where
    still : (n : ℕ) → Rises (w * 0) n n
    still n = inl (omega (arith, mul-zero w))

both_rows : (w a b : ℕ) (old mid new : Work) → AreInRange new → RowWorks w a old mid → RowWorks w b mid new → RowWorks w (a + b) old new
both_rows w a b old mid new are one two = record {
  reads_terms = rises old.dict_read mid.dict_read new.dict_read are.dict_read one.reads_terms two.reads_terms;
  writes_terms = rises old.dict_written mid.dict_written new.dict_written are.dict_written one.writes_terms two.writes_terms;
  reads_blocks = rises old.block_read mid.block_read new.block_read are.block_read one.reads_blocks two.reads_blocks;
  writes_blocks = rises old.block_written mid.block_written new.block_written are.block_written one.writes_blocks two.writes_blocks;
}
  where
    rises : (x y z : ℕ) → z < 2 ^ 64 → Rises (w * a) x y → Rises (w * b) y z → Rises (w * (a + b)) x z
    rises x y z below first then = subst (λ n. Rises n x z) (sym (mul-add w a b)) (rises_then (w * a) (w * b) x y z below first then)

-- ---- leaves

-- any number of changes may leave the leaves as they are
pub leaves_still : (n : ℕ) (old new : Trees) (work : Work) → new blocks_tree ≡ old blocks_tree → WorksOnLeaves n old new work work
leaves_still n old new work same = record {
  reads_terms = refl;
  writes_terms = refl;
  reads_leaves = (0, omega arith, inl (omega arith));
  more = 0;
  comes = omega (arith, ap length same);
  writes_leaves = (0, omega arith, inl (omega arith));
  unwritten = λ none. inr same;
}

within_then : (a b x y z : ℕ) → z < 2 ^ 64 → RisesWithin a x y → RisesWithin b y z → RisesWithin (a + b) x z
within_then a b x y z below one two = (one.0 + two.0, omega (arith, one.1, two.1), rises_then one.0 two.0 x y z below one.2 two.2)

-- where a count is in the end what it was, it stood still, or at its greatest value
stood : (a b x y z : ℕ) → z < 2 ^ 64 → Rises a x y → Rises b y z → z ≡ x → ((y ≡ x) × (z ≡ y)) ⊎ (x ≡ 2 ^ 64 - 1)
stood a b x y z below (inl one) (inl two) same = inl (omega (arith, one, two, same), omega (arith, one, two, same))
stood a b x y z below (inl one) (inr two) same = inr (omega (arith, two.1, same))
stood a b x y z below (inr one) (inl two) same = inr (omega (arith, one.1, two, same, below))
stood a b x y z below (inr one) (inr two) same = inr (omega (arith, two.1, same))

pub both_leaves : (a b : ℕ) (old mid new : Trees) (was then is : Work) → AreInRange is → WorksOnLeaves a old mid was then → WorksOnLeaves b mid new then is → WorksOnLeaves (a + b) old new was is
both_leaves a b old mid new was then is are one two = record {
  reads_terms = two.reads_terms ∙ one.reads_terms;
  writes_terms = two.writes_terms ∙ one.writes_terms;
  reads_leaves = within_then a b was.block_read then.block_read is.block_read are.block_read one.reads_leaves two.reads_leaves;
  more = one.more + two.more;
  comes = omega (arith, one.comes, two.comes);
  writes_leaves =
      let both = within_then (a + one.more) (b + two.more) was.block_written then.block_written is.block_written are.block_written one.writes_leaves two.writes_leaves in
      (both.0, omega (arith, both.1), both.2);
  unwritten = λ none. elim (stood one.writes_leaves.0 two.writes_leaves.0 was.block_written then.block_written is.block_written are.block_written one.writes_leaves.2 two.writes_leaves.2 none) [
    | inr most ↦ inl most
    | inl still ↦ elim (one.unwritten still.0) [
      | inl most ↦ inl most
      | inr first ↦ elim (two.unwritten still.1) [ inl most ↦ inl (sym still.0 ∙ most) | inr second ↦ inr (second ∙ first) ]
    ]
  ];
}

-- what some changes count at most, more of them do
pub more_leaves : (a b : ℕ) (old new : Trees) (was is : Work) → a ≤ b → WorksOnLeaves a old new was is → WorksOnLeaves b old new was is
more_leaves a b old new was is few works = record {
  reads_terms = works.reads_terms;
  writes_terms = works.writes_terms;
  reads_leaves = (works.reads_leaves.0, omega (arith, works.reads_leaves.1, few), works.reads_leaves.2);
  more = works.more;
  comes = works.comes;
  writes_leaves = (works.writes_leaves.0, omega (arith, works.writes_leaves.1, few), works.writes_leaves.2);
  unwritten = works.unwritten;
}

-- ---- in each format

pub works_none : (format : Format) (row_work : ℕ) (old new : Trees) (work : Work) → new blocks_tree ≡ old blocks_tree → works_for format row_work 0 old new work work
works_none plain_rows row_work old new work same = no_rows row_work work
works_none packed_blocks row_work old new work same = no_rows row_work work
works_none packed_leaves row_work old new work same = leaves_still 0 old new work same

pub works_both : (format : Format) (row_work a b : ℕ) (old mid new : Trees) (was then is : Work) → AreInRange is
    → works_for format row_work a old mid was then → works_for format row_work b mid new then is → works_for format row_work (a + b) old new was is
works_both plain_rows row_work a b old mid new was then is are one two = both_rows row_work a b was then is are one two
works_both packed_blocks row_work a b old mid new was then is are one two = both_rows row_work a b was then is are one two
works_both packed_leaves row_work a b old mid new was then is are one two = both_leaves a b old mid new was then is are one two
