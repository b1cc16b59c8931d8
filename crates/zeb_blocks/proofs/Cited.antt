-- What this crate's proofs cite of std, of the kit, of the crates below and of its own specs, passed on from one place. Declares nothing.
pub use Rattle.std.proofs.Common.{◌≡◌, ◌≢◌, ℕ, zero, suc, ◌+◌, ◌*◌, ◌/◌, ◌%◌, ◌^◌, ◌<◌, ◌≤◌, List, [], ◌∷◌, ◌++◌, length, refl, sym, ◌∙◌, ap, inl, inr, arith, subst, Less, ◌-◌, Equal, lit<, lit≤, rules, take, drop, slice_index_or}
pub use Rattle.std.proofs.Math.Nat.{mul-add, mul_assoc, mul-le-mul_left, mul-le-mul_right}
pub use Rattle.std.proofs.Math.Seq.{take-suc}
pub use Rattle.std.proofs.lemmas.Bool.{cases_lt, lt-ltb, le-ltb, cases_eq, ne_eqb}
pub use Rattle.std.proofs.lemmas.Grind.{common_steps}
pub use Rattle.std.proofs.lemmas.List.{append_assoc, append-nil, length-append, take-append-drop}
pub use Rattle.std.proofs.lemmas.Result.{on_ok_weaker}
pub use Rattle.std.specs.List.{AllByRecursion}
pub use Rattle.zeb_blocks.specs.Blocks.{gaps_of, IsNumbered, LiesIn, start_of, BlockSpells}
pub use Rattle.zeb_blocks.specs.Left.{Follows, EachFollows, SpellsFrom, last_from, gaps_at, posting_after}
pub use Rattle.zeb_blocks.specs.Order.{posting_cmp}
pub use Rattle.zeb_blocks.specs.Worked.{at, ten_bytes}
pub use Rattle.zeb_blocks.specs.Writing.{IsWritten}
pub use Rattle.zeb_blocks.specs.declared.gaps.Gaps.{Gaps}
pub use Rattle.zeb_blocks.specs.declared.postings.Posting.{Posting}
