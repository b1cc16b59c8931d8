-- What this crate's proofs cite of std, of the crate below and of its own specs, passed on from one place. Declares nothing.
pub use Rattle.std.proofs.Common.{◌≡◌, ◌≢◌, ℕ, zero, suc, ◌+◌, ◌-◌, ◌*◌, ◌/◌, ◌%◌, ◌^◌, ◌<◌, ◌≤◌, ◌⊎◌, List, [], ◌∷◌, ◌++◌, length, take, drop, refl, sym, ◌∙◌, ap, subst, inl, inr, arith, rules, Less, Equal, Greater, true, false, Some, None, Ok, Err, slice_index_or, lit<, lit≤}
pub use Rattle.std.proofs.Math.Seq.{take-append_seam, drop-append_seam, take-suc, take-nil, drop-cons}
pub use Rattle.std.proofs.lemmas.Bool.{cases_lt, lt-ltb, le-ltb, cases_eq, ne_eqb, eq-eqb}
pub use Rattle.std.proofs.lemmas.Grind.{common_steps}
pub use Rattle.std.proofs.lemmas.List.{append_assoc, append-nil, length-append, length-drop, take-append-drop, length-take-le, get_or_past, take_rest}
pub use Rattle.std.proofs.lemmas.List.Elements.{All-contains, All-from_recursion, Contains-append_left, Contains-append_right, Contains-push_cases, Contains-append_cases}
pub use Rattle.std.proofs.lemmas.Str.{IsUtf8-from_is_utf8, is_utf8-from_IsUtf8, IsUtf8-append, IsUtf8-take, IsUtf8-from_ascii, IsCharBoundary-before_ascii}
pub use Rattle.std.specs.Cmp.Lexicographic.{slice_cmp}
pub use Rattle.std.specs.List.{AllByRecursion}
pub use Rattle.std.specs.Ordering.{nat_cmp, ordering_then, ordering_reverse}
pub use Rattle.std.specs.Prelude.{IsUtf8, Contains, sum_by, slice_index, ◌↔◌, Option, min, nat_eq, replicate, Result, MatchOption, OnOk, is_ok, cond}
pub use Rattle.std.specs.Str.{IsCharBoundary, IsAscii}
pub use Rattle.std.specs.declared.cmp.Ordering.{Ordering}
pub use Rattle.zeb_blocks.proofs.Bytes.{uleb-low, begins_none, length-uleb, uleb-high, groups-one, groups-high}
pub use Rattle.zeb_leaf.specs.Answers.{Answers, entry_of, IsTold}
pub use Rattle.zeb_leaf.specs.Cuts.{AreCut, bytes_above, TakesMore, BeginsAt, IsCutOff}
pub use Rattle.zeb_leaf.specs.Leaves.{shared_of, leaf_bytes, IsLeaf}
pub use Rattle.zeb_leaf.specs.Merging.{puts, AreMerged, IsOf, IsPut, IsTouched, change_cmp, entry_with}
pub use Rattle.zeb_leaf.specs.Order.{IsEntry, entry_cmp}
pub use Rattle.zeb_leaf.specs.PrivateMerging.{IsRestBehind, Merges, MovesBelow, ArePartedAt, Begins}
pub use Rattle.zeb_leaf.specs.PrivateTold.{Parts, parts_told, AreSmall, Rises, Fit, entry_told, IsOnSide, TakesIfInSpan, IsOutside}
pub use Rattle.zeb_leaf.specs.Spans.{AreInSpan, IsInSpan, key_cmp}
pub use Rattle.zeb_leaf.specs.Walks.{Place, first_place, behind_entry, last_place, Follows, Walk, Steps, IsStuck, Draft, draft_of}
pub use Rattle.zeb_leaf.specs.declared.entries.Entry.{Entry}
pub use Rattle.zeb_leaf.specs.declared.entries.Held.{Held}
pub use Rattle.zeb_leaf.specs.declared.merging.BlockChange.{BlockChange}
