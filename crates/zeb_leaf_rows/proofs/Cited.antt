-- What this crate's proofs cite of std, of the kit, of the crates below and of its own specs, passed on from one place. Declares nothing.
pub use Rattle.sqlite.specs.Order.{Row, column, row_cmp}
pub use Rattle.sqlite.specs.Held.{state}
pub use Rattle.sqlite.specs.State.{HasCleanDisk, Shown, State}
pub use Rattle.sqlite.specs.Tree.{Trees}
pub use Rattle.sqlite.specs.declared.types.Value.TheVariants.{Blob, Int, Text}
pub use Rattle.sqlite_rules.proofs.ListLemmas.{all_has}
pub use Rattle.sqlite_rules.specs.Lists.{Has}
pub use Rattle.sqlite_value.proofs.OrderLemmas.{value_cmp-Int, value_cmp-Text}
pub use Rattle.std.proofs.Common.{◌≡◌, ◌≢◌, ◌∙◌, ◌⊎◌, ◌+◌, ◌<◌, ◌≤◌, ◌++◌, ◌∷◌, ℕ, ℤ, pos, codes, true, false, Ok, Err, Result, Some, None, Option, List, [], length, map, drop, refl, sym, ap, subst, inl, inr, arith, rules, Ordering, Less, Equal, Greater, nat_cmp}
pub use Rattle.std.proofs.Math.Facts.{to_z-of_z}
pub use Rattle.std.proofs.lemmas.Cmp.{tied_itself}
pub use Rattle.std.proofs.lemmas.List.{length-map}
pub use Rattle.std.specs.Cmp.Lexicographic.{nat_list_cmp_total, slice_cmp}
pub use Rattle.std.specs.Ordering.{ordering_then}
pub use Rattle.zeb_keys.specs.Registers.{register_code}
pub use Rattle.zeb_keys.specs.declared.Register.{Register}
pub use Rattle.zeb_register.specs.Covering.{Covers, IsUpTo, leaf_key, own_key}
pub use Rattle.zeb_register.specs.LeafUnits.{IsLeafOf}
pub use Rattle.zeb_leaf_rows.specs.LeafRows.{HasBlockFrom, IsLastOf, IsLeafAt, IsLeafIn, IsUncovered, ShowsSome}
pub use Rattle.zeb_leaf_rows.specs.PrivateLeafRows.{IsCovering, IsFirst, IsGreatest, ShowsFirst, ShowsGreatest}
pub use Rattle.zeb_register.proofs.ContentLemmas.{ints_order}
pub use Rattle.zeb_register.proofs.CountLemmas.{is_less, less_is}
pub use Rattle.zeb_register.specs.Occurring.{key_in}
pub use Rattle.zeb_register.specs.PlainRows.{register_front}
pub use Rattle.zeb_register.specs.Store.{IsRest, IsStore, blocks_tree}
pub use Rattle.zeb_register.specs.Tables.{store_schema}
