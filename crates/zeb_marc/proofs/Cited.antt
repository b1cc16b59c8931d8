-- What this crate's proofs cite of std, of the kit, of the crates below and of its own specs, passed on from one place. Declares nothing.
pub use Rattle.std.proofs.Common.{◌≡◌, ℕ, ◌-◌, ◌<◌, ◌≤◌, Bool, true, false, cond, Some, None, List, [], ◌∷◌, ◌++◌, length, take, drop, map, sym, ltb, leb, refl, ap, ◌∙◌, ◌&&◌, arith, zero, suc, ◌+◌, subst, ◌*◌, get_or, append_assoc, length-append, length-take, length-drop, ◌^◌, not, inl, inr, Option, Ok, Err, set, length-set, ◌⊎◌, ◌↔◌, rules}
pub use Rattle.std.proofs.Math.Nat.{pow-le-pow_right, mul-le-mul_left, mul-le-mul_right}
pub use Rattle.std.proofs.lemmas.Bool.{ltb-true, leb-true, eqb-true, le-leb, lt-ltb, cases_lt, le-ltb, lt-leb}
pub use Rattle.std.proofs.lemmas.Bool.Decides.{nat_tests}
pub use Rattle.std.proofs.lemmas.Grind.{common_steps, pow_more}
pub use Rattle.std.proofs.lemmas.Int.Digits.{digits_value_more, digits_value-lt}
pub use Rattle.std.proofs.lemmas.List.{take_at, drop_at, append-nil, take-append-drop, take_all, drop_all, drop-drop, take-take, take-append-le, with_items_is, nil_from_length}
pub use Rattle.std.proofs.lemmas.List.Sums.{prefix_len-le-length}
pub use Rattle.std.proofs.lemmas.Result.{err_from_is_err_and}
pub use Rattle.std.proofs.lemmas.Slice.{take-put_mid, take-put_mid_below}
pub use Rattle.std.specs.Char.{is_ascii_digit, digit_value}
pub use Rattle.std.specs.Io.KnownBytes.{Consumes, IsAtEnd, Keeps}
pub use Rattle.std.specs.List.{flat_map, AllByRecursion, slice_split, onto_first, list_all, position_or_len, prefix_len}
pub use Rattle.std.specs.Prelude.{◌==◌, slice_get, position, unwrap_or}
pub use Rattle.std.specs.Str.Parse.{digits_value, AllDigits}
pub use Rattle.zeb_marc.specs.Contents.{Content, UnitText, contents_of, numbered_from, is_control, subfield_of, subfields_of}
pub use Rattle.zeb_marc.specs.Directory.{Entry, entries_of, end_of, entry_checks, directory_checks, field_of, fields_in, FieldText}
pub use Rattle.zeb_marc.specs.Fields.{field_text}
pub use Rattle.zeb_marc.specs.Leader.{Check, check, first_failing, leader_checks, record_length, base_address, announced_checks, slice_checks, layout_checks}
pub use Rattle.zeb_marc.specs.PrivateDirectory.{entry_of}
pub use Rattle.zeb_marc.specs.PrivateReading.{FailsIf, ByteGives, SkipGives, FillGives, SliceGives}
pub use Rattle.zeb_marc.specs.Records.{directory_of, data_area, IsRecordFault, IsRecord}
pub use Rattle.zeb_marc.specs.Splits.{is_separator, next_if, next_behind, Next, at_end, a_fault, Gives, IsSlice, are_separators, IsRun, IsTooLong, IsNoSlice, EndsAs, IsSplit, a_slice, Split, split_next, split_within}
pub use Rattle.zeb_marc.specs.Units.{left_of}
pub use Rattle.zeb_marc.specs.Unread.{LeavesUnread}
pub use Rattle.zeb_marc.specs.declared.faults.MarcFault.{MarcFault}
pub use Rattle.zeb_marc.specs.declared.faults.MarcFault.TheVariants.{EntryDigits, EntryTag, EntryRange, FieldEnd, LengthDigits, LengthRange, Truncated, TooManySeparators, ReadFault}
pub use borrow.Rule.Slice.PartMut.{put_mid}
