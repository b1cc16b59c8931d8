-- What this crate's proofs cite of std, of the kit, of the crates below and of its own specs, passed on from one place. Declares nothing.
pub use Rattle.std.proofs.Common.{◌≡◌, ℕ, ◌<◌, List, [], ◌∷◌, refl, subst, ◌↔◌, ◌∙◌, map, length, true, arith, rules, sym, ◌+◌, ◌++◌, ap, add-zero, append_assoc, false, ◌==◌, ⊎_elim, ◌≢◌, ◌-◌, take, drop, reverse, Option, Some, None, eqb, cond, Bool, length-append, ◌^◌, string_bytes}
pub use Rattle.std.proofs.Math.Seq.{drop-length}
pub use Rattle.std.proofs.lemmas.List.{map-append, append-nil, reverse-append, reverse-reverse, take-append-drop}
pub use Rattle.std.proofs.lemmas.List.Elements.{Contains-append_left, Contains-append_right, Contains-append_cases, All-head}
pub use Rattle.std.proofs.lemmas.Str.Pattern.{drop_at_char}
pub use Rattle.std.specs.List.{Contains, enumerate_from, flat_map}
pub use Rattle.std.specs.Option.{IfSome}
pub use Rattle.std.specs.Str.Pattern.{FindsCharPrefix, FindsCharSuffix, CutsPrefixes, CutsSuffixes, IsFullyTrimmed, IsTrimStartMatches, IsTrimEndMatches}
pub use Rattle.std.specs.Vec.Iter.{into_iter_items}
pub use Rattle.zeb_extract.specs.Identifier.{without_leading_spaces, without_trailing_spaces, first_fitting}
pub use Rattle.zeb_extract.specs.Occurrences.{IsOccurrence, Targets, joined, terms_of, text_of}
pub use Rattle.zeb_extract.specs.PrivateListing.{listing, occurrence_at, numbered_terms, listed_in, unit_listing}
pub use Rattle.zeb_keys.proofs.Members.{first_member, no_member, later_member, member_cases}
pub use Rattle.zeb_keys.proofs.Rising.{apart_by, rising_by, occurrences_apart}
pub use Rattle.zeb_keys.proofs.SortedLists.{rising_from_dedup, members_from_dedup}
pub use Rattle.zeb_keys.specs.declared.keys.Occurrence.{Occurrence}
pub use Rattle.zeb_keys.specs.declared.registers.Register.{Register}
pub use Rattle.zeb_marc.specs.Contents.{UnitText}
pub use Rattle.zeb_marc.specs.Units.{unit_text}
pub use Rattle.zeb_profile.specs.Indexes.{unit_targets}
pub use Rattle.zeb_profile.specs.TargetsLeft.{targets_left}
pub use Rattle.zeb_text.proofs.NumberBounds.{numbers_below}
pub use Rattle.zeb_text.specs.NumbersLeft.{numbers_left}
pub use Rattle.zeb_text.specs.Words.{joined_text}
pub use borrow.Author.Tests.{eqb-true}
