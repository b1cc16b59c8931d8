-- What this crate's proofs cite of std, of the kit, of the crates below and of its own specs, passed on from one place. Declares nothing.
pub use Rattle.caseless.proofs.CaselessLemmas.{length-default_case_fold}
pub use Rattle.caseless.specs.Caseless.{default_case_fold}
pub use Rattle.std.proofs.Common.{◌≡◌, ℕ, zero, suc, ◌+◌, ◌*◌, ◌-◌, ◌^◌, ◌<◌, ◌≤◌, true, cond, nat_le, List, [], ◌∷◌, ◌++◌, filter, length, get_or, map, take, refl, ap, subst, ◌∙◌, arith, add-zero, add-suc, add-one, le-leb, Bool, false, All, encode_utf8, encode_utf8_all, chars, IsUtf8, inl, inr, sym, not, replicate, lit<, Less, Greater, ◌↔◌, drop, None, ◌≢◌, Result, Ok, Err, OnOk, Contains, if◌then◌else◌, is_ok, ◌&&◌, ◌||◌, ◌==◌, string_bytes, String, string_len, rules, tests, vec_len, IsTrue, MatchBool, Global}
pub use Rattle.std.proofs.Math.Nat.{pow-suc}
pub use Rattle.std.proofs.lemmas.Bool.{lt-leb, false_from_ne_true, false≢true, cases_Bool, and_parts, and_from, cases_lt}
pub use Rattle.std.proofs.lemmas.Bool.Decides.{nat_tests}
pub use Rattle.std.proofs.lemmas.Fmt.{decimal_is_IsNumeral, length-decimal-le}
pub use Rattle.std.proofs.lemmas.Int.Digits.{digits_value-lt}
pub use Rattle.std.proofs.lemmas.Iterator.{YieldsList-from_chars}
pub use Rattle.std.proofs.lemmas.Iterator.Adapters.{YieldsList-from_bytes}
pub use Rattle.std.proofs.lemmas.Iterator.Consumers.{YieldsList-turn, YieldsList-end}
pub use Rattle.std.proofs.lemmas.Iterator.Search.{all_from_yields_List}
pub use Rattle.std.proofs.lemmas.List.{take_more, append_assoc, append-nil, get_or_append_left, length-append, map-append, length-replicate, append_cancel_left, drop_at, take-append-drop, get_or-drop, get_or-take, get_or_default, length-take, length-take-le, length-drop, nil_from_length, get_or_at, length-map, drop_more, length_push, drop_all, take_all}
pub use Rattle.std.proofs.lemmas.List.Elements.{All-nil, All-push, All-cons, All-head, All-tail}
pub use Rattle.std.proofs.lemmas.List.Splits.{slice_split-cons_yes, slice_split_none, slice_split_at}
pub use Rattle.std.proofs.lemmas.List.Sums.{count_by-le-length, length-filter}
pub use Rattle.std.proofs.lemmas.Str.{inside_one, length-encode, len_utf8_bounds, encode_ascii, encodes-chars, digit_value_digit, chars-append, encodes-append, length-le-encodes, IsUtf8-take, IsUtf8-drop, IsUtf8-append, IsCharBoundary-at_seam, chars-nil, chars_past_char, IsUtf8-encode, encodes_same, IsUtf8-string_bytes, chars_from_encodes}
pub use Rattle.std.proofs.lemmas.Str.Parse.{digit_from_value, numerals_by_value, tells_digits, parse_gives}
pub use Rattle.std.specs.Char.{is_ascii_digit, digit_value, IsScalar}
pub use Rattle.std.specs.Cmp.{nat_cmp_is}
pub use Rattle.std.specs.Cmp.Lexicographic.{slice_cmp, bytes_decides}
pub use Rattle.std.specs.Fmt.{decimal, format_spec}
pub use Rattle.std.specs.List.{AllPass, join_with_byte, list_all}
pub use Rattle.std.specs.Ordering.{nat_cmp, ordering_then}
pub use Rattle.std.specs.Str.{IsCharBoundary, NonePass}
pub use Rattle.std.specs.Str.Parse.{digits_value, digits_value_after, AllDigits}
pub use Rattle.std.specs.Str.Pattern.{FindsText, LacksTextAt, SplitsAroundMatch, FindsTextSuffix, HasSuffixMatch}
pub use Rattle.unicode_normalization.proofs.LengthLemmas.{length-normalize}
pub use Rattle.unicode_normalization.specs.Forms.{Nfd, nfd}
pub use Rattle.zeb_text.specs.Folding.{is_diacritical_mark}
pub use Rattle.zeb_text.specs.Numbers.{numbers_of}
pub use Rattle.zeb_text.specs.Patterns.{Matches}
pub use Rattle.zeb_text.specs.PrivateStars.{cuts_left, cuts_right, cuts_each, star_if}
pub use Rattle.zeb_text.specs.Symbols.{Symbol, Star, literal, Char, starred, texts_of}
pub use Rattle.zeb_text.specs.Truncation.{joined_patterns, star_before_first, star_after_last, belongs_to_word, symbol_of}
pub use Rattle.zeb_text.specs.Words.{AreRuns, IsCutOff, is_not_empty, joined_text}
pub use Rattle.zeb_text.specs.declared.truncation.Cut.{Cut}
pub use Rattle.zeb_text.specs.declared.truncation.Cut.TheVariants.{Right, Left, Both, Hash}
pub use Rattle.zeb_text.specs.declared.truncation.Spread.{Spread}
pub use Rattle.zeb_text.specs.declared.truncation.Spread.TheVariants.{Ends, Each}
pub use denote.Shadow.{shadow}
pub use denote.Text.{Utf8}
