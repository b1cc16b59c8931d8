-- Worked leaves, and bytes that are none: what the bytes have at their front is told by computing it.
use Rattle.zeb_leaf.proofs.Cited.{◌≡◌, ◌≢◌, ℕ, ◌+◌, ◌^◌, ◌<◌, ◌≤◌, List, [], ◌∷◌, ◌++◌, length, take, drop, refl, sym, ◌∙◌, ap, subst, inl, inr, arith, true, false, lit<, lit≤, take-append_seam, drop-append_seam, Entry, IsEntry, IsLeaf, leaf_bytes, Place, first_place, behind_entry, Parts, AreSmall, Fit, entry_told, IsUtf8, take-nil, IsUtf8-from_is_utf8, is_utf8-from_IsUtf8, replicate}
use Rattle.std.specs.Str.{chars, is_utf8}
use Rattle.std.proofs.Math.Utf8.{encode}
use Rattle.zeb_leaf.specs.Worked.{entry}
use Rattle.zeb_blocks.specs.Numbers.{groups, uleb}
use Rattle.zeb_blocks.specs.Left.{number_at, behind}
use Rattle.zeb_blocks.proofs.Front.{number_at-uleb, behind-uleb}
use Rattle.zeb_leaf.specs.Leaves.{counted, entry_bytes, entries_bytes}
use Rattle.zeb_leaf.specs.PrivateTold.{parts_bytes}
use Rattle.zeb_leaf.proofs.Parts.{counted-append, parts-append}
use Rattle.zeb_leaf.proofs.OneEntry.{bytes_by_parts, follows_fit, parts_of, parts_small, told_parts}
use Rattle.zeb_leaf.proofs.Order.{EachFollows}
use Rattle.zeb_leaf.proofs.Walked.{Spells, leaf_spells, spells_leaf}

-- ---- leaves

some_of : (e : Entry) (list : List Entry) → e ∷ list ≢ []
some_of e list none = cc

leaf_by : (e : Entry) (list : List Entry) (bytes : List ℕ) → EachFollows first_place (e ∷ list) → bytes ≡ leaf_bytes (e ∷ list) → IsLeaf bytes (e ∷ list)
leaf_by e list bytes each is = spells_leaf bytes (e ∷ list) (some_of e list) record { follow = each; spelled = is }

-- ---- bytes that are none

-- the bytes that are counted at the front, and what is behind them
abbrev counted_at : List ℕ → List ℕ
counted_at bytes = take (number_at bytes) (behind bytes)

abbrev behind_counted : List ℕ → List ℕ
behind_counted bytes = drop (number_at bytes) (behind bytes)

counted_front : (xs rest : List ℕ) → length xs < 2 ^ 64 → (counted_at (counted xs ++ rest) ≡ xs) × (behind_counted (counted xs ++ rest) ≡ rest)
counted_front xs rest fits = rw (counted-append xs rest, number_at-uleb (length xs) (xs ++ rest) fits, behind-uleb (length xs) (xs ++ rest) fits) (take-append_seam xs rest, drop-append_seam xs rest)

-- the parts at the front, and what is behind them
abbrev parts_at : List ℕ → Parts
parts_at bytes =
    let two = behind bytes in
    let three = behind_counted two in
    let four = behind three in
    record { shared = number_at bytes; suffix = counted_at two; block = number_at three; records = number_at four; bytes = counted_at (behind four) }

abbrev behind_parts : List ℕ → List ℕ
behind_parts bytes = behind_counted (behind (behind (behind_counted (behind bytes))))

parts_front : (p : Parts) (rest : List ℕ) → AreSmall p → (parts_at (parts_bytes p ++ rest) ≡ p) × (behind_parts (parts_bytes p ++ rest) ≡ rest)
parts_front p rest small =
    let five = counted p.bytes ++ rest in
    let four = uleb p.records ++ five in
    let three = uleb p.block ++ four in
    let two = counted p.suffix ++ three in
    let one = parts-append p rest in
    let shared_is = ap number_at one ∙ number_at-uleb p.shared two small.shared in
    let two_is = ap behind one ∙ behind-uleb p.shared two small.shared in
    let (suffix_front, suffix_behind) = counted_front p.suffix three small.suffix in
    let suffix_is = ap counted_at two_is ∙ suffix_front in
    let three_is = ap behind_counted two_is ∙ suffix_behind in
    let block_is = ap number_at three_is ∙ number_at-uleb p.block four small.block in
    let four_is = ap behind three_is ∙ behind-uleb p.block four small.block in
    let records_is = ap number_at four_is ∙ number_at-uleb p.records five small.records in
    let five_is = ap behind four_is ∙ behind-uleb p.records five small.records in
    let (bytes_front, bytes_behind) = counted_front p.bytes rest small.bytes in
    let bytes_is = ap counted_at five_is ∙ bytes_front in
    ((λ i. record { shared = shared_is i; suffix = suffix_is i; block = block_is i; records = records_is i; bytes = bytes_is i }), ap behind_counted five_is ∙ bytes_behind)

-- what bytes say of entries that they spell at a place: the first entry, by its parts, and what stands behind it
record Begins (place : Place) (list : List Entry) (bytes : List ℕ) (p : Parts) (left : List ℕ) : Type 0 where
  rest : List Entry
  fit : Fit place p
  text : IsUtf8 (take p.shared place.term ++ p.suffix)
  spelled : bytes ≡ parts_bytes p ++ left
  spells : Spells (behind_entry (entry_told place.term p)) rest left

begins : (place : Place) (list : List Entry) (bytes : List ℕ) (p : Parts) (left : List ℕ) → parts_at bytes ≡ p → behind_parts bytes ≡ left → bytes ≢ [] → Spells place list bytes → Begins place list bytes p left
unfolding entries_bytes
begins place [] bytes p left first last some spells = absurd (some spells.spelled)
begins place (e ∷ rest) bytes p left first last some spells =
    let tail = entries_bytes e.term rest in
    let q = parts_of place.term e in
    let small = parts_small place.term e spells.follow.0.sound in
    let at : bytes ≡ parts_bytes q ++ tail = spells.spelled ∙ ap (λ (b : List ℕ). b ++ tail) (bytes_by_parts place.term e) in
    let (parts_is, tail_is) = parts_front q tail small in
    let same : q ≡ p = sym parts_is ∙ ap parts_at (sym at) ∙ first in
    let same_left : tail ≡ left = sym tail_is ∙ ap behind_parts (sym at) ∙ last in
    let told : e ≡ entry_told place.term p = sym (told_parts place.term e) ∙ ap (entry_told place.term) same in
    let behind_it : Spells (behind_entry e) rest tail = record { follow = spells.follow.1; spelled = refl } in
    let moved = subst (λ (f : Entry). Spells (behind_entry f) rest tail) told behind_it in
    record {
      rest = rest;
      fit = subst (Fit place) same (follows_fit place e spells.follow.0);
      text = subst (λ (f : Entry). IsUtf8 f.term) told spells.follow.0.sound.text;
      spelled = at ∙ (λ i. parts_bytes (same i) ++ same_left i);
      spells = subst (λ (b : List ℕ). Spells (behind_entry (entry_told place.term p)) rest b) same_left moved;
    }

abbrev parts : ℕ → List ℕ → ℕ → ℕ → List ℕ → Parts
parts shared suffix block records bytes = record { shared = shared; suffix = suffix; block = block; records = records; bytes = bytes }

abbrev block_bytes : List ℕ
block_bytes = 1 ∷ 2 ∷ 2 ∷ []

-- where the first entry doesn't fit, or its parts are spelled otherwise
unfit : (bytes : List ℕ) (p : Parts) (left : List ℕ) → parts_at bytes ≡ p → behind_parts bytes ≡ left → bytes ≢ [] → ¬ (Fit first_place p × (bytes ≡ parts_bytes p ++ left)) → (list : List Entry) → ¬ IsLeaf bytes list
unfit bytes p left first last some none list leaf =
    let b = begins first_place list bytes p left first last some (leaf_spells bytes list leaf) in
    none (b.fit, b.spelled)

-- where it does, and the second doesn't
unfit_second : (bytes : List ℕ) (p q : Parts) (behind_p left : List ℕ) → parts_at bytes ≡ p → behind_parts bytes ≡ behind_p → bytes ≢ [] → parts_at behind_p ≡ q → behind_parts behind_p ≡ left → behind_p ≢ []
    → ¬ (Fit (behind_entry (entry_told [] p)) q × (behind_p ≡ parts_bytes q ++ left)) → (list : List Entry) → ¬ IsLeaf bytes list
unfit_second bytes p q behind_p left first last some second end more none list leaf =
    let b = begins first_place list bytes p behind_p first last some (leaf_spells bytes list leaf) in
    let b2 = begins (behind_entry (entry_told [] p)) b.rest behind_p q left second end more b.spells in
    none (b2.fit, b2.spelled)

-- where its term isn't text
no_text : (bytes : List ℕ) (p : Parts) (left : List ℕ) → parts_at bytes ≡ p → behind_parts bytes ≡ left → bytes ≢ [] → ¬ IsUtf8 p.suffix → (list : List Entry) → ¬ IsLeaf bytes list
no_text bytes p left first last some none list leaf =
    let b = begins first_place list bytes p left first last some (leaf_spells bytes list leaf) in
    none (subst (λ (front : List ℕ). IsUtf8 (front ++ p.suffix)) (take-nil p.shared) b.text)

no_text_second : (bytes : List ℕ) (p q : Parts) (behind_p left : List ℕ) → parts_at bytes ≡ p → behind_parts bytes ≡ behind_p → bytes ≢ [] → parts_at behind_p ≡ q → behind_parts behind_p ≡ left → behind_p ≢ []
    → ¬ IsUtf8 (take q.shared (entry_told [] p).term ++ q.suffix) → (list : List Entry) → ¬ IsLeaf bytes list
no_text_second bytes p q behind_p left first last some second end more none list leaf =
    let b = begins first_place list bytes p behind_p first last some (leaf_spells bytes list leaf) in
    none (begins (behind_entry (entry_told [] p)) b.rest behind_p q left second end more b.spells).text

is_no_text : (bytes : List ℕ) → is_utf8 bytes ≡ false → ¬ IsUtf8 bytes
is_no_text bytes none text = let both : false ≡ true = sym none ∙ is_utf8-from_IsUtf8 bytes text in cc

-- a number that isn't in its shortest form
pub no_long : (list : List Entry) → ¬ IsLeaf (0x80 ∷ 0 ∷ 1 ∷ 97 ∷ 0 ∷ 1 ∷ 3 ∷ 1 ∷ 2 ∷ 2 ∷ []) list
unfolding number_at behind parts_bytes counted uleb groups
no_long = unfit _ (parts 0 (97 ∷ []) 0 1 block_bytes) [] refl refl (λ none. cc) (λ (fit, spelled). cc)

-- bytes shared with no term
pub no_shared : (list : List Entry) → ¬ IsLeaf (1 ∷ 0 ∷ 0 ∷ 1 ∷ 3 ∷ 1 ∷ 2 ∷ 2 ∷ []) list
unfolding number_at behind
no_shared = unfit _ (parts 1 [] 0 1 block_bytes) [] refl refl (λ none. cc) (λ (fit, spelled). let low : 1 ≤ 0 = fit.shared in omega arith)

-- fewer bytes shared than can be
pub no_short : (list : List Entry) → ¬ IsLeaf (0 ∷ 2 ∷ 97 ∷ 98 ∷ 0 ∷ 1 ∷ 3 ∷ 1 ∷ 2 ∷ 2 ∷ 0 ∷ 2 ∷ 97 ∷ 99 ∷ 0 ∷ 1 ∷ 3 ∷ 1 ∷ 2 ∷ 2 ∷ []) list
unfolding number_at behind
no_short = unfit_second _ (parts 0 (97 ∷ 98 ∷ []) 0 1 block_bytes) (parts 0 (97 ∷ 99 ∷ []) 0 1 block_bytes) (0 ∷ 2 ∷ 97 ∷ 99 ∷ 0 ∷ 1 ∷ 3 ∷ 1 ∷ 2 ∷ 2 ∷ []) [] refl refl (λ none. cc) refl refl (λ none. cc) (λ (fit, spelled). let up : 97 < 97 = fit.rises in omega arith)

-- a term below the one before it
pub no_falling : (list : List Entry) → ¬ IsLeaf (0 ∷ 1 ∷ 98 ∷ 0 ∷ 1 ∷ 3 ∷ 1 ∷ 2 ∷ 2 ∷ 0 ∷ 1 ∷ 97 ∷ 0 ∷ 1 ∷ 3 ∷ 1 ∷ 2 ∷ 2 ∷ []) list
unfolding number_at behind
no_falling = unfit_second _ (parts 0 (98 ∷ []) 0 1 block_bytes) (parts 0 (97 ∷ []) 0 1 block_bytes) (0 ∷ 1 ∷ 97 ∷ 0 ∷ 1 ∷ 3 ∷ 1 ∷ 2 ∷ 2 ∷ []) [] refl refl (λ none. cc) refl refl (λ none. cc) (λ (fit, spelled). let up : 98 < 97 = fit.rises in omega arith)

-- the same term and block again
pub no_level : (list : List Entry) → ¬ IsLeaf (0 ∷ 1 ∷ 97 ∷ 0 ∷ 1 ∷ 3 ∷ 1 ∷ 2 ∷ 2 ∷ 1 ∷ 0 ∷ 0 ∷ 1 ∷ 3 ∷ 1 ∷ 2 ∷ 2 ∷ []) list
unfolding number_at behind
no_level = unfit_second _ (parts 0 (97 ∷ []) 0 1 block_bytes) (parts 1 [] 0 1 block_bytes) (1 ∷ 0 ∷ 0 ∷ 1 ∷ 3 ∷ 1 ∷ 2 ∷ 2 ∷ []) [] refl refl (λ none. cc) refl refl (λ none. cc) (λ (fit, spelled). let up : 0 + 1 ≤ 0 = fit.rises in omega arith)

-- no records
pub no_records : (list : List Entry) → ¬ IsLeaf (0 ∷ 1 ∷ 97 ∷ 0 ∷ 0 ∷ 3 ∷ 1 ∷ 2 ∷ 2 ∷ []) list
unfolding number_at behind
no_records = unfit _ (parts 0 (97 ∷ []) 0 0 block_bytes) [] refl refl (λ none. cc) (λ (fit, spelled). let low : 1 ≤ 0 = fit.sound.records.0 in omega arith)

-- 257 records
pub no_many : (list : List Entry) → ¬ IsLeaf (0 ∷ 1 ∷ 97 ∷ 0 ∷ 0x81 ∷ 2 ∷ 3 ∷ 1 ∷ 2 ∷ 2 ∷ []) list
unfolding number_at behind
no_many = unfit _ (parts 0 (97 ∷ []) 0 257 block_bytes) [] refl refl (λ none. cc) (λ (fit, spelled). let high : 257 ≤ 256 = fit.sound.records.1 in omega arith)

-- a block's bytes that are cut
pub no_cut : (list : List Entry) → ¬ IsLeaf (0 ∷ 1 ∷ 97 ∷ 0 ∷ 1 ∷ 3 ∷ 1 ∷ 2 ∷ []) list
unfolding number_at behind parts_bytes counted uleb groups
no_cut = unfit _ (parts 0 (97 ∷ []) 0 1 (1 ∷ 2 ∷ [])) [] refl refl (λ none. cc) (λ (fit, spelled). cc)

-- a byte behind the last entry
pub no_more : (list : List Entry) → ¬ IsLeaf (0 ∷ 1 ∷ 97 ∷ 0 ∷ 1 ∷ 3 ∷ 1 ∷ 2 ∷ 2 ∷ 0 ∷ []) list
unfolding number_at behind parts_bytes counted uleb groups
no_more = unfit_second _ (parts 0 (97 ∷ []) 0 1 block_bytes) (parts 0 [] 0 0 []) (0 ∷ []) [] refl refl (λ none. cc) refl refl (λ none. cc) (λ (fit, spelled). let low : 1 ≤ 0 = fit.sound.records.0 in omega arith)

-- a block of no system number
pub no_block : (list : List Entry) → ¬ IsLeaf (0 ∷ 1 ∷ 97 ∷ (replicate 8 0x80 ++ 1 ∷ 1 ∷ 3 ∷ 1 ∷ 2 ∷ 2 ∷ [])) list
unfolding number_at behind
no_block = unfit _ (parts 0 (97 ∷ []) (2 ^ 56) 1 block_bytes) [] refl refl (λ none. cc) (λ (fit, spelled). let low : 2 ^ 56 < 2 ^ 56 = fit.sound.block in omega arith)

-- a term that isn't UTF-8
pub no_utf8 : (list : List Entry) → ¬ IsLeaf (0 ∷ 1 ∷ 0xe9 ∷ 0 ∷ 1 ∷ 3 ∷ 1 ∷ 2 ∷ 2 ∷ []) list
unfolding number_at behind chars is_utf8
no_utf8 = no_text _ (parts 0 (0xe9 ∷ []) 0 1 block_bytes) [] refl refl (λ none. cc) (is_no_text (0xe9 ∷ []) refl)

-- a term that isn't, though what it doesn't share is
pub no_whole_utf8 : (list : List Entry) → ¬ IsLeaf (0 ∷ 2 ∷ 0xc3 ∷ 0xa9 ∷ 0 ∷ 1 ∷ 3 ∷ 1 ∷ 2 ∷ 2 ∷ 1 ∷ 2 ∷ 0xc3 ∷ 0xaa ∷ 0 ∷ 1 ∷ 3 ∷ 1 ∷ 2 ∷ 2 ∷ []) list
unfolding number_at behind chars encode is_utf8
no_whole_utf8 = no_text_second _ (parts 0 (0xc3 ∷ 0xa9 ∷ []) 0 1 block_bytes) (parts 1 (0xc3 ∷ 0xaa ∷ []) 0 1 block_bytes) (1 ∷ 2 ∷ 0xc3 ∷ 0xaa ∷ 0 ∷ 1 ∷ 3 ∷ 1 ∷ 2 ∷ 2 ∷ []) [] refl refl (λ none. cc) refl refl (λ none. cc) (is_no_text (0xc3 ∷ 0xc3 ∷ 0xaa ∷ []) refl)

-- ---- worked leaves

entry_at : (term : List ℕ) (block records : ℕ) (bytes : List ℕ) → is_utf8 term ≡ true → length term < 2 ^ 64 → block < 2 ^ 56 → 1 ≤ records → records ≤ 256 → length bytes < 2 ^ 64 → IsEntry (entry term block records bytes)
entry_at term block records bytes text a b c d e = record { text = IsUtf8-from_is_utf8 term text; term = a; block = b; records = (c, d); bytes = e }

-- two terms that share three bytes
pub leaf_shared : IsLeaf (0 ∷ 3 ∷ 109 ∷ 111 ∷ 98 ∷ 0 ∷ 1 ∷ 3 ∷ 1 ∷ 2 ∷ 2 ∷ 3 ∷ 1 ∷ 121 ∷ 0 ∷ 1 ∷ 3 ∷ 1 ∷ 2 ∷ 2 ∷ []) (entry (109 ∷ 111 ∷ 98 ∷ []) 0 1 (1 ∷ 2 ∷ 2 ∷ []) ∷ entry (109 ∷ 111 ∷ 98 ∷ 121 ∷ []) 0 1 (1 ∷ 2 ∷ 2 ∷ []) ∷ [])
unfolding entries_bytes entry_bytes counted uleb groups chars encode is_utf8
leaf_shared = leaf_by (entry (109 ∷ 111 ∷ 98 ∷ []) 0 1 (1 ∷ 2 ∷ 2 ∷ [])) (entry (109 ∷ 111 ∷ 98 ∷ 121 ∷ []) 0 1 (1 ∷ 2 ∷ 2 ∷ []) ∷ []) _ (record { above = inl refl; sound = entry_at (109 ∷ 111 ∷ 98 ∷ []) 0 1 (1 ∷ 2 ∷ 2 ∷ []) refl (lit< tt) (lit< tt) (lit≤ tt) (lit≤ tt) (lit< tt) }, (record { above = inl refl; sound = entry_at (109 ∷ 111 ∷ 98 ∷ 121 ∷ []) 0 1 (1 ∷ 2 ∷ 2 ∷ []) refl (lit< tt) (lit< tt) (lit≤ tt) (lit≤ tt) (lit< tt) }, tt)) refl

-- two blocks of a term, the second with 256 records
pub leaf_blocks : IsLeaf (0 ∷ 1 ∷ 97 ∷ 0 ∷ 1 ∷ 3 ∷ 1 ∷ 2 ∷ 2 ∷ 1 ∷ 0 ∷ 2 ∷ 0x80 ∷ 2 ∷ 3 ∷ 0 ∷ 2 ∷ 2 ∷ []) (entry (97 ∷ []) 0 1 (1 ∷ 2 ∷ 2 ∷ []) ∷ entry (97 ∷ []) 2 256 (0 ∷ 2 ∷ 2 ∷ []) ∷ [])
unfolding entries_bytes entry_bytes counted uleb groups chars encode is_utf8
leaf_blocks = leaf_by (entry (97 ∷ []) 0 1 (1 ∷ 2 ∷ 2 ∷ [])) (entry (97 ∷ []) 2 256 (0 ∷ 2 ∷ 2 ∷ []) ∷ []) _ (record { above = inl refl; sound = entry_at (97 ∷ []) 0 1 (1 ∷ 2 ∷ 2 ∷ []) refl (lit< tt) (lit< tt) (lit≤ tt) (lit≤ tt) (lit< tt) }, (record { above = inr (refl, lit≤ tt); sound = entry_at (97 ∷ []) 2 256 (0 ∷ 2 ∷ 2 ∷ []) refl (lit< tt) (lit< tt) (lit≤ tt) (lit≤ tt) (lit< tt) }, tt)) refl

-- an empty term
pub leaf_empty_term : IsLeaf (0 ∷ 0 ∷ 0 ∷ 1 ∷ 3 ∷ 1 ∷ 2 ∷ 2 ∷ []) (entry [] 0 1 (1 ∷ 2 ∷ 2 ∷ []) ∷ [])
unfolding entries_bytes entry_bytes counted uleb groups chars encode is_utf8
leaf_empty_term = leaf_by (entry [] 0 1 (1 ∷ 2 ∷ 2 ∷ [])) ([]) _ (record { above = inr (refl, lit≤ tt); sound = entry_at [] 0 1 (1 ∷ 2 ∷ 2 ∷ []) refl (lit< tt) (lit< tt) (lit≤ tt) (lit≤ tt) (lit< tt) }, tt) refl

-- two terms of one letter each, é and ê, that share a byte of it
pub leaf_bytes_shared : IsLeaf (0 ∷ 2 ∷ 0xc3 ∷ 0xa9 ∷ 0 ∷ 1 ∷ 3 ∷ 1 ∷ 2 ∷ 2 ∷ 1 ∷ 1 ∷ 0xaa ∷ 0 ∷ 1 ∷ 3 ∷ 1 ∷ 2 ∷ 2 ∷ []) (entry (0xc3 ∷ 0xa9 ∷ []) 0 1 (1 ∷ 2 ∷ 2 ∷ []) ∷ entry (0xc3 ∷ 0xaa ∷ []) 0 1 (1 ∷ 2 ∷ 2 ∷ []) ∷ [])
unfolding entries_bytes entry_bytes counted uleb groups chars encode is_utf8
leaf_bytes_shared = leaf_by (entry (0xc3 ∷ 0xa9 ∷ []) 0 1 (1 ∷ 2 ∷ 2 ∷ [])) (entry (0xc3 ∷ 0xaa ∷ []) 0 1 (1 ∷ 2 ∷ 2 ∷ []) ∷ []) _ (record { above = inl refl; sound = entry_at (0xc3 ∷ 0xa9 ∷ []) 0 1 (1 ∷ 2 ∷ 2 ∷ []) refl (lit< tt) (lit< tt) (lit≤ tt) (lit≤ tt) (lit< tt) }, (record { above = inl refl; sound = entry_at (0xc3 ∷ 0xaa ∷ []) 0 1 (1 ∷ 2 ∷ 2 ∷ []) refl (lit< tt) (lit< tt) (lit≤ tt) (lit≤ tt) (lit< tt) }, tt)) refl
