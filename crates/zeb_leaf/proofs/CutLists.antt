-- Leaves that are cut off, one after the other.
use Rattle.zeb_leaf.proofs.Cited.{◌≡◌, ℕ, ◌+◌, ◌<◌, ◌≤◌, List, [], ◌∷◌, ◌++◌, length, take, drop, refl, sym, ◌∙◌, ap, subst, arith, append_assoc, append-nil, length-take-le, take-append-drop, AllByRecursion, Entry, IsEntry, IsLeaf, entry_cmp, leaf_bytes, AreCut, BeginsAt, IsCutOff}
use Rattle.std.specs.List.Sorted.{IsStrictlySortedBy}
use Rattle.zeb_leaf.specs.declared.entries.TheConstants.{FULL_BYTES}
use Rattle.zeb_leaf.specs.declared.parting.NewLeaf.{NewLeaf}
use Rattle.zeb_leaf.proofs.Fronts.{takes_more}
use Rattle.zeb_leaf.proofs.Members.{all_back, sorted_front, sorted_rest}

-- the front of what is left makes a leaf
pub cut_off : (list own rest : List Entry) (n above most : ℕ) (leaf : NewLeaf) → own ≡ take n list → rest ≡ drop n list → n ≤ length list → above ≤ most → most ≤ FULL_BYTES
    → (2 ≤ n → length (leaf_bytes (take n list)) ≤ most) → (n < length list → most < length (leaf_bytes (take (n + 1) list))) → BeginsAt leaf own → IsLeaf leaf.bytes own → IsCutOff above leaf own rest
cut_off list own rest n above most leaf own_is rest_is within less small fits full first spelled = record {
  first = first;
  spelled = spelled;
  small = λ two.
      let few : 2 ≤ n = omega (arith, two, ap length own_is, length-take-le n list within) in
      omega (arith, fits few, small, ap length spelled.spelled, ap (λ (xs : List Entry). length (leaf_bytes xs)) own_is);
  full = takes_more list own rest n above most own_is rest_is less full;
}

-- one leaf more
pub cut_more : (above : ℕ) (leaf : NewLeaf) (leaves items more : List NewLeaf) (entries list own rest : List Entry) (n : ℕ) → own ≡ take n list → rest ≡ drop n list → items ≡ leaves ++ leaf ∷ []
    → IsCutOff above leaf own rest → ((behind : List NewLeaf) → AreCut above behind list → AreCut above (leaves ++ behind) entries) → AreCut above more rest → AreCut above (items ++ more) entries
cut_more above leaf leaves items more entries list own rest n own_is rest_is items_is off leads cut =
    let whole : list ≡ own ++ rest = sym (take-append-drop n list) ∙ (λ i. sym own_is i ++ sym rest_is i) in
    let next : (leaves ++ leaf ∷ []) ++ more ≡ leaves ++ (leaf ∷ more) = append_assoc leaves (leaf ∷ []) more in
    subst (λ (all : List NewLeaf). AreCut above all entries) (sym (ap (λ (all : List NewLeaf). all ++ more) items_is ∙ next)) (leads (leaf ∷ more) (own, rest, whole, off, cut))

-- what rises, and is sound, before and behind a cut
pub front_up : (list own : List Entry) (n : ℕ) → own ≡ take n list → IsStrictlySortedBy entry_cmp list → IsStrictlySortedBy entry_cmp own
front_up list own n is up = subst (λ (xs : List Entry). IsStrictlySortedBy entry_cmp xs) (sym is) (sorted_front entry_cmp (take n list) (drop n list) (subst (λ (xs : List Entry). IsStrictlySortedBy entry_cmp xs) (sym (take-append-drop n list)) up))

pub rest_up : (list rest : List Entry) (n : ℕ) → rest ≡ drop n list → IsStrictlySortedBy entry_cmp list → IsStrictlySortedBy entry_cmp rest
rest_up list rest n is up = subst (λ (xs : List Entry). IsStrictlySortedBy entry_cmp xs) (sym is) (sorted_rest entry_cmp (take n list) (drop n list) (subst (λ (xs : List Entry). IsStrictlySortedBy entry_cmp xs) (sym (take-append-drop n list)) up))

pub rest_sound : (list rest : List Entry) (n : ℕ) → rest ≡ drop n list → AllByRecursion IsEntry list → AllByRecursion IsEntry rest
rest_sound list rest n is each = subst (λ (xs : List Entry). AllByRecursion IsEntry xs) (sym is) (all_back IsEntry (take n list) (drop n list) (subst (λ (xs : List Entry). AllByRecursion IsEntry xs) (sym (take-append-drop n list)) each))

-- where nothing is left, the leaves so far are all
pub all_cut : (above : ℕ) (leaves : List NewLeaf) (entries rest : List Entry) → length rest ≡ 0 → ((behind : List NewLeaf) → AreCut above behind rest → AreCut above (leaves ++ behind) entries) → AreCut above leaves entries
all_cut above leaves entries [] none leads = subst (λ (all : List NewLeaf). AreCut above all entries) (append-nil leaves) (leads [] refl)
all_cut above leaves entries (e ∷ rest) none leads = absurd (omega (arith, none))
