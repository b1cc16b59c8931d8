-- Bytes tell what they begin with: bytes behind how many they are, and the parts of an entry.
use Rattle.zeb_leaf.proofs.Cited.{◌≡◌, ◌≢◌, ℕ, ◌^◌, ◌<◌, List, [], ◌++◌, length, take, drop, refl, sym, ◌∙◌, ap, arith, Ok, Err, append_assoc, length-append, take-append-drop, take-append_seam, drop-append_seam, Parts, AreSmall, Result, OnOk, is_ok, cond, begins_none}
use Rattle.zeb_blocks.specs.Numbers.{uleb}
use Rattle.zeb_blocks.proofs.Front.{same_number, same_behind}
use Rattle.zeb_leaf.specs.Leaves.{counted}
use Rattle.zeb_leaf.specs.PrivateTold.{parts_bytes}

-- two lists of one length, each before another
pub same_front : (xs ys left right : List ℕ) → length xs ≡ length ys → xs ++ left ≡ ys ++ right → (xs ≡ ys) × (left ≡ right)
same_front xs ys left right long same = (
  sym (take-append_seam xs left) ∙ (λ i. take (long i) (same i)) ∙ take-append_seam ys right,
  sym (drop-append_seam xs left) ∙ (λ i. drop (long i) (same i)) ∙ drop-append_seam ys right,
)

pub counted-append : (xs rest : List ℕ) → counted xs ++ rest ≡ uleb (length xs) ++ (xs ++ rest)
unfolding counted
counted-append xs rest = append_assoc (uleb (length xs)) xs rest

pub same_counted : (xs ys left right : List ℕ) → length xs < 2 ^ 64 → length ys < 2 ^ 64 → counted xs ++ left ≡ counted ys ++ right → (xs ≡ ys) × (left ≡ right)
same_counted xs ys left right fits fits' same =
    let at = sym (counted-append xs left) ∙ same ∙ counted-append ys right in
    same_front xs ys left right (same_number (length xs) (length ys) _ _ fits fits' at) (same_behind (length xs) (length ys) _ _ fits fits' at)

-- no counted bytes stand at the front
abbrev pub NoneCounted : List ℕ → Type 0
NoneCounted bytes = (part rest : List ℕ) → length part < 2 ^ 64 → bytes ≢ counted part ++ rest

abbrev pub NoParts : List ℕ → Type 0
NoParts bytes = (p : Parts) (rest : List ℕ) → AreSmall p → bytes ≢ parts_bytes p ++ rest

pub parts-append : (p : Parts) (rest : List ℕ) → parts_bytes p ++ rest ≡ uleb p.shared ++ (counted p.suffix ++ (uleb p.block ++ (uleb p.records ++ (counted p.bytes ++ rest))))
unfolding parts_bytes
parts-append p rest = simp append_assoc

-- what was read of the parts so far: what stands behind it is what parts at the front of the bytes have there
module _ (bytes left_one : List ℕ) (shared : ℕ) (fits : shared < 2 ^ 64) (one : bytes ≡ uleb shared ++ left_one) where
  pub behind_shared : (p : Parts) (rest : List ℕ) → AreSmall p → bytes ≡ parts_bytes p ++ rest
      → (shared ≡ p.shared) × (left_one ≡ counted p.suffix ++ (uleb p.block ++ (uleb p.records ++ (counted p.bytes ++ rest))))
  behind_shared p rest small same =
      let at = sym one ∙ same ∙ parts-append p rest in
      (same_number shared p.shared _ _ fits small.shared at, same_behind shared p.shared _ _ fits small.shared at)

  module _ (suffix left_two : List ℕ) (fits_two : length suffix < 2 ^ 64) (two : left_one ≡ counted suffix ++ left_two) where
    pub behind_suffix : (p : Parts) (rest : List ℕ) → AreSmall p → bytes ≡ parts_bytes p ++ rest
        → (suffix ≡ p.suffix) × (left_two ≡ uleb p.block ++ (uleb p.records ++ (counted p.bytes ++ rest)))
    behind_suffix p rest small same = same_counted suffix p.suffix _ _ fits_two small.suffix (sym two ∙ (behind_shared p rest small same).1)

    module _ (block : ℕ) (left_three : List ℕ) (fits_three : block < 2 ^ 64) (three : left_two ≡ uleb block ++ left_three) where
      pub behind_block : (p : Parts) (rest : List ℕ) → AreSmall p → bytes ≡ parts_bytes p ++ rest
          → (block ≡ p.block) × (left_three ≡ uleb p.records ++ (counted p.bytes ++ rest))
      behind_block p rest small same =
          let at = sym three ∙ (behind_suffix p rest small same).1 in
          (same_number block p.block _ _ fits_three small.block at, same_behind block p.block _ _ fits_three small.block at)

      module _ (records : ℕ) (left_four : List ℕ) (fits_four : records < 2 ^ 64) (four : left_three ≡ uleb records ++ left_four) where
        pub behind_records : (p : Parts) (rest : List ℕ) → AreSmall p → bytes ≡ parts_bytes p ++ rest
            → (records ≡ p.records) × (left_four ≡ counted p.bytes ++ rest)
        behind_records p rest small same =
            let at = sym four ∙ (behind_block p rest small same).1 in
            (same_number records p.records _ _ fits_four small.records at, same_behind records p.records _ _ fits_four small.records at)

-- parts at the front of the bytes are one
pub same_parts : (p q : Parts) (left right : List ℕ) → AreSmall p → AreSmall q → parts_bytes p ++ left ≡ parts_bytes q ++ right → (p ≡ q) × (left ≡ right)
same_parts p q left right small small' same =
    let bytes = parts_bytes p ++ left in
    let one : bytes ≡ uleb p.shared ++ (counted p.suffix ++ (uleb p.block ++ (uleb p.records ++ (counted p.bytes ++ left)))) = parts-append p left in
    let shared = (behind_shared bytes _ p.shared small.shared one q right small' same).0 in
    let suffix = (behind_suffix bytes _ p.shared small.shared one p.suffix _ small.suffix refl q right small' same).0 in
    let block = (behind_block bytes _ p.shared small.shared one p.suffix _ small.suffix refl p.block _ small.block refl q right small' same).0 in
    let behind = behind_records bytes _ p.shared small.shared one p.suffix _ small.suffix refl p.block _ small.block refl p.records _ small.records refl q right small' same in
    let last = same_counted p.bytes q.bytes left right small.bytes small'.bytes behind.1 in
    ((λ i. record { shared = shared i; suffix = suffix i; block = block i; records = behind.0 i; bytes = last.0 i }), last.1)

pub some_parts : (p : Parts) (rest : List ℕ) → AreSmall p → [] ≢ parts_bytes p ++ rest
some_parts p rest small same = begins_none p.shared _ small.shared (same ∙ parts-append p rest)

-- ---- counted bytes, read and written

pub cut_counted : (bytes behind : List ℕ) (count : ℕ) → count < 2 ^ 64 → bytes ≡ uleb count ++ behind → length behind < count → NoneCounted bytes
cut_counted bytes behind count fits is short part rest fits' same =
    let at = sym is ∙ same ∙ counted-append part rest in
    let long = same_number count (length part) _ _ fits fits' at in
    let tail = same_behind count (length part) _ _ fits fits' at in
    omega (arith, long, ap length tail, length-append part rest)

pub whole_counted : (bytes behind front back : List ℕ) (count : ℕ) → bytes ≡ uleb count ++ behind → front ≡ take count behind → back ≡ drop count behind → length front ≡ count → bytes ≡ counted front ++ back
whole_counted bytes behind front back count is front_is back_is long =
    is ∙ (λ i. uleb (sym long i) ++ sym (take-append-drop count behind) i) ∙ (λ i. uleb (length front) ++ (sym front_is i ++ sym back_is i)) ∙ sym (counted-append front back)

pub counted_put : {T E : Type 0} (r : Result T E) (old mid new bytes : List ℕ) → mid ≡ old ++ uleb (length bytes) → new ≡ cond (is_ok r) (mid ++ bytes) mid → OnOk r (new ≡ old ++ counted bytes)
unfolding counted
counted_put (Ok x) old mid new bytes is put = put ∙ ap (λ (b : List ℕ). b ++ bytes) is ∙ append_assoc old (uleb (length bytes)) bytes
counted_put (Err e) old mid new bytes is put = tt
