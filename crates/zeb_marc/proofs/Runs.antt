-- Lemmas on runs of separators, on bytes that a source tells, and on filling a part of a record.
use Rattle.zeb_marc.proofs.Cited.{◌≡◌, ℕ, zero, suc, ◌+◌, ◌≤◌, Bool, true, false, cond, Option, Some, None, List, [], ◌∷◌, ◌++◌, length, take, drop, refl, sym, ap, subst, ◌∙◌, length-take, length-drop, length-append, arith, prefix_len, Consumes, IsAtEnd, Keeps, take_at, drop_at, take-append-le, drop-drop, prefix_len-le-length, put_mid}

-- ---- runs

one_more : (k : ℕ) → suc k + 1 ≡ suc (k + 1)
one_more k = omega arith

-- a run goes on by an element that passes
pub run_more : {X : Type 0} (p : X → Bool) (xs : List X) (k : ℕ) (y : X) (ys : List X) → k ≤ prefix_len p xs → drop k xs ≡ y ∷ ys → p y ≡ true → (k + 1 ≤ prefix_len p xs) × (drop (k + 1) xs ≡ ys)
run_more p [] zero y ys le e py = absurd cc
run_more p [] (suc k) y ys le e py = absurd cc
run_more p (x ∷ xs) zero y ys le e py =
    let px : p x ≡ true = ap p (let same : x ≡ y = cc in same) ∙ py in
    let rest : xs ≡ ys = cc in
    (subst (λ (b : Bool). 0 + 1 ≤ cond b (1 + prefix_len p xs) 0) (sym px) (omega arith), rest)
run_more p (x ∷ xs) (suc k) y ys le e py =
    elim (p x) as (λ b. suc k ≤ cond b (1 + prefix_len p xs) 0 → (suc k + 1 ≤ cond b (1 + prefix_len p xs) 0) × (drop (suc k + 1) (x ∷ xs) ≡ ys)) [
      | true ↦ λ le'. let m = run_more p xs k y ys (omega arith) e py in (omega (arith, m.0), ap (λ (n : ℕ). drop n (x ∷ xs)) (one_more k) ∙ m.1)
      | false ↦ λ le'. absurd (omega arith)
    ] le

-- and ends before one that doesn't
pub run_ends : {X : Type 0} (p : X → Bool) (xs : List X) (k : ℕ) (y : X) (ys : List X) → k ≤ prefix_len p xs → drop k xs ≡ y ∷ ys → p y ≡ false → prefix_len p xs ≡ k
run_ends p [] zero y ys le e py = absurd cc
run_ends p [] (suc k) y ys le e py = absurd cc
run_ends p (x ∷ xs) zero y ys le e py =
    let px : p x ≡ false = ap p (let same : x ≡ y = cc in same) ∙ py in
    ap (λ (b : Bool). cond b (1 + prefix_len p xs) 0) px
run_ends p (x ∷ xs) (suc k) y ys le e py =
    elim (p x) as (λ b. suc k ≤ cond b (1 + prefix_len p xs) 0 → cond b (1 + prefix_len p xs) 0 ≡ suc k) [
      | true ↦ λ le'. let m = run_ends p xs k y ys (omega arith) e py in omega (arith, m)
      | false ↦ λ le'. absurd (omega arith)
    ] le

-- or at the end
pub run_all : {X : Type 0} (p : X → Bool) (xs : List X) (k : ℕ) → k ≤ prefix_len p xs → drop k xs ≡ [] → prefix_len p xs ≡ k
run_all p xs k le e = omega (arith, prefix_len-le-length p xs, length-drop k xs, ap length e)

-- ---- bytes that are told

pub consumed : (old new : Option (List ℕ)) (bytes text : List ℕ) → old ≡ Some text → Consumes old new bytes → (rest : List ℕ) × (new ≡ Some rest) × (text ≡ bytes ++ rest)
consumed None new bytes text e h = absurd cc
consumed (Some xs) None bytes text e h = absurd h
consumed (Some xs) (Some ys) bytes text e h = let same : xs ≡ text = cc in (ys, refl, sym same ∙ h)

pub at_end_is : (left : Option (List ℕ)) (rest : List ℕ) → left ≡ Some rest → IsAtEnd left → rest ≡ []
at_end_is None rest e h = absurd cc
at_end_is (Some xs) rest e h = let same : xs ≡ rest = cc in sym same ∙ h

-- a read that fails takes none
pub kept_is : (old new : Option (List ℕ)) (text : List ℕ) → old ≡ Some text → Keeps old new → new ≡ Some text
kept_is None new text e h = absurd cc
kept_is (Some xs) None text e h = absurd h
kept_is (Some xs) (Some ys) text e h = ap (λ (t : List ℕ). Some t) h ∙ e

-- ---- filling

take_nothing : {X : Type 0} (n : ℕ) → take {A = X} n [] ≡ []
take_nothing zero = refl
take_nothing (suc n) = refl

zero_add : (n : ℕ) → 0 + n ≡ n
zero_add n = omega arith

pub suc_add : (a n : ℕ) → suc a + n ≡ suc (a + n)
suc_add a n = omega arith

pub take-add : {X : Type 0} (xs : List X) (a n : ℕ) → take (a + n) xs ≡ take a xs ++ take n (drop a xs)
take-add xs zero n = ap (λ (k : ℕ). take k xs) (zero_add n)
take-add {X} [] (suc a) n = take_nothing (suc a + n) ∙ sym (take_nothing n)
take-add {X} (x ∷ xs) (suc a) n = ap (λ (k : ℕ). take k (x ∷ xs)) (suc_add a n) ∙ ap (λ (ys : List X). x ∷ ys) (take-add xs a n)

pub length-put_mid : (part bytes : List ℕ) (a k : ℕ) → a + k ≤ length part → length bytes ≡ k → length (put_mid a k part bytes) ≡ length part
length-put_mid part bytes a k e n =
    omega (arith, length-append (take a part) (bytes ++ drop k (drop a part)), length-append bytes (drop k (drop a part)), length-take a part, length-drop a part, length-drop k (drop a part))

-- one more read into a part of a record whose first a bytes are those of a text
pub record Filled (part text rest : List ℕ) (a : ℕ) : Type 0 where
  pub within : a ≤ length text
  pub same : take a part ≡ take a text
  pub left : drop a text ≡ rest

pub Filled-more : (part bytes text rest : List ℕ) (a k n : ℕ) → a + k ≡ length part → length bytes ≡ k → n ≤ length bytes → a ≤ length text → take a part ≡ take a text → drop a text ≡ take n bytes ++ rest
    → Filled (put_mid a k part bytes) text rest (a + n)
Filled-more part bytes text rest a k n e len le within same told =
    let behind = bytes ++ drop k (drop a part) in
    let whole = take a part ++ behind in
    let la : length (take a part) ≡ a = omega (arith, length-take a part) in
    let ln : length (take n bytes) ≡ n = omega (arith, length-take n bytes) in
    let front : take (a + n) whole ≡ take a part ++ take n bytes =
    take-add whole a n ∙ ap (λ (p : List ℕ). p ++ take n (drop a whole)) (take_at (take a part) behind a la)
    ∙ ap (λ (q : List ℕ). take a part ++ take n q) (drop_at (take a part) behind a la)
    ∙ ap (λ (q : List ℕ). take a part ++ q) (take-append-le n bytes (drop k (drop a part)) le) in
    let of_text : take (a + n) text ≡ take a text ++ take n bytes =
    take-add text a n ∙ ap (λ (q : List ℕ). take a text ++ take n q) told ∙ ap (λ (q : List ℕ). take a text ++ q) (take_at (take n bytes) rest n ln) in
    record {
      within = omega (arith, length-drop a text, ap length told, length-append (take n bytes) rest);
      same = front ∙ ap (λ (p : List ℕ). p ++ take n bytes) same ∙ sym of_text;
      left = sym (drop-drop n a text) ∙ ap (drop n) told ∙ drop_at (take n bytes) rest n ln;
    }
