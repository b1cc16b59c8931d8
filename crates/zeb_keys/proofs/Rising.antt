-- A strictly rising list is determined by its members; the order of occurrences is total, and tells all of them apart.
use Rattle.std.proofs.Common.{◌≡◌, List, [], ◌∷◌, ⊎_elim, refl, ap, ◌∙◌, sym, subst, arith}
use Rattle.std.specs.declared.cmp.Ordering.{Ordering}
use Rattle.std.specs.declared.cmp.Ordering.TheVariants.{Less, Equal, Greater}
use Rattle.std.specs.Cmp.{IsTotalOrder, then_total, on_total, nat_cmp_total}
use Rattle.std.specs.Cmp.Lexicographic.{slice_cmp, nat_list_cmp_total, same_text, texts_ties}
use Rattle.std.specs.List.{Contains, AllByRecursion}
use Rattle.std.specs.List.Sorted.{IsStrictlySortedBy}
use Rattle.std.specs.Ordering.{nat_cmp, ordering_then, ordering_reverse, is_eq}
use Rattle.std.proofs.lemmas.Cmp.{ranked}
use Rattle.std.proofs.lemmas.List.Elements.{All-contains}
use Rattle.std.proofs.lemmas.Map.Keys.{sorted_tail}
use Rattle.std.proofs.lemmas.Map.Views.{All-after_first}
use Rattle.zeb_keys.specs.declared.registers.Register.{Register}
use Rattle.zeb_keys.specs.declared.registers.Register.TheVariants.{Word, Phrase, Number}
use Rattle.zeb_keys.specs.declared.keys.Key.{Key}
use Rattle.zeb_keys.specs.declared.keys.Occurrence.{Occurrence}
use Rattle.zeb_keys.specs.Registers.{register_code}
use Rattle.zeb_keys.specs.Order.{key_order, occurrence_order, TellsApart}
use Rattle.zeb_keys.proofs.Members.{no_member, first_member, later_member, member_cases}

module _ {K : Type 0} {R : K → K → Ordering} (o : IsTotalOrder R) (apart : TellsApart R) where
  not_both : (x y : K) → R x y ≡ Less → R y x ≡ Less → ⊥
  not_both x y h k = let turned : Less ≡ Greater = sym h ∙ o.antisymm x y ∙ ap ordering_reverse k in cc

  not_itself : (x : K) → R x x ≡ Less → ⊥
  not_itself x h = not_both x x h h

  -- the first of a rising list is below the others
  below_rest : (x : K) (xs : List K) (y : K) → IsStrictlySortedBy R (x ∷ xs) → Contains xs y → R x y ≡ Less
  below_rest x xs y rising h = All-contains (λ z. R x z ≡ Less) xs y (All-after_first R x xs rising) h

  -- the first elements of two rising lists with the same members are equal
  same_first : (x : K) (xs : List K) (y : K) (ys : List K) → IsStrictlySortedBy R (x ∷ xs) → IsStrictlySortedBy R (y ∷ ys)
      → Contains (y ∷ ys) x → Contains (x ∷ xs) y → x ≡ y
  same_first x xs y ys up up' h k =
      ⊎_elim (λ e. sym e)
      (λ x_later. ⊎_elim (λ e. e)
      (λ y_later. absurd (not_both x y (below_rest x xs y up y_later) (below_rest y ys x up' x_later)))
      (member_cases x xs y k))
      (member_cases y ys x h)

  -- a later member of the one is a later member of the other
  rest_within : (x : K) (xs : List K) (y : K) (ys : List K) → x ≡ y → IsStrictlySortedBy R (x ∷ xs)
      → ((z : K) → Contains (x ∷ xs) z → Contains (y ∷ ys) z) → (z : K) → Contains xs z → Contains ys z
  rest_within x xs y ys e up within z h =
      ⊎_elim
      (λ first. absurd (not_itself x (below_rest x xs x up (subst (λ w. Contains xs w) (sym (e ∙ first)) h))))
      (λ rest. rest)
      (member_cases y ys z (within z (later_member x xs z h)))

  pub rising_unique : (xs ys : List K) → IsStrictlySortedBy R xs → IsStrictlySortedBy R ys
      → ((z : K) → Contains xs z → Contains ys z) → ((z : K) → Contains ys z → Contains xs z) → xs ≡ ys
  rising_unique [] [] up up' within back = refl
  rising_unique [] (y ∷ ys) up up' within back = absurd (no_member y (back y (first_member y ys)))
  rising_unique (x ∷ xs) [] up up' within back = absurd (no_member x (within x (first_member x xs)))
  rising_unique (x ∷ xs) (y ∷ ys) up up' within back =
      let same = same_first x xs y ys up up' (within x (first_member x xs)) (back y (first_member y ys)) in
      let rest : xs ≡ ys =
      rising_unique xs ys (sorted_tail R x xs up) (sorted_tail R y ys up')
      (rest_within x xs y ys same up within) (rest_within y ys x xs (sym same) up' back) in
      cc

pub key_total : IsTotalOrder key_order
key_total =
    then_total (on_total (λ (k : Key). k.index) nat_cmp_total)
    (then_total (on_total (λ (k : Key). register_code k.register) nat_cmp_total) (on_total (λ (k : Key). k.term) nat_list_cmp_total))

pub occurrence_total : IsTotalOrder occurrence_order
occurrence_total =
    then_total (on_total (λ (x : Occurrence). x.key) key_total)
    (then_total (on_total (λ (x : Occurrence). x.seq) nat_cmp_total) (on_total (λ (x : Occurrence). x.pos) nat_cmp_total))

pub both_equal : (r s : Ordering) → ordering_then r s ≡ Equal → (r ≡ Equal) × (s ≡ Equal)
both_equal Less s e = absurd (cc)
both_equal Equal s e = (refl, e)
both_equal Greater s e = absurd (cc)

pub numbers_apart : TellsApart nat_cmp
numbers_apart x y e = ranked x y Equal (sym e)

pub texts_apart : TellsApart (slice_cmp nat_cmp)
texts_apart x y e = same_text x y (sym (texts_ties x y ∙ ap is_eq e))

registers_apart : (r s : Register) → register_code r ≡ register_code s → r ≡ s
registers_apart Word Word e = refl
registers_apart Word Phrase e = absurd (omega arith)
registers_apart Word Number e = absurd (omega arith)
registers_apart Phrase Word e = absurd (omega arith)
registers_apart Phrase Phrase e = refl
registers_apart Phrase Number e = absurd (omega arith)
registers_apart Number Word e = absurd (omega arith)
registers_apart Number Phrase e = absurd (omega arith)
registers_apart Number Number e = refl

pub keys_apart : TellsApart key_order
keys_apart a b e =
    let first = both_equal _ _ e in
    let second = both_equal _ _ first.1 in
    let index : a.index ≡ b.index = numbers_apart _ _ first.0 in
    let register : a.register ≡ b.register = registers_apart _ _ (numbers_apart _ _ second.0) in
    let term : a.term ≡ b.term = texts_apart _ _ second.1 in
    same_key a b index register term
  where
    same_key : (a b : Key) → a.index ≡ b.index → a.register ≡ b.register → a.term ≡ b.term → a ≡ b
    same_key a b p q r i = record { index = p i; register = q i; term = r i }

pub occurrences_apart : TellsApart occurrence_order
occurrences_apart a b e =
    let first = both_equal _ _ e in
    let second = both_equal _ _ first.1 in
    let key : a.key ≡ b.key = keys_apart _ _ first.0 in
    let seq : a.seq ≡ b.seq = numbers_apart _ _ second.0 in
    let pos : a.pos ≡ b.pos = numbers_apart _ _ second.1 in
    same_occurrence a b key seq pos
  where
    same_occurrence : (a b : Occurrence) → a.key ≡ b.key → a.seq ≡ b.seq → a.pos ≡ b.pos → a ≡ b
    same_occurrence a b p q r i = record { key = p i; seq = q i; pos = r i }

module _ {K : Type 0} {R S : K → K → Ordering} (agrees : (x y : K) → R x y ≡ S x y) where
  pub apart_by : TellsApart S → TellsApart R
  apart_by apart x y e = apart x y (sym (agrees x y) ∙ e)

  all_less : (x : K) (ys : List K) → AllByRecursion (λ y. R x y ≡ Less) ys → AllByRecursion (λ y. S x y ≡ Less) ys
  all_less x [] h = tt
  all_less x (y ∷ ys) h = (sym (agrees x y) ∙ h.0, all_less x ys h.1)

  pub rising_by : (xs : List K) → IsStrictlySortedBy R xs → IsStrictlySortedBy S xs
  unfolding IsStrictlySortedBy
  rising_by [] h = tt
  rising_by (x ∷ xs) h = (all_less x xs h.0, rising_by xs h.1)
