-- A find, step by step: what a plan holds of by the postings of its key, and that sets of the same occurrences have the same answers.
use Rattle.zeb_engine.proofs.Cited.{◌≡◌, ◌↔◌, ◌-◌, ◌&&◌, ℕ, ℤ, zero, suc, pos, Bool, true, false, if◌then◌else◌, List, [], ◌∷◌, length, take, drop, nat_lt, Result, Ok, Err, refl, sym, ap, subst, inl, inr, arith, IsUtf8, Contains, decimal, Trees, Has, Directive, PlanRefusal, PlanValue, Occurrence, posted, Format, has_taken, Answer, Why, diagnostic, Meets, AreShown, IsNamed, IsPlanned, IsShown, asked_of, TreeHolds, AreNumbers, HoldsIn, is_kept_in, NamesReadable, names_readable, tree_alike, holder_known, Base, Kept, base_numbered, IsKnown}
use Rattle.zeb_engine.proofs.DatabasesOfImages.{IsHeld}
use Rattle.zeb_engine.proofs.Showing.{KeepsEach}

-- ---- sets of the same occurrences

pub numbers_as : (P Q : ℕ → Type 0) → ((n : ℕ) → P n ↔ Q n) → (numbers : List ℕ) → AreNumbers P numbers → AreNumbers Q numbers
numbers_as P Q so numbers are = record { rising = are.rising; each = λ n. (λ h. (so n).0 ((are.each n).0 h), λ h. (are.each n).1 ((so n).1 h)) }

shown_as : (N M : ℕ → List ℕ → Type 0) → ((n : ℕ) (ident : List ℕ) → N n ident → M n ident) → (numbers : List ℕ) (shown : List (ℕ × List ℕ)) → AreShown N numbers shown → AreShown M numbers shown
shown_as N M so numbers shown are = record { in_order = are.in_order; named = λ hit there. so hit.0 hit.1 (are.named hit there) }

module _ (O P : ℕ → Occurrence → Type 0) (same : (n : ℕ) (o : Occurrence) → O n o ↔ P n o) (N M : ℕ → List ℕ → Type 0) (so : (n : ℕ) (ident : List ℕ) → N n ident ↔ M n ident) where
  named_alike : (n : ℕ) → IsNamed O N n ↔ IsNamed P M n
  named_alike n = (λ h. (h.0, (so n h.0).0 h.1), λ h. (h.0, (so n h.0).1 h.1))

  module _ (first count : ℕ) (answer : Answer) where
    told_as : (hits : List ℕ) (asked : Result (List ℕ) Why) → IsShown N hits asked answer → IsShown M hits asked answer
    told_as hits (Ok asked) is = (is.0, shown_as N M (λ n ident. (so n ident).0) asked is.0 is.1, is.2)
    told_as hits (Err why) is = is

    pub planned_as : (plan : Result PlanValue PlanRefusal) → IsPlanned O N plan first count answer → IsPlanned P M plan first count answer
    planned_as (Ok plan) is =
        let alike = tree_alike O P same (IsNamed O N) (IsNamed P M) named_alike plan in
        (is.0, numbers_as (TreeHolds O (IsNamed O N) plan) (TreeHolds P (IsNamed P M) plan) alike is.0 is.1, told_as is.0 (asked_of is.0 first count) is.2)
    planned_as (Err e) is = is

-- ---- those that are asked for

pub met_view : {A X : Type 0} (view : X → A) (said : Result A Why) (x : X) → Meets {A = A} {X = X} (λ wanted got. view got ≡ wanted) said (Ok x) → said ≡ Ok (view x)
met_view view (Ok a) x met = ap Ok (sym met)
met_view view (Err why) x met = absurd met

part_if : (b : Bool) (why : Why) (numbers asked : List ℕ) → (if b then Err why else Ok numbers) ≡ Ok asked → numbers ≡ asked
part_if true why numbers asked is = (let e : ◌≡◌ {A = Result (List ℕ) Why} (Err why) (Ok asked) = is in absurd cc)
part_if false why numbers asked is = (let e : ◌≡◌ {A = Result (List ℕ) Why} (Ok numbers) (Ok asked) = is in cc)

has_dropped : {X : Type 0} (n : ℕ) (xs : List X) (x : X) → Has (drop n xs) x → Has xs x
has_dropped zero xs x h = h
has_dropped (suc n) [] x h = absurd h
has_dropped (suc n) (y ∷ xs) x h = inr (has_dropped n xs x h)

pub asked_has : (numbers asked : List ℕ) (first count : ℕ) → asked_of numbers first count ≡ Ok asked → (n : ℕ) → Has asked n → Has numbers n
asked_has numbers asked first count said n there =
    let part = part_if (nat_lt 1 first && nat_lt (length numbers) first) (diagnostic 13 0 (decimal first)) (take count (drop (first - 1) numbers)) asked said in
    has_dropped (first - 1) numbers n (has_taken count (drop (first - 1) numbers) n (subst (λ (l : List ℕ). Has l n) (sym part) there))

module _ (format : Format) (profile : List Directive) (trees : Trees) (id : ℤ) (base : Base) (held : IsHeld format profile trees id base) where
  abbrev in_tables : ℕ → Type 0
  in_tables = is_kept_in trees id

  -- who has an occurrence is kept, with the occurrence or without
  known_kept : (n : ℕ) → IsKnown (posted held.content id) in_tables n → (k : Kept) × Contains base.records k × (k.sysno ≡ n)
  known_kept n (inl known) = (let of = (held.occurring n known.0).0 known.1 in (of.0, of.1, of.2))
  known_kept n (inr row) = (let of = (held.kept (pos n) row.0 row.1.0).0 row.1.1 in (of.0, of.1, (let e = of.2 in cc)))

  -- the records of the hits are kept
  pub asked_kept : (plan : PlanValue) (numbers asked : List ℕ) (first count : ℕ) → AreNumbers (HoldsIn trees held.content id plan) numbers → asked_of numbers first count ≡ Ok asked → KeepsEach trees id asked
  asked_kept plan numbers asked first count are said n there =
      let holds = (are.each n).0 (asked_has numbers asked first count said n there) in
      let of = known_kept n (holder_known (posted held.content id) in_tables plan n holds) in (
        (
          (of.0.ident, (of.0.bytes, (held.kept (pos n) of.0.ident of.0.bytes).1 (of.0, of.1, ap pos (sym of.2), refl, refl))),
          λ ident bytes row. let k = (held.kept (pos n) ident bytes).0 row in subst IsUtf8 (sym k.3) (held.sound.sound k.0 k.1).text,
        ),
        (let number = base_numbered profile base held.sound of.0 of.1 in omega (arith, number.1, of.2)),
      )

  -- each identifier in the tables is UTF-8
  pub idents_readable : (plan : PlanValue) → NamesReadable trees id plan
  idents_readable = names_readable trees id (λ n ident bytes row. let k = (held.kept (pos n) ident bytes).0 row in subst IsUtf8 (sym k.3) (held.sound.sound k.0 k.1).text)
