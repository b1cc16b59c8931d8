-- What the definition says that a stat answers is one answer.
use Rattle.zeb_engine.proofs.Cited.{◌≡◌, ◌∙◌, ℕ, List, [], ◌∷◌, length, Option, Some, None, Result, Ok, Err, sym, ap, ap₂, Directive, Occurrence, one_totals, Answer, Extent, Why, Conditions, IsCounted, IsExtent, Paired, Target, target_list, occurs, Base, base_named, CountedFrom, CountedIn}
use Rattle.zeb_engine.specs.Answers.{counted}

module _ (O : ℕ → Occurrence → Type 0) (profile : List Directive) where
  extent_once : (target : Target) (a b : Extent) → IsExtent O profile target a → IsExtent O profile target b → a ≡ b
  extent_once target a b x y =
      let name : a.name ≡ b.name = x.under.name ∙ sym y.under.name in
      let register : a.register ≡ b.register = x.under.register ∙ sym y.under.register in
      let totals = one_totals O target.0 target.1 (record { terms = a.terms; occurrences = a.occurrences }) (record { terms = b.terms; occurrences = b.occurrences }) x.totals y.totals in
      λ i. record { name = name i; register = register i; terms = (totals i).terms; occurrences = (totals i).occurrences }

  extents_once : (targets : List Target) (one other : List Extent) → Paired (IsExtent O profile) targets one → Paired (IsExtent O profile) targets other → one ≡ other
  extents_once [] [] [] x y = λ i. []
  extents_once [] [] (b ∷ bs) x y = absurd y
  extents_once [] (a ∷ more) other x y = absurd x
  extents_once (target ∷ targets) [] other x y = absurd x
  extents_once (target ∷ targets) (a ∷ more) [] x y = absurd y
  extents_once (target ∷ targets) (a ∷ more) (b ∷ bs) x y = ap₂ (λ (e : Extent) (es : List Extent). e ∷ es) (extent_once target a b x.0 y.0) (extents_once targets more bs x.1 y.1)

  pub counted_so : (records last : ℕ) (one other : Answer) → IsCounted O profile records last one → IsCounted O profile records last other → one ≡ other
  counted_so records last one other x y = x.2 ∙ ap (counted records last) (extents_once (target_list profile) x.0 y.0 x.1 y.1) ∙ sym y.2

pub counted_once : (c : Conditions) (name : List ℕ) (one other : Answer) (said : Result (List Base) Why) → CountedFrom c name said one → CountedFrom c name said other → one ≡ other
counted_once c name one other (Err why) x y = x ∙ sym y
counted_once c name one other (Ok bases) x y = go (base_named name bases) x y
  where
    go : (base : Option Base) → CountedIn c name base one → CountedIn c name base other → one ≡ other
    go None a b = a ∙ sym b
    go (Some base) a b = counted_so (occurs c.profile base.records) c.profile (length base.records) base.last one other a b
