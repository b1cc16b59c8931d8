-- What a register has of a set of occurrences is one thing, and is told by its occurrences.
use Rattle.zeb_register.proofs.Cited.{Has, ◌≡◌, ◌↔◌, ◌∙◌, ℕ, ℤ, List, refl, sym, ap, subst, IsTotalOrder, then_total, on_total, nat_list_cmp_total, Key, Occurrence, Register, TermCount, Totals, Content, posted, HasKey, Spot, spot_cmp, capped, TermIn, AreTermsOf, AreSpotsOf, AreTotals, IsInRecord}
use Rattle.zeb_register.proofs.ContentChanges.{posting_total}
use Rattle.zeb_register.proofs.CountLemmas.{counts_so}
use Rattle.zeb_register.proofs.RisingLists.{same_list}
use Rattle.zeb_register.proofs.TermLists.{one_list_of_terms}

pub spot_total : IsTotalOrder spot_cmp
spot_total = then_total (on_total (λ (s : Spot). s.0) nat_list_cmp_total) (on_total (λ (s : Spot). s.1) posting_total)

-- a record has a key by its postings where the key's list has one of them
pub key_posted : (content : Content) (db : ℤ) (key : Key) (n : ℕ) → HasKey (posted content db) key n ↔ IsInRecord (content db key) n
key_posted content db key n = (
  λ h. (record { sysno = n; seq = h.0.seq; pos = h.0.pos }, subst (λ (k : Key). Has (content db k) (record { sysno = n; seq = h.0.seq; pos = h.0.pos })) h.2 h.1, refl),
  λ h. (record { key = key; seq = h.0.seq; pos = h.0.pos }, subst (λ (m : ℕ). Has (content db key) (record { sysno = m; seq = h.0.seq; pos = h.0.pos })) h.2 h.1, refl),
)

-- two sets with the same occurrences
module _ (O P : ℕ → Occurrence → Type 0) (so : (n : ℕ) (o : Occurrence) → O n o ↔ P n o) (index : ℕ) (register : Register) where
  pub key_as : (key : Key) (n : ℕ) → HasKey O key n ↔ HasKey P key n
  key_as key n = (λ h. (h.0, (so n h.0).0 h.1, h.2), λ h. (h.0, (so n h.0).1 h.1, h.2))

  pub terms_as : (terms : List TermCount) → AreTermsOf O index register terms → AreTermsOf P index register terms
  terms_as terms are = counts_so (TermIn O index register) (TermIn P index register) terms (λ term n. key_as _ n) are

  pub spots_as : (spots : List Spot) → AreSpotsOf O index register spots → AreSpotsOf P index register spots
  spots_as spots are = record { rising = are.rising; each = λ spot. (λ h. (so _ _).0 ((are.each spot).0 h), λ h. (are.each spot).1 ((so _ _).1 h)) }

  pub totals_as : (totals : Totals) → AreTotals O index register totals → AreTotals P index register totals
  totals_as totals are = record {
    all = are.all;
    are = terms_as are.all are.are;
    terms = are.terms;
    spots = are.spots;
    stand = spots_as are.spots are.stand;
    occurrences = are.occurrences;
  }

module _ (O : ℕ → Occurrence → Type 0) (index : ℕ) (register : Register) where
  pub one_terms : (one two : List TermCount) → AreTermsOf O index register one → AreTermsOf O index register two → one ≡ two
  one_terms = one_list_of_terms (TermIn O index register)

  pub one_spots : (one two : List Spot) → AreSpotsOf O index register one → AreSpotsOf O index register two → one ≡ two
  one_spots one two left right = same_list spot_total one two left.rising right.rising (λ s h. (right.each s).1 ((left.each s).0 h)) (λ s h. (left.each s).1 ((right.each s).0 h))

  pub one_totals : (one two : Totals) → AreTotals O index register one → AreTotals O index register two → one ≡ two
  one_totals one two left right =
      let terms : one.terms ≡ two.terms = left.terms ∙ ap (λ (ts : List TermCount). capped (Rattle.std.proofs.Common.length ts)) (one_terms left.all right.all left.are right.are) ∙ sym right.terms in
      let occurrences : one.occurrences ≡ two.occurrences = left.occurrences ∙ ap (λ (ss : List Spot). capped (Rattle.std.proofs.Common.length ss)) (one_spots left.spots right.spots left.stand right.stand) ∙ sym right.occurrences in
      λ i. record { terms = terms i; occurrences = occurrences i }
