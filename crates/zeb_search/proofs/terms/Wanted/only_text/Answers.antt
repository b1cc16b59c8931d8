use Rattle.zeb_search.proofs.Cited.{◌≡◌, ◌∙◌, ap, sym, chars, string_bytes, IsUtf8-string_bytes, literal}
use Rattle.zeb_search.proofs.TermLemmas.{literal_plain, literal_wanted}
use Rattle.zeb_search.proofs.terms.Wanted.only_text.Goals as goal

pub returns-in_ok-from_str-in-Some-clause-text : goal.returns-in_ok-from_str-in-Some-clause-text
returns-in_ok-from_str-in-Some-clause-text c term =
    let text = c.in_ok-from_str-in-Some.field-0 in
    let is : c.in-Matching.pattern.now ≡ literal (chars (string_bytes text)) = c.in-Some.ensures.text ∙ ap (λ t. literal (chars t)) (sym c.in_ok-from_str-in-Some.ensures.ok) in
    rw (c.in-Matching.is, c.new.ensures) (literal_wanted c.in-Matching.pattern.now (string_bytes text) (IsUtf8-string_bytes text) is term)

pub returns-in-Number-clause-text : goal.returns-in-Number-clause-text
returns-in-Number-clause-text c = rw c.in-Number.is c.only_key.ensures.text

pub returns-in_ok-from_str-in-Some-clause-named : goal.returns-in_ok-from_str-in-Some-clause-named
returns-in_ok-from_str-in-Some-clause-named c = rw c.in-Matching.is (literal_plain c.in-Matching.pattern.now _ c.in-Some.ensures.text)

pub returns-in-Number-clause-named : goal.returns-in-Number-clause-named
returns-in-Number-clause-named c = rw c.in-Number.is c.only_key.ensures.named
