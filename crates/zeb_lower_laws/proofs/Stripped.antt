-- A text without the spaces at its ends is what `without_spaces` gives, and nothing else is.
use Rattle.zeb_extract.proofs.Cited.{◌≡◌, ◌≢◌, ℕ, List, [], ◌∷◌, ◌++◌, reverse, refl, ap, ◌∙◌, sym, true, false, eqb, cond, Bool, append_assoc, arith, reverse-append, reverse-reverse, append-nil, eqb-true, without_leading_spaces, without_trailing_spaces}
use Rattle.std.proofs.Common.{zero, suc, add-one, get_or}
use Rattle.std.proofs.lemmas.List.{replicate_more}
use Rattle.zeb_extract.specs.Identifier.{without_spaces}
use Rattle.zeb_lower_laws.specs.Stripped.{IsStripped, spaces}
use Rattle.zeb_extract.proofs.Spaces.{keeps}

-- ---- what is taken off is spaces, and what is left begins with none

abbrev Leads : List ℕ → List ℕ → Type 0
Leads text left = (n : ℕ) × (text ≡ spaces n ++ left) × ((rest : List ℕ) → left ≢ 32 ∷ rest)

leading : (text : List ℕ) → Leads text (without_leading_spaces text)
leading [] = (0, refl, λ rest e. cc)
leading (byte ∷ bytes) = by_test (leading bytes) (eqb byte 32) refl
  where
    by_test : Leads bytes (without_leading_spaces bytes) → (b : Bool) → eqb byte 32 ≡ b
        → Leads (byte ∷ bytes) (cond b (without_leading_spaces bytes) (byte ∷ bytes))
    by_test h true e = (suc h.0, ap (λ l. byte ∷ l) h.1 ∙ ap (λ b. b ∷ (spaces h.0 ++ without_leading_spaces bytes)) (eqb-true byte 32 e), h.2)
    by_test h false e = (0, refl, λ rest same. absurd (grind (arith, e, same)))

-- ---- and ends with none

reverse-spaces : (n : ℕ) → reverse (spaces n) ≡ spaces n
reverse-spaces zero = refl
reverse-spaces (suc n) =
    reverse-append (32 ∷ []) (spaces n) ∙ ap (λ l. l ++ 32 ∷ []) (reverse-spaces n) ∙ replicate_more n 32 ∙ ap spaces (add-one n)

reverse-last : (text rest : List ℕ) → text ≡ rest ++ 32 ∷ [] → reverse text ≡ 32 ∷ reverse rest
reverse-last text rest e = ap reverse e ∙ reverse-append rest (32 ∷ [])

abbrev Trails : List ℕ → List ℕ → Type 0
Trails text left = (n : ℕ) × (text ≡ left ++ spaces n) × ((rest : List ℕ) → left ≢ rest ++ 32 ∷ [])

trailing : (text : List ℕ) → Trails text (without_trailing_spaces text)
trailing text =
    let h = leading (reverse text) in
    let left : List ℕ = without_leading_spaces (reverse text) in (
      h.0,
      sym (reverse-reverse text) ∙ ap reverse h.1 ∙ reverse-append (spaces h.0) left ∙ ap (λ l. reverse left ++ l) (reverse-spaces h.0),
      λ rest e. h.2 (reverse rest) (sym (reverse-reverse left) ∙ reverse-last (reverse left) rest e),
    )

pub is_stripped : (text : List ℕ) → IsStripped text (without_spaces text)
is_stripped text =
    let front = leading text in
    let begun : List ℕ = without_leading_spaces text in
    let back = trailing begun in
    let stripped : List ℕ = without_spaces text in record {
      before = front.0;
      after = back.0;
      whole = front.1 ∙ ap (λ l. spaces front.0 ++ l) back.1 ∙ sym (append_assoc (spaces front.0) stripped (spaces back.0));
      begins = λ rest e. front.2 (rest ++ spaces back.0) (back.1 ∙ ap (λ l. l ++ spaces back.0) e);
      ends = back.2;
    }

-- ---- only that is left

past_spaces : (n : ℕ) (text : List ℕ) → without_leading_spaces (spaces n ++ text) ≡ without_leading_spaces text
past_spaces zero text = refl
past_spaces (suc n) text = past_spaces n text

-- spaces behind a text that begins with none
begun_is : (stripped : List ℕ) (n : ℕ) → ((rest : List ℕ) → stripped ≢ 32 ∷ rest)
    → without_trailing_spaces (without_leading_spaces (stripped ++ spaces n)) ≡ without_trailing_spaces (stripped ++ spaces n)
begun_is [] n begins =
    ap without_trailing_spaces (ap without_leading_spaces (sym (append-nil (spaces n))) ∙ past_spaces n [])
    ∙ sym (ap reverse (ap without_leading_spaces (reverse-spaces n ∙ sym (append-nil (spaces n))) ∙ past_spaces n []))
begun_is (byte ∷ bytes) n begins =
    ap without_trailing_spaces (keeps (byte ∷ (bytes ++ spaces n)) (λ rest e. begins bytes (ap (λ b. b ∷ bytes) (ap (λ l. get_or l 0 0) e))))

behind : (stripped : List ℕ) (n : ℕ) → ((rest : List ℕ) → stripped ≢ rest ++ 32 ∷ []) → without_trailing_spaces (stripped ++ spaces n) ≡ stripped
behind stripped n ends =
    ap reverse (ap without_leading_spaces (reverse-append stripped (spaces n) ∙ ap (λ l. l ++ reverse stripped) (reverse-spaces n))
    ∙ past_spaces n (reverse stripped)
    ∙ keeps (reverse stripped) (λ rest e. ends (reverse rest) (sym (reverse-reverse stripped) ∙ ap reverse e ∙ reverse-append (32 ∷ []) rest)))
    ∙ reverse-reverse stripped

pub only_stripped : (text stripped : List ℕ) → IsStripped text stripped → stripped ≡ without_spaces text
only_stripped text stripped is =
    let front : without_leading_spaces text ≡ without_leading_spaces (stripped ++ spaces is.after) =
    ap without_leading_spaces (is.whole ∙ append_assoc (spaces is.before) stripped (spaces is.after))
    ∙ past_spaces is.before (stripped ++ spaces is.after) in
    sym (ap without_trailing_spaces front ∙ begun_is stripped is.after is.begins ∙ behind stripped is.after is.ends)
