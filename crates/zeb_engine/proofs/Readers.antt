-- Readers of which none has failed.
use Rattle.zeb_engine.proofs.Cited.{◌≡◌, ◌⊎◌, ◌∙◌, ◌≤◌, arith, ℕ, Bool, true, false, List, [], ◌∷◌, Result, Ok, Err, IsErrAnd, inl, inr, refl, subst, sym, ap, Refusal, ReadFault, HasFailedAt, NamesFailed, NoneFailed, NoReadFault, StayAble, TellsFaults, fine_at, one_failed}

pub no_file_failed : {R : Type 0} (failed : R → Bool) (readers : List R) → NoneFailed failed readers → (file : ℕ) → HasFailedAt failed readers file → ⊥
no_file_failed failed readers none file at =
    let e : false ≡ true = sym (fine_at failed readers at.index at.reader none at.within) ∙ sym (ap failed at.there) ∙ at.failed in
    cc

-- bytes never fail
pub none_fails : {R : Type 0} (readers : List R) → NoneFailed (λ reader. false) readers
none_fails [] = tt
none_fails (x ∷ xs) = (refl, none_fails xs)

-- one that has failed is named where each is: then it is the only one, and so the first
pub named_or_none : {T R : Type 0} (failed : R → Bool) (readers : List R) (result : Result T Refusal) → ((file : ℕ) → HasFailedAt failed readers file → result ≡ Err (ReadFault file))
    → NoneFailed failed readers ⊎ IsErrAnd result (NamesFailed failed readers)
named_or_none failed readers result each = elim (one_failed failed readers) [
  | inl none ↦ inl none
  | inr some ↦ inr (subst (λ r. IsErrAnd r (NamesFailed failed readers)) (sym (each some.0 some.1)) (some.0, some.1, only some.0 some.1, refl))
]
  where
    only : (file : ℕ) → HasFailedAt failed readers file → (other : ℕ) → HasFailedAt failed readers other → file ≤ other
    only file at other there =
        let both = sym (each file at) ∙ each other there in
        let same : file ≡ other = cc in
        omega (arith, same)

-- readers that nothing is read from stay what they are
pub as_able : {R : Type 0} (may_fail has_failed : R → Bool) (readers : List R) → StayAble may_fail has_failed readers readers
as_able may_fail has_failed [] = tt
as_able may_fail has_failed (reader ∷ readers) = (λ sound. (sound, refl), as_able may_fail has_failed readers)

-- ---- what a call tells of them

module _ {R T : Type 0} (may_fail has_failed : R → Bool) where
  -- they were left alone, and none is blamed
  pub untouched : (readers : List R) (refusal : Refusal) (result : Result T Refusal) → result ≡ Err refusal → NoReadFault {T = T} (Err refusal) → TellsFaults may_fail has_failed readers readers result
  untouched readers refusal result told unread = record {
    failed = λ none file at. absurd (no_file_failed has_failed readers none file at);
    fault = λ file is. absurd (unread file (sym told ∙ is));
    able = as_able may_fail has_failed readers;
  }

  module _ {S : Type 0} (before after : List R) where
    -- none has failed, and none is blamed for what comes behind
    pub read_through : (x : S) (result : Result T Refusal) → NoReadFault result → TellsFaults may_fail has_failed before after (Ok x) → TellsFaults may_fail has_failed before after result
    read_through x result unread faults = record {
      failed = λ none file at. let no = faults.failed none file at in absurd (cc);
      fault = λ file is. absurd (unread file is);
      able = faults.able;
    }

    -- the refusal is passed on
    pub passed_on : (refusal : Refusal) (result : Result T Refusal) → result ≡ Err refusal → TellsFaults {T = S} may_fail has_failed before after (Err refusal) → TellsFaults may_fail has_failed before after result
    passed_on refusal result told faults = record {
      failed = λ none file at. let is = faults.failed none file at in let same : refusal ≡ ReadFault file = cc in told ∙ ap Err same;
      fault = λ file is. let both = sym told ∙ is in let same : refusal ≡ ReadFault file = cc in faults.fault file (ap Err same);
      able = faults.able;
    }
