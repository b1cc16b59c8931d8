-- What was sent to a sink, one part behind the other.
use Rattle.zeb_program.proofs.Cited.{◌≡◌, ℕ, List, [], ◌++◌, append-nil, subst, sym, Appends-trans, AllocError, Result, Ok, Err, MatchResult, Status, KnownSink, Sent, Sends, Ends, EndsUnfailed}
use Rattle.std.proofs.KnownBytes.{Appends-nil}

module _ {W : Type 0} where
  pub sent_none : (s : KnownSink W) → Sent s s []
  sent_none s = record { sound = λ sound. sound; gets = λ _. Appends-nil s.known }

  pub sent_then : (a b c : KnownSink W) (x y : List ℕ) → Sent a b x → Sent b c y → Sent a c (x ++ y)
  sent_then a b c x y first next = record {
    sound = λ sound. first.sound (next.sound sound);
    gets = λ sound. Appends-trans a.known b.known c.known x y (first.gets (next.sound sound)) (next.gets sound);
  }

  -- where nothing more is sent
  pub sent_still : (a b c : KnownSink W) (x : List ℕ) → Sent a b x → Sent b c [] → Sent a c x
  sent_still a b c x first next = subst (Sent a c) (append-nil x) (sent_then a b c x [] first next)

  pub sends_still : (a b c : KnownSink W) (P : List ℕ → Type 0) → Sends a b P → Sent b c [] → Sends a c P
  sends_still a b c P first next = (first.0, first.1, sent_still a b c first.0 first.2 next)

  pub sends_then : (a b c : KnownSink W) (P Q R : List ℕ → Type 0) → ((x y : List ℕ) → P x → Q y → R (x ++ y)) → Sends a b P → Sends b c Q → Sends a c R
  sends_then a b c P Q R so first next = (first.0 ++ next.0, so first.0 next.0 first.1 next.1, sent_then a b c first.0 next.0 first.2 next.2)

  -- what is so of what was sent
  pub sends_so : (a b : KnownSink W) (P Q : List ℕ → Type 0) → ((bytes : List ℕ) → P bytes → Q bytes) → Sends a b P → Sends a b Q
  sends_so a b P Q so sends = (sends.0, so sends.0 sends.1, sends.2)

-- what is so of both ends of words
both_so : (A B : Status → Type 0) (S T : Type 0) (r : Result Status AllocError) → ((status : Status) → A status → B status) → (S → T) → MatchResult r A (λ error. S) → MatchResult r B (λ error. T)
both_so A B S T (Ok status) answers stops h = answers status h
both_so A B S T (Err e) answers stops h = stops h

pub ends_so : {W V : Type 0} (old new : KnownSink W) (fault_old fault_new : KnownSink V) (A B : List ℕ → List ℕ → Status → Type 0) (S T : List ℕ → List ℕ → Type 0) (r : Result Status AllocError)
    → ((bytes told : List ℕ) (status : Status) → A bytes told status → B bytes told status) → ((bytes told : List ℕ) → S bytes told → T bytes told)
    → Ends old new fault_old fault_new A S r → Ends old new fault_old fault_new B T r
ends_so old new fault_old fault_new A B S T r answers stops (bytes, told, ends, sent, fault_sent) =
    (bytes, told, both_so (A bytes told) (B bytes told) (S bytes told) (T bytes told) r (answers bytes told) (stops bytes told) ends, sent, fault_sent)

pub unfailed_so : {W V : Type 0} (old new : KnownSink W) (fault_old fault_new : KnownSink V) (A B : List ℕ → List ℕ → Status → Type 0) (S T : List ℕ → List ℕ → Type 0) (r : Result Status AllocError)
    → ((bytes told : List ℕ) (status : Status) → A bytes told status → B bytes told status) → ((bytes told : List ℕ) → S bytes told → T bytes told)
    → EndsUnfailed old new fault_old fault_new A S r → EndsUnfailed old new fault_old fault_new B T r
unfailed_so old new fault_old fault_new A B S T r answers stops (bytes, told, ends, sent, fault_sent) =
    (bytes, told, (λ sound quiet. both_so (A bytes told) (B bytes told) (S bytes told) (T bytes told) r (answers bytes told) (stops bytes told) (ends sound quiet)), sent, fault_sent)

pub unfailed : {W V : Type 0} (old new : KnownSink W) (fault_old fault_new : KnownSink V) (A : List ℕ → List ℕ → Status → Type 0) (S : List ℕ → List ℕ → Type 0) (r : Result Status AllocError)
    → Ends old new fault_old fault_new A S r → EndsUnfailed old new fault_old fault_new A S r
unfailed old new fault_old fault_new A S r (bytes, told, ends, sent, fault_sent) = (bytes, told, (λ _ _. ends), sent, fault_sent)

-- only the fault output is written to, by what is answered
pub told_only : {W V : Type 0} (old : KnownSink W) (fault_old fault_new : KnownSink V) (A : List ℕ → List ℕ → Status → Type 0) (S : List ℕ → List ℕ → Type 0) (P : List ℕ → Status → Type 0) (Q : List ℕ → Type 0) (r : Result Status AllocError)
    → ((told : List ℕ) (status : Status) → P told status → A [] told status) → ((told : List ℕ) → Q told → S [] told)
    → Sends fault_old fault_new (λ told. MatchResult r (P told) (λ error. Q told)) → Ends old old fault_old fault_new A S r
told_only old fault_old fault_new A S P Q r answers stops (told, tells, sent) = ([], told, both r tells, sent_none old, sent)
  where
    both : (r : Result Status AllocError) → MatchResult r (P told) (λ error. Q told) → MatchResult r (A [] told) (λ error. S [] told)
    both (Ok status) h = answers told status h
    both (Err e) h = stops told h

-- nothing is begun
pub unbegun : {W V : Type 0} (old : KnownSink W) (fault_old : KnownSink V) (A : List ℕ → List ℕ → Status → Type 0) (S : List ℕ → List ℕ → Type 0) (r : Result Status AllocError) (e : AllocError)
    → r ≡ Err e → S [] [] → Ends old old fault_old fault_old A S r
unbegun old fault_old A S r e is stops = ([], [], subst (λ it. MatchResult it (A [] []) (λ error. S [] [])) (sym is) stops, sent_none old, sent_none fault_old)
