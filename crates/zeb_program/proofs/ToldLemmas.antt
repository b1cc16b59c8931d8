-- Which lines are among what is told on the fault output, unless a write to it has failed.
use Rattle.zeb_program.proofs.Cited.{AllocError, Global, Closed, KnownSink, Sends, Sent, Shows, leaving_lines, TellsOrStarves, IsToldSince, TellsUnanswered, Cause, Fault, Status, MatchResult, ⊤}
use Rattle.std.proofs.Common.{◌≡◌, ◌∙◌, ℕ, List, [], ◌++◌, ap, append-nil, append_assoc, inl, inr, refl, subst, sym}
use Rattle.std.specs.Prelude.{Option, Result, Ok, Err, String}
use Rattle.std.specs.Io.KnownBytes.{Appends}
use Rattle.std.proofs.KnownBytes.{Appends-trans}
use Rattle.zeb_program.specs.FaultLines.{TellsCaused, cause_lines, register_lines}
use Rattle.zeb_program.proofs.SinkLemmas.{sent_then}

module _ {W : Type 0} where
  -- a line that is all that is written
  pub told_alone : (old new : KnownSink W) (line : List ℕ) → Sent old new line → IsToldSince old new line
  told_alone old new line sent = λ quiet. ([], [], subst (λ bytes. Appends old.known new.known bytes) (sym (append-nil line)) (sent.gets quiet))

  -- one that is written behind others
  pub told_last : (old mid new : KnownSink W) (before line : List ℕ) → Sent old mid before → Sent mid new line → IsToldSince old new line
  told_last old mid new before line first sent = λ quiet.
      (before, [], subst (λ bytes. Appends old.known new.known (before ++ bytes)) (sym (append-nil line)) ((sent_then old mid new before line first sent).gets quiet))

further : (before line after more : List ℕ) → (before ++ (line ++ after)) ++ more ≡ before ++ (line ++ (after ++ more))
further before line after more = append_assoc before (line ++ after) more ∙ ap (λ bytes. before ++ bytes) (append_assoc line after more)

module _ {W : Type 0} (old mid new : KnownSink W) (more : List ℕ) (sent : Sent mid new more) where
  -- what was told stays so where more is written
  pub told_further : (line : List ℕ) → IsToldSince old mid line → IsToldSince old new line
  told_further line told = λ quiet.
      let it = told (sent.sound quiet) in
      (it.0, it.1 ++ more, subst (λ bytes. Appends old.known new.known bytes) (further it.0 line it.1 more) (Appends-trans old.known mid.known new.known (it.0 ++ (line ++ it.1)) more it.2 (sent.gets quiet)))

-- ---- the line of a fault

placed_further : (bytes first line causes register more : List ℕ) → first ≡ line ++ causes → bytes ≡ first ++ register → bytes ++ more ≡ line ++ (causes ++ (register ++ more))
placed_further bytes first line causes register more is are =
    ap (λ it. it ++ more) (are ∙ ap (λ it. it ++ register) is) ∙ append_assoc (line ++ causes) register more ∙ append_assoc line causes (register ++ more)

module _ {W : Type 0} (old new : KnownSink W) where
  -- it is the first that is written
  first_told : (line after bytes : List ℕ) → bytes ≡ line ++ after → Sent old new bytes → IsToldSince old new line
  first_told line after bytes are sent = λ quiet. ([], after, subst (λ it. Appends old.known new.known it) are (sent.gets quiet))

  -- of a fault that is told with its cause
  pub told_caused : (why : Fault) (cause : Option Cause) (r : Result Status AllocError) → Sends old new (λ bytes. Shows (TellsCaused why cause) ⊤ bytes r) → TellsOrStarves r (IsToldSince old new) why
  told_caused why cause (Ok met) (bytes, (line, tells, fits, are), sent) = inr (line, met, tells, first_told line (cause_lines cause) bytes are sent)
  told_caused why cause (Err e) tells = inl refl

  -- and of one by which nothing is answered
  pub told_unanswered : (told : Option (List ℕ)) (config : String Global) (why : Fault) (cause : Option Cause) (closed : Closed) (r : Result Status AllocError)
      → Sends old new (λ bytes. MatchResult r (TellsUnanswered told config why cause closed bytes) (λ error. bytes ≡ leaving_lines closed)) → TellsOrStarves r (IsToldSince old new) why
  told_unanswered told config why cause closed (Ok met) (all, (status, bytes, is, greater, (register, names, (first, (line, tells, fits, are), below)), whole), sent) =
      inr (
        line,
        status,
        tells,
        first_told line (cause_lines cause ++ (register_lines register ++ leaving_lines closed)) all
            (whole ∙ placed_further bytes first line (cause_lines cause) (register_lines register) (leaving_lines closed) are below) sent,
      )
  told_unanswered told config why cause closed (Err e) tells = inl refl
