-- What is written for words, at each end.
use Rattle.zeb_program.proofs.Cited.{◌≡◌, ◌∙◌, ℕ, Bool, false, List, [], ◌++◌, ap, append-nil, inl, inr, subst, sym, Option, None, Some, Result, Ok, Err, String, string_bytes, AllocError, Global, KnownSink, EndsUnfailed, Sends, SendsBoth, Sent, TellsStarved, MatchResult, Status, status_code, warning_bytes, option_map, starved_line, Places, EndsWith}
use Rattle.zeb_words.specs.declared.words.Usage.{Usage}
use Rattle.zeb_words.specs.declared.words.Usage.TheVariants.{Memory}
use Rattle.zeb_program.specs.WordAnswers.{AnswersWords, EndsWords, StopsWords, TellsUsage}
use Rattle.zeb_program.proofs.SinkLemmas.{sent_none, sent_still, sent_then}

-- both ways in which words end, and the outputs pass on what they hold back
module _ {S W V : Type 0} (at : Places S) (words : List (List ℕ)) (given left : Option (List ℕ)) (unread : Bool) (old mid new : KnownSink W) (fault_old fault_mid fault_next fault_new : KnownSink V) where
  words_end : (bytes told more : List ℕ) (met : Status) (r : Result Status AllocError) → MatchResult r (AnswersWords at words given left unread bytes told) (λ error. StopsWords at words given left bytes told)
      → TellsStarved r more met → EndsWords at words given left unread bytes (told ++ more) met
  words_end bytes told more met (Ok status) answers (is, none) =
      let whole : told ≡ told ++ more = sym (ap (λ it. told ++ it) none ∙ append-nil told) in
      inl (subst (λ it. AnswersWords at words given left unread bytes it met) whole (subst (λ s. AnswersWords at words given left unread bytes told s) (sym is) answers))
  words_end bytes told more met (Err e) stops (is, line) = inr (told, stops, ap (λ it. told ++ it) line, is)

  pub ended_words : (r : Result Status AllocError) (met last : Status) (code : ℕ) → EndsUnfailed old mid fault_old fault_mid (AnswersWords at words given left unread) (StopsWords at words given left) r
      → Sends fault_mid fault_next (λ told. TellsStarved r told met) → Sent mid new [] → Sent fault_next fault_new [] → (new.failed ≡ false → fault_new.failed ≡ false → last ≡ met) → code ≡ status_code last
      → SendsBoth old new fault_old fault_new (λ bytes told. new.failed ≡ false → fault_new.failed ≡ false → EndsWith code (EndsWords at words given left unread bytes told))
  ended_words r met last code (bytes, told, ends, sent, fault_sent) (more, starved, more_sent) passed fault_passed same is = (
    bytes,
    told ++ more,
    (λ sound quiet. (
      last,
      is,
      subst (λ s. EndsWords at words given left unread bytes (told ++ more) s) (sym (same sound quiet))
          (words_end bytes told more met r (ends (passed.sound sound) (more_sent.sound (fault_passed.sound quiet))) starved),
    )),
    sent_still old mid new bytes sent passed,
    sent_still fault_old fault_next fault_new (told ++ more) (sent_then fault_old fault_mid fault_next told more fault_sent more_sent) fault_passed,
  )

-- that memory ran out at the words is told
pub usage_starved : (usage : Usage) (bytes told : List ℕ) (status : Status) → usage ≡ Memory → TellsUsage usage bytes told status → told ≡ starved_line
usage_starved usage bytes told status is tells = (subst (λ it. TellsUsage it bytes told status) is tells).2

-- a warning's line
pub warned_once : {V : Type 0} (old new : KnownSink V) (warning : Option (String Global)) (line : String Global) (bytes : List ℕ) → warning ≡ Some line → bytes ≡ string_bytes line
    → Sent old new bytes → Sent old new (warning_bytes (option_map string_bytes warning))
warned_once old new warning line bytes is same sent =
    subst (λ w. Sent old new (warning_bytes (option_map string_bytes w))) (sym is) (subst (Sent old new) same sent)

-- and where there is none
pub warned_never : {V : Type 0} (old : KnownSink V) (warning : Option (String Global)) → warning ≡ None → Sent old old (warning_bytes (option_map string_bytes warning))
warned_never old warning is = subst (λ w. Sent old old (warning_bytes (option_map string_bytes w))) (sym is) (sent_none old)
