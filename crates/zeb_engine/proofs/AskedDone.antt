-- What a command has done that asks of a database behind a look which found the register ready: by the one relation of its call.
use Rattle.zeb_engine.proofs.Cited.{◌≡◌, ◌⊎◌, ◌∙◌, ◌≤◌, ◌+◌, ◌*◌, ℕ, List, Result, Ok, IfErr, OnOk, String, string_bytes, refl, sym, ap, subst, inl, inr, Global, Ghosts, Held, state, HasCleanDisk, Posting, Work, Directive, IsProfile, Format, version_of, IsStore, clean_before, Refusal, Reply, DbName, name_bytes, Answer, answer_of, IsFailure, TellsUnlessHidden, Conditions, conditions, Limits, AreSessions, Holdings, Base, IsImage, AskedFrom, AskedAmong, CountedFrom, dumped_from, OnlyAnswers, FindAnswers, ScanAnswers, ServesBy, Dump, Find, Scan, Stat, FindOver, FindReads, FindSays, HidesFind, RefusesFind, ScanOver, ScanReads, ScanSays, HidesTerms, StatOver, StatSays, HidesRegisters, DumpOver, HidesRecords, PlanValue, IsPlanOf, PlanReads, CountsAtMost, IsAskRefusal, LooksReady, ReadsAlone, TellsReady, CommandDone, no_work, ready, OnStore}
use Rattle.zeb_engine.proofs.AskedContents.{find_alone, find_refused, scan_alone, stat_alone}
use Rattle.zeb_engine.proofs.AskedImages.{dump_image, find_image, scan_image, stat_image}
use Rattle.zeb_engine.proofs.AskedReads.{told_after}
use Rattle.zeb_engine.proofs.CommandedConnections.{reads_command}
use Rattle.zeb_engine.proofs.CommandsDone.{find_done, scan_done}
use Rattle.zeb_engine.proofs.ReadsInTurn.{asked_never, asked_unread}
use Rattle.zeb_engine.proofs.ReadyCommands.{asks_serve}
use Rattle.zeb_engine.proofs.ReadyDone.{held_behind, reads_after, texts_after, told_behind}
use Rattle.zeb_engine.proofs.ReadyQueries.{alone_after, refused_after}
use Rattle.zeb_engine.proofs.ServesLemmas.{keeps_still}

module _ (format : Format) (row_work : ℕ) (block_rows : List Posting → ℕ) (limits : Limits) {S : Type 0} {g : Ghosts S} {profile : List Directive} (sound : ∥ IsProfile profile ∥₁) {old mid : Held S}
    (looked : LooksReady g (version_of format) profile old mid (Ok tt)) (new : Held S) (answer : Result Reply Refusal) (read : ReadsAlone g mid new answer) (few : IfErr answer IsAskRefusal) where
  abbrev here : Conditions
  here = conditions (version_of format) profile limits

  session : AreSessions format here
  session = record { version_is = refl; sound = sound }

  first : HasCleanDisk (state g new) → HasCleanDisk (state g mid)
  first = clean_before (state g mid) (state g new) read.crash

  reads : ReadsAlone g old new answer
  reads = reads_after looked new answer read

  texts : TellsReady g (version_of format) profile old new answer
  texts = texts_after looked new first answer (asked_never answer few)

  -- what is told of the tables of the image
  serves : (Says : Holdings → Answer → Type 0)
      → ((before : Holdings) (bases : List Base) → ready here before ≡ Ok bases → IsStore (state g mid) → IsImage (state g mid).now.trees before → Says before (answer_of answer) ⊎ IsFailure (answer_of answer))
      → HasCleanDisk (state g new) → ServesBy (λ before. OnlyAnswers (Says before) before) (state g old) (state g new) answer
  serves Says told clean = asks_serve Says (state g old) (state g new) answer (λ before keeps.
      let at = held_behind looked new first limits clean before keeps in
      let seen = (at.3 at.2.1).0 in
      let still = keeps_still before (state g mid) (state g new) (read.same clean) at.3 in
      elim (told before at.0 at.1 seen.0 seen.1) [ inl is ↦ inl (is, still) | inr failed ↦ inr (failed, still) ])

  pub dump_behind : (name : DbName) → OnStore (state g mid) (state g new) (λ trees. TellsUnlessHidden (DumpOver (name_bytes name)) (HidesRecords (name_bytes name)) trees answer) → (work : Work) → work ≡ no_work
      → CommandDone g format row_work block_rows here (Dump name) old new answer work
  dump_behind name tables work fresh =
      let n = name_bytes name in
      record {
        call = reads_command (state g old) (state g new) answer reads.opened reads.same reads.crash;
        survives = reads.crash;
        step = λ clean. serves (λ before a. a ≡ dumped_from n (ready here before)) (λ before bases is store image. elim (dump_image format here session (state g mid).now.trees before bases is image n answer (tables clean store)) [
          | inl told ↦ inl (told ∙ sym (ap (dumped_from n) is))
          | inr failed ↦ inr failed
        ]) clean;
        does = λ clean settled. record {
          looks = record { nothing = reads.same clean; caused = reads.caused clean };
          ready = texts clean;
          told = told_behind looked new first (DumpOver n) (HidesRecords n) answer tables clean;
        };
        answers = asked_unread answer few;
        counts = record { counted = fresh; none = λ _. fresh };
      }

  pub stat_behind : (name : DbName) → OnStore (state g mid) (state g new) (λ trees. TellsUnlessHidden (StatOver format profile (name_bytes name)) (HidesRegisters format profile (name_bytes name)) trees answer)
      → (begun work : Work) → begun ≡ no_work → (row_work ≡ 0 → work ≡ begun) → CommandDone g format row_work block_rows here (Stat name) old new answer work
  stat_behind name tables begun work fresh unworked =
      let n = name_bytes name in
      record {
        call = reads_command (state g old) (state g new) answer reads.opened reads.same reads.crash;
        survives = reads.crash;
        step = λ clean. serves (λ before. CountedFrom here n (ready here before)) (λ before bases is store image. elim (stat_image format here session (state g mid).now.trees before bases is image n answer (tables clean store)) [
          | inl told ↦ inl (subst (λ (r : Result (List Base) _). CountedFrom here n r (answer_of answer)) (sym is) told)
          | inr failed ↦ inr failed
        ]) clean;
        does = λ clean settled. record {
          looks = record { nothing = reads.same clean; caused = reads.caused clean };
          ready = texts clean;
          alone = alone_after format (StatSays profile) n (state g old) (state g mid) (state g new) answer (looked.reads.same (first clean)) (read.opened clean) (stat_alone format profile n (state g mid) answer (tables clean));
          told = told_behind looked new first (StatOver format profile n) (HidesRegisters format profile n) answer tables clean;
        };
        answers = asked_unread answer few;
        counts = record { counted = tt; none = λ none. unworked none ∙ fresh };
      }

  -- a command that asks by a query
  asks : (Says : Base → Answer → Type 0) (name text : List ℕ)
      → (HasCleanDisk (state g new) → (before : Holdings) (bases : List Base) → ready here before ≡ Ok bases → IsStore (state g mid) → IsImage (state g mid).now.trees before → AskedAmong Says name text bases (answer_of answer) ⊎ IsFailure (answer_of answer))
      → HasCleanDisk (state g new) → ServesBy (λ before. OnlyAnswers (AskedFrom Says name text (ready here before)) before) (state g old) (state g new) answer
  asks Says name text told clean = serves (λ before. AskedFrom Says name text (ready here before)) (λ before bases is store image. elim (told clean before bases is store image) [
    | inl among ↦ inl (subst (λ (r : Result (List Base) _). AskedFrom Says name text r (answer_of answer)) (sym is) among)
    | inr failed ↦ inr failed
  ]) clean

  module _ (name : DbName) (query : String Global) (text : List ℕ) (same : string_bytes query ≡ text) (begun work : Work) (fresh : begun ≡ no_work) where
    pub find_behind : (from count : ℕ)
        → OnStore (state g mid) (state g new) (λ trees. TellsUnlessHidden (FindOver format profile (name_bytes name) text from count) (HidesFind format profile (name_bytes name) text from count) trees answer)
        → (row_work ≡ 0 → work ≡ begun) × (HasCleanDisk (state g new) → OnOk answer (FindReads format row_work block_rows profile (name_bytes name) text (state g mid) begun work))
        → CommandDone g format row_work block_rows here (Find name query from count) old new answer work
    find_behind from count tables counts =
        let n = name_bytes name in
        find_done format row_work block_rows here reads (asked_unread answer few) begun work fresh name query from count text same counts.0 (
          asks (FindAnswers profile text from count) n text (λ clean before bases is store image. find_image format here session (state g mid).now.trees before bases is image n text from count answer (tables clean store)),
          λ clean. record {
            looks = record { nothing = reads.same clean; caused = reads.caused clean };
            ready = texts clean;
            alone = (
              alone_after format (FindSays profile text from count) n (state g old) (state g mid) (state g new) answer (looked.reads.same (first clean)) (read.opened clean) (find_alone format profile n (state g mid) text from count answer (tables clean)),
              λ texts. refused_after format (RefusesFind profile n text from count) (state g old) (state g mid) answer (looked.reads.same (first clean)) (looked.reads.opened (first clean)) (find_refused format profile n text from count (state g mid) answer (tables clean)),
            );
            told = told_behind looked new first (FindOver format profile n text from count) (HidesFind format profile n text from count) answer tables clean;
          },
          λ clean.
              told_after format (λ trees content. (plan : PlanValue) × IsPlanOf profile text plan × PlanReads row_work block_rows plan n trees content begun work) (state g old) (state g mid) (state g new) answer
              (looked.reads.same (first clean)) (read.opened clean) (counts.1 clean),
        )

    pub scan_behind : (number position : ℕ)
        → OnStore (state g mid) (state g new) (λ trees. TellsUnlessHidden (ScanOver format profile (name_bytes name) text number position) (HidesTerms format profile (name_bytes name) text number position) trees answer)
        → (row_work ≡ 0 → work ≡ begun) × (HasCleanDisk (state g new) → OnOk answer (ScanReads format row_work number position (state g mid) begun work))
        → CommandDone g format row_work block_rows here (Scan name query number position) old new answer work
    scan_behind number position tables counts =
        let n = name_bytes name in
        scan_done format row_work block_rows here reads (asked_unread answer few) begun work fresh name query number position text same counts.0 (
          asks (ScanAnswers profile text number position) n text (λ clean before bases is store image. scan_image format here session (state g mid).now.trees before bases is image n text number position answer (tables clean store)),
          λ clean. record {
            looks = record { nothing = reads.same clean; caused = reads.caused clean };
            ready = texts clean;
            alone = alone_after format (ScanSays profile text number position) n (state g old) (state g mid) (state g new) answer (looked.reads.same (first clean)) (read.opened clean) (scan_alone format profile n (state g mid) text number position answer (tables clean));
            told = told_behind looked new first (ScanOver format profile n text number position) (HidesTerms format profile n text number position) answer tables clean;
          },
          λ clean.
              told_after format (λ trees content. 1 ≤ position → position ≤ number → CountsAtMost (row_work * (number + 1)) 0 begun work) (state g old) (state g mid) (state g new) answer
              (looked.reads.same (first clean)) (read.opened clean) (counts.1 clean),
        )
