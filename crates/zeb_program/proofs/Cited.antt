-- What this crate's proofs cite of std, of the kit, of the crates below and of its own specs, passed on from one place. Declares nothing.
pub use denote.Shadow.{shadow}
pub use denote.Text.{Utf8}
pub use Rattle.sqlite.specs.Effect.{Database, IsDatabase}
pub use Rattle.sqlite.specs.Files.{AreFound, Finds, IsEmpty as IsNoTree, IsOpened, file_state, over_files}
pub use Rattle.sqlite.specs.Held.{Held, state}
pub use Rattle.sqlite.specs.State.{HasCleanDisk, State, Survives}
pub use Rattle.sqlite.specs.Steps.{IsEmpty}
pub use Rattle.sqlite.specs.Store.{Ghosts}
pub use Rattle.sqlite.specs.Tree.{Trees}
pub use Rattle.std.proofs.Common.{◌≡◌, ◌∙◌, ◌+◌, ℕ, suc, List, [], ◌∷◌, ◌++◌, Vec, ap, append_assoc, arith, length, map, refl, subst, sym, Some, Result, Ok, string_bytes, ◌<◌, inl, inr, ◌≢◌, get_or, drop, Err, ◌≤◌, Bool, true, false, length-take, take, cond, eq-eqb, ne_eqb, not, ◌-◌, ◌^◌, ◌&&◌, zero, add-one, add-suc, add-zero, below_more, eqb, eqb-true, ◌⊎◌, ◌↔◌, ltb, suc-add, rules, subst₂, vec_len}
pub use Rattle.std.proofs.KnownBytes.{Consumes-kept, Consumes-nil, Consumes-trans, Appends-kept, Keeps-refl, Keeps-trans, Appends-trans}
pub use Rattle.std.proofs.Math.ListN.{drop_of_length-le}
pub use Rattle.std.proofs.Math.Seq.{take-append_seam, take-length, take-suc, get_or-append_seam, take-append-add, drop-append-add, drop-append_seam, drop-length}
pub use Rattle.std.proofs.lemmas.Bool.{and_from, and_parts, cases_lt, le-ltb, lt-ltb}
pub use Rattle.std.proofs.lemmas.Bool.Decides.{nat_tests, eqb_tells}
pub use Rattle.std.proofs.lemmas.List.{append-nil, length-map, map-append, length-append, take_all, take-append-drop, length-drop, get_or-append-add, drop_all, append_cancel_left, reverse-append, length-reverse, reverse-reverse, nil_from_length}
pub use Rattle.std.proofs.lemmas.Slice.Eq.{bytes_eq-Decides}
pub use Rattle.std.proofs.lemmas.Str.{IsUtf8-string_bytes, IsCharBoundary-start, IsCharBoundary-after_ascii, IsUtf8-drop, IsUtf8-nil, IsUtf8-append, IsUtf8-encode, encode_ascii, len_utf8_bounds}
pub use Rattle.std.proofs.lemmas.Str.Pattern.{NoCharPasses-char, strip_suffix_char}
pub use Rattle.std.specs.Char.{is_ascii_digit, IsScalar, char_set_contains}
pub use Rattle.std.specs.Io.KnownBytes.{Appends, Consumes, IsAtEnd, Keeps}
pub use Rattle.std.specs.List.{position_or_len, list_all, AllByRecursion, prefix_len, suffix_len}
pub use Rattle.std.specs.Option.{option_map, option_or, option_map_or}
pub use Rattle.std.specs.Prelude.{Option, None, String, IfOk, IsOk, MatchOption, codes, IfSome, string_len, IfErr, unwrap_or, IsTrue, nat_lt, nat_le, OnErr, OnOk, IsErrAnd, MatchResult, IsSome, IfNone, ⊤, is_some, reverse, if◌then◌else◌, ◌==◌, IsErr}
pub use Rattle.std.specs.Result.{result_ok, IsOkAnd}
pub use Rattle.std.specs.Str.{all_ascii_digits, IsUtf8, IsCharBoundary, NonePass, NoCharPasses, bytes_eq}
pub use Rattle.std.specs.Str.Lines.{strip_carriage_return}
pub use Rattle.std.specs.declared.alloc.AllocError.{AllocError}
pub use Rattle.std.specs.declared.alloc.Global.{Global}
pub use Rattle.zeb_analysis.specs.declared.lines.AnalysedLines.{AnalysedLines}
pub use Rattle.zeb_change.specs.Conditions.{Conditions, conditions}
pub use Rattle.zeb_change.specs.declared.refusals.Refusal.{Refusal}
pub use Rattle.zeb_change.specs.declared.refusals.Refusal.TheVariants.{Damaged, Store, Memory as OutOfMemory, ReadFault}
pub use Rattle.zeb_change.specs.declared.settings.Kind.{Kind}
pub use Rattle.zeb_change.specs.declared.settings.Limits.{Limits}
pub use Rattle.zeb_engine.specs.Analysed.{HasLines, IsAnalysed}
pub use Rattle.zeb_engine.specs.Answers.{answer_of, Answer, IsFailure}
pub use Rattle.zeb_engine.specs.Crashes.{CommitsBy, Endures, AdoptLasts, CommitsAdopted}
pub use Rattle.zeb_engine.specs.Readiness.{RefusesText, TellsText, TellsVersion, GoesByTexts, IsReadyFor, IsRefusedOver, KeepsText}
pub use Rattle.zeb_engine.specs.Refusals.{refusal_text}
pub use Rattle.zeb_engine.specs.Replies.{reply_text}
pub use Rattle.zeb_engine.specs.Steps.{TakesFiles, TellsOrFails, Run, Step}
pub use Rattle.zeb_engine.specs.Works.{ServesBy}
pub use Rattle.zeb_engine.specs.declared.commands.Command.{Command}
pub use Rattle.zeb_engine.specs.declared.commands.Command.TheVariants.{Change, Find, Scan, Analyse, Init}
pub use Rattle.zeb_engine.specs.declared.replies.Reply.{Reply}
pub use Rattle.zeb_image.specs.Holdings.{Holdings, nothing_yet}
pub use Rattle.zeb_image.specs.Image.{Keeps as Holding, IsImage}
pub use Rattle.zeb_image.specs.NameOf.{name_bytes}
pub use Rattle.zeb_marc.specs.Splits.{split_of, Gives, Next, at_end, a_slice, a_fault, next_of}
pub use Rattle.zeb_paths.specs.Walks.{telling_of, Tells, WalksOn, dues_left, paths_left, walk_weight, Due, GivesFile, IsFaultUntold, due}
pub use Rattle.zeb_paths.specs.declared.causes.Closed.{Closed}
pub use Rattle.zeb_paths.specs.declared.causes.StoreCause.{StoreCause}
pub use Rattle.zeb_profile.specs.Profiles.{profile_of}
pub use Rattle.zeb_profile.specs.declared.directives.Directive.{Directive}
pub use Rattle.zeb_program.specs.Answers.{EachLine, none, more, ChangesBy, AnswersAsTold, IsLineUntold, AnswersLine, AnswersLines, IsAnswerTo, answer_status, answer_text, none as no_lines, AnswersBatch, AnswersPart, bad_line, mark_line}
pub use Rattle.zeb_program.specs.Closings.{closing_lines, leaving_lines}
pub use Rattle.zeb_program.specs.Doing.{DoesOnNothing, DoesTask, RunsText, ServesText, DoesBatch, KeepsUnread, StopsText, all_served, first_served, StopsPart, DoesPart, DoesShell, StopsLine}
pub use Rattle.zeb_program.specs.Explanations.{Explains, ExplainsUnread, NamesRegister, refusal_cause, ExplainsRefusal, TellsFile}
pub use Rattle.zeb_program.specs.FaultAnswers.{IsOpeningFailure, unopened_refusal, GivesAnswer, NamesMet, NamesUntold}
pub use Rattle.zeb_program.specs.FaultLines.{cause_line, unread_lines, TellsFault, profile_line, unreadable_path, file_in, file_line, file_lines, IsCauseOf, TellsCaused, TellsPlaced, register_lines, cause_lines, unclosed_line, unclosed_lines}
pub use Rattle.zeb_program.specs.FixedLines.{misuse_line, usage_line, unreadable_line, expected_line, starved_line, refusal_line}
pub use Rattle.zeb_program.specs.InputCauses.{EndsInLine, is_failed_read}
pub use Rattle.zeb_program.specs.Inputs.{AreShort, IsShort, IsTextWithin, TakesAtMost, IsInput}
pub use Rattle.zeb_program.specs.LeftStores.{LeavesByTask, left_alone, left_by_batch, left_by_shell, left_by_task, unused as none_used, TellsOrStarves, EndsLeaving, LeavesAt, unused, failed, used, LeavesByBatch, LeavesByShell, LeavesStore, LeavesUnder, OpensNone, TellsRefused}
pub use Rattle.zeb_program.specs.Lines.{first_line, after_first_line, is_lf}
pub use Rattle.zeb_program.specs.OverTables.{AnalysesOver, LeavesAlone, LineOver, PathOver, PathsLast, PathsLeave, PathsOver, SaysOver, ServesOver, TaskOver, LinesOver, AreFilesOf, ChangesOver, LinesWritten, SaysWritten, IsAnalysisOver, IsRefusedUnbegun, IsUntoldNth, OverNothing}
pub use Rattle.zeb_program.specs.PathChanges.{AreFilesTold, IsLineTold, HasPath, NamesPath}
pub use Rattle.zeb_program.specs.PrivateEnding.{AnswersAs, TellsEnd, TellsStarved}
pub use Rattle.zeb_program.specs.PrivateFaults.{IsOpeningFault, IsUnread, IsUnreadAt, fault_of, IsUnfound}
pub use Rattle.zeb_program.specs.PrivateFiles.{sure_bytes, IsGiven, ReadsContent, ReadsBelow}
pub use Rattle.zeb_program.specs.PrivateLines.{whole_first_line}
pub use Rattle.zeb_program.specs.PrivateServing.{CarriesOut, StandsFor}
pub use Rattle.zeb_program.specs.PrivateShows.{BreaksOff, EndsShell, IsDone, Shows, ShowsBatch, ShowsCommand, ShowsLine, ShowsPath, ShowsShell}
pub use Rattle.zeb_program.specs.PrivateWarnings.{IsServedFor, warned_in}
pub use Rattle.zeb_program.specs.PrivateWordRuns.{ClosesBelow, Ends, EndsUnfailed, EndsSession, TellsLayout, ServesIn, ExplainsRun, GivesClosed, GivesFor, OpensUnder, RunsIn, RunsOnNothing, ServesHeld, ServesOnNothing, TakesIn, TakesOpen, OnlyLooked, format_of, ExplainsFailure, TakesStore}
pub use Rattle.zeb_program.specs.ProfileFiles.{ReadsProfile, IsProfileText}
pub use Rattle.zeb_program.specs.Registers.{UsedAs, places_of, FailsLook, IsTakenOver, FailsOpening, shut, given_back, untold, Places, IsLetGo, IsForeignOr, whole_but, IsGivenBack, HasStore, LacksStore, nothing_met}
pub use Rattle.zeb_program.specs.Says.{SaysText, Says}
pub use Rattle.zeb_program.specs.ScriptAnswers.{AnswersStopped, AreConditionsIn, AreScriptConditions, HoldsNothing, RunsFromNothing, EndsScript}
pub use Rattle.zeb_program.specs.Scripts.{BeginsRegister, after_lines, DividesAt, HasNoDivider, line_at, IsDivider}
pub use Rattle.zeb_program.specs.Serving.{AnswersFrom, ServesTask}
pub use Rattle.zeb_program.specs.Sinks.{KnownSink, SendsBoth, Sent}
pub use Rattle.zeb_program.specs.PrivateSinks.{Sends}
pub use Rattle.zeb_program.specs.Statuses.{greater, refusal_status, EndsWith, fault_status, status_code, closing_status, IsFaultStatus}
pub use Rattle.zeb_program.specs.TaskAnswers.{AreTold, ReadsWhole, AnswersOn, AnswersTask, paths_of, AnalysesFiles, AnswersCommand}
pub use Rattle.zeb_program.specs.Unanswered.{TellsNamed, TellsUnanswered, IsToldSince, TellsLineOf}
pub use Rattle.zeb_program.specs.WalkedFiles.{WalksFrom, AreTexts, FindsFiles, FindsAll, FindsNthFile, WalksOver}
pub use Rattle.zeb_program.specs.Warnings.{records_in, unmarked_by, unmarked_from, unmarked_of, MayWarn, WarnsOf, warning_bytes, warning_of, WarnsBelow}
pub use Rattle.zeb_program.specs.WordAnswers.{TellsApart, WarnsClosed, misused, EndsWords}
pub use Rattle.zeb_program.specs.WordRuns.{IsText, Performs, ReadsAt, RunsBatch, batch_stopped, batch_ran, RunsLines, on_store, in_memory, no_memory, no_register, RunsShell, shell_stopped, shell_ran, batch_silent, ServesUnder, StopsBatch, StopsShell, StopsTask, IsOwnOr, batch_part, StopsOpening, not_read, StopsLines, part_on_store, part_in_memory, no_line, shell_silent, shell_part, unread, performed, StopsReading, answered, unopened, none_made, not_opened}
pub use Rattle.zeb_program.specs.Words.{first_word, after_first_word, without_blanks, is_blank, without_leading, without_trailing}
pub use Rattle.zeb_program.specs.declared.failures.Cause.{Cause}
pub use Rattle.zeb_program.specs.declared.failures.Failure.{Failure}
pub use Rattle.zeb_program.specs.declared.faults.Fault.{Fault}
pub use Rattle.zeb_program.specs.declared.line_input.InputCause.TheVariants.{LongLine, FailedRead}
pub use Rattle.zeb_program.specs.declared.line_input.LineFault.{LineFault}
pub use Rattle.zeb_program.specs.declared.line_input.LineFault.TheVariants.{Unreadable, Memory, Memory as Starved}
pub use Rattle.zeb_program.specs.declared.lines.Line.{Line}
pub use Rattle.zeb_program.specs.declared.lines.Line.TheVariants.{Remark, Command as Order, Path, Mark, Bad}
pub use Rattle.zeb_program.specs.declared.opening.UsedLayout.TheVariants.{Blocks, Leaves}
pub use Rattle.zeb_program.specs.declared.path_changes.PathChange.{PathChange}
pub use Rattle.zeb_program.specs.declared.performing.Told.{Told}
pub use Rattle.zeb_program.specs.declared.statuses.Status.{Status}
pub use Rattle.zeb_program.specs.declared.statuses.Status.TheVariants.{Answered, Failed, Misused, Refused}
pub use Rattle.zeb_program.specs.declared.tasks.Served.{Served}
pub use Rattle.zeb_program.specs.declared.tasks.Task.{Task}
pub use Rattle.zeb_program.specs.declared.tasks.Task.TheVariants.{Ask}
pub use Rattle.zeb_analysis.specs.declared.faults.Place.{Place}
pub use Rattle.zeb_register.proofs.Calls.{on_err}
pub use Rattle.zeb_register.specs.Calls.{ChangesNothing}
pub use Rattle.zeb_register.specs.Formats.{Format, version_of, packed_blocks, packed_leaves}
pub use Rattle.zeb_words.specs.declared.words.LayoutChoice.{LayoutChoice}
pub use Rattle.zeb_words.specs.declared.words.LayoutChoice.TheVariants.{Unsaid}
