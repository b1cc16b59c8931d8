-- What is written of commands and lines as they are done.
use Rattle.zeb_program.proofs.Cited.{◌≡◌, ◌∙◌, ◌⊎◌, ◌++◌, ⊤, ap, append-nil, inl, inr, refl, ℕ, Bool, false, List, [], subst, sym, Option, Some, None, Result, Ok, Err, IfSome, AllocError, Held, state, Ghosts, Conditions, Format, Command, PathChange, Order, Path, Says, LineOver, EachLine, LineFault, Unreadable, Memory, Status, Tells, BreaksOff, IsDone, PathOver, Shows, ShowsBatch, ShowsCommand, ShowsLine, ShowsPath, ShowsShell, KnownSink, Sends, DoesBatch, DoesPart, RunsText, StopsLine, StopsPart, StopsText}
use Rattle.zeb_program.specs.Doing.{RunsFirst}
use Rattle.zeb_program.proofs.HeldLineLemmas.{lines_held}
use Rattle.zeb_program.proofs.SinkLemmas.{sent_none}

-- ---- one step

module _ {W : Type 0} (Clean : Type 0) (Over : List ℕ → Status → Type 0) (Stops : Type 0) where
  -- what is written tells it, or it is done where memory runs out for that
  pub told_or_done : (wrote writes : KnownSink W) (P : List ℕ → Status → Type 0) (r : Result Status AllocError) → Sends wrote writes (λ bytes. Shows P ⊤ bytes r)
      → (Clean → (bytes : List ℕ) (status : Status) → P bytes status → Over bytes status) → (Clean → Stops) → Sends wrote writes (λ bytes. Clean → Shows Over Stops bytes r)
  told_or_done wrote writes P (Ok status) w so stops = (w.0, (λ clean. so clean w.0 status w.1), w.2)
  told_or_done wrote writes P (Err e) w so stops = (w.0, (λ clean. (w.1.0, stops clean)), w.2)

  pub starved : (wrote : KnownSink W) (r : Result Status AllocError) (e : AllocError) → r ≡ Err e → (Clean → Stops) → Sends wrote wrote (λ bytes. Clean → Shows Over Stops bytes r)
  starved wrote r e is stops = ([], (λ clean. subst (Shows Over Stops []) (sym is) (refl, stops clean)), sent_none wrote)

module _ {S : Type 0} (g : Ghosts S) (at : Tells) (format : Format) (c : Conditions) (number : ℕ) (text : List ℕ) (old new : Held S) (bytes : List ℕ) where
  -- a line that names a command
  pub ordered_line : (command : Command) (r : Result Status AllocError) → Says text (Order command) → ShowsCommand g format c command old new bytes r → ShowsLine g at format c number text old new bytes r
  ordered_line command (Ok status) says over = (Order command, says, over)
  ordered_line command (Err e) says (silent, done) = (silent, inr (number, (done.0, done.1, (Order command, says, done.2))))

  -- a line that names a change by a path
  pub path_line : (change : PathChange) (r : Result Status AllocError) → Says text (Path change) → ShowsPath g at format c change old new bytes r → ShowsLine g at format c number text old new bytes r
  path_line change (Ok status) says over = (Path change, says, over)
  path_line change (Err e) says (silent, stops) = (silent, go stops)
    where
      go : (new ≡ old) ⊎ IsDone (λ bytes status. PathOver at format c change (state g old) bytes status (state g new)) → StopsLine g at format c text old new
      go (inl none) = inl none
      go (inr done) = inr (number, (done.0, done.1, (Path change, says, done.2)))

-- ---- lines

module _ {S : Type 0} (g : Ghosts S) (at : Tells) (format : Format) (c : Conditions) (old : Held S) (bytes : List ℕ) where
  runs_first : (n : ℕ) (text rest : List ℕ) (status : Status) (last : Held S) → EachLine (LineOver g at format c) n text old bytes status rest last → RunsFirst g at format c n text rest bytes old last
  runs_first n text rest status last each = record {
    over = (status, each);
    answers = λ before keeps.
        let held = lines_held g at format c n text rest old last bytes status before each keeps in
        (status, held.0, held.2);
  }

  -- the lines of a batch
  module _ (n : ℕ) (text : List ℕ) (new : Held S) where
    pub runs_text : (status : Status) → ShowsBatch g at format c n text old new bytes (Ok status) → RunsText g at format c n text bytes status old new
    runs_text status each = record { over = each; answers = λ before keeps. lines_held g at format c n text [] old new bytes status before each keeps }

    pub stops_part : BreaksOff g at format c n text old new bytes → StopsPart g at format c n text bytes old new
    stops_part off = record { rest = off.rest; last = off.last; some = off.some; first = runs_first n text off.rest off.status off.last off.first; stops = off.stops }

    pub batch_done : (r : Result Status AllocError) → ShowsBatch g at format c n text old new bytes r → DoesBatch g at format c n text r old new
    batch_done (Ok status) each = (bytes, status, each)
    batch_done (Err e) off = record { rest = off.rest; last = off.last; first = (bytes, off.status, off.first); next = off.stops }

  -- the lines of a shell
  module _ (text : List ℕ) (left : Option (List ℕ)) (failed : Bool) (new : Held S) where
    pub shell_all : (status : Status) → failed ≡ false → ShowsShell g at format c text left failed old new bytes (Ok status) → RunsText g at format c 0 text bytes status old new
    shell_all status sound shows =
        let whole = shows.ends.1 sound in
        let all : EachLine (LineOver g at format c) 0 text old bytes shows.greatest [] shows.last = subst (λ rest. EachLine (LineOver g at format c) 0 text old bytes shows.greatest rest shows.last) whole.0 shows.first in
        let top : EachLine (LineOver g at format c) 0 text old bytes status [] shows.last = subst (λ it. EachLine (LineOver g at format c) 0 text old bytes it [] shows.last) whole.1 all in
        runs_text 0 text new status (subst (λ last. EachLine (LineOver g at format c) 0 text old bytes status [] last) (sym shows.ends.0) top)

    pub shell_stops : (why : LineFault) → ShowsShell g at format c text left failed old new bytes (Err why) → StopsText g at format c why text left bytes old new
    shell_stops why shows = record { rest = shows.rest; last = shows.last; first = runs_first 0 text shows.rest shows.greatest shows.last shows.first; ends = shows.ends.0; keeps = shows.ends.1 }

    pub shell_done : (r : Result Status LineFault) → ShowsShell g at format c text left failed old new bytes r → DoesPart g at format c 0 text old new
    shell_done (Ok status) shows = record { rest = shows.rest; last = shows.last; first = (bytes, shows.greatest, shows.first); next = inl shows.ends.0 }
    shell_done (Err (Unreadable cause)) shows = record { rest = shows.rest; last = shows.last; first = (bytes, shows.greatest, shows.first); next = inl shows.ends.1 }
    shell_done (Err Memory) shows = record { rest = shows.rest; last = shows.last; first = (bytes, shows.greatest, shows.first); next = shows.ends.1 }

-- nothing more is written where it breaks off
pub broken_off : {S : Type 0} (g : Ghosts S) (at : Tells) (format : Format) (c : Conditions) (n : ℕ) (text : List ℕ) (old new : Held S) (bytes more : List ℕ) (r : Result Status AllocError) (e : AllocError) → r ≡ Err e → more ≡ []
    → BreaksOff g at format c n text old new bytes → ShowsBatch g at format c n text old new (bytes ++ more) r
broken_off g at format c n text old new bytes more r e is silent off =
    let whole : bytes ≡ bytes ++ more = sym (ap (λ it. bytes ++ it) silent ∙ append-nil bytes) in
    subst (ShowsBatch g at format c n text old new (bytes ++ more)) (sym is) (subst (BreaksOff g at format c n text old new) whole off)

-- what follows of an input that tells its bytes
pub some_so : (given : Option (List ℕ)) (P Q : List ℕ → Type 0) → ((text : List ℕ) → P text → Q text) → IfSome given P → IfSome given Q
some_so None P Q so h = tt
some_so (Some text) P Q so h = so text h
