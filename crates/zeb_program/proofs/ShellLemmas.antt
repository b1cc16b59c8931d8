-- How far the lines of a shell have come on any tables, of an input that tells its bytes.
use Rattle.zeb_program.proofs.Cited.{◌≡◌, ◌<◌, ◌+◌, ◌∙◌, ◌++◌, inr, ℕ, Bool, true, false, List, [], ◌∷◌, length, ap, append-nil, arith, eqb, ne_eqb, refl, subst, sym, ⊤, Option, Some, None, Result, Err, IfSome, Consumes, IsAtEnd, IsUtf8, Held, state, Ghosts, Conditions, Format, bad_line, EachLine, LineOver, LineFault, EndsInLine, KeepsUnread, EndsShell, ShowsShell, first_line, after_first_line, whole_first_line, Bad, Status, greater, Answered, Misused, Tells}
use Rattle.zeb_program.proofs.AnswerLemmas.{IsAnswered, answered_line, answered_lines, answered_start}
use Rattle.zeb_program.proofs.OverLemmas.{alone as untouched}
use Rattle.zeb_program.proofs.ScriptLemmas.{not_empty}
use Rattle.zeb_program.proofs.WholeLineLemmas.{after_whole, first_of_whole, left_after_line, line_is_text, no_line_no_text}

-- ---- one line

-- bytes that aren't text are no command
pub no_text_over : {S : Type 0} (g : Ghosts S) (at : Tells) (format : Format) (c : Conditions) (number : ℕ) (bytes : List ℕ) (old : Held S) (status : Status)
    → ¬ IsUtf8 bytes → status ≡ Misused → after_first_line bytes ≡ [] → LineOver g at format c number (first_line bytes) old (bad_line number) status old
no_text_over g at format c number bytes old status other misused alone = (Bad, inr (λ text. other (line_is_text bytes alone text), refl), (refl, misused, untouched (state g old)))

-- a line that was read is the first of what was left
first_left : (bytes l : List ℕ) → bytes ≡ whole_first_line l → first_line bytes ≡ first_line l
first_left bytes l is = ap first_line is ∙ first_of_whole l

pub next_first : (P : List ℕ → Type 0) (bytes : List ℕ) (left : Option (List ℕ)) → IfSome left (λ l. bytes ≡ whole_first_line l) → (after_first_line bytes ≡ [] → P (first_line bytes)) → IfSome left (λ l. P (first_line l))
next_first P bytes None is said = tt
next_first P bytes (Some l) is said = subst P (first_left bytes l is) (said (ap after_first_line is ∙ after_whole l))

-- a line has a byte, and there is none at the end
pub next_some : (bytes : List ℕ) (left : Option (List ℕ)) → IfSome left (λ l. bytes ≡ whole_first_line l) → false ≡ eqb (length bytes) 0 → IfSome left (λ l. 0 < length l)
next_some bytes None is some = tt
next_some bytes (Some []) is some = absurd (omega (arith, ap length is, not_empty bytes some))
next_some bytes (Some (b ∷ bs)) is some = omega arith

pub none_read : (bytes : List ℕ) → true ≡ eqb (length bytes) 0 → bytes ≡ []
none_read [] e = refl
none_read (b ∷ bs) e = let other : true ≡ false = e ∙ ne_eqb (length (b ∷ bs)) 0 (λ is. omega (arith, is)) in absurd cc

pub next_none : (bytes : List ℕ) (left : Option (List ℕ)) → IfSome left (λ l. bytes ≡ whole_first_line l) → bytes ≡ [] → IsAtEnd left
next_none bytes None is none = tt
next_none bytes (Some l) is none = no_line_no_text l (sym is ∙ none)

pub next_taken : (bytes : List ℕ) (left later : Option (List ℕ)) → IfSome left (λ l. bytes ≡ whole_first_line l) → Consumes left later bytes → IfSome left (λ l. Consumes (Some l) later (whole_first_line l))
next_taken bytes None later is taken = tt
next_taken bytes (Some l) later is taken = subst (λ line. Consumes (Some l) later line) is taken

-- ---- the lines so far

-- of what is left where it is told, by any of it
pub each_left : (P : List ℕ → Type 0) (left : Option (List ℕ)) → ((rest : List ℕ) → P rest) → IfSome left P
each_left P None so = tt
each_left P (Some rest) so = so rest

pub both_left : (P Q : List ℕ → Type 0) (left : Option (List ℕ)) → IfSome left P → IfSome left Q → IfSome left (λ rest. P rest × Q rest)
both_left P Q None p q = tt
both_left P Q (Some rest) p q = (p, q)

-- what a line that isn't answered leaves, for which nothing is written
pub more_left : {S : Type 0} (g : Ghosts S) (at : Tells) (format : Format) (c : Conditions) (left later : Option (List ℕ)) (failed : Bool) (greatest : Status) (held new : Held S) (why : LineFault) (bytes more : List ℕ)
    → IfSome left (λ rest. EndsInLine 16777216 why rest later) → IfSome left (λ rest. (more ≡ []) × KeepsUnread g at format c why rest held new)
    → IfSome left (λ rest. (bytes ++ more ≡ bytes) × EndsShell g at format c later failed rest greatest held new (Err why))
more_left g at format c None later failed greatest held new why bytes more ends keeps = tt
more_left g at format c (Some rest) later failed greatest held new why bytes more ends (silent, keeps) = (ap (λ it. bytes ++ it) silent ∙ append-nil bytes, (ends, keeps))

-- at the end nothing is left
pub none_left : (P : List ℕ → Type 0) (left : Option (List ℕ)) → IsAtEnd left → P [] → IfSome left P
none_left P None end so = tt
none_left P (Some rest) end so = subst P (sym end) so

module _ {S : Type 0} (g : Ghosts S) (at : Tells) (format : Format) (c : Conditions) where
  -- of an input that told its bytes first, and has these left: the lines up to these are answered so
  abbrev pub Goes : Option (List ℕ) → Option (List ℕ) → ℕ → Status → Held S → Held S → List ℕ → Type 0
  Goes None left n greatest old now bytes = ⊤
  Goes (Some text) None n greatest old now bytes = ⊥
  Goes (Some text) (Some rest) n greatest old now bytes = IsAnswered (LineOver g at format c) 0 text old n rest greatest now bytes

  pub goes_start : (first : Option (List ℕ)) (old : Held S) → Goes first first 0 Answered old old []
  goes_start None old = tt
  goes_start (Some text) old = answered_start (LineOver g at format c) 0 text old

  pub goes_line : (first left later : Option (List ℕ)) (n : ℕ) (greatest status top : Status) (old now next : Held S) (bytes here : List ℕ)
      → top ≡ greater greatest status → IfSome left (λ l. 0 < length l) → IfSome left (λ l. Consumes (Some l) later (whole_first_line l))
      → IfSome left (λ l. LineOver g at format c (n + 1) (first_line l) now here status next) → Goes first left n greatest old now bytes → Goes first later (n + 1) top old next (bytes ++ here)
  goes_line None left later n greatest status top old now next bytes here is_max some taken step far = tt
  goes_line (Some text) None later n greatest status top old now next bytes here is_max some taken step far = absurd far
  goes_line (Some text) (Some l) None n greatest status top old now next bytes here is_max some taken step far = absurd taken
  goes_line (Some text) (Some l) (Some rest) n greatest status top old now next bytes here is_max some taken step far =
      answered_line (LineOver g at format c) 0 text old n l (first_line l) rest greatest status top now next bytes here some refl (left_after_line l rest taken) is_max far step

  -- the shell ends behind them, and no more is written
  pub goes_end : (first left later : Option (List ℕ)) (failed : Bool) (n : ℕ) (greatest : Status) (old now new : Held S) (result : Result Status LineFault) (bytes all : List ℕ)
      → IfSome left (λ rest. (all ≡ bytes) × EndsShell g at format c later failed rest greatest now new result) → Goes first left n greatest old now bytes
      → IfSome first (λ text. ShowsShell g at format c text later failed old new all result)
  goes_end None left later failed n greatest old now new result bytes all ends far = tt
  goes_end (Some text) None later failed n greatest old now new result bytes all ends far = absurd far
  goes_end (Some text) (Some rest) later failed n greatest old now new result bytes all ends far = record {
    rest = rest;
    last = now;
    greatest = greatest;
    first = subst (λ it. EachLine (LineOver g at format c) 0 text old it greatest rest now) (sym ends.0) (answered_lines (LineOver g at format c) 0 text old n rest greatest now bytes far);
    ends = ends.1;
  }
