-- How far the answers of a batch have come.
use Rattle.zeb_program.proofs.Cited.{◌≡◌, ◌<◌, ◌+◌, ℕ, List, [], ◌++◌, length, sym, subst, append_assoc, append-nil, first_line, after_first_line, EachLine, none, more, Status, greater, Answered}
use Rattle.zeb_program.proofs.StatusLemmas.{greater_least, greater_regroup}

module _ {X : Type 0} (Answers : ℕ → List ℕ → X → List ℕ → Status → X → Type 0) where
  -- the answers so far, where `Answers` says of each line what is written: with those of lines of the rest they are the answers of as many
  -- lines of the whole
  abbrev pub IsAnswered : (before : ℕ) (text : List ℕ) (first : X) (n : ℕ) (rest : List ℕ) (greatest : Status) (held : X) (bytes : List ℕ) → Type 0
  IsAnswered before text first n rest greatest held bytes =
      (later : List ℕ) (status : Status) (left : List ℕ) (last : X) → EachLine Answers n rest held later status left last → EachLine Answers before text first (bytes ++ later) (greater greatest status) left last

  pub answered_start : (n : ℕ) (text : List ℕ) (first : X) → IsAnswered n text first n text Answered first []
  answered_start n text first = λ later status left last h. h

  answered_next : (before : ℕ) (text : List ℕ) (first : X) (n : ℕ) (rest : List ℕ) (greatest status : Status) (held then : X) (bytes here : List ℕ) → 0 < length rest
      → IsAnswered before text first n rest greatest held bytes → Answers (n + 1) (first_line rest) held here status then
      → IsAnswered before text first (n + 1) (after_first_line rest) (greater greatest status) then (bytes ++ here)
  answered_next before text first n rest greatest status held then bytes here some far answer = λ later top left last g.
      let all : EachLine Answers before text first (bytes ++ (here ++ later)) (greater greatest (greater status top)) left last = far (here ++ later) (greater status top) left last (more some answer g) in
      let split : EachLine Answers before text first ((bytes ++ here) ++ later) (greater greatest (greater status top)) left last =
      subst (λ xs. EachLine Answers before text first xs (greater greatest (greater status top)) left last) (sym (append_assoc bytes here later)) all in
      subst (λ m. EachLine Answers before text first ((bytes ++ here) ++ later) m left last) (greater_regroup greatest status top) split

  -- the lines so far, alone
  pub answered_lines : (before : ℕ) (text : List ℕ) (first : X) (n : ℕ) (rest : List ℕ) (greatest : Status) (held : X) (bytes : List ℕ)
      → IsAnswered before text first n rest greatest held bytes → EachLine Answers before text first bytes greatest rest held
  answered_lines before text first n rest greatest held bytes far =
      let all : EachLine Answers before text first (bytes ++ []) (greater greatest Answered) rest held = far [] Answered rest held none in
      let bare : EachLine Answers before text first bytes (greater greatest Answered) rest held = subst (λ xs. EachLine Answers before text first xs (greater greatest Answered) rest held) (append-nil bytes) all in
      subst (λ m. EachLine Answers before text first bytes m rest held) (greater_least greatest) bare

  -- a line more, where it and the rest are known by an equation
  pub answered_line : (before : ℕ) (text : List ℕ) (first : X) (n : ℕ) (rest line after : List ℕ) (greatest status now : Status) (held then : X) (bytes here : List ℕ)
      → 0 < length rest → line ≡ first_line rest → after ≡ after_first_line rest → now ≡ greater greatest status
      → IsAnswered before text first n rest greatest held bytes → Answers (n + 1) line held here status then
      → IsAnswered before text first (n + 1) after now then (bytes ++ here)
  answered_line before text first n rest line after greatest status now held then bytes here some is_line is_rest is_max far answer =
      let next = answered_next before text first n rest greatest status held then bytes here some far (subst (λ l. Answers (n + 1) l held here status then) is_line answer) in
      rw (is_rest, is_max) next
