-- What a command answers.
use Rattle.std.specs.Prelude.{ℕ, List, map, Result, Ok, Err, string_bytes}
use Rattle.zeb_keys.specs.declared.registers.Register.{Register}
use Rattle.zeb_analysis.specs.Analysing.{Analysed}
use Rattle.zeb_analysis.specs.Analysing as analysing
use Rattle.zeb_change.specs.declared.refusals.Refusal.{Refusal}
use Rattle.zeb_change.specs.Refused.{Why, why_of, IsFailing, diagnostic}
use Rattle.zeb_engine.specs.declared.replies.Holding.{Holding}
use Rattle.zeb_engine.specs.declared.replies.Reply.{Reply}
use Rattle.zeb_engine.specs.declared.replies.Reply.TheVariants as reply

-- how much the records of a database have in one register: the index's name and the register, its terms and its occurrences
pub record Extent : Type 0 where
  pub name : List ℕ
  pub register : Register
  pub terms : ℕ
  pub occurrences : ℕ

-- what a command comes to: done, counts of changed records, what is found, terms with their counts, how much a
-- database has, the bytes of records, what records are analysed to, or a refusal with its reason
pub data Answer : Type 0 where
  done : Answer
  -- records inserted, updated and deleted
  changed : ℕ → ℕ → ℕ → Answer
  -- how many records are found, and the numbers and identifiers of those that are shown
  found : ℕ → List (ℕ × List ℕ) → Answer
  -- a register, and terms of it with the number of records that have each
  scanned : Register → List (List ℕ × ℕ) → Answer
  -- how many records there are, the last number, and how much each register has of them
  counted : ℕ → ℕ → List Extent → Answer
  -- the bytes of records
  dumped : List ℕ → Answer
  -- the names of the indexes, each at its number, and records with what each is found by
  analysed : List (List ℕ) → List Analysed → Answer
  refused : Why → Answer

abbrev pub extent_of : Holding → Extent
extent_of holding = record { name = string_bytes holding.index; register = holding.register; terms = holding.terms; occurrences = holding.occurrences }

abbrev pub reply_answer : Reply → Answer
reply_answer reply.Done = done
reply_answer (reply.Changed inserted updated deleted) = changed inserted updated deleted
reply_answer (reply.Found hits shown) = found hits (map (λ hit. (hit.sysno, string_bytes hit.ident)) shown.items)
reply_answer (reply.Scanned register entries) = scanned register (map (λ entry. (entry.term, entry.records)) entries.items)
reply_answer (reply.Counted records last holdings) = counted records last (map extent_of holdings.items)
reply_answer (reply.Dumped bytes) = dumped bytes.items
reply_answer (reply.Analysed names records) = analysed (map string_bytes names.items) (map analysing.analysed records.items)

-- the answer that a reply or a refusal stands for
abbrev pub answer_of : Result Reply Refusal → Answer
answer_of (Ok reply) = reply_answer reply
answer_of (Err refusal) = refused (why_of refusal)

-- an answer is the refusal that the store failed or that memory ran out
abbrev pub IsFailure : Answer → Type 0
IsFailure (refused why) = IsFailing why
IsFailure answer = ⊥

abbrev pub no_database : List ℕ → Why
no_database name = diagnostic 235 0 name
