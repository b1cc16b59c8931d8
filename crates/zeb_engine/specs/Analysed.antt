-- What a command answers that analyses files, by the files alone: neither a register nor what it holds is asked.
use Rattle.zeb_engine.specs.declared.replies.Reply.{Reply}
use Rattle.zeb_change.specs.declared.refusals.Refusal.TheVariants.{Memory}
use Rattle.zeb_change.specs.declared.refusals.Refusal.{Refusal}
use Rattle.zeb_change.specs.Conditions.{Conditions}
use Rattle.std.specs.Prelude.{◌≡◌, ℕ, List, Result, Ok, Err, ◌⊎◌}
use Rattle.zeb_profile.specs.declared.directives.Directive.{Directive}
use Rattle.zeb_profile.specs.Indexes.{index_names}
use Rattle.zeb_analysis.specs.declared.faults.AnalysisFault.{AnalysisFault}
use Rattle.zeb_analysis.specs.declared.lines.AnalysedLines.{AnalysedLines}
use Rattle.zeb_analysis.specs.Analysing.{Analysed, AnalysesTo}
use Rattle.zeb_analysis.specs.Lines.{AreLines}
use Rattle.zeb_engine.specs.Answers.{Answer, analysed, refused, answer_of}
use Rattle.zeb_change.specs.Refused.{why_of}
use Rattle.zeb_change.specs.Outcomes.{analysis_refusal}

-- the analyses under the names of the profile's indexes, or the refusal
abbrev pub analysis_answer : List Directive → Result (List Analysed) AnalysisFault → Answer
analysis_answer profile (Ok analyses) = analysed (index_names profile) analyses
analysis_answer profile (Err fault) = refused (why_of (analysis_refusal fault))

-- what is analysed of files with these texts, of at most so many records, or the first refusal
abbrev pub IsAnalysed : List Directive → ℕ → List (List ℕ) → Answer → Type 0
IsAnalysed profile limit texts answer = (said : Result (List Analysed) AnalysisFault) × AnalysesTo profile limit texts said × (answer ≡ analysis_answer profile said)

-- an analysis is answered by its files alone, or memory ran out
abbrev pub IsAnalysis : Conditions → List (List ℕ) → Result Reply Refusal → Type 0
IsAnalysis c texts answer = IsAnalysed c.profile c.limits.records texts (answer_of answer) ⊎ (answer ≡ Err Memory)

-- what comes of files that are analysed one after the other: the lines of their records under the names of the
-- profile's indexes, or the first refusal, or memory ran out
abbrev pub HasLines : List Directive → ℕ → List (List ℕ) → Result AnalysedLines Refusal → Type 0
HasLines profile limit texts (Ok lines) = AreLines (index_names profile) profile limit texts lines
HasLines profile limit texts (Err refusal) = IsAnalysed profile limit texts (refused (why_of refusal)) ⊎ (refusal ≡ Memory)
