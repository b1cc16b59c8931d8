-- What an analysis warns of: records that don't say that they are in Unicode (MARC 21, leader, position 9: `a` stands for UCS/Unicode).
-- That all are read as UTF-8, and the line, are this program's own.
use Rattle.std.specs.Prelude.{◌≡◌, ℕ, ◌+◌, ◌==◌, Bool, List, [], ◌∷◌, ◌++◌, codes, length, slice_get, unwrap_or, Option, Some, None, IfSome, if◌then◌else◌}
use Rattle.std.specs.Fmt.{decimal}
use Rattle.zeb_marc.specs.Splits.{split_of}
use Rattle.zeb_paths.specs.Walks.{Tells}
use Rattle.zeb_program.specs.TaskAnswers.{AreTold, ReadsWhole, paths_of}
use Rattle.zeb_program.specs.WalkedFiles.{AreTexts, FindsFiles}
use Rattle.zeb_program.specs.declared.tasks.Task.{Task}
use Rattle.zeb_program.specs.declared.tasks.Task.TheVariants.{Ask, Change, Analyse}
use Rattle.zeb_analysis.specs.declared.faults.Place.{Place}

-- ---- the records

-- position 9 of a record's leader has `a` (MARC 21)
abbrev pub says_unicode : List ℕ → Bool
says_unicode bytes = unwrap_or (slice_get bytes 9) 0 == 97

abbrev pub place : ℕ → ℕ → Place
place file nth = record { file = file; nth = nth }

-- the places of those of a file's records that don't say so, where the first of the records has this place
abbrev pub unmarked_from : ℕ → ℕ → List (List ℕ) → List Place
unmarked_from file nth [] = []
unmarked_from file nth (bytes ∷ others) =
    if says_unicode bytes then unmarked_from file (nth + 1) others else place file nth ∷ unmarked_from file (nth + 1) others

-- the same of the records of files with these texts, of which the first has this number
abbrev pub unmarked_of : ℕ → List (List ℕ) → List Place
unmarked_of file [] = []
unmarked_of file (text ∷ texts) = unmarked_from file 1 (split_of text).slices ++ unmarked_of (file + 1) texts

-- those of which a task warns that reads files of these bytes: only an analysis does
abbrev pub unmarked_by : Task → List (List ℕ) → List Place
unmarked_by (Ask command) files = []
unmarked_by (Change kind database paths) files = []
unmarked_by (Analyse paths) files = unmarked_of 1 files

-- how many records stand in files with these texts
abbrev pub records_in : List (List ℕ) → ℕ
records_in [] = 0
records_in (text ∷ texts) = length (split_of text).slices + records_in texts

-- ---- the line

-- so many of all records are read as UTF-8 and don't say that they are in Unicode, the first of them at this place
abbrev pub warning_line : ℕ → ℕ → Place → List ℕ
warning_line unmarked records first =
    codes "zebraidx: warning: read as UTF-8 without 'a' in position 9 of the leader: " ++ decimal unmarked ++ codes " of " ++ decimal records
    ++ codes " records, the first at file " ++ decimal first.file ++ codes " record " ++ decimal first.nth ++ 10 ∷ []

-- the line that so many of all records are read as UTF-8 without an `a` in position 9 of the leader, with the place
-- of the first
abbrev pub IsWarning : List ℕ → Type 0
IsWarning line = (unmarked : ℕ) × (records : ℕ) × (first : Place) × (line ≡ warning_line unmarked records first)

-- the line for these places among so many records; none where all say that they are in Unicode
abbrev pub warning_of : List Place → ℕ → Option (List ℕ)
warning_of [] records = None
warning_of (first ∷ others) records = Some (warning_line (length (first ∷ others)) records first)

-- ---- a task

-- where a task warns, it is an analysis, and this is the line
abbrev pub MayWarn : Task → Option (List ℕ) → Type 0
MayWarn task warning = IfSome warning (λ line. ReadsWhole task × IsWarning line)

-- what is warned of by the files at and below these paths, of folders too: of those records that don't say so, among all of them, in texts that
-- may be read of the files which a walk gives
abbrev pub WarnsBelow : Tells → List (List ℕ) → Option (List ℕ) → Type 0
WarnsBelow at paths warning =
    (walked texts : List (List ℕ)) × FindsFiles at paths walked × AreTexts at.bytes walked texts × (warning ≡ warning_of (unmarked_of 1 texts) (records_in texts))

-- What a task warns of: where the bytes of a file at each of its paths are told, just of those of their records that don't say so, among all of
-- them; and an analysis, whatever stands at its paths, of those in the files that a walk gives (`WarnsBelow`).
pub record WarnsOf (told : List ℕ → Option (List ℕ)) (at : Tells) (task : Task) (warning : Option (List ℕ)) : Type 0 where
  pub line : MayWarn task warning
  pub places : (files : List (List ℕ)) → AreTold told (paths_of task) files → warning ≡ warning_of (unmarked_by task files) (records_in files)
  -- an analysis warns of the records of the files that a walk gives, of folders too
  pub below : ReadsWhole task → WarnsBelow at (paths_of task) warning

-- what is written of a warning: nothing, where there is none
abbrev pub warning_bytes : Option (List ℕ) → List ℕ
warning_bytes None = []
warning_bytes (Some line) = line
