-- What only the contracts of private functions speak of; no public clause reaches it.
-- What comes of the files of an analysis, which are read one after the other.
use Rattle.std.specs.Prelude.{◌≡◌, ℕ, List}
use Rattle.zeb_profile.specs.declared.directives.Directive.{Directive}
use Rattle.zeb_engine.specs.Analysed.{HasLines}
use Rattle.zeb_paths.specs.Walks.{Tells}
use Rattle.zeb_program.specs.WalkedFiles.{AreTexts, FindsFiles}
use Rattle.zeb_program.specs.declared.analyses.AnalysedFiles.{AnalysedFiles}
use Rattle.zeb_program.specs.Inputs.{AreShort}
use Rattle.zeb_program.specs.Warnings.{unmarked_of}
use Rattle.zeb_program.specs.TaskAnswers.{AreTold}

-- files at and below these paths were read, none of more than 16,777,216 bytes, and these are their records' lines,
-- or the first refusal; where the bytes of a file at each path are told, they are these files
pub record ReadsFiles (at : Tells) (profile : List Directive) (limit : ℕ) (paths : List (List ℕ)) (analysed : AnalysedFiles) : Type 0 where
  pub texts : List (List ℕ)
  -- none of them has too many bytes, and where the bytes of a file at each path are told, they are these
  pub short : AreShort texts
  pub these : (files : List (List ℕ)) → AreTold at.bytes paths files → texts ≡ files
  -- and they are those of the files that a walk gives, of folders too
  pub walked : List (List ℕ)
  pub found : FindsFiles at paths walked
  pub read : AreTexts at.bytes walked texts
  pub lines : HasLines profile limit texts analysed.lines
  pub unmarked : analysed.unmarked.items ≡ unmarked_of 1 texts
