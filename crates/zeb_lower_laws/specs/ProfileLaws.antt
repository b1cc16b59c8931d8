-- Laws of profiles and their canonical texts (this project's own rules).
use Rattle.std.specs.Prelude.{◌≡◌, ◌↔◌, ◌⊎◌, ℕ, ◌<◌, false, true, List, [], ◌∷◌, ◌++◌, codes, length, map, Option, Some, None, Result, Ok, Err}
use Rattle.std.specs.List.{AllByRecursion, IsDistinct, list_all, list_any, slice_split}
use Rattle.zeb_profile.specs.declared.directives.Directive.{Directive}
use Rattle.zeb_profile.specs.declared.directives.Directive.TheVariants.{Store}
use Rattle.zeb_profile.specs.declared.directives.Placed.{Placed}
use Rattle.zeb_profile.specs.declared.directives.Target.{Target}
use Rattle.zeb_profile.specs.declared.faults.ProfileFault.{ProfileFault}
use Rattle.zeb_profile.specs.declared.faults.ProfileFaultKind.{ProfileFaultKind}
use Rattle.zeb_profile.specs.declared.faults.ProfileFaultKind.TheVariants.{DuplicateTarget}
use Rattle.zeb_profile.specs.Canonical.{canonical_text}
use Rattle.zeb_profile.specs.Directives.{directive_of}
use Rattle.zeb_profile.specs.Indexes.{index_by_name, index_names, pair_of, same_pair, store_path, unit_targets}
use Rattle.zeb_profile.specs.Lines.{is_blank}
use Rattle.zeb_profile.specs.Profiles.{all_targets, directive_after, directives_in, first_clash, lack_of, profile_of, telling_lines}
use Rattle.zeb_profile.specs.Words.{distinct_names, is_comma, same_name, same_target, target_of, targets_of}
use Rattle.zeb_profile.specs.Laws.{IsProfile, SaysTheSame, without_store}

-- the canonical text, and all that is asked of indexes, units and identifiers, don't depend on the `store` line
abbrev pub StoreSaysNothingElse : Type 0
StoreSaysNothingElse = (directives : List Directive)
    → (canonical_text (without_store directives) ≡ canonical_text directives) × SaysTheSame (without_store directives) directives

-- a canonical text with a line `store PATH` behind it
abbrev pub text_with_store : List Directive → List ℕ → List ℕ
text_with_store directives path = canonical_text directives ++ codes "store " ++ path

-- the canonical text of a profile, read again with a `store` line of any profile behind it, has the same directives, of
-- which the store is now the last
abbrev pub CanonicalTextReadsBack : Type 0
CanonicalTextReadsBack = (directives other : List Directive) (path : List ℕ)
    → IsProfile directives → IsProfile other → store_path other ≡ Some path
    → profile_of (text_with_store directives path) ≡ Ok (without_store directives ++ Store path ∷ [])

-- two profiles with one canonical text have the same directives but for the store, and say the same
abbrev pub OneTextSaysTheSame : Type 0
OneTextSaysTheSame = (one other : List Directive) → IsProfile one → IsProfile other → canonical_text one ≡ canonical_text other
    → (without_store one ≡ without_store other) × SaysTheSame one other

-- the lines of a text that say something, without their numbers
abbrev pub telling_texts : List ℕ → List (List ℕ)
telling_texts text = map (λ line. line.1) (telling_lines text)

-- comments, empty lines and blanks at the ends of lines say nothing: a text with the telling lines of a profile is that profile
abbrev pub CommentsSayNothing : Type 0
CommentsSayNothing = (text other : List ℕ) (directives : List Directive)
    → telling_texts text ≡ telling_texts other → profile_of text ≡ Ok directives → profile_of other ≡ Ok directives

-- no two targets of a unit are one pair, whatever its tag and code
abbrev pub EachTargetOnce : Type 0
EachTargetOnce = (directives : List Directive) (tag : List ℕ) (code : Option ℕ)
    → IsProfile directives → IsDistinct same_pair (unit_targets directives tag code)

-- a part that is read as its target
abbrev pub read_soundly : Target → Result Target ProfileFaultKind
read_soundly target = Ok target

-- each part, read alone, is the target that has its place, and none of these is among those before it
pub record AreTargets (parts : List (List ℕ)) (targets : List Target) : Type 0 where
  pub read : map target_of parts ≡ map read_soundly targets
  pub apart : (before : List Target) (target : Target) (after : List Target)
      → targets ≡ before ++ target ∷ after → list_any (same_target target) before ≡ false

-- the fault of a part behind these targets: its own, or that its target is among them
pub record IsFaultyPart (earlier : List Target) (part : List ℕ) (kind : ProfileFaultKind) : Type 0 where
  pub fault : (target_of part ≡ Err kind)
      ⊎ ((target : Target) × (target_of part ≡ Ok target) × (list_any (same_target target) earlier ≡ true) × (DuplicateTarget ≡ kind))

-- one part has this fault, and those before it have none
pub record IsFirstFaultyPart (parts : List (List ℕ)) (kind : ProfileFaultKind) : Type 0 where
  pub before : List (List ℕ)
  pub part : List ℕ
  pub after : List (List ℕ)
  pub whole : parts ≡ before ++ part ∷ after
  pub earlier : List Target
  pub sound : AreTargets before earlier
  pub faulty : IsFaultyPart earlier part kind

-- a word of targets is read as those of its parts, none of which is there twice, or has the fault of its first faulty part
pub record TargetsAreRead (word : List ℕ) : Type 0 where
  pub read : (targets : List Target) → (targets_of word ≡ Ok targets) ↔ AreTargets (slice_split is_comma word) targets
  pub refused : (kind : ProfileFaultKind) → (targets_of word ≡ Err kind) ↔ IsFirstFaultyPart (slice_split is_comma word) kind

-- what a numbered line says, read alone
abbrev pub said_alone : ℕ × List ℕ → ℕ × Result Directive ProfileFaultKind
said_alone line = (line.0, directive_of line.1)

-- a line that says its directive
abbrev pub said_soundly : Placed → ℕ × Result Directive ProfileFaultKind
said_soundly read = (read.line, Ok read.directive)

-- each line, read alone, says the directive that has its number, and none of these may not stand behind those before it
pub record AreSaid (lines : List (ℕ × List ℕ)) (placed : List Placed) : Type 0 where
  pub said : map said_alone lines ≡ map said_soundly placed
  pub apart : (before : List Directive) (directive : Directive) (after : List Directive)
      → directives_in placed ≡ before ++ directive ∷ after → first_clash before directive ≡ None

-- the line of this number has this fault, and those before it have none
pub record IsFirstFaulty (lines : List (ℕ × List ℕ)) (fault : ProfileFault) : Type 0 where
  pub before : List (ℕ × List ℕ)
  pub line : List ℕ
  pub after : List (ℕ × List ℕ)
  pub whole : lines ≡ before ++ (fault.line, line) ∷ after
  pub earlier : List Placed
  pub sound : AreSaid before earlier
  pub faulty : directive_after (directives_in earlier) line ≡ Err fault.kind

-- no line has a fault, and together they lack something
pub record LacksSomething (lines : List (ℕ × List ℕ)) (fault : ProfileFault) : Type 0 where
  pub placed : List Placed
  pub sound : AreSaid lines placed
  pub lacks : lack_of placed ≡ Some fault

-- a text is refused by the fault of its first faulty line, or, where no line has a fault, by what all together lack
abbrev pub FirstFaultIsAnswered : Type 0
FirstFaultIsAnswered = (text : List ℕ) (fault : ProfileFault)
    → (profile_of text ≡ Err fault) ↔ (IsFirstFaulty (telling_lines text) fault ⊎ LacksSomething (telling_lines text) fault)

-- the names of targets, in their order, as they are spelled
abbrev pub spelled_names : List Directive → List (List ℕ)
spelled_names directives = map (λ target. target.name) (all_targets directives)

-- names are counted as they come: one that is the same as an earlier one adds nothing, and another stands behind those
pub record CountsNames (names : List (List ℕ)) (name : List ℕ) : Type 0 where
  pub known : list_any (same_name name) names ≡ true → distinct_names (names ++ name ∷ []) ≡ distinct_names names
  pub new : list_any (same_name name) names ≡ false → distinct_names (names ++ name ∷ []) ≡ distinct_names names ++ name ∷ []

-- a name's number is how many names come before it where it first comes; and that of each target is its name's, and below the
-- number of names
pub record HasNumberedNames (directives : List Directive) : Type 0 where
  pub first : (before after : List (List ℕ)) (name : List ℕ)
      → spelled_names directives ≡ before ++ name ∷ after → list_any (same_name name) before ≡ false
      → index_by_name directives name ≡ Some (length (distinct_names before))
  pub targets : AllByRecursion (λ target. (index_by_name directives target.name ≡ Some (pair_of (index_names directives) target).0)
      × ((pair_of (index_names directives) target).0 < length (index_names directives))) (all_targets directives)

-- the text is blanks, what is left, and blanks, and what is left neither begins nor ends with one
pub record IsTrimmed (text trimmed : List ℕ) : Type 0 where
  pub before : List ℕ
  pub after : List ℕ
  pub whole : text ≡ before ++ (trimmed ++ after)
  pub blanks : (list_all is_blank before ≡ true) × (list_all is_blank after ≡ true)
  pub begins : (byte : ℕ) (rest : List ℕ) → trimmed ≡ byte ∷ rest → is_blank byte ≡ false
  pub ends : (rest : List ℕ) (byte : ℕ) → trimmed ≡ rest ++ byte ∷ [] → is_blank byte ≡ false
