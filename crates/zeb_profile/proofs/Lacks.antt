-- What the lines of a profile lack together, by what each profile has once.
use Rattle.zeb_profile.proofs.Cited.{◌≡◌, ◌≢◌, ℕ, List, [], ◌∷◌, Bool, true, false, ◌||◌, Option, Some, None, Result, Ok, Err, option_map, subst, refl, sym, ◌∙◌, ap, length, ◌<◌, ◌≤◌, arith, le-leb, lt-leb, length-map, list_any, find, is_some, option_or, IsErr, IsErrAnd, Directive, Store, Identifier, Att, Melm, Placed, ProfileFault, ProfileFaultKind, NoIdentifier, NoStore, TooManyIndexes, UnknownIndex, first_spelling, first_told, identifier_pattern, identifier_told, index_names, path_told, store_path, UnitPattern, FailsPlaced, GivesPlaced, all_targets, directives_in, first_lack, has_room, is_identifier, is_store, lack_of, most_indexes, placed_lines, profile_of, ties_unknown, unless, target_names}
use Rattle.zeb_profile.specs.declared.directives.Directive.TheVariants.{All}

pub lack_none : (o : Option Placed) (a b c : Bool) → first_lack o a b c ≡ None → (o ≡ None) × (a ≡ true) × (b ≡ true) × (c ≡ true)
lack_none (Some line) a b c h = absurd (cc)
lack_none None false b c h = absurd (cc)
lack_none None true false c h = absurd (cc)
lack_none None true true false h = absurd (cc)
lack_none None true true true h = (refl, refl, refl, refl)

identifier_each : (d : Directive) → is_identifier d ≡ is_some (identifier_told d)
identifier_each (Identifier pattern) = refl
identifier_each (Store path) = refl
identifier_each (Att number name) = refl
identifier_each (Melm pattern targets) = refl
identifier_each (All targets) = refl

store_each : (d : Directive) → is_store d ≡ is_some (path_told d)
store_each (Store path) = refl
store_each (Identifier pattern) = refl
store_each (Att number name) = refl
store_each (Melm pattern targets) = refl
store_each (All targets) = refl

either_told : {A : Type 0} (a b : Option A) → (is_some a || is_some b) ≡ is_some (option_or a b)
either_told None b = refl
either_told (Some x) b = refl

any_told : {A : Type 0} (told : Directive → Option A) (is : Directive → Bool) → ((d : Directive) → is d ≡ is_some (told d)) → (placed : List Placed)
    → list_any (λ line. is line.directive) placed ≡ is_some (first_told told (directives_in placed))
any_told told is each [] = refl
any_told told is each (x ∷ xs) =
    rw (each x.directive, any_told told is each xs) (either_told (told x.directive) (first_told told (directives_in xs)))

-- the first line that ties a use attribute to no index
abbrev pub untied : List Placed → Option Placed
untied placed = find (λ line. ties_unknown (directives_in placed) line.directive) placed

-- what is lacked, by what each profile has once
pub lack_by : (placed : List Placed)
    → lack_of placed ≡ first_lack (untied placed) (is_some (identifier_pattern (directives_in placed))) (is_some (store_path (directives_in placed))) (has_room (directives_in placed))
lack_by placed =
    rw (any_told identifier_told is_identifier identifier_each placed, any_told path_told is_store store_each placed) refl

-- a line that ties no use attribute ties none to no index
pub no_tie : (directives : List Directive) (d : Directive) → ((number : ℕ) (name : List ℕ) → d ≢ Att number name) → ties_unknown directives d ≡ false
no_tie directives (Att number name) not = absurd (not number name refl)
no_tie directives (Store path) not = refl
no_tie directives (Identifier pattern) not = refl
no_tie directives (Melm pattern targets) not = refl
no_tie directives (All targets) not = refl

-- the indexes are as many as the names of all targets
pub index_count : (directives : List Directive) → length (index_names directives) ≡ length (target_names (all_targets directives))
index_count directives = length-map (target_names (all_targets directives)) (first_spelling directives)

-- the fault of a line that ties a use attribute to no index
pub lacks_index : (o : Option Placed) (a b c : Bool) (line : ℕ) → Some line ≡ option_map (λ found. found.line) o
    → first_lack o a b c ≡ Some (record { line = line; kind = UnknownIndex })
lacks_index None a b c line h = absurd (cc)
lacks_index (Some found) a b c line h =
    let same : line ≡ found.line = cc in ap (λ at. Some (record { line = at; kind = UnknownIndex })) (sym same)

pub no_line : (o : Option Placed) → None ≡ option_map (λ found. found.line) o → o ≡ None
no_line None h = refl
no_line (Some found) h = absurd (cc)

pub fault_is : (fault : ProfileFault) (line : ℕ) (kind : ProfileFaultKind) → fault.kind ≡ kind → fault.line ≡ line → fault ≡ record { line = line; kind = kind }
fault_is fault line kind k l = rw (← k, ← l) refl

unless_fault : {A B E : Type 0} (o : Option E) (x : A) (y : B) (e : E) → unless o x ≡ Err e → unless o y ≡ Err e
unless_fault None x y e h = absurd (cc)
unless_fault (Some fault) x y e h = let same : fault ≡ e = cc in ap Err same

-- what the lines of a text lack is the fault of the text
pub lack_of_text : (fault : ProfileFault) (text : List ℕ) (placed : List Placed) → placed_lines text ≡ Ok placed
    → FailsPlaced fault (unless (lack_of placed) placed) → FailsPlaced fault (profile_of text)
lack_of_text fault text placed read fails =
    (fails.0, λ other. rw read (unless_fault (lack_of placed) placed (directives_in placed) fault (fails.1 other)))

-- a fault that is passed on is the definition's
pub fault_given : {X A : Type 0} (view : X → A) (given : Result X ProfileFault) (fault : ProfileFault) (said : Result A ProfileFault)
    → IsErr given × IsErrAnd given (λ passed. passed ≡ fault) → FailsPlaced fault said → GivesPlaced view given said
fault_given view (Ok x) fault said passed fails = absurd passed.1
fault_given view (Err other) fault said passed fails = subst (λ (e : ProfileFault). FailsPlaced e said) (sym passed.1) fails

-- a fault that stands on no line
pub record IsFaultOf (fault : ProfileFault) (kind : ProfileFaultKind) : Type 0 where
  pub is_kind : fault.kind ≡ kind
  pub line : fault.line ≡ 0

fails : (fault : ProfileFault) (kind : ProfileFaultKind) (placed : List Placed) → IsFaultOf fault kind
    → lack_of placed ≡ Some (record { line = 0; kind = kind }) → FailsPlaced fault (unless (lack_of placed) placed)
fails fault kind placed of lacks =
    (λ _. of.line, λ _. rw lacks (ap Err (sym (fault_is fault 0 kind of.is_kind of.line))))

pub fails_unidentified : (fault : ProfileFault) (placed : List Placed) → IsFaultOf fault NoIdentifier → untied placed ≡ None
    → identifier_pattern (directives_in placed) ≡ None → FailsPlaced fault (unless (lack_of placed) placed)
fails_unidentified fault placed of tied identifier = fails fault NoIdentifier placed of (lack_by placed ∙ rw (tied, identifier) refl)

pub fails_without_store : (fault : ProfileFault) (placed : List Placed) (pattern : UnitPattern) → IsFaultOf fault NoStore → untied placed ≡ None
    → identifier_pattern (directives_in placed) ≡ Some pattern → store_path (directives_in placed) ≡ None → FailsPlaced fault (unless (lack_of placed) placed)
fails_without_store fault placed pattern of tied identifier store = fails fault NoStore placed of (lack_by placed ∙ rw (tied, identifier, store) refl)

crowded : (directives : List Directive) → 4294967295 < length (index_names directives) → has_room directives ≡ false
crowded directives many = lt-leb (length (target_names (all_targets directives))) most_indexes (omega (arith, index_count directives))

roomy : (directives : List Directive) → length (index_names directives) ≤ 4294967295 → has_room directives ≡ true
roomy directives few = le-leb (length (target_names (all_targets directives))) most_indexes (omega (arith, index_count directives))

pub fails_crowded : (fault : ProfileFault) (placed : List Placed) (pattern : UnitPattern) (path : List ℕ) → IsFaultOf fault TooManyIndexes → untied placed ≡ None
    → identifier_pattern (directives_in placed) ≡ Some pattern → store_path (directives_in placed) ≡ Some path
    → 4294967295 < length (index_names (directives_in placed)) → FailsPlaced fault (unless (lack_of placed) placed)
fails_crowded fault placed pattern path of tied identifier store many =
    fails fault TooManyIndexes placed of (lack_by placed ∙ rw (tied, identifier, store, crowded (directives_in placed) many) refl)

pub lacks_nothing : (placed : List Placed) (pattern : UnitPattern) (path : List ℕ) → untied placed ≡ None
    → identifier_pattern (directives_in placed) ≡ Some pattern → store_path (directives_in placed) ≡ Some path
    → length (index_names (directives_in placed)) ≤ 4294967295 → lack_of placed ≡ None
lacks_nothing placed pattern path tied identifier store few =
    lack_by placed ∙ rw (tied, identifier, store, roomy (directives_in placed) few) refl
