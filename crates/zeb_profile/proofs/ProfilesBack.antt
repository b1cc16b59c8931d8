-- What a read profile meets, and the reading of its canonical text.
use Rattle.zeb_profile.proofs.Cited.{◌≡◌, ℕ, codes, ◌+◌, List, [], ◌∷◌, ◌++◌, Bool, true, false, ◌||◌, Option, Some, None, Result, Ok, Err, refl, ap, subst, sym, ◌∙◌, map, append_assoc, arith, inl, inr, length-append, All, enumerate_from, filter, find, list_any, lines, cases_Bool, append-nil, append_cancel_right, map-append, All-cons, All-filter, All-head, All-nil, All-tail, Directive, Store, Identifier, Att, Melm, AllUnits, Placed, ProfileFault, ProfileFaultKind, canonical_text, directive_of, all_pairs, identifier_pattern, index_by_use, index_names, store_path, unit_targets, IsProfile, SaysTheSame, without_store, says_something, trimmed, ◌>>=◌, at_line, directive_after, directives_in, first_clash, first_lack, has_room, is_identifier, is_store, lack_of, placed_after, placed_lines, profile_of, telling_lines, ties_unknown, unless}
use Rattle.zeb_profile.proofs.DirectivesBack.{IsRead, line_read}
use Rattle.zeb_profile.proofs.Lacks.{lack_none}
use Rattle.zeb_profile.proofs.LinesBack.{IsOneLine, lines_one_line, trimmed_one_line}
use Rattle.zeb_profile.proofs.SoundLists.{Behind, identified_moved, path_read, room_moved, store_moved_behind, store_moved_read, stored_moved, tied_moved}
use Rattle.zeb_profile.proofs.StoreLaws.{store_says_nothing_else}
use Rattle.zeb_profile.proofs.TargetsBack.{step_ok}
use Rattle.zeb_profile.proofs.WrittenLines.{AllRead, canonical_lines, written, written_one_line, written_says}

-- ---- from a text to its directives
-- the telling lines of a text are single lines
telling_one_line : (n : ℕ) (found : List (List ℕ)) → All IsOneLine found → All (λ (line : ℕ × List ℕ). IsOneLine line.1) (enumerate_from n (map trimmed found))
telling_one_line n [] h = All-nil (λ (line : ℕ × List ℕ). IsOneLine line.1)
telling_one_line n (x ∷ xs) h =
    All-cons (λ (line : ℕ × List ℕ). IsOneLine line.1) (n, trimmed x) (enumerate_from (n + 1) (map trimmed xs))
    (trimmed_one_line x (All-head IsOneLine x xs h)) (telling_one_line (n + 1) xs (All-tail IsOneLine x xs h))

telling_lines_one_line : (text : List ℕ) → All (λ (line : ℕ × List ℕ). IsOneLine line.1) (telling_lines text)
telling_lines_one_line text =
    All-filter (λ (line : ℕ × List ℕ). says_something line.1) (λ line. IsOneLine line.1) (enumerate_from 1 (map trimmed (lines text))) (telling_one_line 1 (lines text) (lines_one_line text))

-- the lines that were read behind some
record Reads (earlier placed : List Placed) : Type 0 where
  new : List Directive
  joined : directives_in placed ≡ directives_in earlier ++ new
  read : AllRead new
  apart : Behind (directives_in earlier) new

pub line_ok : {A : Type 0} (n : ℕ) (r : Result A ProfileFaultKind) (x : A) → at_line n r ≡ Ok x → r ≡ Ok x
line_ok n (Ok y) x h = let same : y ≡ x = cc in ap Ok same
line_ok n (Err kind) x h = absurd (cc)

pub unless_none : {A E : Type 0} (o : Option E) (value x : A) → unless o value ≡ Ok x → (o ≡ None) × (value ≡ x)
unless_none None value x h = let same : value ≡ x = cc in (refl, same)
unless_none (Some fault) value x h = absurd (cc)

pub directives_push : (earlier : List Placed) (n : ℕ) (directive : Directive) → directives_in (earlier ++ record { line = n; directive = directive } ∷ []) ≡ directives_in earlier ++ directive ∷ []
directives_push earlier n directive = map-append (λ line. line.directive) earlier (record { line = n; directive = directive } ∷ [])

placed_reads : (earlier : List Placed) (found : List (ℕ × List ℕ)) (placed : List Placed) → All (λ (line : ℕ × List ℕ). IsOneLine line.1) found
    → placed_after earlier found ≡ Ok placed → Reads earlier placed
placed_reads earlier [] placed one h =
    let same : earlier ≡ placed = cc in
    record { new = []; joined = ap directives_in (sym same) ∙ sym (append-nil (directives_in earlier)); read = tt; apart = tt }
placed_reads earlier (line ∷ found) placed one h =
    let step = step_ok (at_line line.0 (directive_after (directives_in earlier) line.1)) (λ directive. placed_after (earlier ++ record { line = line.0; directive = directive } ∷ []) found) placed h in
    let directive : Directive = step.0 in
    let said = step_ok (directive_of line.1) (λ d. unless (first_clash (directives_in earlier) d) d) directive (line_ok line.0 (directive_after (directives_in earlier) line.1) directive step.1) in
    let kept = unless_none (first_clash (directives_in earlier) said.0) said.0 directive said.2 in
    let rest : Reads (earlier ++ record { line = line.0; directive = directive } ∷ []) placed =
    placed_reads (earlier ++ record { line = line.0; directive = directive } ∷ []) found placed (All-tail (λ (line : ℕ × List ℕ). IsOneLine line.1) line found one) step.2 in
    let pushed : directives_in (earlier ++ record { line = line.0; directive = directive } ∷ []) ≡ directives_in earlier ++ directive ∷ [] = directives_push earlier line.0 directive in
    let read : IsRead directive = subst (λ (d : Directive). IsRead d) kept.1 (line_read line.1 said.0 (All-head (λ (line : ℕ × List ℕ). IsOneLine line.1) line found one) said.1) in
    let none : first_clash (directives_in earlier) directive ≡ None = subst (λ (d : Directive). first_clash (directives_in earlier) d ≡ None) kept.1 kept.0 in
    record {
      new = directive ∷ rest.new;
      joined = rest.joined ∙ ap (λ front. front ++ rest.new) pushed ∙ append_assoc (directives_in earlier) (directive ∷ []) rest.new;
      read = (read, rest.read);
      apart = (none, subst (λ (front : List Directive). Behind front rest.new) pushed rest.apart);
    }

-- what the directives of a profile meet
pub record IsSound (directives : List Directive) : Type 0 where
  pub read : AllRead directives
  pub apart : Behind [] directives
  pub tied : list_any (ties_unknown directives) directives ≡ false
  pub identified : list_any is_identifier directives ≡ true
  pub stored : list_any is_store directives ≡ true
  pub roomy : has_room directives ≡ true

pub find_none : (p : Directive → Bool) (placed : List Placed) → find (λ line. p line.directive) placed ≡ None → list_any p (directives_in placed) ≡ false
find_none p [] h = refl
find_none p (x ∷ xs) h =
    elim (cases_Bool (p x.directive)) [
      | inl e ↦ let bad : Some x ≡ None = rw e at h in absurd (cc)
      | inr e ↦ rw e (find_none p xs (rw e at h))
    ]

pub none_found : (p : Directive → Bool) (placed : List Placed) → list_any p (directives_in placed) ≡ false → find (λ line. p line.directive) placed ≡ None
none_found p [] h = refl
none_found p (x ∷ xs) h =
    elim (cases_Bool (p x.directive)) [
      | inl e ↦ let bad : true ≡ false = rw e at h in absurd (cc)
      | inr e ↦ rw e (none_found p xs (rw e at h))
    ]

pub any_placed : (p : Directive → Bool) (placed : List Placed) → list_any (λ line. p line.directive) placed ≡ list_any p (directives_in placed)
any_placed p [] = refl
any_placed p (x ∷ xs) = ap (λ rest. p x.directive || rest) (any_placed p xs)

pub profile_sound : (directives : List Directive) → IsProfile directives → IsSound directives
profile_sound directives h =
    let step = step_ok (placed_lines h.text) (λ placed. unless (lack_of placed) (directives_in placed)) directives h.reads in
    let placed : List Placed = step.0 in
    let whole = unless_none (lack_of placed) (directives_in placed) directives step.2 in
    let lacks = lack_none (find (λ line. ties_unknown (directives_in placed) line.directive) placed) (list_any (λ line. is_identifier line.directive) placed) (list_any (λ line. is_store line.directive) placed) (has_room (directives_in placed)) whole.0 in
    let reads : Reads [] placed = placed_reads [] (telling_lines h.text) placed (telling_lines_one_line h.text) step.1 in
    let same : reads.new ≡ directives = sym reads.joined ∙ whole.1 in
    let sound : IsSound (directives_in placed) = record {
      read = subst (λ (ds : List Directive). AllRead ds) (sym reads.joined) reads.read;
      apart = subst (λ (ds : List Directive). Behind [] ds) (sym reads.joined) reads.apart;
      tied = find_none (ties_unknown (directives_in placed)) placed lacks.0;
      identified = sym (any_placed is_identifier placed) ∙ lacks.1;
      stored = sym (any_placed is_store placed) ∙ lacks.2;
      roomy = lacks.3;
    } in
    subst (λ (ds : List Directive). IsSound ds) whole.1 sound

-- ---- from sound directives to a text
placed_from : ℕ → List Directive → List Placed
placed_from n [] = []
placed_from n (directive ∷ others) = record { line = n; directive = directive } ∷ placed_from (n + 1) others

directives_placed_from : (n : ℕ) (ds : List Directive) → directives_in (placed_from n ds) ≡ ds
unfolding placed_from
directives_placed_from n [] = refl
directives_placed_from n (d ∷ ds) = ap (λ rest. d ∷ rest) (directives_placed_from (n + 1) ds)

trimmed_written : (ds : List Directive) → AllRead ds → map trimmed (map written ds) ≡ map written ds
trimmed_written [] h = refl
trimmed_written (d ∷ ds) h = rw ((written_says d (h.0)).whole, trimmed_written ds h.1) refl

telling_written : (n : ℕ) (ds : List Directive) → AllRead ds → filter (λ (line : ℕ × List ℕ). says_something line.1) (enumerate_from n (map written ds)) ≡ enumerate_from n (map written ds)
telling_written n [] h = refl
telling_written n (d ∷ ds) h = rw ((written_says d (h.0)).telling, telling_written (n + 1) ds h.1) refl

placed_written : (n : ℕ) (earlier : List Placed) (ds : List Directive) → AllRead ds → Behind (directives_in earlier) ds
    → placed_after earlier (enumerate_from n (map written ds)) ≡ Ok (earlier ++ placed_from n ds)
unfolding placed_from
placed_written n earlier [] h apart = ap Ok (sym (append-nil earlier))
placed_written n earlier (d ∷ ds) h apart =
    let line : Placed = record { line = n; directive = d } in
    let behind : Behind (directives_in (earlier ++ line ∷ [])) ds = subst (λ (front : List Directive). Behind front ds) (sym (directives_push earlier n d)) apart.1 in
    let rest : placed_after (earlier ++ line ∷ []) (enumerate_from (n + 1) (map written ds)) ≡ Ok ((earlier ++ line ∷ []) ++ placed_from (n + 1) ds) = placed_written (n + 1) (earlier ++ line ∷ []) ds h.1 behind in
    rw ((written_says d (h.0)).read, apart.0) (rest ∙ ap Ok (append_assoc earlier (line ∷ []) (placed_from (n + 1) ds)))

pub lacks_nothing : (o : Option Placed) (a b c : Bool) → o ≡ None → a ≡ true → b ≡ true → c ≡ true → first_lack o a b c ≡ None
lacks_nothing o a b c e f g h = rw (e, f, g, h) refl

-- the lines of sound directives, read as a profile
pub written_profile : (text : List ℕ) (ds : List Directive) → IsSound ds → lines text ≡ map written ds → profile_of text ≡ Ok ds
written_profile text ds h e =
    let placed : List Placed = placed_from 1 ds in
    let same : directives_in placed ≡ ds = directives_placed_from 1 ds in
    let telling : telling_lines text ≡ enumerate_from 1 (map written ds) =
    ap (λ found. filter (λ (line : ℕ × List ℕ). says_something line.1) (enumerate_from 1 (map trimmed found))) e
    ∙ ap (λ found. filter (λ (line : ℕ × List ℕ). says_something line.1) (enumerate_from 1 found)) (trimmed_written ds h.read)
    ∙ telling_written 1 ds h.read in
    let read : placed_lines text ≡ Ok placed = ap (placed_after []) telling ∙ placed_written 1 [] ds h.read h.apart in
    let none : lack_of placed ≡ None = lacks_nothing (find (λ line. ties_unknown (directives_in placed) line.directive) placed) (list_any (λ line. is_identifier line.directive) placed) (list_any (λ line. is_store line.directive) placed)
    (has_room (directives_in placed))
    (none_found (ties_unknown (directives_in placed)) placed (subst (λ (all : List Directive). list_any (ties_unknown all) all ≡ false) (sym same) h.tied))
    (any_placed is_identifier placed ∙ ap (list_any is_identifier) same ∙ h.identified)
    (any_placed is_store placed ∙ ap (list_any is_store) same ∙ h.stored)
    (ap has_room same ∙ h.roomy) in
    ap (λ placed. placed >>= λ lines. unless (lack_of lines) (directives_in lines)) read
    ∙ ap (λ lack. unless lack (directives_in placed)) none
    ∙ ap Ok same

store_moved : (ds : List Directive) (path : List ℕ) → IsSound ds → IsRead (Store path) → IsSound (without_store ds ++ Store path ∷ [])
store_moved ds path h one = record {
  read = store_moved_read ds path h.read one;
  apart = store_moved_behind ds path h.apart;
  tied = tied_moved ds path ∙ h.tied;
  identified = identified_moved ds path ∙ h.identified;
  stored = stored_moved (without_store ds) path;
  roomy = room_moved ds path ∙ h.roomy;
}

-- ---- the laws
pub canonical_text_reads_back : (directives other : List Directive) (path : List ℕ) → IsProfile directives → IsProfile other → store_path other ≡ Some path
    → profile_of (canonical_text directives ++ codes "store " ++ path) ≡ Ok (without_store directives ++ Store path ∷ [])
canonical_text_reads_back directives other path one two at =
    let sound : IsSound directives = profile_sound directives one in
    let store : IsRead (Store path) = path_read other path (profile_sound other two).read at in
    let last : List ℕ = written (Store path) in
    let found : lines (canonical_text directives ++ last) ≡ map written (without_store directives ++ Store path ∷ []) =
    canonical_lines directives last sound.read (written_one_line (Store path) store) (omega (arith, length-append (codes "store ") path))
    ∙ sym (map-append written (without_store directives) (Store path ∷ [])) in
    ap profile_of (append_assoc (canonical_text directives) (codes "store ") path)
    ∙ written_profile (canonical_text directives ++ last) (without_store directives ++ Store path ∷ []) (store_moved directives path sound store) found

some_path : (ds : List Directive) → list_any is_store ds ≡ true → (path : List ℕ) × (store_path ds ≡ Some path)
some_path [] h = absurd (cc)
some_path (Store path ∷ ds) h = (path, refl)
some_path (Identifier pattern ∷ ds) h = some_path ds h
some_path (Att number name ∷ ds) h = some_path ds h
some_path (Melm pattern targets ∷ ds) h = some_path ds h
some_path (AllUnits targets ∷ ds) h = some_path ds h

same_say : (one other : List Directive) → without_store one ≡ without_store other → SaysTheSame one other
same_say one other same =
    let first : SaysTheSame (without_store one) one = (store_says_nothing_else one).1 in
    let second : SaysTheSame (without_store other) other = (store_says_nothing_else other).1 in
    record {
      names = sym first.names ∙ ap index_names same ∙ second.names;
      uses = λ number. sym (first.uses number) ∙ ap (λ ds. index_by_use ds number) same ∙ second.uses number;
      pairs = sym first.pairs ∙ ap all_pairs same ∙ second.pairs;
      targets = λ tag code. sym (first.targets tag code) ∙ ap (λ ds. unit_targets ds tag code) same ∙ second.targets tag code;
      identifier = sym first.identifier ∙ ap identifier_pattern same ∙ second.identifier;
    }

-- the same lines behind one store are the same lines
same_read : (one other : List Directive) (path : List ℕ) (said : Result (List Directive) ProfileFault) → said ≡ Ok (one ++ Store path ∷ []) → said ≡ Ok (other ++ Store path ∷ []) → one ≡ other
same_read one other path said h k =
    let joined : one ++ Store path ∷ [] ≡ other ++ Store path ∷ [] = cc in
    append_cancel_right one other (Store path ∷ []) joined

pub one_text_says_the_same : (one other : List Directive) → IsProfile one → IsProfile other → canonical_text one ≡ canonical_text other
    → (without_store one ≡ without_store other) × SaysTheSame one other
one_text_says_the_same one other first second text =
    let path = some_path one (profile_sound one first).stored in
    let same : without_store one ≡ without_store other =
    same_read (without_store one) (without_store other) path.0 (profile_of (canonical_text one ++ codes "store " ++ path.0))
    (canonical_text_reads_back one one path.0 first first path.1)
    (ap (λ front. profile_of (front ++ codes "store " ++ path.0)) text ∙ canonical_text_reads_back other one path.0 second first path.1) in
    (same, same_say one other same)
