-- A text's fault is that of its first faulty line, or what all its lines lack.
use Rattle.zeb_profile.proofs.Cited.{◌≡◌, ℕ, List, [], ◌∷◌, ◌++◌, Option, Some, None, Result, Ok, Err, refl, ap, subst, sym, ◌∙◌, map, append_assoc, inl, inr, append-nil, directive_of, ◌>>=◌, at_line, directive_after, directives_in, first_clash, lack_of, placed_after, telling_lines, unless}
use Rattle.zeb_profile.specs.declared.directives.Directive.{Directive}
use Rattle.zeb_profile.specs.declared.directives.Placed.{Placed}
use Rattle.zeb_profile.specs.declared.faults.ProfileFault.{ProfileFault}
use Rattle.zeb_profile.specs.declared.faults.ProfileFaultKind.{ProfileFaultKind}
use Rattle.std.proofs.Common.{◌⊎◌}
use Rattle.zeb_lower_laws.specs.ProfileLaws.{AreSaid, FirstFaultIsAnswered, IsFirstFaulty, LacksSomething, said_alone, said_soundly}
use Rattle.zeb_profile.proofs.ProfilesBack.{directives_push, line_ok, unless_none}
use Rattle.zeb_profile.proofs.SoundLists.{Behind}
use Rattle.zeb_profile.proofs.TargetsBack.{step_ok}

-- ---- directives that may stand one behind the other
behind_splits : (earlier new : List Directive) → Behind earlier new → (before : List Directive) (directive : Directive) (after : List Directive)
    → new ≡ before ++ directive ∷ after → first_clash (earlier ++ before) directive ≡ None
behind_splits earlier [] h [] directive after e = absurd (cc)
behind_splits earlier [] h (b ∷ before) directive after e = absurd (cc)
behind_splits earlier (n ∷ new) h [] directive after e =
    let same : n ≡ directive = cc in
    ap (λ (front : List Directive). first_clash front directive) (append-nil earlier) ∙ subst (λ (d : Directive). first_clash earlier d ≡ None) same h.0
behind_splits earlier (n ∷ new) h (b ∷ before) directive after e =
    let same : n ≡ b = cc in
    let rest : new ≡ before ++ directive ∷ after = cc in
    let joined : earlier ++ b ∷ before ≡ (earlier ++ n ∷ []) ++ before =
    ap (λ (d : Directive). earlier ++ d ∷ before) (sym same) ∙ sym (append_assoc earlier (n ∷ []) before) in
    ap (λ (front : List Directive). first_clash front directive) joined ∙ behind_splits (earlier ++ n ∷ []) new h.1 before directive after rest

abbrev Splits : List Directive → Type 0
Splits all = (before : List Directive) (directive : Directive) (after : List Directive) → all ≡ before ++ directive ∷ after → first_clash before directive ≡ None

behind_from : (earlier new : List Directive) → Splits (earlier ++ new) → Behind earlier new
behind_from earlier [] h = tt
behind_from earlier (n ∷ new) h =
    (h earlier n new refl, behind_from (earlier ++ n ∷ []) new (subst (λ (all : List Directive). Splits all) (sym (append_assoc earlier (n ∷ []) new)) h))

-- ---- one line
pub step_err : {A B E : Type 0} (r : Result A E) (f : A → Result B E) (e : E) → (r >>= f) ≡ Err e → (r ≡ Err e) ⊎ ((x : A) × (r ≡ Ok x) × (f x ≡ Err e))
step_err (Ok x) f e h = inr (x, refl, h)
step_err (Err k) f e h = let same : k ≡ e = cc in inl (ap Err same)

line_err : {A : Type 0} (n : ℕ) (r : Result A ProfileFaultKind) (fault : ProfileFault) → at_line n r ≡ Err fault → (n ≡ fault.line) × (r ≡ Err fault.kind)
line_err n (Ok x) fault h = absurd (cc)
line_err n (Err kind) fault h =
    let same : record { line = n; kind = kind } ≡ fault = cc in
    (ap (λ (f : ProfileFault). f.line) same, ap (λ (f : ProfileFault). Err f.kind) same)

unless_err : {A : Type 0} (o : Option ProfileFault) (value : A) (fault : ProfileFault) → unless o value ≡ Err fault → o ≡ Some fault
unless_err None value fault h = absurd (cc)
unless_err (Some found) value fault h = let same : found ≡ fault = cc in ap Some same

-- what a line that was read says alone, and that it may stand there
record IsBehind (earlier : List Directive) (line : List ℕ) (directive : Directive) : Type 0 where
  said : directive_of line ≡ Ok directive
  none : first_clash earlier directive ≡ None

read_behind : (earlier : List Directive) (line : List ℕ) (directive : Directive) → directive_after earlier line ≡ Ok directive → IsBehind earlier line directive
read_behind earlier line directive h =
    let said = step_ok (directive_of line) (λ d. unless (first_clash earlier d) d) directive h in
    let kept = unless_none (first_clash earlier said.0) said.0 directive said.2 in
    record {
      said = said.1 ∙ ap Ok kept.1;
      none = subst (λ (d : Directive). first_clash earlier d ≡ None) kept.1 kept.0;
    }

behind_read : (earlier : List Directive) (line : List ℕ) (directive : Directive) → directive_of line ≡ Ok directive → first_clash earlier directive ≡ None
    → directive_after earlier line ≡ Ok directive
behind_read earlier line directive said none =
    ap (λ answer. answer >>= λ d. unless (first_clash earlier d) d) said ∙ ap (λ clash. unless clash directive) none

-- ---- lines that were read
abbrev Line : Type 0
Line = ℕ × List ℕ

abbrev Said : List Line → List Placed → Type 0
Said lines placed = map said_alone lines ≡ map said_soundly placed

said_more : (line : Line) (directive : Directive) (lines : List Line) (placed : List Placed) → directive_of line.1 ≡ Ok directive → Said lines placed
    → Said (line ∷ lines) (record { line = line.0; directive = directive } ∷ placed)
said_more line directive lines placed one h =
    ap (λ (answer : Result Directive ProfileFaultKind). (line.0, answer) ∷ map said_alone lines) one
    ∙ ap (λ (rest : List (ℕ × Result Directive ProfileFaultKind)). (line.0, Ok directive) ∷ rest) h

pub cons_parts : {X : Type 0} (x y : X) (xs ys : List X) → x ∷ xs ≡ y ∷ ys → (x ≡ y) × (xs ≡ ys)
cons_parts x y xs ys h = (cc, cc)

-- sound lines in front are read as they are said
read_said : (earlier : List Placed) (lines rest : List Line) (new : List Placed) → Said lines new → Behind (directives_in earlier) (directives_in new)
    → placed_after earlier (lines ++ rest) ≡ placed_after (earlier ++ new) rest
read_said earlier [] rest [] said h = ap (λ all. placed_after all rest) (sym (append-nil earlier))
read_said earlier [] rest (n ∷ new) said h = absurd (cc)
read_said earlier (line ∷ lines) rest [] said h = absurd (cc)
read_said earlier (line ∷ lines) rest (n ∷ new) said h =
    let parts = cons_parts (said_alone line) (said_soundly n) (map said_alone lines) (map said_soundly new) said in
    let number : line.0 ≡ n.line = ap (λ (answer : ℕ × Result Directive ProfileFaultKind). answer.0) parts.0 in
    let one : directive_of line.1 ≡ Ok n.directive = ap (λ (answer : ℕ × Result Directive ProfileFaultKind). answer.1) parts.0 in
    let others : Said lines new = parts.1 in
    let here : directive_after (directives_in earlier) line.1 ≡ Ok n.directive = behind_read (directives_in earlier) line.1 n.directive one h.0 in
    let pushed : directives_in (earlier ++ n ∷ []) ≡ directives_in earlier ++ n.directive ∷ [] = directives_push earlier n.line n.directive in
    let behind : Behind (directives_in (earlier ++ n ∷ [])) (directives_in new) = subst (λ (front : List Directive). Behind front (directives_in new)) (sym pushed) h.1 in
    ap (λ answer. at_line line.0 answer >>= λ d. placed_after (earlier ++ record { line = line.0; directive = d } ∷ []) (lines ++ rest)) here
    ∙ ap (λ k. placed_after (earlier ++ record { line = k; directive = n.directive } ∷ []) (lines ++ rest)) number
    ∙ read_said (earlier ++ n ∷ []) lines rest new others behind
    ∙ ap (λ all. placed_after all rest) (append_assoc earlier (n ∷ []) new)

-- the lines behind some that were read, up to their end
record ReadWhole (earlier : List Placed) (lines : List Line) (placed : List Placed) : Type 0 where
  new : List Placed
  joined : placed ≡ earlier ++ new
  said : Said lines new
  apart : Behind (directives_in earlier) (directives_in new)

-- or up to the first faulty one
record ReadTo (earlier : List Placed) (lines : List Line) (fault : ProfileFault) : Type 0 where
  before : List Line
  line : List ℕ
  after : List Line
  whole : lines ≡ before ++ (fault.line, line) ∷ after
  new : List Placed
  said : Said before new
  apart : Behind (directives_in earlier) (directives_in new)
  faulty : directive_after (directives_in (earlier ++ new)) line ≡ Err fault.kind

abbrev pushed_line : List Placed → Line → Directive → List Placed
pushed_line earlier line directive = earlier ++ record { line = line.0; directive = directive } ∷ []

read_whole : (earlier : List Placed) (lines : List Line) (placed : List Placed) → placed_after earlier lines ≡ Ok placed → ReadWhole earlier lines placed
read_whole earlier [] placed h =
    let same : earlier ≡ placed = cc in
    record { new = []; joined = sym same ∙ sym (append-nil earlier); said = refl; apart = tt }
read_whole earlier (line ∷ lines) placed h =
    let step = step_ok (at_line line.0 (directive_after (directives_in earlier) line.1)) (λ d. placed_after (pushed_line earlier line d) lines) placed h in
    let one = read_behind (directives_in earlier) line.1 step.0 (line_ok line.0 (directive_after (directives_in earlier) line.1) step.0 step.1) in
    let rest : ReadWhole (pushed_line earlier line step.0) lines placed = read_whole (pushed_line earlier line step.0) lines placed step.2 in
    record {
      new = record { line = line.0; directive = step.0 } ∷ rest.new;
      joined = rest.joined ∙ append_assoc earlier (record { line = line.0; directive = step.0 } ∷ []) rest.new;
      said = said_more line step.0 lines rest.new one.said rest.said;
      apart = (one.none, subst (λ (front : List Directive). Behind front (directives_in rest.new)) (directives_push earlier line.0 step.0) rest.apart);
    }

read_to : (earlier : List Placed) (lines : List Line) (fault : ProfileFault) → placed_after earlier lines ≡ Err fault → ReadTo earlier lines fault
read_to earlier [] fault h = absurd (cc)
read_to earlier (line ∷ lines) fault h =
    elim (step_err (at_line line.0 (directive_after (directives_in earlier) line.1)) (λ d. placed_after (pushed_line earlier line d) lines) fault h) [
      | inl e ↦
          let here = line_err line.0 (directive_after (directives_in earlier) line.1) fault e in
          record {
            before = [];
            line = line.1;
            after = lines;
            whole = ap (λ (n : ℕ). (n, line.1) ∷ lines) here.0;
            new = [];
            said = refl;
            apart = tt;
            faulty = ap (λ (all : List Placed). directive_after (directives_in all) line.1) (append-nil earlier) ∙ here.1;
          }
      | inr step ↦
          let one = read_behind (directives_in earlier) line.1 step.0 (line_ok line.0 (directive_after (directives_in earlier) line.1) step.0 step.1) in
          let read : Placed = record { line = line.0; directive = step.0 } in
          let rest : ReadTo (pushed_line earlier line step.0) lines fault = read_to (pushed_line earlier line step.0) lines fault step.2 in
          record {
            before = line ∷ rest.before;
            line = rest.line;
            after = rest.after;
            whole = ap (λ (others : List Line). line ∷ others) rest.whole;
            new = read ∷ rest.new;
            said = said_more line step.0 rest.before rest.new one.said rest.said;
            apart = (one.none, subst (λ (front : List Directive). Behind front (directives_in rest.new)) (directives_push earlier line.0 step.0) rest.apart);
            faulty = ap (λ (all : List Placed). directive_after (directives_in all) rest.line) (sym (append_assoc earlier (read ∷ []) rest.new)) ∙ rest.faulty;
          }
    ]

-- ---- whole texts
first_faulty : (lines : List Line) (fault : ProfileFault) → placed_after [] lines ≡ Err fault → IsFirstFaulty lines fault
first_faulty lines fault h =
    let read : ReadTo [] lines fault = read_to [] lines fault h in
    record {
      before = read.before;
      line = read.line;
      after = read.after;
      whole = read.whole;
      earlier = read.new;
      sound = record { said = read.said; apart = behind_splits [] (directives_in read.new) read.apart };
      faulty = read.faulty;
    }

lacking : (lines : List Line) (fault : ProfileFault) (placed : List Placed) → placed_after [] lines ≡ Ok placed → unless (lack_of placed) (directives_in placed) ≡ Err fault → LacksSomething lines fault
lacking lines fault placed h lack =
    let read : ReadWhole [] lines placed = read_whole [] lines placed h in
    record {
      placed = read.new;
      sound = record { said = read.said; apart = behind_splits [] (directives_in read.new) read.apart };
      lacks = ap lack_of (sym read.joined) ∙ unless_err (lack_of placed) (directives_in placed) fault lack;
    }

sound_read : (lines rest : List Line) (placed : List Placed) → AreSaid lines placed → placed_after [] (lines ++ rest) ≡ placed_after placed rest
sound_read lines rest placed sound = read_said [] lines rest placed sound.said (behind_from [] (directives_in placed) sound.apart)

abbrev finish : List Placed → Result (List Directive) ProfileFault
finish placed = unless (lack_of placed) (directives_in placed)

faulty_refused : (lines : List Line) (fault : ProfileFault) → IsFirstFaulty lines fault → (placed_after [] lines >>= finish) ≡ Err fault
faulty_refused lines fault is =
    ap (λ (all : List Line). placed_after [] all >>= finish) is.whole
    ∙ ap (λ read. read >>= finish) (sound_read is.before ((fault.line, is.line) ∷ is.after) is.earlier is.sound)
    ∙ ap (λ answer. (at_line fault.line answer >>= λ d. placed_after (pushed_line is.earlier (fault.line, is.line) d) is.after) >>= finish) is.faulty

lack_refused : (lines : List Line) (fault : ProfileFault) → LacksSomething lines fault → (placed_after [] lines >>= finish) ≡ Err fault
lack_refused lines fault is =
    ap (λ (all : List Line). placed_after [] all >>= finish) (sym (append-nil lines))
    ∙ ap (λ read. read >>= finish) (sound_read lines [] is.placed is.sound)
    ∙ ap (λ lack. unless lack (directives_in is.placed)) is.lacks

refused_by : (lines : List Line) (fault : ProfileFault) → (placed_after [] lines >>= finish) ≡ Err fault → IsFirstFaulty lines fault ⊎ LacksSomething lines fault
refused_by lines fault h =
    elim (step_err (placed_after [] lines) finish fault h) [
      | inl e ↦ inl (first_faulty lines fault e)
      | inr step ↦ inr (lacking lines fault step.0 step.1 step.2)
    ]

refused_from : (lines : List Line) (fault : ProfileFault) → IsFirstFaulty lines fault ⊎ LacksSomething lines fault → (placed_after [] lines >>= finish) ≡ Err fault
refused_from lines fault (inl is) = faulty_refused lines fault is
refused_from lines fault (inr is) = lack_refused lines fault is

pub first_fault_is_answered : FirstFaultIsAnswered
first_fault_is_answered text fault = (refused_by (telling_lines text) fault, refused_from (telling_lines text) fault)
