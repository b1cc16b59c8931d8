-- The walk over the words before the command.
use Rattle.zeb_words.proofs.Cited.{◌≡◌, ◌==◌, ◌∙◌, ℕ, refl, sym, ap, ap₂, List, [], ◌∷◌, ◌++◌, Option, Some, None, codes, false, unwrap_or, slice_get, suc, ne_eqb, Row, Rule, Names, Walk, Waiting, Held, idle, settled_rows, used, arg_by_id, Outcome, done, waits, plain, refused, after_step, after_flag, wait_option, Shape, built, names_of, new_rule, turn_fault, settle_fault, use_fault, step_fault, Kinds, or_else, Key, Config, Database, Setting, Given, Shows, letter, Spells, none, apart, by_equals, joined, shows, shows_and, program_app, length, flags_fault}
use Rattle.std.specs.Str.{chars}
use Rattle.clap.specs.Walk.{walked, bundle_met}
use Rattle.clap.specs.Faults.{walk_fault}
use Rattle.clap.proofs.OnLiterals.{clap_on_literals}
use Rattle.zeb_words.specs.Grammar.{Text}
use Rattle.zeb_words.proofs.Leads.{Leads, at_end, else_none, else_joined, goes, goes_on, stays}
use Rattle.zeb_words.proofs.Uses.{clash_of, uses_of}
use Rattle.zeb_words.proofs.Plain.{IsNoFlag, no_flag, are_letters}

abbrev pub shape : Shape
shape = (built program_app).top

abbrev pub names : Names
names = names_of (built program_app)

abbrev pub held : List Row → Option (Text × List Text) → Held
held rows pending = record { rows = rows; pending = pending; skip = 0 }

abbrev pub standing : List Row → Option (Text × List Text) → Waiting → Walk
standing rows pending waiting = record {
  held = held rows pending;
  waiting = waiting;
  position = 1;
  is_trailing = false;
  stopped = None;
}

-- ---- settings as uses of arguments

abbrev pub id_of : Key → Text
id_of Config = codes "config"
id_of Database = codes "database"

abbrev pub rule_by : Text → Rule
rule_by id = unwrap_or (arg_by_id shape.rules id) (new_rule id)

abbrev pub used_rule : Setting → Rule
used_rule (Given key value) = rule_by (id_of key)
used_rule Shows = rule_by (codes "shows")

abbrev pub values : Setting → List Text
values (Given key value) = value ∷ []
values Shows = []

abbrev pub uses : List Setting → List Row → List Row
uses = uses_of used_rule values

abbrev pub clash : List Setting → List Row → Kinds
clash = clash_of used_rule values

abbrev pub Pending : Type 0
Pending = Option (Text × List Text)

abbrev pub pending_fault : List Row → Pending → Kinds
pending_fault rows p = settle_fault shape.rules false (held rows p)

abbrev pub rows_with : List Row → Pending → List Row
rows_with rows p = settled_rows shape.rules p rows

-- ---- single words

pub letter_leads : (key : Key) (rows : List Row) (p : Pending) (rest : List Text)
    → Leads shape names (standing rows p idle) ((45 ∷ letter key ∷ []) ∷ rest) (standing (rows_with rows p) (Some (id_of key, [])) (wait_option (id_of key))) rest (pending_fault rows p)
unfolding clap_on_literals
letter_leads Config rows p rest = goes shape names _ _ rest _ _ (else_none _) refl
letter_leads Database rows p rest = goes shape names _ _ rest _ _ (else_none _) refl

pub value_leads : (key : Key) (value : Text) (rows : List Row) → IsNoFlag value → (rest : List Text)
    → Leads shape names (standing rows (Some (id_of key, [])) (wait_option (id_of key))) (value ∷ rest) (standing rows (Some (id_of key, value ∷ [])) idle) rest []
unfolding clap_on_literals
value_leads Config value rows flagless rest = goes shape names _ value rest _ _ (rw (flagless.ends, flagless.long, flagless.short) refl) (rw (flagless.ends, flagless.long, flagless.short) refl)
value_leads Database value rows flagless rest = goes shape names _ value rest _ _ (rw (flagless.ends, flagless.long, flagless.short) refl) (rw (flagless.ends, flagless.long, flagless.short) refl)

pub equals_leads : (key : Key) (value : Text) (rows : List Row) (p : Pending) (rest : List Text)
    → Leads shape names (standing rows p idle) ((45 ∷ letter key ∷ 61 ∷ value) ∷ rest) (standing (used (rule_by (id_of key)) (value ∷ []) (rows_with rows p)) None idle) rest
    (or_else (pending_fault rows p) (use_fault false (rule_by (id_of key)) (value ∷ []) (rows_with rows p)))
unfolding clap_on_literals
equals_leads Config value rows p rest = goes shape names _ _ rest _ _ (else_none _) refl
equals_leads Database value rows p rest = goes shape names _ _ rest _ _ (else_none _) refl

pub joined_leads : (key : Key) (b : ℕ) (value : Text) (rows : List Row) (p : Pending) → b == 61 ≡ false → (rest : List Text)
    → Leads shape names (standing rows p idle) ((45 ∷ letter key ∷ b ∷ value) ∷ rest) (standing (used (rule_by (id_of key)) ((b ∷ value) ∷ []) (rows_with rows p)) None idle) rest
    (or_else (pending_fault rows p) (use_fault false (rule_by (id_of key)) ((b ∷ value) ∷ []) (rows_with rows p)))
unfolding clap_on_literals
joined_leads Config b value rows p e rest = goes shape names _ _ rest _ _ (rw e (else_none _)) (rw e refl)
joined_leads Database b value rows p e rest = goes shape names _ _ rest _ _ (rw e (else_none _)) (rw e refl)

abbrev pub shown : List Row → Pending → List Row
shown rows p = used (rule_by (codes "shows")) [] (rows_with rows p)

abbrev pub shown_fault : List Row → Pending → Kinds
shown_fault rows p = or_else (pending_fault rows p) (use_fault false (rule_by (codes "shows")) [] (rows_with rows p))

pub shows_leads : (rows : List Row) (p : Pending) (rest : List Text)
    → Leads shape names (standing rows p idle) ((45 ∷ 115 ∷ []) ∷ rest) (standing (shown rows p) None idle) rest (shown_fault rows p)
unfolding clap_on_literals
shows_leads rows p rest = goes shape names _ _ rest _ _ (else_none _ ∙ else_none _) refl

same_step : (a b : Text) (rows more : List Row) (p q : Pending) (h : Held) (o : Outcome)
    → after_step shape.rules a (standing rows p idle) (after_flag shape.rules idle a h o).0 (after_flag shape.rules idle a h o).1
    ≡ after_step shape.rules b (standing more q idle) (after_flag shape.rules idle b h o).0 (after_flag shape.rules idle b h o).1
same_step a b rows more p q h done = refl
same_step a b rows more p q h (waits id) = refl
same_step a b rows more p q h plain = refl
same_step a b rows more p q h refused = refl

same_fault : (a b : Text) (h : Held) (o : Outcome)
    → step_fault shape 1 (after_flag shape.rules idle a h o).0 (after_flag shape.rules idle a h o).1
    ≡ step_fault shape 1 (after_flag shape.rules idle b h o).0 (after_flag shape.rules idle b h o).1
same_fault a b h done = refl
same_fault a b h (waits id) = refl
same_fault a b h plain = refl
same_fault a b h refused = refl

same_bundle : (c : List Rule) (k : ℕ) (flags : Text) (h : Held) (x : ℕ) → slice_get (chars flags) 0 ≡ Some x
    → bundle_met c (suc k) flags 0 done h ≡ bundle_met c (suc k) flags 0 plain h
unfolding bundle_met
same_bundle c k flags h x e = rw e refl

-- a word of letters: what its bundle comes to
abbrev pub met : List Row → Pending → Text → Held × Outcome
met rows p flags = bundle_met shape.rules (length flags) flags 0 plain (held rows p)

abbrev pub flags_of : List Row → Pending → Text → Kinds
flags_of rows p flags = flags_fault shape.rules false (length flags) flags 0 (held rows p)

pub short_walk : (b : ℕ) (letters : Text) (rows : List Row) (p : Pending) → b == 45 ≡ false → walked shape.rules names (standing rows p idle) (45 ∷ b ∷ letters)
    ≡ after_step shape.rules (45 ∷ b ∷ letters) (standing rows p idle)
    (after_flag shape.rules idle (45 ∷ b ∷ letters) (met rows p (b ∷ letters)).0 (met rows p (b ∷ letters)).1).0
    (after_flag shape.rules idle (45 ∷ b ∷ letters) (met rows p (b ∷ letters)).0 (met rows p (b ∷ letters)).1).1
unfolding walked
short_walk b letters rows p unhyphened = let is = are_letters b letters unhyphened in rw (is.ends, is.long, is.short) refl

pub short_turn : (b : ℕ) (letters : Text) (rows : List Row) (p : Pending) → b == 45 ≡ false → turn_fault shape names (standing rows p idle) (45 ∷ b ∷ letters)
    ≡ or_else (flags_of rows p (b ∷ letters)) (step_fault shape 1
    (after_flag shape.rules idle (45 ∷ b ∷ letters) (met rows p (b ∷ letters)).0 (met rows p (b ∷ letters)).1).0
    (after_flag shape.rules idle (45 ∷ b ∷ letters) (met rows p (b ∷ letters)).0 (met rows p (b ∷ letters)).1).1)
short_turn b letters rows p unhyphened = let is = are_letters b letters unhyphened in rw (is.ends, is.long, is.short) refl

first_met : (b : ℕ) (letters : Text) (rows : List Row) (p : Pending)
    → met rows p (115 ∷ b ∷ letters) ≡ bundle_met shape.rules (length (b ∷ letters)) (b ∷ letters) 0 done (held (shown rows p) None)
unfolding clap_on_literals
first_met b letters rows p = refl

pub first_flags : (b : ℕ) (letters : Text) (rows : List Row) (p : Pending)
    → flags_of rows p (115 ∷ b ∷ letters) ≡ or_else (shown_fault rows p) (flags_of (shown rows p) None (b ∷ letters))
unfolding clap_on_literals
first_flags b letters rows p = refl

pub more_walk : (b : ℕ) (letters : Text) (x : ℕ) (rows : List Row) (p : Pending) → b == 45 ≡ false → slice_get (chars (b ∷ letters)) 0 ≡ Some x
    → walked shape.rules names (standing rows p idle) (45 ∷ 115 ∷ b ∷ letters) ≡ walked shape.rules names (standing (shown rows p) None idle) (45 ∷ b ∷ letters)
more_walk b letters x rows p unhyphened head =
    let long = 45 ∷ 115 ∷ b ∷ letters in
    let same = first_met b letters rows p ∙ same_bundle shape.rules (length letters) (b ∷ letters) (held (shown rows p) None) x head in
    let m = met (shown rows p) None (b ∷ letters) in
    short_walk 115 (b ∷ letters) rows p refl
    ∙ ap (λ (m : Held × Outcome). after_step shape.rules long (standing rows p idle) (after_flag shape.rules idle long m.0 m.1).0 (after_flag shape.rules idle long m.0 m.1).1) same
    ∙ same_step long (45 ∷ b ∷ letters) rows (shown rows p) p None m.0 m.1
    ∙ sym (short_walk b letters (shown rows p) None unhyphened)

pub more_turn : (b : ℕ) (letters : Text) (x : ℕ) (rows : List Row) (p : Pending) → b == 45 ≡ false → slice_get (chars (b ∷ letters)) 0 ≡ Some x
    → turn_fault shape names (standing rows p idle) (45 ∷ 115 ∷ b ∷ letters)
    ≡ or_else (shown_fault rows p) (turn_fault shape names (standing (shown rows p) None idle) (45 ∷ b ∷ letters))
more_turn b letters x rows p unhyphened head =
    let long = 45 ∷ 115 ∷ b ∷ letters in
    let same = first_met b letters rows p ∙ same_bundle shape.rules (length letters) (b ∷ letters) (held (shown rows p) None) x head in
    let m = met (shown rows p) None (b ∷ letters) in
    let step = ap (λ (m : Held × Outcome). step_fault shape 1 (after_flag shape.rules idle long m.0 m.1).0 (after_flag shape.rules idle long m.0 m.1).1) same
    ∙ same_fault long (45 ∷ b ∷ letters) m.0 m.1 in
    short_turn 115 (b ∷ letters) rows p refl
    ∙ ap₂ or_else (first_flags b letters rows p) step
    ∙ else_joined (shown_fault rows p) (flags_of (shown rows p) None (b ∷ letters)) _
    ∙ ap (or_else (shown_fault rows p)) (sym (short_turn b letters (shown rows p) None unhyphened))

-- after `-s` the walk stands before the other letters
pub more_leads : (b : ℕ) (letters : Text) (words : List Text) (x : ℕ) (rows : List Row) (p : Pending) → b == 45 ≡ false → slice_get (chars (b ∷ letters)) 0 ≡ Some x
    → Leads shape names (standing rows p idle) ((45 ∷ 115 ∷ b ∷ letters) ∷ words) (standing (shown rows p) None idle) ((45 ∷ b ∷ letters) ∷ words) (shown_fault rows p)
unfolding walk_fault
more_leads b letters words x rows p unhyphened head =
    let step = more_walk b letters x rows p unhyphened head in
    record {
      fault = ap₂ (λ t w. or_else t (walk_fault shape names w words)) (more_turn b letters x rows p unhyphened head) step ∙ else_joined (shown_fault rows p) _ _;
      end = ap (λ w. at_end shape names w words) step;
    }

-- ---- the words of settings

-- where the walk stands after the words of settings, and with which faults
pub record Spelled (rows : List Row) (p : Pending) (words rest : List Text) (settings : List Setting) : Type 0 where
  pub after : List Row
  pub pending : Pending
  pub faults : Kinds
  pub leads : Leads shape names (standing rows p idle) words (standing after pending idle) rest faults
  pub are : rows_with after pending ≡ uses settings (rows_with rows p)
  pub fault : or_else faults (pending_fault after pending) ≡ or_else (pending_fault rows p) (clash settings (rows_with rows p))

-- the first letter of a word that spells settings
pub first_letter : (b : ℕ) (letters : Text) (words : List Text) (settings : List Setting) → Spells ((45 ∷ b ∷ letters) ∷ words) settings
    → (b == 45 ≡ false) × (slice_get (chars (b ∷ letters)) 0 ≡ Some b)
unfolding chars
first_letter b letters words settings (apart Config value more rest flat d) = (refl, refl)
first_letter b letters words settings (apart Database value more rest flat d) = (refl, refl)
first_letter b letters words settings (by_equals Config value more rest d) = (refl, refl)
first_letter b letters words settings (by_equals Database value more rest d) = (refl, refl)
first_letter b letters words settings (joined Config c value more rest differs d) = (refl, refl)
first_letter b letters words settings (joined Database c value more rest differs d) = (refl, refl)
first_letter b letters words settings (shows more rest d) = (refl, refl)
first_letter b letters words settings (shows_and c more others rest d) = (refl, refl)

-- one more setting, whose words come first
before : {rows more : List Row} {p q : Pending} {words next rest : List Text} {settings : List Setting} {f : Kinds} (s : Setting)
    → Leads shape names (standing rows p idle) words (standing more q idle) next f
    → rows_with more q ≡ used (used_rule s) (values s) (rows_with rows p)
    → or_else f (pending_fault more q) ≡ or_else (pending_fault rows p) (use_fault false (used_rule s) (values s) (rows_with rows p))
    → Spelled more q next rest settings → Spelled rows p words rest (s ∷ settings)
before {rows = rows} {more = more} {p = p} {q = q} {settings = settings} {f = f} s leads are fault d = record {
  after = d.after;
  pending = d.pending;
  faults = or_else f d.faults;
  leads = goes_on shape names leads d.leads;
  are = d.are ∙ ap (uses settings) are;
  fault = else_joined f d.faults (pending_fault d.after d.pending)
      ∙ ap (or_else f) d.fault
      ∙ sym (else_joined f (pending_fault more q) (clash settings (rows_with more q)))
      ∙ ap₂ or_else fault (ap (clash settings) are)
      ∙ else_joined (pending_fault rows p) (use_fault false (used_rule s) (values s) (rows_with rows p)) (clash settings (used (used_rule s) (values s) (rows_with rows p)));
}

pending_rows : (key : Key) (value : Text) (rows : List Row) → rows_with rows (Some (id_of key, value ∷ [])) ≡ used (rule_by (id_of key)) (value ∷ []) rows
pending_rows Config value rows = refl
pending_rows Database value rows = refl

pending_is : (key : Key) (value : Text) (rows : List Row)
    → pending_fault rows (Some (id_of key, value ∷ [])) ≡ use_fault false (rule_by (id_of key)) (value ∷ []) rows
pending_is Config value rows = refl
pending_is Database value rows = refl

pub spelled : (words rest : List Text) (settings : List Setting) → Spells words settings → (rows : List Row) (p : Pending) → Spelled rows p (words ++ rest) rest settings
spelled words rest settings none rows p = record {
  after = rows;
  pending = p;
  faults = [];
  leads = stays shape names (standing rows p idle) rest;
  are = refl;
  fault = sym (else_none (pending_fault rows p));
}
spelled words rest settings (apart key value more others flat d) rows p =
    let flagless = no_flag value flat in
    let to_letter = letter_leads key rows p (value ∷ (more ++ rest)) in
    let to_value = value_leads key value (rows_with rows p) flagless (more ++ rest) in
    before (Given key value) (goes_on shape names to_letter to_value) (pending_rows key value (rows_with rows p))
    (else_joined (pending_fault rows p) [] _ ∙ ap (or_else (pending_fault rows p)) (pending_is key value (rows_with rows p)))
    (spelled more rest others d (rows_with rows p) (Some (id_of key, value ∷ [])))
spelled words rest settings (by_equals key value more others d) rows p =
    before (Given key value) (equals_leads key value rows p (more ++ rest))
    refl (else_none _) (spelled more rest others d (used (rule_by (id_of key)) (value ∷ []) (rows_with rows p)) None)
spelled words rest settings (joined key b value more others differs d) rows p =
    let e = ne_eqb b 61 differs in
    before (Given key (b ∷ value)) (joined_leads key b value rows p e (more ++ rest))
    refl (else_none _) (spelled more rest others d (used (rule_by (id_of key)) ((b ∷ value) ∷ []) (rows_with rows p)) None)
spelled words rest settings (shows more others d) rows p =
    before Shows (shows_leads rows p (more ++ rest))
    refl (else_none _) (spelled more rest others d (shown rows p) None)
spelled words rest settings (shows_and b letters more others d) rows p =
    let head = first_letter b letters more others d in
    before Shows (more_leads b letters (more ++ rest) b rows p head.0 head.1) refl (else_none _)
    (spelled ((45 ∷ b ∷ letters) ∷ more) rest others d (shown rows p) None)
