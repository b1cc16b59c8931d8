-- Words that name a command are taken by the parser, and read as it.
use Rattle.zeb_words.proofs.Cited.{ℕ, Option, ◌≡◌, ◌∙◌, ◌⊎◌, inl, inr, Bool, refl, sym, ap, ap₂, subst, List, [], ◌∷◌, Some, None, codes, true, false, map, cond, arith, ◌≤◌, string_bytes, unwrap_or, slice_get, bytes_eq, bytes_eq-Decides, Row, Text, has_row, one_of, rows_after, with_default, App, built, entered, matches_of, subcommand_of, check_fault, default_fault, entered_fault, fault_of, or_else, name_bytes, Config, Database, Given, IsOneOr, Setting, Shows, databases, files, shown, NamesAct, NamesNone, NamesWords, IsActRead, IsChoiceRead, LayoutChoice, Unsaid, IsFlagRead, IsMisuseOf, IsNumberRead, IsPast, IsReadFrom, IsRefusedAs, UnknownArgument, Refused, Help, help_word, path_texts, program_app, text_or, Words, Misuse, Usage, BadUsage, Memory, IsAmong, Act, Init, Create, Drop, Update, Delete, Adelete, Stat, Dump, Check, Reindex, Upgrade, Find, Scan, Batch, Shell, is_some}
use Rattle.clap.proofs.OnLiterals.{clap_on_literals}
use Rattle.clap.specs.Faults.{defaults_fault}
use Rattle.clap.specs.declared.error.kind.ErrorKind.TheVariants.{InvalidSubcommand}
use Rattle.zeb_words.specs.Names as names
use Rattle.zeb_words.proofs.ReadingLemmas.{IsFlagText, none_read, pair_parts}
use Rattle.zeb_words.proofs.Items.{AllItems, AtMostOne, Once, most_once, row, values}
use Rattle.zeb_words.proofs.Leads.{none_of_both}
use Rattle.zeb_words.proofs.Uses.{no_clash, rows_are}
use Rattle.zeb_words.proofs.Top.{rule_by, shape, used_rule}
use Rattle.zeb_words.proofs.Top.{values as raw_values}
use Rattle.zeb_words.proofs.TopRead.{Any, IsCommandOf, Walks, enters, good, is_adelete, is_batch, is_check, is_create, is_delete, is_drop, is_dump, is_find, is_init, is_reindex, is_scan, is_shell, is_stat, is_update, is_upgrade, item_of, only, rows_at_end, using, walks}
use Rattle.zeb_words.proofs.Leaf.{Bare, Changing, Finding, Founding, Leaf, Naming, Scanning, rules}
use Rattle.zeb_words.proofs.LeafRead.{default_none, own_fault}
use Rattle.zeb_words.proofs.LeafActs.{bare_taken, choice_only, choice_taken, name_taken, paths_taken}
use Rattle.zeb_words.proofs.Asking.{asks_taken, find_options, scan_options}
use Rattle.zeb_words.proofs.Defaults.{all_true, database_read, database_values, file_read, file_values, flag_read, shown_values, with_defaults}
use Rattle.zeb_words.proofs.Naming.{each_any}

-- ---- the act

record TakenAct (name : Text) (words : List Text) (shows : Bool) (act : Act) : Type 0 where
  l : Leaf
  is : IsCommandOf name l
  fault : own_fault l words ≡ []
  read : IsActRead name shows (rows_after (rules l) [] words) act

at : (name known : Text) (l : Leaf) → name ≡ known → IsCommandOf known l → IsCommandOf name l
at name known l e is = subst (λ n. IsCommandOf n l) (sym e) is

act_taken : (name : Text) (words : List Text) (shows : Bool) (act : Act) → NamesAct name words shows act → TakenAct name words shows act
act_taken name words shows (Init choice) h =
    let t = choice_taken words choice h.2 in
    record { l = Founding; is = at name _ Founding h.0 is_init; fault = t.0; read = (h.0, h.1, t.1) }
act_taken name words shows (Create d) h =
    let t = name_taken words (name_bytes d) h.2 in
    record { l = Naming; is = at name _ Naming h.0 is_create; fault = t.0; read = (h.0, h.1, t.1) }
act_taken name words shows (Drop d) h =
    let t = name_taken words (name_bytes d) h.2 in
    record { l = Naming; is = at name _ Naming h.0 is_drop; fault = t.0; read = (h.0, h.1, t.1) }
act_taken name words shows (Update paths flag) h =
    let t = paths_taken words (path_texts paths.items) h.2 h.3 in
    record { l = Changing; is = at name _ Changing h.0 is_update; fault = t.0; read = (h.0, h.1, t.1) }
act_taken name words shows (Delete paths) h =
    let t = paths_taken words (path_texts paths.items) h.2 h.3 in
    record { l = Changing; is = at name _ Changing h.0 is_delete; fault = t.0; read = (h.0, h.1, t.1) }
act_taken name words shows (Adelete paths) h =
    let t = paths_taken words (path_texts paths.items) h.2 h.3 in
    record { l = Changing; is = at name _ Changing h.0 is_adelete; fault = t.0; read = (h.0, h.1, t.1) }
act_taken name words shows Stat h = record { l = Bare; is = at name _ Bare h.0 is_stat; fault = bare_taken words h.2; read = (h.0, h.1) }
act_taken name words shows Dump h = record { l = Bare; is = at name _ Bare h.0 is_dump; fault = bare_taken words h.2; read = (h.0, h.1) }
act_taken name words shows Check h = record { l = Bare; is = at name _ Bare h.0 is_check; fault = bare_taken words h.2; read = (h.0, h.1) }
act_taken name words shows Reindex h = record { l = Bare; is = at name _ Bare h.0 is_reindex; fault = bare_taken words h.2; read = (h.0, h.1) }
act_taken name words shows (Upgrade choice) h =
    let t = choice_taken words choice h.2 in
    record { l = Founding; is = at name _ Founding h.0 is_upgrade; fault = t.0; read = (h.0, h.1, t.1) }
act_taken name words shows (Find query m n) h =
    let t = asks_taken Finding names.first names.count find_options words (string_bytes query) m n h.2 in
    record { l = Finding; is = at name _ Finding h.0 is_find; fault = t.fault; read = (h.0, h.1, t.text, t.a_read, t.b_read) }
act_taken name words shows (Scan query m n) h =
    let t = asks_taken Scanning names.number names.position scan_options words (string_bytes query) m n h.2 in
    record { l = Scanning; is = at name _ Scanning h.0 is_scan; fault = t.fault; read = (h.0, h.1, t.text, t.a_read, t.b_read, h.3) }
act_taken name words shows Batch h = record { l = Bare; is = at name _ Bare h.0 is_batch; fault = bare_taken words h.2; read = (h.0, h.1) }
act_taken name words shows Shell h = record { l = Bare; is = at name _ Bare h.0 is_shell; fault = bare_taken words h.2; read = (h.0, h.1) }

pub differ : (a b : Text) → bytes_eq a b ≡ false → a ≡ b → ⊥
differ a b e same =
    let bad : true ≡ false = sym ((bytes_eq-Decides a b).1 same) ∙ e in
    cc

-- a name that is one text is no other
pub unlike : (name known other : Text) → name ≡ known → bytes_eq known other ≡ false → name ≡ other → ⊥
unlike name known other is differs same = differ known other differs (sym is ∙ same)

-- a scan that is named isn't past its number
never_past : (name : Text) (words : List Text) (shows : Bool) (act : Act) (h : NamesAct name words shows act) → name ≡ codes "scan"
    → IsPast (rows_after (rules (act_taken name words shows act h).l) [] words) → ⊥
unfolding act_taken
never_past name words shows (Scan query m n) h e past =
    let t = asks_taken Scanning names.number names.position scan_options words (string_bytes query) m n h.2 in
    let number = t.a_only past.number past.number_read in
    let position = t.b_only past.position past.position_read in
    let least : n ≤ m = h.3 in
    let more = past.past in
    absurd (omega arith)
never_past name words shows _ h e past = absurd (unlike name _ (codes "scan") h.0 refl e)

-- the numbers and the layout that matches of this command say, where it has any
pub record Numbered (name : Text) (rows : List Row) (m n : ℕ) (choice : LayoutChoice) : Type 0 where
  pub find_first : name ≡ codes "find" → (x : ℕ) → IsNumberRead (one_of (codes "first") rows) 1 x → x ≡ m
  pub find_count : name ≡ codes "find" → (x : ℕ) → IsNumberRead (one_of (codes "count") rows) 20 x → x ≡ n
  pub scan_number : name ≡ codes "scan" → (x : ℕ) → IsNumberRead (one_of (codes "number") rows) 20 x → x ≡ m
  pub scan_position : name ≡ codes "scan" → (x : ℕ) → IsNumberRead (one_of (codes "position") rows) 1 x → x ≡ n
  pub choices : (name ≡ codes "init") ⊎ (name ≡ codes "upgrade") → (x : LayoutChoice) → IsChoiceRead (one_of (codes "leaves") rows) x → x ≡ choice

-- a command that says no numbers, but maybe a layout
no_numbers : (name known : Text) (rows : List Row) (choice : LayoutChoice) → name ≡ known → bytes_eq known (codes "find") ≡ false → bytes_eq known (codes "scan") ≡ false
    → ((name ≡ codes "init") ⊎ (name ≡ codes "upgrade") → (x : LayoutChoice) → IsChoiceRead (one_of (codes "leaves") rows) x → x ≡ choice) → Numbered name rows 0 0 choice
no_numbers name known rows choice e find scan choices = record {
  find_first = λ is x read. absurd (differ known (codes "find") find (sym e ∙ is));
  find_count = λ is x read. absurd (differ known (codes "find") find (sym e ∙ is));
  scan_number = λ is x read. absurd (differ known (codes "scan") scan (sym e ∙ is));
  scan_position = λ is x read. absurd (differ known (codes "scan") scan (sym e ∙ is));
  choices = choices;
}

no_choice : (name known : Text) (rows : List Row) → name ≡ known → bytes_eq known (codes "init") ≡ false → bytes_eq known (codes "upgrade") ≡ false
    → (name ≡ codes "init") ⊎ (name ≡ codes "upgrade") → (x : LayoutChoice) → IsChoiceRead (one_of (codes "leaves") rows) x → x ≡ Unsaid
no_choice name known rows e init upgrade (inl is) x read = absurd (differ known (codes "init") init (sym e ∙ is))
no_choice name known rows e init upgrade (inr is) x read = absurd (differ known (codes "upgrade") upgrade (sym e ∙ is))

says_nothing : (name known : Text) (rows : List Row) → name ≡ known → bytes_eq known (codes "find") ≡ false → bytes_eq known (codes "scan") ≡ false
    → bytes_eq known (codes "init") ≡ false → bytes_eq known (codes "upgrade") ≡ false → Numbered name rows 0 0 Unsaid
says_nothing name known rows e find scan init upgrade = no_numbers name known rows Unsaid e find scan (no_choice name known rows e init upgrade)

act_numbers : (name : Text) (words : List Text) (shows : Bool) (act : Act) (h : NamesAct name words shows act)
    → (m : ℕ) × (n : ℕ) × (choice : LayoutChoice) × Numbered name (rows_after (rules (act_taken name words shows act h).l) [] words) m n choice
unfolding act_taken
act_numbers name words shows (Init choice) h = (0, 0, choice, no_numbers name _ _ choice h.0 refl refl (λ _ x read. choice_only words choice x h.2 read))
act_numbers name words shows (Upgrade choice) h = (0, 0, choice, no_numbers name _ _ choice h.0 refl refl (λ _ x read. choice_only words choice x h.2 read))
act_numbers name words shows (Find query m n) h =
    let t = asks_taken Finding names.first names.count find_options words (string_bytes query) m n h.2 in (
      m,
      n,
      Unsaid,
      record {
        find_first = λ is x read. t.a_only x read;
        find_count = λ is x read. t.b_only x read;
        scan_number = λ is x read. absurd (differ (codes "find") (codes "scan") refl (sym h.0 ∙ is));
        scan_position = λ is x read. absurd (differ (codes "find") (codes "scan") refl (sym h.0 ∙ is));
        choices = no_choice name _ (rows_after (rules Finding) [] words) h.0 refl refl;
      },
    )
act_numbers name words shows (Scan query m n) h =
    let t = asks_taken Scanning names.number names.position scan_options words (string_bytes query) m n h.2 in (
      m,
      n,
      Unsaid,
      record {
        find_first = λ is x read. absurd (differ (codes "scan") (codes "find") refl (sym h.0 ∙ is));
        find_count = λ is x read. absurd (differ (codes "scan") (codes "find") refl (sym h.0 ∙ is));
        scan_number = λ is x read. t.a_only x read;
        scan_position = λ is x read. t.b_only x read;
        choices = no_choice name _ (rows_after (rules Scanning) [] words) h.0 refl refl;
      },
    )
act_numbers name words shows _ h = (0, 0, Unsaid, says_nothing name _ _ h.0 refl refl refl refl)

-- ---- settings

one_back : (vs : List Text) (other x : Text) → IsOneOr other vs x → AtMostOne vs × (x ≡ unwrap_or (slice_get vs 0) other)
one_back [] other x is = (tt, is)
one_back (v ∷ []) other x is = (tt, is)
one_back (v ∷ w ∷ more) other x is = absurd is

flag_of : List Bool → Text
flag_of flags = cond (is_some (slice_get flags 0)) (codes "true") (codes "false")

flag_back : (settings : List Setting) (flag : Bool) → IsOneOr false (shown settings) flag → AtMostOne (shown settings) × IsFlagRead (Some (flag_of (shown settings))) flag
unfolding flag_of
flag_back settings flag is = by (shown settings) refl is
  where
    by : (flags : List Bool) → shown settings ≡ flags → IsOneOr false flags flag → AtMostOne flags × IsFlagRead (Some (flag_of flags)) flag
    by [] e is = (tt, record { absent = λ _. is; yes = λ e. let bad : Some (codes "false") ≡ Some (codes "true") = e in cc; no = λ _. is })
    by (f ∷ []) e is =
        let yes : flag ≡ true = is ∙ all_true settings f [] e in
        (tt, record { absent = λ e. let bad : Some (codes "true") ≡ None = e in cc; yes = λ _. yes; no = λ e. let bad : Some (codes "true") ≡ Some (codes "false") = e in cc })
    by (f ∷ g ∷ more) e is = absurd is

flag_text : (flags : List Bool) → IsFlagText (Some (flag_of flags))
unfolding flag_of
flag_text [] = inr refl
flag_text (f ∷ flags) = inl refl

abbrev Known : Text → Type 0
Known id = (id ≡ codes "config") ⊎ ((id ≡ codes "database") ⊎ (id ≡ codes "shows"))

all_known : (settings : List Setting) → AllItems Known (map item_of settings)
all_known [] = tt
all_known (Given Config value ∷ settings) = (inl refl, all_known settings)
all_known (Given Database value ∷ settings) = (inr (inl refl), all_known settings)
all_known (Shows ∷ settings) = (inr (inr refl), all_known settings)

trues : (flags : List Bool) → AtMostOne flags → AtMostOne (map (λ _. codes "true") flags)
trues [] one = tt
trues (f ∷ []) one = tt
trues (f ∷ g ∷ more) one = absurd one

given_once : (settings : List Setting) → AtMostOne (files settings) → AtMostOne (databases settings) → AtMostOne (shown settings) → Once (map item_of settings) []
given_once settings file database show =
    most_once Known (map item_of settings) [] (all_known settings) (λ id known. (λ has. let bad : false ≡ true = has in cc, most id known))
  where
    most : (id : Text) → Known id → AtMostOne (values id (map item_of settings))
    most id (inl e) = subst (λ id. AtMostOne (values id (map item_of settings))) (sym e) (subst AtMostOne (sym (file_values settings)) file)
    most id (inr (inl e)) = subst (λ id. AtMostOne (values id (map item_of settings))) (sym e) (subst AtMostOne (sym (database_values settings)) database)
    most id (inr (inr e)) = subst (λ id. AtMostOne (values id (map item_of settings))) (sym e) (subst AtMostOne (sym (shown_values settings)) (trues (shown settings) show))

-- ---- after the walk

shows_none : (rows : List Row) → default_fault rows (rule_by (codes "shows")) ≡ []
shows_none rows = by (has_row (codes "shows") rows) refl
  where
    by : (is : Bool) → has_row (codes "shows") rows ≡ is → default_fault rows (rule_by (codes "shows")) ≡ []
    by true e = rw e refl
    by false e = rw e refl

no_default_fault : (rows : List Row) → defaults_fault rows shape.rules ≡ []
unfolding defaults_fault
no_default_fault rows =
    let one = with_default rows (rule_by (codes "config")) in
    let two = with_default one (rule_by (codes "database")) in
    let three = with_default two (rule_by (codes "shows")) in
    ap₂ or_else (default_none rows (rule_by (codes "config")) refl)
    (ap₂ or_else (default_none one (rule_by (codes "database")) refl)
    (ap₂ or_else (shows_none two)
    (ap₂ or_else (default_none three (rule_by (codes "version")) refl)
    (ap₂ or_else (default_none (with_default three (rule_by (codes "version"))) (rule_by (codes "help")) refl) refl))))

abbrev app : App
app = built program_app

-- words that name a command are taken, and read as it
pub record TakenWords (words : List Text) (named : Words) : Type 0 where
  pub fault : fault_of program_app words ≡ []
  pub read : IsReadFrom (matches_of program_app words) (subcommand_of program_app words) named
  pub never : (misuse : Misuse) → IsMisuseOf misuse (matches_of program_app words) (subcommand_of program_app words) → ⊥
  pub flag : IsFlagText (one_of (codes "shows") (matches_of program_app words))
  pub m : ℕ
  pub n : ℕ
  pub choice : LayoutChoice
  pub numbered : (name : Text) (given : List Row) → ◌≡◌ {A = Option (Text × List Row)} (subcommand_of program_app words) (Some (name, given)) → Numbered name given m n choice

pub names_taken : (words : List Text) (named : Words) → NamesWords words named → TakenWords words named
unfolding flag_of
names_taken words named n =
    let config = one_back (files n.settings) (codes "zebra.cfg") (string_bytes named.config) n.config in
    let database = one_back (databases n.settings) (codes "Default") (name_bytes named.database) n.database in
    let flag = flag_back n.settings n.shows n.flag in
    let t = act_taken n.command n.behind n.shows named.act n.act in
    let once = given_once n.settings config.0 database.0 flag.0 in
    let any = each_any n.settings in
    let w = subst (λ ws. Walks ws n.settings n.command n.behind) (sym n.are) (walks n.front n.settings n.command t.l n.behind n.spells t.is) in
    let e = enters n.command t.l n.behind t.is in
    let clear = none_of_both _ _ (w.faults ∙ no_clash used_rule raw_values item_of Any Any good only using n.settings [] any once any) in
    let rows : matches_of program_app words ≡ with_defaults (map row (map item_of n.settings)) =
    ap with_defaults (w.rows ∙ rows_are used_rule raw_values item_of Any Any good only using n.settings [] any once) in
    let sub : subcommand_of program_app words ≡ Some (n.command, rows_after (rules t.l) [] n.behind) = ap (entered app) w.stop ∙ e.rows in
    let below = ap (entered_fault app) w.stop ∙ e.fault ∙ t.fault in
    let check = ap (λ s. check_fault shape (matches_of program_app words) (is_some s)) sub in
    let flag_is = ap (one_of (codes "shows")) rows ∙ flag_read n.settings in
    let read : IsReadFrom (matches_of program_app words) (subcommand_of program_app words) named = record {
      config = config.1 ∙ sym (ap (text_or (codes "config") (codes "zebra.cfg")) rows ∙ file_read n.settings (codes "zebra.cfg"));
      database = database.1 ∙ sym (ap (text_or (codes "database") (codes "Default")) rows ∙ database_read n.settings (codes "Default"));
      shows = n.shows;
      flagged = subst (λ t. IsFlagRead t n.shows) (sym flag_is) flag.1;
      name = n.command;
      given = rows_after (rules t.l) [] n.behind;
      is = sub;
      act = t.read;
    } in
    let never = λ (misuse : Misuse). none_read (matches_of program_app words) (subcommand_of program_app words) misuse named (subst IsFlagText (sym flag_is) (flag_text (shown n.settings))) read
    (λ given is past.
    let same = pair_parts n.command (codes "scan") (rows_after (rules t.l) [] n.behind) given (sym sub ∙ is) in
    never_past n.command n.behind n.shows named.act n.act same.0 (subst IsPast (sym same.1) past)) in
    let numbers = act_numbers n.command n.behind n.shows named.act n.act in
    record {
      fault = ap₂ or_else clear.0 (ap₂ or_else below (ap₂ or_else clear.1 (ap₂ or_else (no_default_fault (rows_at_end words)) check)));
      read = read;
      never = never;
      flag = subst IsFlagText (sym flag_is) (flag_text (shown n.settings));
      m = numbers.0;
      n = numbers.1;
      choice = numbers.2;
      numbered = λ name given is.
          let same = pair_parts n.command name (rows_after (rules t.l) [] n.behind) given (sym sub ∙ is) in
          subst (λ g. Numbered name g numbers.0 numbers.1 numbers.2) same.1
          (subst (λ c. Numbered c (rows_after (rules t.l) [] n.behind) numbers.0 numbers.1 numbers.2) same.0 numbers.3);
    }

-- the parser takes the word for help for no command
help_faulty : fault_of program_app help_word ≡ UnknownArgument ∷ InvalidSubcommand ∷ []
unfolding clap_on_literals
help_faulty = refl

no_command : fault_of program_app help_word ≡ [] → ⊥
no_command sound =
    let bad : UnknownArgument ∷ InvalidSubcommand ∷ [] ≡ [] = sym help_faulty ∙ sound in
    cc

-- so words that are refused name none
pub none_named : (words : List Text) (usage : Usage) → IsRefusedAs words usage → NamesNone words usage
none_named words (BadUsage misuse) refused = λ named n. (names_taken words named n).never misuse refused.1
none_named words Memory refused = tt
none_named words (Refused text) refused = λ named n. subst (IsAmong refused.0.0) (names_taken words named n).fault refused.0.1
none_named words (Help text) (inl asked) = λ named n. subst (IsAmong asked.0) (names_taken words named n).fault asked.1
none_named words (Help text) (inr is) = λ named n. no_command (sym (ap (fault_of program_app) is) ∙ (names_taken words named n).fault)
