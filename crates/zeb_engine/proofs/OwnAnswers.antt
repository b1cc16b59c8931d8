-- What the definition answers is never damage, nor a failure of the store, of the memory or of a reader.
use Rattle.zeb_engine.proofs.Cited.{refl, ◌+◌, ◌-◌, ℕ, Bool, true, false, cond, inl, inr, List, [], ◌∷◌, Option, Some, None, Result, Ok, Err, map, length, take, drop, nat_le, nat_lt, sym, subst, string_bytes, ⊤, bytes_eq, decimal, MarcFault, first_fault, fields_of, units_of, canonical_text, is_taken, PlanValue, ScanValue, plan_of, scan_of, Occurrence, IdentFault, AnalysisFault, Analysed, AnalysesTo, IsRefusal, Command, Init, Check, Reindex, Upgrade, Create, Drop, Stat, Dump, Change, Find, Scan, Analyse, Kind, Update, Delete, Adelete, Inserted, PassedOver, name_bytes, Answer, refused, Why, old_format, profile_changed, rule_changed, diagnostic, unknown, database_full, too_many_records, damaged, read_fault, store_failed, out_of_memory, why_of, Conditions, IsPlanned, IsShown, asked_of, has_name, occurs, IsScanPlanned, Changed, Progress, at_end, at_first, changed_by, counted, deleted, files_folded, ident_in, slices_folded, updated, with_ident, with_record, ◌then◌, splits_of, Base, Kept, kept_as, with_new, Holdings, nothing_yet, under, base_named, IsAnalysed, analysis_answer, same_rule, analysis_refusal, marc_refusal, AskedAmong, AskedFrom, AskedIn, CountedFrom, CountedIn, FindAnswers, ScanAnswers, Turn, change_ends, change_from, created_in, dropped_in, dumped_from, dumped_in, ends, start_of, turned_from, checked_from, all_stay, split_of}
use Rattle.std.specs.Prelude.{◌&&◌}
use Rattle.zeb_marc.specs.declared.faults.MarcFault.TheVariants as marc
use Rattle.zeb_query.specs.Checks.{Refusal}
use Rattle.zeb_extract.specs.declared.naming.IdentFault.TheVariants as ident
use Rattle.zeb_analysis.specs.declared.faults.AnalysisFault.TheVariants as analysis
use Rattle.zeb_change.specs.Folding.{changed_record, file_folded, record_folded}
use Rattle.zeb_engine.specs.Steps.{changed_by_files, created, dropped, initialised, ready, turned, reindexed, ruled, upgradable, upgraded}
use Rattle.zeb_engine.proofs.StepLemmas.{MayAnswer}
use Rattle.zeb_engine.proofs.AnalysisAnswers.{fault_of_text, refusal_of_texts}
use Rattle.zeb_engine.proofs.FaultAnswers.{IsOfText, IsOfRecord, first_of_text, split_of_text, identifier_of_record}

-- a refusal that tells of the command and of what is held
abbrev pub IsOwn : Why → Type 0
IsOwn damaged = ⊥
IsOwn store_failed = ⊥
IsOwn out_of_memory = ⊥
IsOwn (read_fault file) = ⊥
IsOwn why = ⊤

abbrev pub IsOwnAnswer : Answer → Type 0
IsOwnAnswer (refused why) = IsOwn why
IsOwnAnswer answer = ⊤

abbrev AreOwn : {A : Type 0} → Result A Why → Type 0
AreOwn (Ok a) = ⊤
AreOwn (Err why) = IsOwn why

marc_own : (file nth : ℕ) (fault : MarcFault) → IsOfText (Some fault) → IsOwn (why_of (marc_refusal file nth fault))
marc_own file nth marc.ReadFault is = absurd is
marc_own file nth _ is = tt

-- ---- one record

updated_own : (c : Conditions) (ident bytes : List ℕ) (base : Base) (elder : Option Kept) → AreOwn (updated c ident bytes base elder)
updated_own c ident bytes base (Some kept) = tt
updated_own c ident bytes base None = elim (nat_le c.limits.numbers base.last)
    as (λ b. AreOwn {A = Changed} (cond b (Err database_full) (Ok (with_new ident bytes base, Inserted)))) [ true ↦ tt | false ↦ tt ]

deleted_own : (absent : Result Changed Why) (ident : List ℕ) (base : Base) (elder : Option Kept) → AreOwn absent → AreOwn (deleted absent ident base elder)
deleted_own absent ident base (Some kept) is = tt
deleted_own absent ident base None is = is

module _ (c : Conditions) (file nth : ℕ) (bytes : List ℕ) (base : Base) where
  changed_own : (kind : Kind) (ident : List ℕ) → AreOwn (changed_by c kind file nth bytes ident base)
  changed_own Update ident = updated_own c ident bytes base (kept_as ident base)
  changed_own Delete ident = deleted_own (Err (unknown file nth)) ident base (kept_as ident base) tt
  changed_own Adelete ident = deleted_own (Ok (base, PassedOver)) ident base (kept_as ident base) tt

  ident_own : (kind : Kind) (said : Result (List ℕ) IdentFault) → IsOfRecord said → AreOwn (with_ident c kind file nth bytes base said)
  ident_own kind (Ok name) is = changed_own kind name
  ident_own kind (Err ident.NoIdentifier) is = tt
  ident_own kind (Err ident.BadIdentifier) is = tt
  ident_own kind (Err ident.Memory) is = absurd is

  with_record_own : (kind : Kind) (fault : Option MarcFault) → IsOfText fault → AreOwn (with_record c kind file nth bytes base fault)
  with_record_own kind (Some fault) is = marc_own file nth fault is
  with_record_own kind None is = ident_own kind (ident_in c.profile bytes) (identifier_of_record c.profile (units_of (fields_of bytes)))

  record_own : (kind : Kind) → AreOwn (changed_record c kind file nth bytes base)
  unfolding changed_record
  record_own kind = with_record_own kind (first_fault bytes) (first_of_text bytes)

-- ---- files

then_own : {A B : Type 0} (said : Result A Why) (f : A → Result B Why) → AreOwn said → ((a : A) → AreOwn (f a)) → AreOwn (said then f)
then_own (Ok a) f is later = later a
then_own (Err why) f is later = is

module _ (c : Conditions) (kind : Kind) where
  folded_own : (file nth : ℕ) (bytes : List ℕ) (p : Progress) → AreOwn (record_folded c kind file nth bytes p)
  unfolding record_folded
  folded_own file nth bytes p = elim (nat_le c.limits.records p.taken)
      as (λ b. AreOwn {A = Progress} (cond b (Err too_many_records) (changed_record c kind file nth bytes p.base then λ changed. Ok (counted changed.0 p changed.1)))) [
        | true ↦ tt
        | false ↦ then_own (changed_record c kind file nth bytes p.base) (λ changed. Ok (counted changed.0 p changed.1)) (record_own c file nth bytes p.base kind) (λ changed. tt)
      ]

  end_own : (file nth : ℕ) (last : Option MarcFault) (p : Progress) → IsOfText last → AreOwn (at_end file nth last p)
  end_own file nth None p is = tt
  end_own file nth (Some fault) p is = marc_own file nth fault is

  slices_own : (file nth : ℕ) (slices : List (List ℕ)) (last : Option MarcFault) (p : Progress) → IsOfText last → AreOwn (slices_folded c kind file nth slices last p)
  slices_own file nth [] last p is = end_own file nth last p is
  slices_own file nth (slice ∷ slices) last p is =
      then_own (record_folded c kind file nth slice p) (slices_folded c kind file (nth + 1) slices last) (folded_own file nth slice p) (λ q. slices_own file (nth + 1) slices last q is)

  file_own : (file : ℕ) (text : List ℕ) (p : Progress) → AreOwn (file_folded c kind file (split_of text) p)
  unfolding file_folded
  file_own file text p = slices_own file 1 (split_of text).slices (split_of text).fault p (split_of_text text)

  files_own : (file : ℕ) (texts : List (List ℕ)) (p : Progress) → AreOwn (files_folded c kind file (splits_of texts) p)
  files_own file [] p = tt
  files_own file (text ∷ texts) p =
      then_own (file_folded c kind file (split_of text) p) (files_folded c kind (file + 1) (splits_of texts)) (file_own file text p) (files_own (file + 1) texts)

-- ---- commands that change what is held

ready_own : (c : Conditions) (before : Holdings) → AreOwn (ready c before)
unfolding ready
ready_own c nothing_yet = tt
ready_own c (under version text bases) = go (bytes_eq version c.version) (bytes_eq text (canonical_text c.profile))
  where
    go : (one other : Bool) → AreOwn {A = List Base} (cond one (cond other (Ok bases) (Err profile_changed)) (Err old_format))
    go true true = tt
    go true false = tt
    go false other = tt

-- a turn, whose answers are its own
abbrev pub IsOwnTurn : Result (Answer × List Base) Why → Type 0
IsOwnTurn (Ok turned) = IsOwnAnswer turned.0
IsOwnTurn (Err why) = IsOwn why

turn_ends : (c : Conditions) (before : Holdings) (said : Result (Answer × List Base) Why) → IsOwnTurn said → IsOwnAnswer (ends c before said).0
turn_ends c before (Ok turned) is = is
turn_ends c before (Err why) is = is

from_own : (c : Conditions) (turn : Turn) (before : Holdings) → ((bases : List Base) → IsOwnTurn (turn bases)) → (said : Result (List Base) Why) → AreOwn said → IsOwnAnswer (turned_from c turn before said).0
from_own c turn before each (Ok bases) is = turn_ends c before (turn bases) (each bases)
from_own c turn before each (Err why) is = is

pub turned_own : (c : Conditions) (turn : Turn) (before : Holdings) → ((bases : List Base) → IsOwnTurn (turn bases)) → IsOwnAnswer (turned c turn before).0
unfolding turned
turned_own c turn before each = from_own c turn before each (ready c before) (ready_own c before)

ruled_own : (c : Conditions) (before : Holdings) → AreOwn (ruled c before)
unfolding ruled
ruled_own c nothing_yet = tt
ruled_own c (under version text bases) = go (bytes_eq version c.version) (same_rule text (canonical_text c.profile))
  where
    go : (one other : Bool) → AreOwn {A = List Base} (cond one (cond other (Ok bases) (Err rule_changed)) (Err old_format))
    go true true = tt
    go true false = tt
    go false other = tt

reindexed_own : (c : Conditions) (before : Holdings) → IsOwnAnswer (reindexed c before).0
unfolding reindexed
reindexed_own c before = from_own c all_stay before (λ bases. tt) (ruled c before) (ruled_own c before)

upgradable_own : (c : Conditions) (before : Holdings) → AreOwn (upgradable c before)
unfolding upgradable
upgradable_own c nothing_yet = tt
upgradable_own c (under version text bases) = go (is_taken version c.version) (bytes_eq text (canonical_text c.profile))
  where
    go : (one other : Bool) → AreOwn {A = List Base} (cond one (cond other (Ok bases) (Err profile_changed)) (Err old_format))
    go true true = tt
    go true false = tt
    go false other = tt

upgraded_own : (c : Conditions) (before : Holdings) → IsOwnAnswer (upgraded c before).0
unfolding upgraded
upgraded_own c before = from_own c all_stay before (λ bases. tt) (upgradable c before) (upgradable_own c before)

created_own : (name : List ℕ) (bases : List Base) → IsOwnTurn (created name bases)
unfolding created
created_own name bases = go (base_named name bases)
  where
    go : (base : Option Base) → IsOwnTurn (created_in name bases base)
    go (Some base) = tt
    go None = tt

dropped_own : (name : List ℕ) (bases : List Base) → IsOwnTurn (dropped name bases)
unfolding dropped
dropped_own name bases = go (base_named name bases)
  where
    go : (base : Option Base) → IsOwnTurn (dropped_in name bases base)
    go (Some base) = tt
    go None = tt

start_own : (kind : Kind) (name : List ℕ) (base : Option Base) → AreOwn (start_of kind name base)
start_own kind name (Some base) = tt
start_own Update name None = tt
start_own _ name None = tt

pub change_own : (c : Conditions) (kind : Kind) (name : List ℕ) (texts : List (List ℕ)) (bases : List Base) → IsOwnTurn (changed_by_files c kind name (splits_of texts) bases)
unfolding changed_by_files
change_own c kind name texts bases = go (start_of kind name (base_named name bases)) (start_own kind name (base_named name bases))
  where
    ends_so : (said : Result Progress Why) → AreOwn said → IsOwnTurn (change_ends bases said)
    ends_so (Ok p) is = tt
    ends_so (Err why) is = is

    go : (start : Result Base Why) → AreOwn start → IsOwnTurn (change_from c kind (splits_of texts) bases start)
    go (Ok base) is = ends_so (files_folded c kind 1 (splits_of texts) (at_first base)) (files_own c kind 1 texts (at_first base))
    go (Err why) is = is

checked_own : (said : Result (List Base) Why) → AreOwn said → IsOwnAnswer (checked_from said)
checked_own (Ok bases) is = tt
checked_own (Err why) is = is

-- ---- finds

asked_of_own : (hits : List ℕ) (first count : ℕ) → AreOwn (asked_of hits first count)
asked_of_own hits first count = elim (nat_lt 1 first && nat_lt (length hits) first)
    as (λ b. AreOwn {A = List ℕ} (cond b (Err (diagnostic 13 0 (decimal first))) (Ok (take count (drop (first - 1) hits))))) [
      | true ↦ tt
      | false ↦ tt
    ]

module _ (O : ℕ → Occurrence → Type 0) (N : ℕ → List ℕ → Type 0) (first count : ℕ) (answer : Answer) where
  shown_own : (hits : List ℕ) (asked : Result (List ℕ) Why) → AreOwn asked → IsShown N hits asked answer → IsOwnAnswer answer
  shown_own hits (Ok asked) own is = subst IsOwnAnswer (sym is.2) tt
  shown_own hits (Err why) own is = subst IsOwnAnswer (sym is) own

  planned_own : (plan : Result PlanValue Refusal) → IsPlanned O N plan first count answer → IsOwnAnswer answer
  planned_own (Ok plan) is = shown_own is.0 (asked_of is.0 first count) (asked_of_own is.0 first count) is.2
  planned_own (Err e) is = subst IsOwnAnswer (sym is) tt

module _ (O : ℕ → Occurrence → Type 0) (number position : ℕ) (answer : Answer) where
  scanned_own : (plan : Result ScanValue Refusal) → IsScanPlanned O plan number position answer → IsOwnAnswer answer
  scanned_own (Ok plan) is = subst IsOwnAnswer (sym is.2) tt
  scanned_own (Err e) is = subst IsOwnAnswer (sym is) tt

-- a command that asks a database by a query
asked_own : (Says : Base → Answer → Type 0) → ((base : Base) (answer : Answer) → Says base answer → IsOwnAnswer answer) → (name query : List ℕ) (answer : Answer) (said : Result (List Base) Why) → AreOwn said
    → AskedFrom Says name query said answer → IsOwnAnswer answer
asked_own Says each name query answer (Err why) own is = subst IsOwnAnswer (sym is) own
asked_own Says each name query answer (Ok bases) own is = go is
  where
    there : (base : Option Base) → AskedIn Says name base answer → IsOwnAnswer answer
    there None h = subst IsOwnAnswer (sym h) tt
    there (Some base) h = each base answer h

    go : AskedAmong Says name query bases answer → IsOwnAnswer answer
    go (inl read) = there (base_named name bases) read.1
    go (inr faulty) = subst IsOwnAnswer (sym faulty.3) tt

-- ---- the commands that count and show

counted_own : (c : Conditions) (name : List ℕ) (answer : Answer) (said : Result (List Base) Why) → AreOwn said → CountedFrom c name said answer → IsOwnAnswer answer
counted_own c name answer (Err why) own is = subst IsOwnAnswer (sym is) own
counted_own c name answer (Ok bases) own is = go (base_named name bases) is
  where
    go : (base : Option Base) → CountedIn c name base answer → IsOwnAnswer answer
    go None h = subst IsOwnAnswer (sym h) tt
    go (Some base) h = subst IsOwnAnswer (sym h.2) tt

dumped_own : (name : List ℕ) (said : Result (List Base) Why) → AreOwn said → IsOwnAnswer (dumped_from name said)
dumped_own name (Err why) own = own
dumped_own name (Ok bases) own = go (base_named name bases)
  where
    go : (base : Option Base) → IsOwnAnswer (dumped_in name base)
    go None = tt
    go (Some base) = tt

-- ---- an analysis

pub analysis_own : (fault : AnalysisFault) → IsRefusal fault → IsOwn (why_of (analysis_refusal fault))
analysis_own (analysis.Marc place fault) is = marc_own place.file place.nth fault (fault_of_text fault is)
analysis_own (analysis.Ident place ident.NoIdentifier) is = tt
analysis_own (analysis.Ident place ident.BadIdentifier) is = tt
analysis_own (analysis.Ident place ident.Memory) is = absurd (is refl)
analysis_own analysis.TooManyRecords is = tt
analysis_own analysis.Memory is = absurd is

pub analysed_own : (c : Conditions) (texts : List (List ℕ)) (answer : Answer) → IsAnalysed c.profile c.limits.records texts answer → IsOwnAnswer answer
analysed_own c texts answer is = subst IsOwnAnswer (sym is.2) (go is.0 is.1)
  where
    go : (said : Result (List Analysed) AnalysisFault) → AnalysesTo c.profile c.limits.records texts said → IsOwnAnswer (analysis_answer c.profile said)
    go (Ok analyses) h = tt
    go (Err fault) h = analysis_own fault (refusal_of_texts c.profile c.limits.records texts fault h)

-- ---- any command

pub answers_own : (c : Conditions) (command : Command) (before : Holdings) (answer : Answer) → MayAnswer c command before answer → IsOwnAnswer answer
unfolding initialised
answers_own c Init before answer is = subst IsOwnAnswer (sym is) tt
answers_own c (Create name) before answer is = subst IsOwnAnswer (sym is) (turned_own c (created (name_bytes name)) before (created_own (name_bytes name)))
answers_own c (Drop name) before answer is = subst IsOwnAnswer (sym is) (turned_own c (dropped (name_bytes name)) before (dropped_own (name_bytes name)))
answers_own c (Change kind name files) before answer is =
    let texts = map (λ file. file.items) files.items in
    subst IsOwnAnswer (sym is) (turned_own c (changed_by_files c kind (name_bytes name) (splits_of texts)) before (change_own c kind (name_bytes name) texts))
answers_own c (Find name query first count) before answer is =
    asked_own (FindAnswers c.profile (string_bytes query) first count)
    (λ base given h. planned_own (occurs c.profile base.records) (has_name base.records) first count given (plan_of c.profile h.0) h.2) (name_bytes name) (string_bytes query) answer
    (ready c before) (ready_own c before) is
answers_own c Check before answer is = subst IsOwnAnswer (sym is) (checked_own (ready c before) (ready_own c before))
answers_own c Reindex before answer is = subst IsOwnAnswer (sym is) (reindexed_own c before)
answers_own c Upgrade before answer is = subst IsOwnAnswer (sym is) (upgraded_own c before)
answers_own c (Stat name) before answer is = counted_own c (name_bytes name) answer (ready c before) (ready_own c before) is
answers_own c (Dump name) before answer is = subst IsOwnAnswer (sym is) (dumped_own (name_bytes name) (ready c before) (ready_own c before))
answers_own c (Scan name query number position) before answer is =
    asked_own (ScanAnswers c.profile (string_bytes query) number position)
    (λ base given h. scanned_own (occurs c.profile base.records) number position given (scan_of c.profile h.0) h.2) (name_bytes name) (string_bytes query) answer
    (ready c before) (ready_own c before) is
answers_own c (Analyse files) before answer is = analysed_own c (map (λ file. file.items) files.items) answer is
