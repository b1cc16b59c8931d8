-- What is read of a match.
use Rattle.zeb_words.proofs.Cited.{◌≡◌, ℕ, ◌<◌, ◌^◌, List, [], inl, inr, Option, Some, None, Result, Ok, Err, sym, subst, ap, ◌∙◌, Bool, true, false, codes, unwrap_or, Bor, IsNumeral, ParsesUnsigned, digits_value, without_leading_plus, ReadsOne, fault_of, Row, one_of, matches_of, subcommand_of, HasKind, kind_of, Error, DisplayHelp, DisplayVersion, OutOfMemory, Usage, BadUsage, Refused, Help, Memory, Misuse, Name, PastNumber, ShowsElsewhere, NoCommand, ◌≢◌, help_word, IsHelp, IsMisuseOf, IsMisusedAct, Misuses, IsActRead, IsFlagRead, IsNumberRead, IsPast, IsReadFrom, IsRefusedAs, Words, ◌⊎◌, program_app, IsUsageOf, option_map, Act, Create, Drop, Update, TakesNoName, bytes_eq, rules}
use Rattle.std.proofs.Common.{◌≤◌, ◌∷◌, arith, length, map, refl, slice_index_or, string_bytes}
use Rattle.std.specs.Prelude.{String}
use Rattle.zeb_image.specs.Names.{IsDatabaseName}
use Rattle.zeb_words.specs.Misuses.{IsNoCommand}
use Rattle.std.specs.declared.alloc.Global.{Global}

pub text_read : (r : Option (Bor (List ℕ))) (other : Bor (List ℕ)) (t : Option (List ℕ)) → option_map (λ s. s.now) r ≡ t
    → (unwrap_or r other).now ≡ unwrap_or t other.now
text_read None other t e = ap (λ o. unwrap_or o other.now) e
text_read (Some s) other t e = ap (λ o. unwrap_or o other.now) e

pub number_read : {E : Type 0} (G : List ℕ → Result ℕ E → Type 0) (read : Option (List ℕ)) (r : Option ℕ) (other : ℕ)
    → (read ≡ None → r ≡ None) → ((t : List ℕ) → read ≡ Some t → ReadsOne G t r)
    → ((t : List ℕ) (x : Result ℕ E) → G t x → ParsesUnsigned 32 10 t x) → IsNumberRead read other (unwrap_or r other)
number_read G read r other none value only = record {
  absent = λ e. ap (λ o. unwrap_or o other) (none e);
  value = λ t e numeral fits. go r t (value t e) numeral fits;
}
  where
    go : (o : Option ℕ) (t : List ℕ) → ReadsOne G t o → IsNumeral 10 (without_leading_plus t)
        → digits_value 10 (without_leading_plus t) < 2 ^ 32 → unwrap_or o other ≡ digits_value 10 (without_leading_plus t)
    go (Some n) t h numeral fits = (only t (Ok n) h).1
    go None t h numeral fits = absurd (only t (Err h.0) h.1 (numeral, fits))

pub pair_read : {X Y Z : Type 0} (f : X → Y) (g : X → Z) (o : Option X) (y : Y) (z : Z) → Some y ≡ option_map f o
    → Some z ≡ option_map (λ (p : Y × Z). p.1) (option_map {U = Y × Z} (λ x. (f x, g x)) o) → option_map {U = Y × Z} (λ x. (f x, g x)) o ≡ Some (y, z)
pair_read f g None y z e h = cc
pair_read f g (Some x) y z e h =
    let first : f x ≡ y = cc in
    let second : g x ≡ z = cc in
    (λ i. Some (first i, second i))

-- a flag that is told by what is given for it is read so
pub flag_read : (given read : Option (List ℕ)) (flag : Bool) → given ≡ read → (given ≡ None → flag ≡ false) → (given ≡ Some (codes "true") → flag ≡ true)
    → (given ≡ Some (codes "false") → flag ≡ false) → IsFlagRead read flag
flag_read given read flag same unset set clear = record { absent = λ e. unset (same ∙ e); yes = λ e. set (same ∙ e); no = λ e. clear (same ∙ e) }

-- what words that are taken, and asked for something bad, are refused with
abbrev pub OwnRefusal : List Row → Option (List ℕ × List Row) → Usage → Type 0
OwnRefusal rows sub usage = Misuses (λ misuse. IsMisuseOf misuse rows sub) usage

pub pair_parts : {A B : Type 0} (a b : A) (x y : B) → ◌≡◌ {A = Option (A × B)} (Some (a, x)) (Some (b, y)) → (a ≡ b) × (x ≡ y)
pair_parts {A = A} {B = B} a b x y e =
    let same : ◌≡◌ {A = A × B} (a, x) (b, y) = cc in
    (ap (λ (p : A × B). p.0) same, ap (λ (p : A × B). p.1) same)

-- a flag is set or not
abbrev pub IsFlagText : Option (List ℕ) → Type 0
IsFlagText read = (read ≡ Some (codes "true")) ⊎ (read ≡ Some (codes "false"))

pub same_flag : (read : Option (List ℕ)) (a b : Bool) → IsFlagText read → IsFlagRead read a → IsFlagRead read b → a ≡ b
same_flag read a b (inl e) one two = one.yes e ∙ sym (two.yes e)
same_flag read a b (inr e) one two = one.no e ∙ sym (two.no e)

-- no act is read of a command whose name no database may have, nor of another one than `update` with `-s`, nor of no command
not_named : (name : List ℕ) (shows : Bool) (rows : List Row) (act : Act) → TakesNoName name rows → IsActRead name shows rows act → ⊥
not_named name shows rows (Create database) bad is = bad.1 (subst IsDatabaseName is.2 database.named)
not_named name shows rows (Drop database) bad is = bad.1 (subst IsDatabaseName is.2 database.named)
not_named name shows rows _ (inl create, _) is = (let clash : false ≡ true = ap (λ (w : List ℕ). bytes_eq w (codes "create")) (sym is.0 ∙ create) in cc)
not_named name shows rows _ (inr drop, _) is = (let clash : false ≡ true = ap (λ (w : List ℕ). bytes_eq w (codes "drop")) (sym is.0 ∙ drop) in cc)

not_elsewhere : (name : List ℕ) (shows : Bool) (rows : List Row) (act : Act) → shows ≡ true → name ≢ codes "update" → IsActRead name shows rows act → ⊥
not_elsewhere name shows rows (Update paths flag) shown other is = other is.0
not_elsewhere name shows rows _ shown other is = cc

not_none : (name : List ℕ) (shows : Bool) (rows : List Row) (act : Act) → IsNoCommand name → IsActRead name shows rows act → ⊥
not_none name shows rows _ lacks is = search rules

-- no command is read of matches with such a cause, where -s is set or not and no position of a scan is past its number of terms
pub none_read : (rows : List Row) (sub : Option (List ℕ × List Row)) (misuse : Misuse) (named : Words) → IsFlagText (one_of (codes "shows") rows) → IsReadFrom rows sub named
    → ((given : List Row) → ◌≡◌ {A = Option (List ℕ × List Row)} sub (Some (codes "scan", given)) → IsPast given → ⊥) → IsMisuseOf misuse rows sub → ⊥
none_read rows sub PastNumber named flag r never (given, is, past) = never given is past
none_read rows sub Name named flag r never (inl bad) = bad (subst IsDatabaseName r.database named.database.named)
none_read rows sub Name named flag r never (inr (word, given, is, bad)) =
    let same = pair_parts r.name word r.given given (sym r.is ∙ is) in
    not_named r.name r.shows r.given named.act (subst (λ w. TakesNoName w r.given) (sym same.0) (subst (TakesNoName word) (sym same.1) bad)) r.act
none_read rows sub ShowsElsewhere named flag r never (set, (word, given, is, other)) =
    let same = pair_parts r.name word r.given given (sym r.is ∙ is) in
    not_elsewhere r.name r.shows r.given named.act (same_flag (one_of (codes "shows") rows) r.shows true flag r.flagged set) (λ e. other (sym same.0 ∙ e)) r.act
none_read rows sub NoCommand named flag r never (inl none) = let is : ◌≡◌ {A = Option (List ℕ × List Row)} None (Some (r.name, r.given)) = sym none ∙ r.is in cc
none_read rows sub NoCommand named flag r never (inr (word, given, is, lacks)) =
    let same = pair_parts r.name word r.given given (sym r.is ∙ is) in
    not_none r.name r.shows r.given named.act (subst IsNoCommand (sym same.0) lacks) r.act

pub own_refused : (words : List (List ℕ)) (usage : Usage) → fault_of program_app words ≡ []
    → OwnRefusal (matches_of program_app words) (subcommand_of program_app words) usage → IsRefusedAs words usage
own_refused words (BadUsage misuse) sound why = (sound, why)
own_refused words Memory sound why = tt
own_refused words _ sound why = absurd why

-- the cause that is told of a command is one of the words
pub misused_words : (rows : List Row) (sub : Option (List ℕ × List Row)) (name : List ℕ) (shows : Bool) (given : List Row) (misuse : Misuse) → ◌≡◌ {A = Option (List ℕ × List Row)} sub (Some (name, given))
    → IsFlagRead (one_of (codes "shows") rows) shows → IsMisusedAct misuse name shows given → IsMisuseOf misuse rows sub
misused_words rows sub name shows given Name is flagged bad = inr (name, given, is, bad)
misused_words rows sub name shows given PastNumber is flagged bad = (given, is ∙ ap (λ n. Some (n, given)) bad.0, bad.1)
misused_words rows sub name shows given ShowsElsewhere is flagged bad = (subst (IsFlagRead (one_of (codes "shows") rows)) bad.0 flagged, (name, given, is, bad.1))
misused_words rows sub name shows given NoCommand is flagged bad = inr (name, given, is, bad)

pub other_misuse : (P Q : Misuse → Type 0) (usage : Usage) → ((misuse : Misuse) → P misuse → Q misuse) → Misuses P usage → Misuses Q usage
other_misuse P Q (BadUsage misuse) so h = so misuse h
other_misuse P Q Memory so h = tt
other_misuse P Q _ so h = absurd h

pub parser_refused : (words : List (List ℕ)) (error : Error) (usage : Usage) → words ≢ help_word → HasKind (fault_of program_app words) error → IsUsageOf error usage
    → IsRefusedAs words usage
parser_refused words error (BadUsage misuse) other kind is = absurd is
parser_refused words error (Refused text) other (inl memory) is = absurd (is.0 memory)
parser_refused words error (Refused text) other (inr among) is = ((kind_of error, among, is.1), other)
parser_refused words error (Help text) other (inl memory) (inl is) =
    let bad : DisplayHelp ≡ OutOfMemory = sym is ∙ memory in
    cc
parser_refused words error (Help text) other (inl memory) (inr is) =
    let bad : DisplayVersion ≡ OutOfMemory = sym is ∙ memory in
    cc
parser_refused words error (Help text) other (inr among) is = inl (kind_of error, among, is)
parser_refused words error Memory other kind is = tt

-- the word for help is answered with help
pub help_refused : (words : List (List ℕ)) (usage : Usage) → words ≡ help_word → IsHelp usage → IsRefusedAs words usage
help_refused words (BadUsage misuse) is h = absurd h
help_refused words (Refused text) is h = absurd h
help_refused words (Help text) is h = inr is
help_refused words Memory is h = tt

-- a row of one word
pub only_word : (words : List (String Global)) (other : String Global) → 1 ≤ length words → length words < 2 → map string_bytes words ≡ string_bytes (slice_index_or words 0 other) ∷ []
only_word [] other some few = absurd (omega arith)
only_word (w ∷ []) other some few = refl
only_word (a ∷ b ∷ rest) other some few = absurd (omega arith)
