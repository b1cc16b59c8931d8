-- A change, a find or a scan that a line names, from what is said of the rest of the line.
use Rattle.zeb_program.proofs.Cited.{inl, inr, ◌≡◌, List, ℕ, sym, subst, ◌∙◌, refl, Result, Ok, Err, Option, Some, None, IfOk, MatchOption, codes, AllocError, Command, Change, Find, Scan, Analyse, Kind, first_word, after_first_word, true, false, bytes_eq-Decides, bytes_eq}
use Rattle.zeb_change.specs.declared.settings.Kind.TheVariants.{Update, Delete, Adelete}
use Rattle.zeb_program.specs.Batches.{Names, HasFind, HasPage, HasScan, kind_word}
use Rattle.zeb_program.specs.PrivateBatches.{IsFind, IsPage, IsScan}

-- a word that is one text is no other
unlike : (word known other : List ℕ) → word ≡ known → bytes_eq known other ≡ false → word ≡ other → ⊥
unlike word known other is differs same =
    let bad : true ≡ false = sym ((bytes_eq-Decides known other).1 (sym is ∙ same)) ∙ differs in
    cc

-- a change's word is none of these
no_find : (k : Kind) → kind_word k ≡ codes "find" → ⊥
no_find Update e = unlike _ (kind_word Update) (codes "find") refl refl e
no_find Delete e = unlike _ (kind_word Delete) (codes "find") refl refl e
no_find Adelete e = unlike _ (kind_word Adelete) (codes "find") refl refl e

no_page : (k : Kind) → kind_word k ≡ codes "page" → ⊥
no_page Update e = unlike _ (kind_word Update) (codes "page") refl refl e
no_page Delete e = unlike _ (kind_word Delete) (codes "page") refl refl e
no_page Adelete e = unlike _ (kind_word Adelete) (codes "page") refl refl e

no_scan : (k : Kind) → kind_word k ≡ codes "scan" → ⊥
no_scan Update e = unlike _ (kind_word Update) (codes "scan") refl refl e
no_scan Delete e = unlike _ (kind_word Delete) (codes "scan") refl refl e
no_scan Adelete e = unlike _ (kind_word Adelete) (codes "scan") refl refl e

-- what is said of the rest of a line, said of the line
named_by : (Has : List ℕ → Type 0) (Is : List ℕ → Command → Type 0) (t rest : List ℕ) (r : Result (Option Command) AllocError) → rest ≡ after_first_word t
    → (¬ Has (after_first_word t) → (c : Command) → ¬ Names t c) → ((c : Command) → Is (after_first_word t) c → Names t c)
    → IfOk r (λ found. MatchOption found (¬ Has rest) (Is rest)) → IfOk r (λ found. MatchOption found ((c : Command) → ¬ Names t c) (Names t))
named_by Has Is t rest (Err e) same none some h = h
named_by Has Is t rest (Ok None) same none some h = none (subst (λ x. ¬ Has x) same h)
named_by Has Is t rest (Ok (Some c)) same none some h = some c (subst (λ x. Is x c) same h)

-- ---- a find

-- where no find is named, no command is, since the first word is a find's
unnamed_find : (t : List ℕ) → first_word t ≡ codes "find" → ¬ HasFind (after_first_word t) → (c : Command) → ¬ Names t c
unnamed_find t word lacks (Change kind database files) names = no_find kind (sym names.0 ∙ word)
unnamed_find t word lacks (Find database query first count) (inr names) = unlike _ _ (codes "find") names.0 refl word
unnamed_find t word lacks (Find database query first count) (inl names) = lacks record { name = names.1.name.0; some = λ none. names.1.some (names.1.rest ∙ none) }
unnamed_find t word lacks (Analyse files) names = names
unnamed_find t word lacks _ names = unlike _ _ (codes "find") names.0 refl word

named_find : (t : List ℕ) → first_word t ≡ codes "find" → (c : Command) → IsFind (after_first_word t) c → Names t c
named_find t word (Find database query first count) h = inl (word, h.0, h.1, h.2)
named_find t word _ h = absurd h

pub names_find : (t rest : List ℕ) (r : Result (Option Command) AllocError) → first_word t ≡ codes "find" → rest ≡ after_first_word t
    → IfOk r (λ found. MatchOption found (¬ HasFind rest) (IsFind rest))
    → IfOk r (λ found. MatchOption found ((c : Command) → ¬ Names t c) (Names t))
names_find t rest r word same h = named_by HasFind IsFind t rest r same (unnamed_find t word) (named_find t word) h

-- ---- a page

-- where no page is named, no command is, since the first word is a page's
unnamed_page : (t : List ℕ) → first_word t ≡ codes "page" → ¬ HasPage (after_first_word t) → (c : Command) → ¬ Names t c
unnamed_page t word lacks (Change kind database files) names = no_page kind (sym names.0 ∙ word)
unnamed_page t word lacks (Find database query first count) (inl names) = unlike _ _ (codes "page") names.0 refl word
unnamed_page t word lacks (Find database query first count) (inr names) = lacks record { name = names.1.name.0; first = first; count = count; from = names.1.from; many = names.1.many; within = names.1.within; some = λ none. names.1.some (names.1.rest ∙ none) }
unnamed_page t word lacks (Analyse files) names = names
unnamed_page t word lacks _ names = unlike _ _ (codes "page") names.0 refl word

named_page : (t : List ℕ) → first_word t ≡ codes "page" → (c : Command) → IsPage (after_first_word t) c → Names t c
named_page t word (Find database query first count) h = inr (word, h)
named_page t word _ h = absurd h

pub names_page : (t rest : List ℕ) (r : Result (Option Command) AllocError) → first_word t ≡ codes "page" → rest ≡ after_first_word t
    → IfOk r (λ found. MatchOption found (¬ HasPage rest) (IsPage rest))
    → IfOk r (λ found. MatchOption found ((c : Command) → ¬ Names t c) (Names t))
names_page t rest r word same h = named_by HasPage IsPage t rest r same (unnamed_page t word) (named_page t word) h

-- ---- a scan

-- where no scan is named, no command is, since the first word is a scan's
unnamed_scan : (t : List ℕ) → first_word t ≡ codes "scan" → ¬ HasScan (after_first_word t) → (c : Command) → ¬ Names t c
unnamed_scan t word lacks (Change kind database files) names = no_scan kind (sym names.0 ∙ word)
unnamed_scan t word lacks (Find database query first count) (inl names) = unlike _ _ (codes "scan") names.0 refl word
unnamed_scan t word lacks (Find database query first count) (inr names) = unlike _ _ (codes "scan") names.0 refl word
unnamed_scan t word lacks (Scan database query number position) names =
    lacks record { name = names.1.name.0; number = number; position = position; many = names.1.many; place = names.1.place; within = names.1.within; some = λ none. names.1.some (names.1.rest ∙ none) }
unnamed_scan t word lacks (Analyse files) names = names
unnamed_scan t word lacks _ names = unlike _ _ (codes "scan") names.0 refl word

named_scan : (t : List ℕ) → first_word t ≡ codes "scan" → (c : Command) → IsScan (after_first_word t) c → Names t c
named_scan t word (Scan database query number position) h = (word, h)
named_scan t word _ h = absurd h

pub names_scan : (t rest : List ℕ) (r : Result (Option Command) AllocError) → first_word t ≡ codes "scan" → rest ≡ after_first_word t
    → IfOk r (λ found. MatchOption found (¬ HasScan rest) (IsScan rest))
    → IfOk r (λ found. MatchOption found ((c : Command) → ¬ Names t c) (Names t))
names_scan t rest r word same h = named_by HasScan IsScan t rest r same (unnamed_scan t word) (named_scan t word) h
