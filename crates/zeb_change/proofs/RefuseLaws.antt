-- Why a change is refused, and what it finds of its first record, of any tables of a store.
use Rattle.zeb_change.proofs.Cited.{◌≡◌, ◌⊎◌, ◌∙◌, ◌+◌, ◌<◌, ◌++◌, ℕ, ℤ, List, [], ◌∷◌, length, Option, Some, None, Result, Ok, Err, inl, inr, refl, sym, ap, subst, arith, AllByRecursion, flat_map, State, MarcFault, Split, Format, IsStore, Refusal, Setting, AreWholeBefore, FindsWhole, FirstFindsWhole, first_in, first_record, marc_refusal, IsDamageOrFailure, IsRecordRefused, AreNamed, HasReasonAt, IsRefusedAt, At, FoldsRecord, TakesFiles, TakesRecord, TakesRest, point_in}
use Rattle.std.proofs.Common.{append_assoc}
use Rattle.zeb_change.proofs.AcceptLaws.{IsAccepted, accepts_record, accepts_rest, showing}
use Rattle.zeb_change.proofs.Elders.{is_so}
use Rattle.zeb_change.proofs.Reasons.{many_refuses, named_behind, reason_behind, reason_more, whole_behind}
use Rattle.zeb_change.proofs.RecordLaws as law

one_error : (one two : Refusal) (result : Result (Unit {0}) Refusal) → result ≡ Err one → result ≡ Err two → one ≡ two
one_error one two result first second = let both = sym first ∙ second in cc

module _ (s : State) (setting : Setting) (format : Format) (row_work : ℕ) (db : ℤ) where
  -- ---- one record

  record_folds : (file nth : ℕ) (bytes : List ℕ) (old new : At) (refusal : Refusal) → FoldsRecord setting db file nth bytes old new (Err refusal)
      → IsRecordRefused setting.profile.now setting.kind setting.limits old.fold.progress.last old.fold.tally.records old.tables.trees db file nth bytes refusal
  record_folds file nth bytes old new refusal (inl over) =
      subst (IsRecordRefused setting.profile.now setting.kind setting.limits old.fold.progress.last old.fold.tally.records old.tables.trees db file nth bytes) (sym over.0)
      (many_refuses setting.profile.now setting.kind setting.limits old.fold.progress.last old.fold.tally.records old.tables.trees db file nth bytes over.1)
  record_folds file nth bytes old new refusal (inr changes) =
      law.reasons setting db file nth bytes (point_in old) (point_in new) old.fold.tally.records changes.0 (Err refusal) changes.1

  record_refused : (file nth : ℕ) (bytes : List ℕ) (old new : At) (refusal : Refusal) → TakesRecord setting format row_work db file nth bytes old new (Err refusal)
      → IsRecordRefused setting.profile.now setting.kind setting.limits old.fold.progress.last old.fold.tally.records old.tables.trees db file nth bytes refusal
  record_refused file nth bytes old new refusal (inl failing) = inr (inr failing)
  record_refused file nth bytes old new refusal (inr (inl folds)) = record_folds file nth bytes old new refusal folds
  record_refused file nth bytes old new refusal (inr (inr damaged)) = inr (inl damaged.0)

  -- ---- a file

  -- what is left of a file is refused at some place for a reason there
  pub record IsRefusedFrom (file n : ℕ) (slices : List (List ℕ)) (fault : Option MarcFault) (old : At) (refusal : Refusal) : Type 0 where
    pub nth : ℕ
    pub read : List (List ℕ)
    pub behind : List (List ℕ)
    pub slices_are : slices ≡ read ++ behind
    pub nth_is : nth ≡ n + length read
    pub named : AreNamed setting.profile.now read
    pub whole : AreWholeBefore setting.profile.now old.fold.progress.last old.tables.trees db read
    pub reason : HasReasonAt setting.profile.now setting.kind setting.limits old.fold.progress.last old.fold.tally.records old.tables.trees db file nth read behind fault refusal

  -- it is so at the first place
  refused_here : (file n : ℕ) (slices : List (List ℕ)) (fault : Option MarcFault) (old : At) (refusal : Refusal)
      → HasReasonAt setting.profile.now setting.kind setting.limits old.fold.progress.last old.fold.tally.records old.tables.trees db file n [] slices fault refusal → IsRefusedFrom file n slices fault old refusal
  refused_here file n slices fault old refusal reason = record {
    nth = n;
    read = [];
    behind = slices;
    slices_are = refl;
    nth_is = omega arith;
    named = λ slice there. absurd there;
    whole = λ slice there. absurd there;
    reason = reason;
  }

  refused_record : (file n : ℕ) (bytes : List ℕ) (slices : List (List ℕ)) (fault : Option MarcFault) (old : At) (refusal : Refusal)
      → IsRecordRefused setting.profile.now setting.kind setting.limits old.fold.progress.last old.fold.tally.records old.tables.trees db file n bytes refusal
      → IsRefusedFrom file n (bytes ∷ slices) fault old refusal ⊎ IsDamageOrFailure refusal
  refused_record file n bytes slices fault old refusal (inl reason) =
      inl (refused_here file n (bytes ∷ slices) fault old refusal
      (reason_more setting.profile.now old.fold.progress.last old.tables.trees db [] bytes slices setting.kind setting.limits old.fold.tally.records file n fault refusal reason))
  refused_record file n bytes slices fault old refusal (inr failing) = inr failing

  refused_behind : (file n : ℕ) (bytes : List ℕ) (slices : List (List ℕ)) (fault : Option MarcFault) (old mid : At) (refusal : Refusal) → IsAccepted s setting format row_work db (bytes ∷ []) old mid
      → IsRefusedFrom file (n + 1) slices fault mid refusal ⊎ IsDamageOrFailure refusal → IsRefusedFrom file n (bytes ∷ slices) fault old refusal ⊎ IsDamageOrFailure refusal
  refused_behind file n bytes slices fault old mid refusal one (inr failing) = inr failing
  refused_behind file n bytes slices fault old mid refusal one (inl from) =
      let last = old.fold.progress.last in
      let taken = old.fold.tally.records in
      inl (record {
        nth = from.nth;
        read = bytes ∷ from.read;
        behind = from.behind;
        slices_are = ap (λ (l : List (List ℕ)). bytes ∷ l) from.slices_are;
        nth_is = omega (arith, from.nth_is);
        named = named_behind setting.profile.now db last taken (showing s setting format row_work db old.tables) mid.fold.progress.last mid.fold.tally.records (showing s setting format row_work db mid.tables) (bytes ∷ []) one.passes one.takes from.read from.named;
        whole = whole_behind setting.profile.now db last taken (showing s setting format row_work db old.tables) mid.fold.progress.last mid.fold.tally.records (showing s setting format row_work db mid.tables) (bytes ∷ []) one.passes one.takes from.read from.whole;
        reason = reason_behind setting.profile.now db last taken (showing s setting format row_work db old.tables) mid.fold.progress.last mid.fold.tally.records (showing s setting format row_work db mid.tables) (bytes ∷ []) one.passes one.takes
            setting.kind setting.limits file from.nth from.read from.behind fault refusal from.reason;
      })

  pub refuses_rest : (file : ℕ) (slices : List (List ℕ)) (fault : Option MarcFault) (n : ℕ) (old new : At) → IsStore (showing s setting format row_work db old.tables) → (refusal : Refusal)
      → TakesRest setting format row_work db file n (record { slices = slices; fault = fault }) old new (Err refusal) → IsRefusedFrom file n slices fault old refusal ⊎ IsDamageOrFailure refusal
  refuses_rest file [] None n old new store refusal ends = let told = ends.0 in absurd (cc)
  refuses_rest file [] (Some fault) n old new store refusal ends =
      inl (refused_here file n [] (Some fault) old refusal (inr (inl refl, inl (one_error refusal (marc_refusal file n fault) (Err refusal) refl ends.0))))
  refuses_rest file (bytes ∷ slices) fault n old new store refusal (inl refused) =
      subst (λ (r : Refusal). IsRefusedFrom file n (bytes ∷ slices) fault old r ⊎ IsDamageOrFailure r) (sym (one_error refusal refused.0 (Err refusal) refl refused.1))
      (refused_record file n bytes slices fault old refused.0 (record_refused file n bytes old new refused.0 refused.2))
  refuses_rest file (bytes ∷ slices) fault n old new store refusal (inr takes) =
      let one = accepts_record s setting format row_work db file n bytes old takes.0 store takes.1 in
      refused_behind file n bytes slices fault old takes.0 refusal one (refuses_rest file slices fault (n + 1) takes.0 new one.passes.store refusal takes.2)

  -- ---- files

  -- files are refused at some place for a reason there, the first of them being this one
  pub record IsRefusedAmong (k : ℕ) (splits : List Split) (old : At) (refusal : Refusal) : Type 0 where
    pub file : ℕ
    pub nth : ℕ
    pub before : List (List ℕ)
    pub behind : List (List ℕ)
    pub fault : Option MarcFault
    pub files : List Split
    pub split : Split
    pub later : List Split
    pub read : List (List ℕ)
    pub splits_are : splits ≡ files ++ split ∷ later
    pub ended : AllByRecursion (λ (earlier : Split). earlier.fault ≡ None) files
    pub slices_are : split.slices ≡ read ++ behind
    pub fault_is : split.fault ≡ fault
    pub file_is : file ≡ length files + k
    pub nth_is : nth ≡ length read + 1
    pub before_are : before ≡ flat_map (λ (earlier : Split). earlier.slices) files ++ read
    pub named : AreNamed setting.profile.now before
    pub whole : AreWholeBefore setting.profile.now old.fold.progress.last old.tables.trees db before
    pub reason : HasReasonAt setting.profile.now setting.kind setting.limits old.fold.progress.last old.fold.tally.records old.tables.trees db file nth before behind fault refusal

  among_first : (k : ℕ) (split : Split) (splits : List Split) (old : At) (refusal : Refusal) → IsRefusedFrom k 1 split.slices split.fault old refusal ⊎ IsDamageOrFailure refusal
      → IsRefusedAmong k (split ∷ splits) old refusal ⊎ IsDamageOrFailure refusal
  among_first k split splits old refusal (inr failing) = inr failing
  among_first k split splits old refusal (inl from) = inl (record {
    file = k;
    nth = from.nth;
    before = from.read;
    behind = from.behind;
    fault = split.fault;
    files = [];
    split = split;
    later = splits;
    read = from.read;
    splits_are = refl;
    ended = tt;
    slices_are = from.slices_are;
    fault_is = refl;
    file_is = omega arith;
    nth_is = omega (arith, from.nth_is);
    before_are = refl;
    named = from.named;
    whole = from.whole;
    reason = from.reason;
  })

  among_later : (k : ℕ) (split : Split) (splits : List Split) (old mid : At) (refusal : Refusal) → IsAccepted s setting format row_work db split.slices old mid × (split.fault ≡ None)
      → IsRefusedAmong (k + 1) splits mid refusal ⊎ IsDamageOrFailure refusal → IsRefusedAmong k (split ∷ splits) old refusal ⊎ IsDamageOrFailure refusal
  among_later k split splits old mid refusal accepted (inr failing) = inr failing
  among_later k split splits old mid refusal accepted (inl from) =
      let last = old.fold.progress.last in
      let taken = old.fold.tally.records in
      let one = accepted.0 in
      inl (record {
        file = from.file;
        nth = from.nth;
        before = split.slices ++ from.before;
        behind = from.behind;
        fault = from.fault;
        files = split ∷ from.files;
        split = from.split;
        later = from.later;
        read = from.read;
        splits_are = ap (λ (l : List Split). split ∷ l) from.splits_are;
        ended = (accepted.1, from.ended);
        slices_are = from.slices_are;
        fault_is = from.fault_is;
        file_is = omega (arith, from.file_is);
        nth_is = from.nth_is;
        before_are = ap (λ (l : List (List ℕ)). split.slices ++ l) from.before_are ∙ sym (append_assoc split.slices (flat_map (λ (earlier : Split). earlier.slices) from.files) from.read);
        named = named_behind setting.profile.now db last taken (showing s setting format row_work db old.tables) mid.fold.progress.last mid.fold.tally.records (showing s setting format row_work db mid.tables) split.slices one.passes one.takes from.before from.named;
        whole = whole_behind setting.profile.now db last taken (showing s setting format row_work db old.tables) mid.fold.progress.last mid.fold.tally.records (showing s setting format row_work db mid.tables) split.slices one.passes one.takes from.before from.whole;
        reason = reason_behind setting.profile.now db last taken (showing s setting format row_work db old.tables) mid.fold.progress.last mid.fold.tally.records (showing s setting format row_work db mid.tables) split.slices one.passes one.takes
            setting.kind setting.limits from.file from.nth from.before from.behind from.fault refusal from.reason;
      })

  pub refuses_files : (splits : List Split) (k : ℕ) (old new : At) → IsStore (showing s setting format row_work db old.tables) → (refusal : Refusal) → TakesFiles setting format row_work db k splits old new (Err refusal)
      → IsRefusedAmong k splits old refusal ⊎ IsDamageOrFailure refusal
  refuses_files [] k old new store refusal ends = let told = ends.0 in absurd (cc)
  refuses_files (split ∷ splits) k old new store refusal (inl refused) =
      among_first k split splits old refusal (subst (λ (r : Refusal). IsRefusedFrom k 1 split.slices split.fault old r ⊎ IsDamageOrFailure r) (sym (one_error refusal refused.0 (Err refusal) refl refused.1))
      (refuses_rest k split.slices split.fault 1 old new store refused.0 refused.2))
  refuses_files (split ∷ splits) k old new store refusal (inr takes) =
      let one = accepts_rest s setting format row_work db k split.slices split.fault 1 old takes.0 store takes.1 in
      among_later k split splits old takes.0 refusal one (refuses_files splits (k + 1) takes.0 new one.0.passes.store refusal takes.2)

  pub refused_at : (splits : List Split) (old : At) (refusal : Refusal) → IsRefusedAmong 1 splits old refusal
      → IsRefusedAt setting.profile.now setting.kind setting.limits old.fold.progress.last old.fold.tally.records old.tables.trees db splits refusal
  refused_at splits old refusal from = record {
    file = from.file;
    nth = from.nth;
    before = from.before;
    behind = from.behind;
    fault = from.fault;
    place = record {
      files = from.files;
      split = from.split;
      later = from.later;
      read = from.read;
      splits_are = from.splits_are;
      ended = from.ended;
      slices_are = from.slices_are;
      fault_is = from.fault_is;
      file_is = from.file_is;
      nth_is = from.nth_is;
      before_are = from.before_are;
    };
    named = from.named;
    whole = from.whole;
    reason = from.reason;
  }

  -- ---- the first record

  finds_refused : (file nth : ℕ) (bytes : List ℕ) (old new : At) → IsStore (showing s setting format row_work db old.tables) → old.fold.tally.records < setting.limits.records → (refusal : Refusal)
      → TakesRecord setting format row_work db file nth bytes old new (Err refusal) → FindsWhole {T = Unit {0}} setting.profile.now old.tables.trees db bytes (Err refusal)
  finds_refused file nth bytes old new store few refusal (inl failing) ident sound named = inr (inr failing)
  finds_refused file nth bytes old new store few refusal (inr (inr damaged)) ident sound named = inr (inl damaged.0)
  finds_refused file nth bytes old new store few refusal (inr (inl (inl over))) ident sound named = absurd (let many = over.1 in omega (arith, many, few))
  finds_refused file nth bytes old new store few refusal (inr (inl (inr changes))) ident sound named =
      (law.finds setting db file nth bytes (showing s setting format row_work db old.tables) (showing s setting format row_work db new.tables) old.pending new.pending old.fold.progress.last new.fold.progress.last store
      (Err refusal) changes.1 ident sound named).0

  finds_rest : (file : ℕ) (bytes : List ℕ) (slices : List (List ℕ)) (fault : Option MarcFault) (n : ℕ) (old new : At) → IsStore (showing s setting format row_work db old.tables)
      → old.fold.tally.records < setting.limits.records → (result : Result (Unit {0}) Refusal) → TakesRest setting format row_work db file n (record { slices = bytes ∷ slices; fault = fault }) old new result
      → FindsWhole setting.profile.now old.tables.trees db bytes result
  finds_rest file bytes slices fault n old new store few result (inl refused) ident sound named =
      subst (λ (r : Result (Unit {0}) Refusal). FindsWhole setting.profile.now old.tables.trees db bytes r) (sym refused.1) (finds_refused file n bytes old new store few refused.0 refused.2) ident sound named
  finds_rest file bytes slices fault n old new store few result (inr takes) ident sound named =
      is_so _ result (law.finds setting db file n bytes (showing s setting format row_work db old.tables) (showing s setting format row_work db takes.1.0.tables) old.pending takes.1.0.pending
      old.fold.progress.last takes.1.0.fold.progress.last store (Ok takes.1.1.1.0) takes.1.1.1.1 ident sound named).0

  finds_then : {T : Type 0} (bytes : List ℕ) (old : At) (one two : Result T Refusal) → one ≡ two → FindsWhole setting.profile.now old.tables.trees db bytes one → FindsWhole setting.profile.now old.tables.trees db bytes two
  finds_then bytes old one two same = subst (FindsWhole setting.profile.now old.tables.trees db bytes) same

  -- a first file, of any result of all
  finds_first : (k : ℕ) (slices : List (List ℕ)) (fault : Option MarcFault) (splits : List Split) (old new : At) → IsStore (showing s setting format row_work db old.tables)
      → old.fold.tally.records < setting.limits.records → (result : Result (Unit {0}) Refusal) (bytes : List ℕ)
      → ((later : At) → later ≡ old → TakesFiles setting format row_work db (k + 1) splits later new result → first_record splits ≡ Some bytes → FindsWhole setting.profile.now old.tables.trees db bytes result)
      → TakesFiles setting format row_work db k (record { slices = slices; fault = fault } ∷ splits) old new result → first_in slices fault (first_record splits) ≡ Some bytes
      → FindsWhole setting.profile.now old.tables.trees db bytes result
  finds_first k [] None splits old new store few result bytes behind (inl refused) is = let told = refused.2.0 in absurd (cc)
  finds_first k [] None splits old new store few result bytes behind (inr takes) is = behind takes.0 takes.1.1 takes.2 is
  finds_first k [] (Some fault) splits old new store few result bytes behind takes is = absurd (cc)
  finds_first k (slice ∷ slices) fault splits old new store few result bytes behind (inl refused) is =
      let same : slice ≡ bytes = cc in
      subst (λ (b : List ℕ). FindsWhole setting.profile.now old.tables.trees db b result) same
      (finds_then slice old (Err refused.0) result (sym refused.1) (finds_rest k slice slices fault 1 old new store few (Err refused.0) refused.2))
  finds_first k (slice ∷ slices) fault splits old new store few result bytes behind (inr takes) is =
      let same : slice ≡ bytes = cc in
      subst (λ (b : List ℕ). FindsWhole setting.profile.now old.tables.trees db b result) same
      (λ ident sound named. is_so _ result (finds_rest k slice slices fault 1 old takes.0 store few (Ok tt) takes.1 ident sound named))

  pub finds_files : (splits : List Split) (k : ℕ) (old new : At) → IsStore (showing s setting format row_work db old.tables) → old.fold.tally.records < setting.limits.records → (result : Result (Unit {0}) Refusal)
      → TakesFiles setting format row_work db k splits old new result → FirstFindsWhole setting.profile.now old.tables.trees db splits result
  finds_files [] k old new store few result takes bytes is = absurd (cc)
  finds_files (split ∷ splits) k old new store few result takes bytes is =
      finds_first k split.slices split.fault splits old new store few result bytes
      (λ later same goes first. finds_files splits (k + 1) old new store few result (subst (λ (a : At). TakesFiles setting format row_work db (k + 1) splits a new result) same goes) bytes first) takes is
