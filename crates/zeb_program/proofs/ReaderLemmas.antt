-- How far the files at some paths have come, of which readers or contents are made.
use Rattle.zeb_program.proofs.Cited.{◌≡◌, ◌≢◌, ◌<◌, ◌≤◌, ◌∙◌, ◌-◌, ◌+◌, inl, inr, Bool, true, false, ℕ, zero, suc, List, [], ◌∷◌, ◌++◌, Vec, ap, append_assoc, arith, length, map, refl, subst, sym, AllocError, Global, Refusal, ReadFault, Due, GivesFile, IsFaultUntold, Tells, WalksOn, due, NamesMet, NamesUntold, AreShort, IsShort, AreFilesOf, IsUntoldNth, IsUnfound, IsUnread, IsUnreadAt, fault_of, IsGiven, ReadsBelow, ReadsContent, sure_bytes, AreTold, FindsNthFile, WalksFrom, WalksOver, Fault}
use Rattle.std.specs.Prelude.{◌⊎◌, ◌||◌, IfErr, IfOk, IfSome, slice_index_or, Option, Some, None, Result, Ok, Err, String, if◌then◌else◌, string_bytes}
use Rattle.std.proofs.lemmas.List.{append-nil, map-append}
use Rattle.zeb_change.specs.Reading.{BlamesFailed, NoneFailed, StayAble}
use Rattle.zeb_paths.specs.declared.walk.WalkFault.{WalkFault}
use Rattle.zeb_paths.specs.declared.walk.WalkFault.TheVariants as walk
use Rattle.zeb_program.specs.declared.faults.Fault.TheVariants as reason

-- what has been made has the bytes of the first of these files, and the paths that are left lead to the others
abbrev pub IsMet : {R : Type 0} → (R → Option (List ℕ)) → (List ℕ → Option (List ℕ)) → List (List ℕ) → List R → List (List ℕ) → Type 0
IsMet bytes tells files made left = map bytes made ++ map tells left ≡ map Some files

-- what is said of the next file, where these paths are left
abbrev pub GivesNext : (List ℕ → Option (List ℕ)) → List (List ℕ) → List (List ℕ) → Result (Option (String Global)) WalkFault → Type 0
GivesNext tells left later result = (path bytes : List ℕ) (rest : List (List ℕ)) → left ≡ path ∷ rest → tells path ≡ Some bytes → GivesFile path result × (later ≡ rest)

abbrev pub Ends : List (List ℕ) → Result (Option (String Global)) WalkFault → Type 0
Ends left result = left ≡ [] → result ≡ Ok None

-- at the beginning nothing is made, and all paths are left
pub met_start : {R : Type 0} (bytes : R → Option (List ℕ)) (tells : List ℕ → Option (List ℕ)) (files : List (List ℕ)) (made : List R) (left named : List (List ℕ))
    → made ≡ [] → left ≡ named → map tells named ≡ map Some files → IsMet bytes tells files made left
met_start bytes tells files made left named none all told = ap (λ so_far. map bytes so_far ++ map tells left) none ∙ ap (map tells) all ∙ told

-- what stands among files that are told is one
told_next : (front : List (Option (List ℕ))) (next : Option (List ℕ)) (behind : List (Option (List ℕ))) (files : List (List ℕ)) → front ++ next ∷ behind ≡ map Some files
    → (file : List ℕ) × (next ≡ Some file)
told_next [] next behind [] e = absurd cc
told_next [] next behind (file ∷ files) e = (file, cc)
told_next (one ∷ front) next behind [] e = absurd cc
told_next (one ∷ front) next behind (file ∷ files) e = let rest : front ++ next ∷ behind ≡ map Some files = cc in told_next front next behind files rest

-- no fault comes
pub met_fault : {R : Type 0} (bytes : R → Option (List ℕ)) (tells : List ℕ → Option (List ℕ)) (files : List (List ℕ)) (made : List R) (left later : List (List ℕ)) (fault : WalkFault)
    → IsMet bytes tells files made left → GivesNext tells left later (Err fault) → Ends left (Err fault) → ⊥
met_fault bytes tells files made [] later fault met next ended = let same : Err fault ≡ Ok None = ended refl in absurd cc
met_fault bytes tells files made (path ∷ rest) later fault met next ended =
    let told = told_next (map bytes made) (tells path) (map tells rest) files met in
    absurd (next path told.0 rest refl told.1).0

-- at the end all are made
pub met_end : {R : Type 0} (bytes : R → Option (List ℕ)) (tells : List ℕ → Option (List ℕ)) (files : List (List ℕ)) (made : List R) (left later : List (List ℕ))
    → IsMet bytes tells files made left → GivesNext tells left later (Ok None) → map bytes made ≡ map Some files
met_end bytes tells files made [] later met next = sym (append-nil (map bytes made)) ∙ met
met_end bytes tells files made (path ∷ rest) later met next =
    let told = told_next (map bytes made) (tells path) (map tells rest) files met in
    absurd (next path told.0 rest refl told.1).0

-- a file is given, and what is made of it is put behind the others
pub met_next : {R : Type 0} (bytes : R → Option (List ℕ)) (tells : List ℕ → Option (List ℕ)) (files : List (List ℕ)) (made more : List R) (left later : List (List ℕ)) (given : String Global) (one : R)
    → IsMet bytes tells files made left → GivesNext tells left later (Ok (Some given)) → Ends left (Ok (Some given))
    → ((file : List ℕ) → tells (string_bytes given) ≡ Some file → bytes one ≡ Some file) → more ≡ made ++ one ∷ [] → IsMet bytes tells files more later
met_next bytes tells files made more [] later given one met next ended reads grew = let same : Ok (Some given) ≡ Ok None = ended refl in absurd cc
met_next bytes tells files made more (path ∷ rest) later given one met next ended reads grew =
    let told = told_next (map bytes made) (tells path) (map tells rest) files met in
    let gives = next path told.0 rest refl told.1 in
    let has : bytes one ≡ tells path = reads told.0 (ap tells gives.0 ∙ told.1) ∙ sym told.1 in
    let all : map bytes more ≡ map bytes made ++ bytes one ∷ [] = ap (map bytes) grew ∙ map-append bytes made (one ∷ []) in
    ap (λ front. front ++ map tells later) all ∙ append_assoc (map bytes made) (bytes one ∷ []) (map tells later)
    ∙ ap (λ next. map bytes made ++ next ∷ map tells later) has ∙ ap (λ rest. map bytes made ++ tells path ∷ map tells rest) gives.1 ∙ met

-- ---- a walk over files, of folders too

named_dues : (named : List (String Global)) → map (λ path. due path 1) (map string_bytes named) ≡ map (λ path. due (string_bytes path) 1) named
named_dues [] = refl
named_dues (path ∷ named) = ap (λ rest. due (string_bytes path) 1 ∷ rest) (named_dues named)

-- it begins
pub walk_start : (at : Tells) (named : List (String Global)) (left : List Due) → left ≡ map (λ path. due (string_bytes path) 1) named → WalksFrom at (map string_bytes named) [] left
walk_start at named left is = is ∙ sym (named_dues named)

walk_on : (at : Tells) (first : List Due) (files : List (List ℕ)) (left later : List Due) (given : String Global) → WalksOver at first files left → WalksOn at left (Ok (Some given)) later
    → WalksOver at first (files ++ string_bytes given ∷ []) later
walk_on at first [] left later given over on = (given, later, subst (λ dues. WalksOn at dues (Ok (Some given)) later) over on, refl, refl)
walk_on at first (file ∷ files) left later given over on = (over.0, over.1, over.2, over.3, walk_on at over.1 files left later given over.4 on)

-- it goes on to one file more
pub walk_more : (at : Tells) (named files : List (List ℕ)) (left later : List Due) (given : String Global) → WalksFrom at named files left → WalksOn at left (Ok (Some given)) later
    → WalksFrom at named (files ++ string_bytes given ∷ []) later
walk_more at named files left later given from on = walk_on at (map (λ path. due path 1) named) files left later given from on

-- the readers of the first files are there, and these paths are left
abbrev pub ReadsSoFar : {R : Type 0} → (R → Option (List ℕ)) → Tells → List (List ℕ) → List R → List Due → Type 0
ReadsSoFar sure at named readers left = (files : List (List ℕ)) × WalksFrom at named files left × (map sure readers ≡ map at.bytes files)

pub reads_start : {R : Type 0} (remaining : R → Option (List ℕ)) (at : Tells) (named : List (String Global)) (readers : List R) (left : List Due) → readers ≡ []
    → left ≡ map (λ path. due (string_bytes path) 1) named → ReadsSoFar remaining at (map string_bytes named) readers left
reads_start remaining at named readers left none is = ([], walk_start at named left is, ap (map remaining) none)

pub reads_more : {R : Type 0} (remaining : R → Option (List ℕ)) (at : Tells) (named : List (List ℕ)) (readers more : List R) (left later : List Due) (given : String Global) (one : R) → ReadsSoFar remaining at named readers left
    → WalksOn at left (Ok (Some given)) later → remaining one ≡ at.bytes (string_bytes given) → more ≡ readers ++ one ∷ [] → ReadsSoFar remaining at named more later
reads_more remaining at named readers more left later given one (files, from, bytes) on has grew = (
  files ++ string_bytes given ∷ [],
  walk_more at named files left later given from on,
  ap (map remaining) grew ∙ map-append remaining readers (one ∷ []) ∙ ap (λ front. front ++ remaining one ∷ []) bytes
      ∙ ap (λ last. map at.bytes files ++ last ∷ []) has ∙ sym (map-append at.bytes files (string_bytes given ∷ [])),
)

pub reads_all : {R : Type 0} (remaining : R → Option (List ℕ)) (at : Tells) (named : List (List ℕ)) (readers : List R) (left later : List Due) → ReadsSoFar remaining at named readers left → WalksOn at left (Ok None) later
    → ReadsBelow remaining at named readers
reads_all remaining at named readers left later (files, from, same) on = record { files = files; found = (left, later, from, on); bytes = same }

-- the bytes that the readers of a change's files are sure to give
pub sure_given : {R : Type 0} (sure : R → Option (List ℕ)) (at : Tells) (paths walked : List (List ℕ)) (readers : List R) (files : List (List ℕ)) → ((files : List (List ℕ)) → AreTold at.bytes paths files → map sure readers ≡ map Some files)
    → map sure readers ≡ map at.bytes walked → AreFilesOf at paths walked files → map sure readers ≡ map Some files
sure_given sure at paths walked readers files told same (inl known) = told files known
sure_given sure at paths walked readers files told same (inr known) = same ∙ known

pub count_before : (n nth number : ℕ) → n + 1 ≡ nth → number ≤ nth → (nth ≤ 1) ⊎ (nth ≤ number) → n ≡ number - 1
count_before n nth number is far (inl first) = omega (arith, is, far, first)
count_before n nth number is far (inr within) = omega (arith, is, far, within)

-- the file that a walk gives behind so many, or that it gives none
pub found_nth : (at : Tells) (named files : List (List ℕ)) (number : ℕ) (found : Result (Option (String Global)) WalkFault) (r : Result (Option (String Global)) AllocError) (left later : List Due) → IfOk r (IsGiven found)
    → length files ≡ number - 1 → WalksFrom at named files left → WalksOn at left found later → IfOk r (FindsNthFile at named number)
found_nth at named files number found (Err e) left later is count from on = tt
found_nth at named files number found (Ok None) left later is count from on = (files, left, later, found, omega (arith, count), from, on, is)
found_nth at named files number found (Ok (Some path)) left later is count from on = (files, left, later, count, from, subst (λ f. WalksOn at left f later) is on)

-- ---- readers that can't fail

module _ {R : Type 0} (remaining : R → Option (List ℕ)) (may_fail has_failed : R → Bool) where
  pub sure_of : (reader : R) (file : List ℕ) → remaining reader ≡ Some file → may_fail reader ≡ false → has_failed reader ≡ false
      → sure_bytes remaining may_fail has_failed reader ≡ Some file
  sure_of reader file is able sound = rw (able, sound) is

  none_sure : (may failed : Bool) (told : Option (List ℕ)) → told ≡ None → (if may || failed then None else told) ≡ None
  none_sure true failed told is = refl
  none_sure false true told is = refl
  none_sure false false told is = is

  -- a reader is sure to give just the bytes that are told of its file
  pub sure_or_none : (reader : R) (told : Option (List ℕ)) → remaining reader ≡ told → ((file : List ℕ) → told ≡ Some file → may_fail reader ≡ false) → has_failed reader ≡ false
      → sure_bytes remaining may_fail has_failed reader ≡ told
  sure_or_none reader None is able sound = none_sure (may_fail reader) (has_failed reader) (remaining reader) is
  sure_or_none reader (Some file) is able sound = sure_of reader file is (able file refl) sound

  one_sure : (may failed : Bool) (told : Option (List ℕ)) (file : List ℕ) → (if may || failed then None else told) ≡ Some file → (may ≡ false) × (failed ≡ false) × (told ≡ Some file)
  one_sure true failed told file e = absurd cc
  one_sure false true told file e = absurd cc
  one_sure false false told file e = (refl, refl, e)

  -- they tell these files, and none has failed at the end
  pub sure_files : (before after : List R) (files : List (List ℕ)) → map (sure_bytes remaining may_fail has_failed) before ≡ map Some files → StayAble may_fail has_failed before after
      → (map remaining before ≡ map Some files) × NoneFailed has_failed after
  sure_files [] [] [] e able = (refl, tt)
  sure_files [] [] (file ∷ files) e able = absurd cc
  sure_files [] (y ∷ ys) files e able = absurd able
  sure_files (x ∷ xs) [] files e able = absurd able
  sure_files (x ∷ xs) (y ∷ ys) [] e able = absurd cc
  sure_files (x ∷ xs) (y ∷ ys) (file ∷ files) e able =
      let first : sure_bytes remaining may_fail has_failed x ≡ Some file = cc in
      let rest : map (sure_bytes remaining may_fail has_failed) xs ≡ map Some files = cc in
      let is = one_sure (may_fail x) (has_failed x) (remaining x) file first in
      let told : remaining x ≡ Some file = is.2 in
      let more = sure_files xs ys files rest able.1 in
      let behind : map remaining xs ≡ map Some files = more.0 in
      (cc, ((able.0 is.0).1 ∙ is.1, more.1))

  -- one that has failed at the end is the reader of a file whose bytes aren't told
  nth_untold : (told : List ℕ → Option (List ℕ)) (before after : List R) (walked : List (List ℕ)) (index : ℕ) (reader : R) → map (sure_bytes remaining may_fail has_failed) before ≡ map told walked
      → StayAble may_fail has_failed before after → index < length after → reader ≡ slice_index_or after index reader → has_failed reader ≡ true → IsUntoldNth told walked (index + 1)
  nth_untold told [] [] walked index reader e able within there broken = absurd (omega (arith, within))
  nth_untold told [] (y ∷ ys) walked index reader e able within there broken = absurd able
  nth_untold told (x ∷ xs) [] walked index reader e able within there broken = absurd able
  nth_untold told (x ∷ xs) (y ∷ ys) [] index reader e able within there broken = absurd cc
  nth_untold told (x ∷ xs) (y ∷ ys) (path ∷ walked) zero reader e able within there broken = (
    [],
    walked,
    path,
    refl,
    refl,
    λ bytes known.
        let first : sure_bytes remaining may_fail has_failed x ≡ told path = cc in
        let is = one_sure (may_fail x) (has_failed x) (remaining x) bytes (first ∙ known) in
        let sound : has_failed y ≡ false = (able.0 is.0).1 ∙ is.1 in
        let same : has_failed reader ≡ has_failed y = ap has_failed there in
        let bad : true ≡ false = sym broken ∙ same ∙ sound in
        cc,
  )
  nth_untold told (x ∷ xs) (y ∷ ys) (path ∷ walked) (suc index) reader e able within there broken =
      let rest : map (sure_bytes remaining may_fail has_failed) xs ≡ map told walked = cc in
      let more = nth_untold told xs ys walked index reader rest able.1 (omega (arith, within)) there broken in
      (path ∷ more.0, more.1, more.2, ap (λ behind. path ∷ behind) more.3, omega (arith, more.4), more.5)

  pub blamed_untold : {T : Type 0} (told : List ℕ → Option (List ℕ)) (before after : List R) (walked : List (List ℕ)) (r : Result T Refusal) → map (sure_bytes remaining may_fail has_failed) before ≡ map told walked
      → StayAble may_fail has_failed before after → BlamesFailed has_failed after r → (file : ℕ) → r ≡ Err (ReadFault file) → IsUntoldNth told walked file
  blamed_untold told before after walked r e able blames file is =
      let at = blames file is in
      subst (IsUntoldNth told walked) (sym at.numbered) (nth_untold told before after walked at.index at.reader e able at.within at.there at.failed)

-- contents that have the bytes of files are these
pub same_contents : (contents : List (Vec ℕ Global)) (files : List (List ℕ)) → map (λ content. Some content.items) contents ≡ map Some files → map (λ content. content.items) contents ≡ files
same_contents [] [] e = refl
same_contents [] (file ∷ files) e = absurd cc
same_contents (one ∷ contents) [] e = absurd cc
same_contents (one ∷ contents) (file ∷ files) e =
    let first : one.items ≡ file = cc in
    let rest : map (λ content. Some content.items) contents ≡ map Some files = cc in
    let behind = same_contents contents files rest in
    cc

-- ---- contents that aren't too long

short_behind : (contents : List (Vec ℕ Global)) (one : Vec ℕ Global) → AreShort (map (λ content. content.items) contents) → length one.items ≤ 16777216 → AreShort (map (λ content. content.items) (contents ++ one ∷ []))
short_behind [] one all short = (short, tt)
short_behind (first ∷ contents) one all short = (all.0, short_behind contents one all.1 short)

-- a short one is put behind the others
pub more_short : (contents more : List (Vec ℕ Global)) (one : Vec ℕ Global) → AreShort (map (λ content. content.items) contents) → IsShort one.items → more ≡ contents ++ one ∷ []
    → AreShort (map (λ content. content.items) more)
more_short contents more one all short grew = subst (λ all. AreShort (map (λ content. content.items) all)) (sym grew) (short_behind contents one all short)

-- one of files that are told is short where they all are
short_next : (front : List (Option (List ℕ))) (file : List ℕ) (behind : List (Option (List ℕ))) (files : List (List ℕ)) → front ++ Some file ∷ behind ≡ map Some files → AreShort files → IsShort file
short_next [] file behind [] e short = absurd cc
short_next [] file behind (one ∷ files) e short = let same : one ≡ file = cc in subst IsShort same short.0
short_next (one ∷ front) file behind [] e short = absurd cc
short_next (one ∷ front) file behind (other ∷ files) e short = let rest : front ++ Some file ∷ behind ≡ map Some files = cc in short_next front file behind files rest short.1

refused_content : (path : String Global) (file : List ℕ) (told : Option (List ℕ)) (files : List (List ℕ)) (why : Fault) → told ≡ Some file → (AreShort files → IsShort file)
    → ReadsContent told path (Err why) → (why ≡ reason.Memory) ⊎ ¬ AreShort files
refused_content path file told files (reason.Profile at fault) is within reads = absurd reads
refused_content path file told files (reason.Unreadable at) is within reads =
    let long : ¬ IsShort file = subst (λ given. IfSome given (λ bytes. ¬ IsShort bytes)) is reads.1 in
    inr (λ short. long (within short))
refused_content path file told files (reason.Refused refusal) is within reads = absurd reads
refused_content path file told files reason.Memory is within reads = inl refl

-- where the next of the files can't be read, one is too long
pub met_refused : {R : Type 0} (bytes : R → Option (List ℕ)) (tells : List ℕ → Option (List ℕ)) (files : List (List ℕ)) (made : List R) (left later : List (List ℕ)) (given : String Global) (why : Fault)
    → IsMet bytes tells files made left → GivesNext tells left later (Ok (Some given)) → Ends left (Ok (Some given)) → ReadsContent (tells (string_bytes given)) given (Err why)
    → (why ≡ reason.Memory) ⊎ ¬ AreShort files
met_refused bytes tells files made [] later given why met next ended reads = let same : Ok (Some given) ≡ Ok None = ended refl in absurd cc
met_refused bytes tells files made (path ∷ rest) later given why met next ended reads =
    let told = told_next (map bytes made) (tells path) (map tells rest) files met in
    let gives = next path told.0 rest refl told.1 in
    let whole : map bytes made ++ Some told.0 ∷ map tells rest ≡ map Some files = subst (λ one. map bytes made ++ one ∷ map tells rest ≡ map Some files) told.1 met in
    refused_content given told.0 (tells (string_bytes given)) files why (ap tells gives.0 ∙ told.1) (short_next (map bytes made) told.0 (map tells rest) files whole) reads

-- what can't be read whole is told by its path
pub content_fault : (path : String Global) (told : Option (List ℕ)) (why : Fault) → ReadsContent told path (Err why) → ((why ≡ reason.Unreadable path) ⊎ (why ≡ reason.Memory)) × IsUnread why
content_fault path told (reason.Profile at fault) reads = absurd reads
content_fault path told (reason.Unreadable at) reads = (inl (ap reason.Unreadable reads.0), tt)
content_fault path told (reason.Refused refusal) reads = absurd reads
content_fault path told reason.Memory reads = (inr refl, tt)

-- why a content isn't read
pub content_unread : (tells : List ℕ → Option (List ℕ)) (path : String Global) (why : Fault) → ReadsContent (tells (string_bytes path)) path (Err why) → IsUnreadAt tells why
content_unread tells path (reason.Profile at fault) reads = absurd reads
content_unread tells path (reason.Unreadable at) reads = subst (λ it. IfSome (tells (string_bytes it)) (λ bytes. ¬ IsShort bytes)) (sym reads.0) reads.1
content_unread tells path (reason.Refused refusal) reads = absurd reads
content_unread tells path reason.Memory reads = tt

-- ---- paths that can't be read

-- a walk that can't go on
stopped_fault : (at : Tells) (Whole : Type 0) (named files : List (List ℕ)) (left later : List Due) (why : WalkFault) (given : Fault) → given ≡ fault_of why → WalksFrom at named files left → WalksOn at left (Err why) later → NamesMet at Whole named given
stopped_fault at Whole named files left later (walk.Unreadable path) given is from on = subst (NamesMet at Whole named) (sym is) (inl (files, left, later, from, on))
stopped_fault at Whole named files left later walk.Memory given is from on = subst (NamesMet at Whole named) (sym is) tt

pub stopped_faults : {X : Type 0} (at : Tells) (Whole : Type 0) (named files : List (List ℕ)) (left later : List Due) (why : WalkFault) (r : Result X Fault) → IfErr r (λ given. IsUnread given × (given ≡ fault_of why)) → WalksFrom at named files left
    → WalksOn at left (Err why) later → IfErr r (NamesMet at Whole named)
stopped_faults at Whole named files left later why (Ok x) is from on = tt
stopped_faults at Whole named files left later why (Err given) is from on = stopped_fault at Whole named files left later why given is.1 from on

-- a file that can't be read whole
pub met_file : {X : Type 0} (at : Tells) (Whole : Type 0) (named files : List (List ℕ)) (left later : List Due) (path : String Global) (r : Result X Fault) (why : Fault) → Whole → r ≡ Err why → (why ≡ reason.Unreadable path) ⊎ (why ≡ reason.Memory)
    → WalksFrom at named files left → WalksOn at left (Ok (Some path)) later → IfErr r (NamesMet at Whole named)
met_file at Whole named files left later path r why whole same (inl is) from on = subst (λ it. IfErr it (NamesMet at Whole named)) (sym same) (subst (NamesMet at Whole named) (sym is) (inr (whole, (files, left, later, from, on))))
met_file at Whole named files left later path r why whole same (inr is) from on = subst (λ it. IfErr it (NamesMet at Whole named)) (sym same) (subst (NamesMet at Whole named) (sym is) tt)

untold_fault : (tells : List ℕ → Option (List ℕ)) (why : WalkFault) (given : Fault) → given ≡ fault_of why → IsFaultUntold tells why → NamesUntold tells given
untold_fault tells (walk.Unreadable path) given is untold = subst (NamesUntold tells) (sym is) untold
untold_fault tells walk.Memory given is untold = subst (NamesUntold tells) (sym is) tt

-- some of the files aren't found
pub unfound_faults : {X : Type 0} (at : Tells) (named files : List (List ℕ)) (left later : List Due) (why : WalkFault) (r : Result X Fault) → IfErr r (λ given. IsUnread given × (given ≡ fault_of why)) → IsFaultUntold at.bytes why → WalksFrom at named files left
    → WalksOn at left (Err why) later → IfErr r (IsUnfound at named)
unfound_faults at named files left later why (Ok x) is untold from on = tt
unfound_faults at named files left later why (Err given) is untold from on = (is.0, untold_fault at.bytes why given is.1 untold, stopped_fault at ⊥ named files left later why given is.1 from on)

-- where a walk can't go on no bytes are told
none_told : (told : Option (List ℕ)) → ((bytes : List ℕ) → told ≢ Some bytes) → IfSome told (λ bytes. ¬ IsShort bytes)
none_told None untold = tt
none_told (Some bytes) untold = absurd (untold bytes refl)

unread_fault : (tells : List ℕ → Option (List ℕ)) (why : WalkFault) (given : Fault) → given ≡ fault_of why → IsFaultUntold tells why → IsUnreadAt tells given
unread_fault tells (walk.Unreadable path) given is untold = subst (IsUnreadAt tells) (sym is) (none_told (tells (string_bytes path)) untold)
unread_fault tells walk.Memory given is untold = subst (IsUnreadAt tells) (sym is) tt

pub unread_faults : {X : Type 0} (tells : List ℕ → Option (List ℕ)) (why : WalkFault) (r : Result X Fault) → IfErr r (λ given. IsUnread given × (given ≡ fault_of why)) → IsFaultUntold tells why → IfErr r (IsUnreadAt tells)
unread_faults tells why (Ok x) is untold = tt
unread_faults tells why (Err given) is untold = unread_fault tells why given is.1 untold
