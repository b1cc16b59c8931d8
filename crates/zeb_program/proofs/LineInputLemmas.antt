-- How far a line has been read from a source.
use Rattle.zeb_program.proofs.Cited.{◌≡◌, ◌≤◌, ◌+◌, ◌++◌, ◌∙◌, ℕ, List, [], ◌∷◌, length, length-take, take, get_or, refl, ap, sym, subst, arith, cond, eq-eqb, append_assoc, not, Option, Some, None, Result, Ok, Err, IfErr, IfSome, Consumes, IsAtEnd, Keeps, position_or_len, Consumes-kept, Consumes-nil, Consumes-trans, length-append, take_all, take-append_seam, is_lf, EndsInLine, TakesAtMost, whole_first_line, LongLine, FailedRead, LineFault, Unreadable, Memory}
use Rattle.std.proofs.lemmas.List.Folds.{prefix_len-append}

-- bytes without an LF
abbrev pub HasNoLf : List ℕ → Type 0
HasNoLf bs = position_or_len is_lf bs ≡ length bs

-- the first LF of bytes without one, and then others
pub position_past : (bs ys : List ℕ) → HasNoLf bs → position_or_len is_lf (bs ++ ys) ≡ length bs + position_or_len is_lf ys
position_past bs ys none =
    prefix_len-append (λ x. not (is_lf x)) bs ys
    ∙ ap (λ b. cond b (length bs + position_or_len is_lf ys) (position_or_len is_lf bs)) (eq-eqb (position_or_len is_lf bs) (length bs) none)

-- a line with its LF
pub line_at_lf : (old new : Option (List ℕ)) (bs : List ℕ) → HasNoLf bs → Consumes old new (bs ++ 10 ∷ []) → IfSome old (λ left. bs ++ 10 ∷ [] ≡ whole_first_line left)
line_at_lf None new bs none taken = tt
line_at_lf (Some xs) None bs none taken = absurd taken
line_at_lf (Some xs) (Some ys) bs none taken =
    let at : position_or_len is_lf ((bs ++ 10 ∷ []) ++ ys) ≡ length bs = ap (position_or_len is_lf) (append_assoc bs (10 ∷ []) ys) ∙ position_past bs (10 ∷ ys) none ∙ omega arith in
    let long : length bs + 1 ≡ length (bs ++ 10 ∷ []) = omega (arith, length-append bs (10 ∷ [])) in
    sym (rw (taken, at, long) (take-append_seam (bs ++ 10 ∷ []) ys))

-- a list of one byte
pub one_byte : (bs : List ℕ) → length bs ≡ 1 → bs ≡ get_or bs 0 0 ∷ []
one_byte [] l = absurd (omega (arith, l))
one_byte (b ∷ []) l = refl
one_byte (b ∷ c ∷ bs) l = absurd (omega (arith, l))

-- the LF was read
pub line_read : (old now new : Option (List ℕ)) (bs buffer items : List ℕ) (count : ℕ) → HasNoLf bs → Consumes old now bs → Consumes now new (take count buffer)
    → length buffer ≡ 1 → count ≡ 1 → get_or buffer 0 0 ≡ 10 → items ≡ bs ++ buffer → IfSome old (λ left. items ≡ whole_first_line left)
line_read old now new bs buffer items count none before here long one lf is =
    let whole : buffer ≡ 10 ∷ [] = one_byte buffer long ∙ ap (λ b. b ∷ []) lf in
    let all : take count buffer ≡ buffer = take_all count buffer (omega (arith, long, one)) in
    let taken : Consumes old new (bs ++ 10 ∷ []) = subst (λ xs. Consumes old new (bs ++ xs)) (all ∙ whole) (Consumes-trans old now new bs (take count buffer) before here) in
    subst (λ xs. IfSome old (λ left. xs ≡ whole_first_line left)) (sym (is ∙ ap (λ xs. bs ++ xs) whole)) (line_at_lf old new bs none taken)

-- just it is taken
pub line_taken : (old now new : Option (List ℕ)) (bs buffer items : List ℕ) (count : ℕ) → Consumes old now bs → Consumes now new (take count buffer) → length buffer ≡ 1 → count ≡ 1 → items ≡ bs ++ buffer → Consumes old new items
line_taken old now new bs buffer items count before here long one is =
    let all : take count buffer ≡ buffer = take_all count buffer (omega (arith, long, one)) in
    subst (Consumes old new) (ap (λ xs. bs ++ xs) all ∙ sym is) (Consumes-trans old now new bs (take count buffer) before here)

-- it isn't empty
pub line_some : (new : Option (List ℕ)) (bs buffer items : List ℕ) → length buffer ≡ 1 → items ≡ bs ++ buffer → items ≡ [] → IsAtEnd new
line_some new bs buffer items long is none = absurd (omega (arith, ap length is, ap length none, length-append bs buffer, long))

-- ---- a line that isn't read

-- what was read is no more than stands before its LF
part_of_line : (xs : List ℕ) (new : Option (List ℕ)) (bs : List ℕ) → HasNoLf bs → Consumes (Some xs) new bs → length bs ≤ position_or_len is_lf xs
part_of_line xs None bs none taken = absurd taken
part_of_line xs (Some ys) bs none taken = omega (arith, ap (position_or_len is_lf) taken, position_past bs ys none)

-- it is too long
pub ends_long : (old new : Option (List ℕ)) (bs : List ℕ) (most : ℕ) → HasNoLf bs → length bs ≡ most + 1 → Consumes old new bs → IfSome old (λ left. EndsInLine most (Unreadable LongLine) left new)
ends_long None new bs most none long taken = tt
ends_long (Some xs) new bs most none long taken =
    let here = part_of_line xs new bs none taken in
    (omega arith, (bs, omega arith, taken))

-- a read failed
pub ends_failed : (old now new : Option (List ℕ)) (bs : List ℕ) (most : ℕ) → HasNoLf bs → length bs ≤ most → Consumes old now bs → Keeps now new
    → IfSome old (λ left. EndsInLine most (Unreadable FailedRead) left new)
ends_failed None now new bs most none short taken same = tt
ends_failed (Some xs) now new bs most none short taken same =
    let all = Consumes-kept (Some xs) now new bs taken same in
    ((bs, short, all), (bs, part_of_line xs new bs none all, all))

-- there was no memory for its last byte
pub ends_starved : (old now new : Option (List ℕ)) (bs last : List ℕ) (most : ℕ) → HasNoLf bs → length bs ≤ most → length last ≤ 1 → Consumes old now bs → Consumes now new last
    → IfSome old (λ left. EndsInLine most Memory left new)
ends_starved None now new bs last most none short one taken more = tt
ends_starved (Some xs) now new bs last most none short one taken more =
    let here = part_of_line xs now bs none taken in
    let all = Consumes-trans (Some xs) now new bs last taken more in
    ((bs ++ last, omega (arith, length-append bs last), all), (bs ++ last, omega (arith, length-append bs last), all))

-- or it was read, and there was none for its answer
pub ends_read : (old new : Option (List ℕ)) (line : List ℕ) → IfSome old (λ left. line ≡ whole_first_line left) → Consumes old new line → TakesAtMost 16777217 old new
    → IfSome old (λ left. EndsInLine 16777216 Memory left new)
ends_read None new line is taken bounded = tt
ends_read (Some xs) new line is taken bounded = (bounded, (line, omega (arith, ap length is, length-take (position_or_len is_lf xs + 1) xs), taken))

-- or there was none before it was read
pub ends_before : (left : Option (List ℕ)) → IfSome left (λ rest. EndsInLine 16777216 Memory rest left)
ends_before None = tt
ends_before (Some xs) = (([], omega arith, Consumes-nil (Some xs)), ([], omega arith, Consumes-nil (Some xs)))

-- what is said of a fault is said of the one that is given for it
pub given_ends : {T : Type 0} (r : Result T LineFault) (why : LineFault) (old new : Option (List ℕ)) (most : ℕ) → IfErr r (λ given. given ≡ why) → IfSome old (λ left. EndsInLine most why left new)
    → IfErr r (λ given. IfSome old (λ left. EndsInLine most given left new))
given_ends (Ok value) why old new most is ends = tt
given_ends (Err given) why old new most is ends = subst (λ it. IfSome old (λ left. EndsInLine most it left new)) (sym is) ends
