-- What the targets of a line were read as, written and read again.
use Rattle.zeb_profile.proofs.Cited.{◌≡◌, ℕ, ◌==◌, codes, subst, ◌+◌, ◌<◌, List, [], ◌∷◌, ◌++◌, length, Bool, true, false, Result, Ok, Err, arith, refl, ap, sym, ◌∙◌, cond, map, suc, take, drop, append_assoc, length-append, All, after_first, before_first, list_all, list_any, position_or_len, slice_split, is_ascii_graphic, and_from, and_parts, lt-ltb, ne_eqb, append-nil, drop_at, get_or_append_left, get_or_at, take_at, All-append, All-cons, All-nil, All-weaker, list_all-append, length-slice_split, slice_split_at, slice_split_none, AllPass-from_list_all, position_or_len_is, Target, DuplicateTarget, Register, Word, Phrase, Number, target_text, targets_text, register_text, ◌>>=◌, is_colon, is_comma, is_name, is_name_byte, name_of, register_after_colon, register_of, same_target, target_of, targets_after, targets_of}
use Rattle.zeb_profile.proofs.PlainWords.{IsPlain}
use Rattle.zeb_profile.proofs.WordsBack.{name_back, name_plain, name_word}

-- ---- one target
-- a byte of a name is neither a colon nor a comma
name_byte_is_not : (c : ℕ) → is_name_byte c ≡ false → (b : ℕ) → is_name_byte b ≡ true → (b == c) ≡ false
name_byte_is_not c out b h = ne_eqb b c (λ e. absurd (cc (ap is_name_byte e)))

name_has_no : (c : ℕ) → is_name_byte c ≡ false → (name : List ℕ) → is_name name ≡ true → All (λ b. (b == c) ≡ false) name
name_has_no c out name h = All-weaker (λ b. is_name_byte b ≡ true) (λ b. (b == c) ≡ false) (name_byte_is_not c out) name (AllPass-from_list_all is_name_byte name (name_plain name h))

colon_at : (name rest : List ℕ) → is_name name ≡ true → position_or_len is_colon (name ++ 58 ∷ rest) ≡ length name
colon_at name rest h =
    position_or_len_is is_colon (name ++ 58 ∷ rest) (length name) 0 (omega (arith, length-append name (58 ∷ rest)))
    (λ k below. ap is_colon (get_or_append_left name (58 ∷ rest) 0 k below) ∙ name_has_no 58 refl name h k 0 below)
    (λ _. ap is_colon (get_or_at name 58 rest 0 (length name) refl))

register_again : (register : Register) → register_of (register_text register) ≡ Ok register
register_again Word = refl
register_again Phrase = refl
register_again Number = refl

-- a target with its register is read as it is
target_again : (target : Target) → is_name target.name ≡ true → target_of (target_text target) ≡ Ok target
target_again target h =
    let register = register_text target.register in
    let text : target_text target ≡ target.name ++ 58 ∷ register = append_assoc target.name (codes ":") register in
    let at : position_or_len is_colon (target_text target) ≡ length target.name = ap (position_or_len is_colon) text ∙ colon_at target.name register h in
    let before : before_first is_colon (target_text target) ≡ target.name =
    ap (λ n. take n (target_text target)) at ∙ ap (take (length target.name)) text ∙ take_at target.name (58 ∷ register) (length target.name) refl in
    let after : after_first is_colon (target_text target) ≡ register =
    ap (λ n. drop (n + 1) (target_text target)) at ∙ drop_at (target.name ++ codes ":") register (length target.name + 1) (length-append target.name (codes ":")) in
    let long : length (target_text target) ≡ length target.name + length (58 ∷ register) = ap length text ∙ length-append target.name (58 ∷ register) in
    let within : position_or_len is_colon (target_text target) < length (target_text target) = omega (arith, at, long) in
    let name : name_of (before_first is_colon (target_text target)) ≡ Ok target.name = ap name_of before ∙ rw h refl in
    let kept : register_after_colon (target_text target) ≡ Ok target.register = rw (lt-ltb (position_or_len is_colon (target_text target)) (length (target_text target)) within) (ap register_of after ∙ register_again target.register) in
    ap (λ n. n >>= λ name. register_after_colon (target_text target) >>= λ register. Ok (record { name = name; register = register })) name
    ∙ ap (λ r. r >>= λ register. Ok (record { name = target.name; register = register })) kept

-- what a step gave, where the whole gives a value
pub step_ok : {A B E : Type 0} (r : Result A E) (f : A → Result B E) (y : B) → (r >>= f) ≡ Ok y → (x : A) × (r ≡ Ok x) × (f x ≡ Ok y)
step_ok (Ok x) f y h = (x, refl, h)
step_ok (Err e) f y h = absurd (cc)

pub unless_ok : {A E : Type 0} (b : Bool) (e : E) (r : Result A E) (y : A) → cond b (Err e) r ≡ Ok y → (b ≡ false) × (r ≡ Ok y)
unless_ok true e r y h = absurd (cc)
unless_ok false e r y h = (refl, h)

target_named : (part : List ℕ) (target : Target) → target_of part ≡ Ok target → is_name target.name ≡ true
target_named part target h =
    let name = step_ok (name_of (before_first is_colon part)) (λ name. register_after_colon part >>= λ register. Ok (record { name = name; register = register })) target h in
    let register = step_ok (register_after_colon part) (λ register. Ok (record { name = name.0; register = register })) target name.2 in
    let same : record { name = name.0; register = register.0 } ≡ target = cc (register.2) in
    subst (λ (t : Target). is_name t.name ≡ true) same (name_back (before_first is_colon part) name.0 name.1).1

-- ---- targets with commas between
abbrev all_named : List Target → Bool
all_named targets = list_all (λ target. is_name target.name) targets

register_has_no_comma : (register : Register) → All (λ b. is_comma b ≡ false) (register_text register)
register_has_no_comma Word = All-cons (λ b. is_comma b ≡ false) 119 [] refl (All-nil (λ b. is_comma b ≡ false))
register_has_no_comma Phrase = All-cons (λ b. is_comma b ≡ false) 112 [] refl (All-nil (λ b. is_comma b ≡ false))
register_has_no_comma Number = All-cons (λ b. is_comma b ≡ false) 110 [] refl (All-nil (λ b. is_comma b ≡ false))

target_has_no_comma : (target : Target) → is_name target.name ≡ true → All (λ b. is_comma b ≡ false) (target_text target)
target_has_no_comma target h =
    let no = λ (b : ℕ). is_comma b ≡ false in
    All-append no (target.name ++ codes ":") (register_text target.register)
    (All-append no target.name (codes ":") (name_has_no 44 refl target.name h) (All-cons no 58 [] refl (All-nil no)))
    (register_has_no_comma target.register)

split_joined : (targets : List Target) → 0 < length targets → all_named targets ≡ true → slice_split is_comma (targets_text targets) ≡ map target_text targets
split_joined [] some h = absurd (omega arith)
split_joined (target ∷ []) some h =
    slice_split_none is_comma (target_text target) (target_has_no_comma target (and_parts (is_name target.name) _ h).0)
split_joined (target ∷ second ∷ others) some h =
    let both = and_parts (is_name target.name) _ h in
    slice_split_at is_comma (target_text target) 44 (targets_text (second ∷ others)) (target_has_no_comma target both.0) refl
    ∙ ap (λ parts. target_text target ∷ parts) (split_joined (second ∷ others) (omega arith) both.1)

register_graphic : (register : Register) → list_all is_ascii_graphic (register_text register) ≡ true
register_graphic Word = refl
register_graphic Phrase = refl
register_graphic Number = refl

target_graphic : (target : Target) → is_name target.name ≡ true → list_all is_ascii_graphic (target_text target) ≡ true
target_graphic target h =
    list_all-append is_ascii_graphic (target.name ++ codes ":") (register_text target.register)
    ∙ and_from _ _ (list_all-append is_ascii_graphic target.name (codes ":") ∙ and_from _ _ (name_word target.name h).graphic refl) (register_graphic target.register)

targets_graphic : (targets : List Target) → all_named targets ≡ true → list_all is_ascii_graphic (targets_text targets) ≡ true
targets_graphic [] h = refl
targets_graphic (target ∷ []) h = target_graphic target (and_parts (is_name target.name) _ h).0
targets_graphic (target ∷ second ∷ others) h =
    let both = and_parts (is_name target.name) _ h in
    list_all-append is_ascii_graphic (target_text target) (44 ∷ targets_text (second ∷ others))
    ∙ and_from _ _ (target_graphic target both.0) (targets_graphic (second ∷ others) both.1)

target_some : (target : Target) → 0 < length (target_text target)
target_some target = omega (arith, length-append (target.name ++ codes ":") (register_text target.register), length-append target.name (codes ":"))

targets_some : (targets : List Target) → 0 < length targets → 0 < length (targets_text targets)
targets_some [] h = absurd (omega arith)
targets_some (target ∷ []) h = target_some target
targets_some (target ∷ second ∷ others) h = omega (arith, length-append (target_text target) (44 ∷ targets_text (second ∷ others)))

-- the targets that were read behind some, written and read again behind these
record ReadsAgain (left : List Target) (parts : List (List ℕ)) (targets : List Target) : Type 0 where
  new : List Target
  joined : targets ≡ left ++ new
  count : length new ≡ length parts
  named : all_named new ≡ true
  again : targets_after left (map target_text new) ≡ Ok targets

again_more : (left : List Target) (target : Target) (parts : List (List ℕ)) (targets : List Target) → is_name target.name ≡ true → list_any (same_target target) left ≡ false
    → targets_after (left ++ target ∷ []) parts ≡ Ok targets → targets_after left (target_text target ∷ parts) ≡ Ok targets
again_more left target parts targets named fresh rest = rw (target_again target named, fresh) rest

targets_after_back : (left : List Target) (parts : List (List ℕ)) (targets : List Target) → targets_after left parts ≡ Ok targets → ReadsAgain left parts targets
targets_after_back left [] targets h =
    let same : left ≡ targets = cc in
    record { new = []; joined = sym same ∙ sym (append-nil left); count = refl; named = refl; again = h }
targets_after_back left (part ∷ parts) targets h =
    let read = step_ok (target_of part) (λ target. cond (list_any (same_target target) left) (Err DuplicateTarget) (targets_after (left ++ target ∷ []) parts)) targets h in
    let target : Target = read.0 in
    let fresh = unless_ok (list_any (same_target target) left) DuplicateTarget (targets_after (left ++ target ∷ []) parts) targets read.2 in
    let rest : ReadsAgain (left ++ target ∷ []) parts targets = targets_after_back (left ++ target ∷ []) parts targets fresh.1 in
    let named : is_name target.name ≡ true = target_named part target read.1 in
    record {
      new = target ∷ rest.new;
      joined = rest.joined ∙ append_assoc left (target ∷ []) rest.new;
      count = ap suc rest.count;
      named = and_from _ _ named rest.named;
      again = again_more left target (map target_text rest.new) targets named fresh.0 rest.again;
    }

pub targets_back : (word : List ℕ) (targets : List Target) → targets_of word ≡ Ok targets → (targets_of (targets_text targets) ≡ Ok targets) × IsPlain (targets_text targets)
targets_back word targets h =
    let read : ReadsAgain [] (slice_split is_comma word) targets = targets_after_back [] (slice_split is_comma word) targets h in
    let same : targets ≡ read.new = read.joined in
    let named : all_named targets ≡ true = ap all_named same ∙ read.named in
    let some : 0 < length targets = omega (arith, ap length same, read.count, length-slice_split is_comma word) in (
      ap (targets_after []) (split_joined targets some named) ∙ ap (λ new. targets_after [] (map target_text new)) same ∙ read.again,
      record { some = targets_some targets some; graphic = targets_graphic targets named },
    )
