-- What `trim_start_matches` and `trim_end_matches` give for a space, by the words of the identifier's definition.
use Rattle.zeb_extract.proofs.Cited.{◌≡◌, ◌≢◌, ℕ, ◌-◌, List, [], ◌∷◌, ◌++◌, length, take, drop, reverse, Option, Some, None, refl, ap, ◌∙◌, sym, arith, true, false, eqb, cond, Bool, FindsCharPrefix, FindsCharSuffix, CutsPrefixes, CutsSuffixes, IsFullyTrimmed, IsTrimStartMatches, IsTrimEndMatches, IfSome, reverse-append, reverse-reverse, take-append-drop, drop_at_char, drop-length, eqb-true, without_leading_spaces, without_trailing_spaces}
use lib.Utf8.{encode}

-- ---- the front

at_front : (bytes : List ℕ) (n : ℕ) → FindsCharPrefix 32 bytes (Some n) → bytes ≡ 32 ∷ drop n bytes
at_front bytes n h = drop_at_char 32 bytes 0 n h (omega arith)

front_cuts : (ns : List ℕ) (bytes rest : List ℕ) → CutsPrefixes (FindsCharPrefix 32) bytes ns rest
    → without_leading_spaces bytes ≡ without_leading_spaces rest
front_cuts [] bytes rest h = ap without_leading_spaces (sym h)
front_cuts (n ∷ ns) bytes rest h =
    front_cuts ns bytes h.0 h.1 ∙ ap without_leading_spaces (at_front h.0 n h.2) ∙ ap without_leading_spaces (sym h.3)

-- a text that begins with no space stays as it is
keeps_head : (byte : ℕ) (bytes : List ℕ) → byte ≢ 32 → without_leading_spaces (byte ∷ bytes) ≡ byte ∷ bytes
keeps_head byte bytes other = by_test (eqb byte 32) refl
  where
    by_test : (b : Bool) → eqb byte 32 ≡ b → cond b (without_leading_spaces bytes) (byte ∷ bytes) ≡ byte ∷ bytes
    by_test true e = absurd (other (eqb-true byte 32 e))
    by_test false e = refl

pub keeps : (bytes : List ℕ) → ((rest : List ℕ) → bytes ≢ 32 ∷ rest) → without_leading_spaces bytes ≡ bytes
keeps [] no_space = refl
keeps (byte ∷ bytes) no_space = keeps_head byte bytes (λ e. no_space bytes (ap (λ b. b ∷ bytes) e))

front_done : (bytes : List ℕ) → IsFullyTrimmed (FindsCharPrefix 32) bytes → without_leading_spaces bytes ≡ bytes
unfolding encode
front_done bytes h = by_match h.0 h.1 h.2
  where
    by_match : (o : Option ℕ) → FindsCharPrefix 32 bytes o → IfSome o (λ n. n ≡ 0) → without_leading_spaces bytes ≡ bytes
    by_match None no_match none = keeps bytes no_match
    by_match (Some n) match empty = absurd (omega (arith, match.ends))

pub without_front : (bytes rest : List ℕ) → IsTrimStartMatches (FindsCharPrefix 32) bytes rest → rest ≡ without_leading_spaces bytes
without_front bytes rest h = sym (front_cuts h.0.0 bytes rest h.0.1 ∙ front_done rest h.1)

-- ---- the end

at_end : (bytes : List ℕ) (n : ℕ) → FindsCharSuffix 32 bytes (Some n) → bytes ≡ take (length bytes - n) bytes ++ (32 ∷ [])
at_end bytes n h =
    sym (take-append-drop (length bytes - n) bytes)
    ∙ ap (λ l. take (length bytes - n) bytes ++ l) (drop_at_char 32 bytes (length bytes - n) (length bytes) h.1 (omega arith) ∙ ap (λ l. 32 ∷ l) (drop-length bytes))

-- the last space of a text is the first of its reverse
last_first : (bytes front : List ℕ) → bytes ≡ front ++ (32 ∷ []) → reverse bytes ≡ 32 ∷ reverse front
last_first bytes front e = ap reverse e ∙ reverse-append front (32 ∷ [])

end_cuts : (ns : List ℕ) (bytes rest : List ℕ) → CutsSuffixes (FindsCharSuffix 32) bytes ns rest
    → without_leading_spaces (reverse bytes) ≡ without_leading_spaces (reverse rest)
end_cuts [] bytes rest h = ap (λ l. without_leading_spaces (reverse l)) (sym h)
end_cuts (n ∷ ns) bytes rest h =
    let cut : h.0 ≡ rest ++ (32 ∷ []) = at_end h.0 n h.2 ∙ ap (λ l. l ++ (32 ∷ [])) (sym h.3) in
    end_cuts ns bytes h.0 h.1 ∙ ap without_leading_spaces (last_first h.0 rest cut)

end_done : (bytes : List ℕ) → IsFullyTrimmed (FindsCharSuffix 32) bytes → without_leading_spaces (reverse bytes) ≡ reverse bytes
unfolding encode
end_done bytes h = by_match h.0 h.1 h.2
  where
    by_match : (o : Option ℕ) → FindsCharSuffix 32 bytes o → IfSome o (λ n. n ≡ 0) → without_leading_spaces (reverse bytes) ≡ reverse bytes
    by_match None no_match none =
        keeps (reverse bytes)
        (λ rest e. no_match (reverse rest) (sym (reverse-reverse bytes) ∙ ap reverse e ∙ reverse-append (32 ∷ []) rest))
    by_match (Some n) match empty = absurd (omega (arith, match.0))

pub without_end : (bytes rest : List ℕ) → IsTrimEndMatches (FindsCharSuffix 32) bytes rest → rest ≡ without_trailing_spaces bytes
without_end bytes rest h =
    sym (reverse-reverse rest) ∙ ap reverse (sym (end_cuts h.0.0 bytes rest h.0.1 ∙ end_done rest h.1))
