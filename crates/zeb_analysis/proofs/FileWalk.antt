-- A file that is read record by record: what stands in what is left of it.
use Rattle.zeb_analysis.proofs.Cited.{◌≡◌, ◌≢◌, ◌∙◌, ℕ, ◌+◌, ◌≤◌, ◌<◌, List, [], ◌∷◌, ◌++◌, length, length-append, Some, None, Result, Ok, Err, refl, sym, ap, subst, arith, option_or, map, map-append, MarcFault, Next, at_end, a_slice, a_fault, Gives, next_of, split_of, NextIs, next_view, split_of-next, SoundSlice-from_checks, AnalysisFault, Marc, Memory, Analysis, analysed, AreAnalysesOf, Place, Setting, Standing, at_place, first_refusal, standing_from, AnalysesNext, IsTaken, place_at}
use Rattle.zeb_analysis.specs.Analysing.{refusal_at, standing_in}
use Rattle.zeb_analysis.proofs.WithinLimit.{within}
use Rattle.zeb_analysis.proofs.SoFar.{SoFar, at_first, at_last, more_done, refused_here}

-- ---- what was read tells what stood next

module _ (setting : Setting) (before : ℕ) (place : Place) where
  pub next_refused : (n : Next) (fault : MarcFault) (kept left : List ℕ) → Gives n (Err fault) kept (Some left) → AnalysesNext setting before place n (Err (Marc place fault)) left
  next_refused at_end fault kept left h = let no = h.0 in absurd (cc)
  next_refused (a_slice slice rest) fault kept left h = let no = h.0 in absurd (cc)
  next_refused (a_fault found) fault kept left h = let is = h.0 in let same : fault ≡ found = cc in ap (λ (f : MarcFault). Err (Marc place f)) same

  -- ---- what was analysed tells it

  told_end : (n : Next) (left : List ℕ) → AnalysesNext setting before place n (Ok None) left → n ≡ at_end
  told_end at_end left h = refl
  told_end (a_slice slice rest) left h = absurd h.1
  told_end (a_fault found) left h = absurd (cc)

  told_slice : (n : Next) (left : List ℕ) (analysis : Analysis) → AnalysesNext setting before place n (Ok (Some analysis)) left
      → (slice : List ℕ) × (n ≡ a_slice slice left) × IsTaken setting before (at_place place.file place.nth (Ok slice)) (Ok (Some analysis))
  told_slice at_end left analysis h = absurd (cc)
  told_slice (a_slice slice rest) left analysis h = (slice, ap (a_slice slice) (sym h.0), h.1)
  told_slice (a_fault found) left analysis h = absurd (cc)

-- a slice has 26 bytes at least
slice_is_long : (text slice rest : List ℕ) → next_of text ≡ a_slice slice rest → 26 + length rest ≤ length text
slice_is_long text slice rest is =
    let view = subst (NextIs text) is (next_view text) in
    let sound = SoundSlice-from_checks slice view.3.no_fault in
    let whole = ap length view.1 in
    omega (arith, whole, length-append view.0 (slice ++ rest), length-append slice rest, sound.least, view.3.whole)

module _ (setting : Setting) (before file nth : ℕ) (left after : List ℕ) (analysis : Analysis) (h : AnalysesNext setting before (place_at file nth) (next_of left) (Ok (Some analysis)) after) where
  pub left_is_shorter : 26 + length after ≤ length left
  left_is_shorter =
      let it = told_slice setting before (place_at file nth) (next_of left) after analysis h in
      slice_is_long left it.0 after it.1

  pub room_left : before < setting.limit
  room_left =
      let it = told_slice setting before (place_at file nth) (next_of left) after analysis h in
      within setting.profile.now setting.limit before (at_place file nth (Ok it.0)) it.2.0

-- ---- what is left

abbrev pub rest_of : ℕ → ℕ → List ℕ → List Standing
rest_of file nth left = standing_from file nth (split_of left).slices (split_of left).fault

module _ (file nth : ℕ) (left : List ℕ) where
  rest_at_end : next_of left ≡ at_end → rest_of file nth left ≡ []
  rest_at_end is = rw (split_of-next left, is) refl

  rest_at_fault : (fault : MarcFault) → next_of left ≡ a_fault fault → rest_of file nth left ≡ at_place file nth (Err fault) ∷ []
  rest_at_fault fault is = rw (split_of-next left, is) refl

  rest_at_slice : (slice rest : List ℕ) → next_of left ≡ a_slice slice rest → rest_of file nth left ≡ at_place file nth (Ok slice) ∷ rest_of file (nth + 1) rest
  rest_at_slice slice rest is = rw (split_of-next left, is) refl

fault_refused : (setting : Setting) (before file nth : ℕ) (found : MarcFault) → refusal_at setting.profile.now setting.limit before (at_place file nth (Err found)) ≡ Some (Marc (place_at file nth) found)
unfolding refusal_at
fault_refused setting before file nth found = refl

-- What was analysed of a file, before whose first record stand as many as `begun` says, and what is left of it.
abbrev pub IsWalked : Setting → ℕ → ℕ → List ℕ → ℕ → List ℕ → List Analysis → Type 0
IsWalked setting begun file text nth left done =
    SoFar setting.profile.now setting.limit begun (standing_in file text) (rest_of file nth left) (map analysed done)

module _ (setting : Setting) (begun file : ℕ) (text : List ℕ) where
  pub before_first : IsWalked setting begun file text 1 text []
  unfolding standing_in
  before_first = at_first setting.profile.now setting.limit begun (rest_of file 1 text)

  module _ (nth : ℕ) (left : List ℕ) (done : List Analysis) (walked : IsWalked setting begun file text nth left done) (before : ℕ) (many : before ≡ begun + length (map analysed done)) where
    -- this is refused, and stands next
    refused_next : (content : Result (List ℕ) MarcFault) (rest : List Standing) (fault : AnalysisFault) → rest_of file nth left ≡ at_place file nth content ∷ rest
        → refusal_at setting.profile.now setting.limit before (at_place file nth content) ≡ Some fault → first_refusal setting.profile.now setting.limit begun (standing_in file text) ≡ Some fault
    refused_next content rest fault there refused =
        let standing = at_place file nth content in
        let far = subst (λ these. SoFar setting.profile.now setting.limit begun (standing_in file text) these (map analysed done)) there walked in
        refused_here setting.profile.now setting.limit begun (standing_in file text) (map analysed done) (standing ∷ []) rest far fault
        (ap (λ n. option_or (refusal_at setting.profile.now setting.limit n standing) None) (sym many) ∙ ap (λ first. option_or first None) refused)

    by_next : (n : Next) (fault : AnalysisFault) (after : List ℕ) → next_of left ≡ n → fault ≢ Memory → AnalysesNext setting before (place_at file nth) n (Err fault) after
        → first_refusal setting.profile.now setting.limit begun (standing_in file text) ≡ Some fault
    by_next at_end fault after is other h = absurd (cc)
    by_next (a_slice slice rest) fault after is other h =
        refused_next (Ok slice) (rest_of file (nth + 1) rest) fault (rest_at_slice file nth left slice rest is) (h.1 other)
    by_next (a_fault found) fault after is other h =
        let same : Marc (place_at file nth) found ≡ fault = cc in
        refused_next (Err found) [] fault (rest_at_fault file nth left found is) (fault_refused setting before file nth found ∙ ap Some same)

    pub walk_is_refused : (fault : AnalysisFault) (after : List ℕ) → fault ≢ Memory → AnalysesNext setting before (place_at file nth) (next_of left) (Err fault) after
        → first_refusal setting.profile.now setting.limit begun (standing_in file text) ≡ Some fault
    walk_is_refused fault after other h = by_next (next_of left) fault after refl other h

    pub walk_ends : (after : List ℕ) → AnalysesNext setting before (place_at file nth) (next_of left) (Ok None) after
        → (first_refusal setting.profile.now setting.limit begun (standing_in file text) ≡ None) × AreAnalysesOf setting.profile.now (standing_in file text) (map analysed done)
    walk_ends after h =
        let is = told_end setting before (place_at file nth) (next_of left) after h in
        at_last setting.profile.now setting.limit begun (standing_in file text) (map analysed done)
        (subst (λ rest. SoFar setting.profile.now setting.limit begun (standing_in file text) rest (map analysed done)) (rest_at_end file nth left is) walked)

    module _ (analysis : Analysis) (after : List ℕ) (h : AnalysesNext setting before (place_at file nth) (next_of left) (Ok (Some analysis)) after) where
      pub walk_goes_on : IsWalked setting begun file text (nth + 1) after (done ++ analysis ∷ [])
      walk_goes_on =
          let it = told_slice setting before (place_at file nth) (next_of left) after analysis h in
          let standing = at_place file nth (Ok it.0) in
          let far = subst (λ rest. SoFar setting.profile.now setting.limit begun (standing_in file text) rest (map analysed done)) (rest_at_slice file nth left it.0 after it.1) walked in
          subst (SoFar setting.profile.now setting.limit begun (standing_in file text) (rest_of file (nth + 1) after)) (sym (map-append analysed done (analysis ∷ [])))
          (more_done setting.profile.now setting.limit begun (standing_in file text) (map analysed done) (standing ∷ []) (rest_of file (nth + 1) after) far (analysed analysis ∷ [])
          (ap (λ n. option_or (refusal_at setting.profile.now setting.limit n standing) None) (sym many) ∙ ap (λ first. option_or first None) it.2.0)
          (it.2.1, tt))
