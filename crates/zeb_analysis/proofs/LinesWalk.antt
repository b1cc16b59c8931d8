-- A file whose records' lines are put behind others, and files that are taken one after the other.
use Rattle.zeb_analysis.proofs.Cited.{◌≡◌, ◌≢◌, ◌∙◌, ℕ, ◌+◌, suc, List, [], ◌∷◌, ◌++◌, length, length-append, length-map, map, map-append, append-nil, append_assoc, flat_map, flat_map-append, string_bytes, Option, Some, None, Ok, Err, refl, sym, ap, subst, arith, option_or, next_of, Directive, Analysis, AnalysedLines, AnalysisFault, AnalysesNext, AnalysesTo, AreAnalysesOf, AreLines, Memory, Setting, StandBehind, Standing, analysed, first_refusal, lines_of, place_at, standing_in_all}
use Rattle.zeb_analysis.specs.Analysing.{standing_in}
use Rattle.zeb_analysis.proofs.FileWalk.{IsWalked, before_first, walk_ends, walk_goes_on, walk_is_refused}
use Rattle.zeb_analysis.proofs.SoFar.{analyses-append, as_many, refusal-append}

-- ---- one file

-- what stands behind those stands behind them all
both_behind : (old now new : AnalysedLines) (done more : List Analysis) → StandBehind old done now → StandBehind now more new → StandBehind old (done ++ more) new
both_behind old now new done more one other = record {
  named = other.named ∙ one.named;
  counted = omega (arith, one.counted, other.counted, length-append done more);
  told =
      let names = map string_bytes old.names.items in
      other.told
      ∙ ap (λ held. string_bytes now.text ++ flat_map (lines_of (map string_bytes held.items)) more) one.named
      ∙ ap (λ text. text ++ flat_map (lines_of names) more) one.told
      ∙ append_assoc (string_bytes old.text) (flat_map (lines_of names) done) (flat_map (lines_of names) more)
      ∙ ap (λ text. string_bytes old.text ++ text) (sym (flat_map-append (lines_of names) done more));
}

-- so far: what stands behind the first lines, and what is left of the file
pub record LinesWalked (setting : Setting) (file : ℕ) (text : List ℕ) (nth : ℕ) (left : List ℕ) (old now : AnalysedLines) : Type 0 where
  pub done : List Analysis
  pub behind : StandBehind old done now
  pub walked : IsWalked setting old.records file text nth left done

-- none of what stands there is refused, and its lines are put behind the others
pub record AddsLines (setting : Setting) (these : List Standing) (old new : AnalysedLines) : Type 0 where
  pub more : List Analysis
  pub behind : StandBehind old more new
  pub none_refused : first_refusal setting.profile.now setting.limit old.records these ≡ None
  pub are : AreAnalysesOf setting.profile.now these (map analysed more)

module _ (setting : Setting) (file : ℕ) (text : List ℕ) (old : AnalysedLines) where
  pub lines_begin : LinesWalked setting file text 1 text old old
  lines_begin = record {
    done = [];
    behind = record { named = refl; counted = omega arith; told = sym (append-nil (string_bytes old.text)) };
    walked = before_first setting old.records file text;
  }

  module _ (nth : ℕ) (left : List ℕ) (now : AnalysedLines) (under : LinesWalked setting file text nth left old now) (after : List ℕ) where
    counted : now.records ≡ old.records + length (map analysed under.done)
    counted = omega (arith, under.behind.counted, length-map under.done analysed)

    pub lines_end : AnalysesNext setting now.records (place_at file nth) (next_of left) (Ok None) after → AddsLines setting (standing_in file text) old now
    lines_end h =
        let all = walk_ends setting old.records file text nth left under.done under.walked now.records counted after h in
        record { more = under.done; behind = under.behind; none_refused = all.0; are = all.1 }

    pub lines_are_refused : (fault : AnalysisFault) → fault ≢ Memory → AnalysesNext setting now.records (place_at file nth) (next_of left) (Err fault) after
        → first_refusal setting.profile.now setting.limit old.records (standing_in file text) ≡ Some fault
    lines_are_refused fault other h = walk_is_refused setting old.records file text nth left under.done under.walked now.records counted fault after other h

    pub lines_go_on : (analysis : Analysis) (new : AnalysedLines) → StandBehind now (analysis ∷ []) new → AnalysesNext setting now.records (place_at file nth) (next_of left) (Ok (Some analysis)) after
        → LinesWalked setting file text (nth + 1) after old new
    lines_go_on analysis new pushed h = record {
      done = under.done ++ analysis ∷ [];
      behind = both_behind old now new under.done (analysis ∷ []) under.behind pushed;
      walked = walk_goes_on setting old.records file text nth left under.done under.walked now.records counted analysis after h;
    }

-- ---- one file after the others

-- what stands in one file more
standing-append : (file : ℕ) (texts : List (List ℕ)) (text : List ℕ) → standing_in_all file (texts ++ text ∷ []) ≡ standing_in_all file texts ++ standing_in (file + length texts) text
standing-append file [] text = let same : file ≡ file + 0 = omega arith in append-nil (standing_in file text) ∙ ap (λ n. standing_in n text) same
standing-append file (first ∷ texts) text =
    let same : file + 1 + length texts ≡ file + suc (length texts) = omega arith in
    ap (λ these. standing_in file first ++ these) (standing-append (file + 1) texts text)
    ∙ sym (append_assoc (standing_in file first) (standing_in_all (file + 1) texts) (standing_in (file + 1 + length texts) text))
    ∙ ap (λ n. (standing_in file first ++ standing_in_all (file + 1) texts) ++ standing_in n text) same

module _ (profile : List Directive) (limit : ℕ) (texts : List (List ℕ)) (text : List ℕ) where
  refusal_of_more : first_refusal profile limit 0 (standing_in_all 1 (texts ++ text ∷ []))
      ≡ option_or (first_refusal profile limit 0 (standing_in_all 1 texts)) (first_refusal profile limit (0 + length (standing_in_all 1 texts)) (standing_in (1 + length texts) text))
  refusal_of_more = ap (first_refusal profile limit 0) (standing-append 1 texts text) ∙ refusal-append profile limit 0 (standing_in_all 1 texts) (standing_in (1 + length texts) text)

  -- a refusal stays, whatever file comes
  pub refused_still : (fault : AnalysisFault) → AnalysesTo profile limit texts (Err fault) → AnalysesTo profile limit (texts ++ text ∷ []) (Err fault)
  refused_still fault is =
      refusal_of_more ∙ ap (λ first. option_or first (first_refusal profile limit (0 + length (standing_in_all 1 texts)) (standing_in (1 + length texts) text))) is

  module _ (file : ℕ) (number : file ≡ length texts + 1) (analyses : List Analysis) (said : AnalysesTo profile limit texts (Ok (map analysed analyses))) (before : ℕ) (counted : before ≡ length analyses) where
    here : (o : Option AnalysisFault) → first_refusal profile limit before (standing_in file text) ≡ o → first_refusal profile limit 0 (standing_in_all 1 (texts ++ text ∷ [])) ≡ o
    here o is =
        let many : 0 + length (standing_in_all 1 texts) ≡ before = omega (arith, as_many profile limit (standing_in_all 1 texts) (map analysed analyses) said.1, length-map analyses analysed, counted) in
        let nth : 1 + length texts ≡ file = omega (arith, number) in
        refusal_of_more
        ∙ ap (λ first. option_or first (first_refusal profile limit (0 + length (standing_in_all 1 texts)) (standing_in (1 + length texts) text))) said.0
        ∙ ap (λ n. first_refusal profile limit n (standing_in (1 + length texts) text)) many
        ∙ ap (λ n. first_refusal profile limit before (standing_in n text)) nth
        ∙ is

    pub more_refused : (fault : AnalysisFault) → first_refusal profile limit before (standing_in file text) ≡ Some fault → AnalysesTo profile limit (texts ++ text ∷ []) (Err fault)
    more_refused fault is = here (Some fault) is

    pub more_said : (more : List Analysis) → first_refusal profile limit before (standing_in file text) ≡ None → AreAnalysesOf profile (standing_in file text) (map analysed more)
        → AnalysesTo profile limit (texts ++ text ∷ []) (Ok (map analysed (analyses ++ more)))
    more_said more none are =
        let nth : file ≡ 1 + length texts = omega (arith, number) in
        let all = analyses-append profile limit (standing_in_all 1 texts) (standing_in (1 + length texts) text) (map analysed analyses) (map analysed more) said.1
        (subst (λ n. AreAnalysesOf profile (standing_in n text) (map analysed more)) nth are) in (
          here None none,
          subst (AreAnalysesOf profile (standing_in_all 1 (texts ++ text ∷ []))) (sym (map-append analysed analyses more))
              (subst (λ these. AreAnalysesOf profile these (map analysed analyses ++ map analysed more)) (sym (standing-append 1 texts text)) all),
        )

module _ (setting : Setting) (names texts : List (List ℕ)) (file : ℕ) (number : file ≡ length texts + 1) (text : List ℕ) (old : AnalysedLines) (are : AreLines names setting.profile.now setting.limit texts old) where
  pub file_added : (new : AnalysedLines) → AddsLines setting (standing_in file text) old new → AreLines names setting.profile.now setting.limit (texts ++ text ∷ []) new
  file_added new adds = record {
    analyses = are.analyses ++ adds.more;
    said = more_said setting.profile.now setting.limit texts text file number are.analyses are.said old.records are.counted adds.more adds.none_refused adds.are;
    named = ap (λ held. map string_bytes held.items) adds.behind.named ∙ are.named;
    counted = omega (arith, adds.behind.counted, are.counted, length-append are.analyses adds.more);
    told =
        adds.behind.told
        ∙ ap (λ these. string_bytes old.text ++ flat_map (lines_of these) adds.more) are.named
        ∙ ap (λ front. front ++ flat_map (lines_of names) adds.more) are.told
        ∙ sym (flat_map-append (lines_of names) are.analyses adds.more);
  }

  pub file_refused : (fault : AnalysisFault) → first_refusal setting.profile.now setting.limit old.records (standing_in file text) ≡ Some fault
      → AnalysesTo setting.profile.now setting.limit (texts ++ text ∷ []) (Err fault)
  file_refused fault is = more_refused setting.profile.now setting.limit texts text file number are.analyses are.said old.records are.counted fault is
