-- A file whose analyses are put behind others.
use Rattle.zeb_analysis.proofs.Cited.{◌≡◌, ◌≢◌, ◌∙◌, ℕ, ◌+◌, List, [], ◌∷◌, ◌++◌, length, length-append, length-map, map, map-append, append-nil, append_assoc, Some, None, Ok, Err, sym, ap, arith, next_of, Analysis, AnalysisFault, AnalysesNext, Extends, Memory, Setting, analysed, first_refusal, place_at}
use Rattle.zeb_analysis.specs.Analysing.{standing_in}
use Rattle.zeb_analysis.proofs.FileWalk.{IsWalked, before_first, walk_ends, walk_goes_on, walk_is_refused}

-- so far: what was analysed behind the first analyses, and what is left of the file
pub record Walked (setting : Setting) (file : ℕ) (text : List ℕ) (nth : ℕ) (left : List ℕ) (old now : List Analysis) : Type 0 where
  pub done : List Analysis
  pub longer : now ≡ old ++ done
  pub walked : IsWalked setting (length (map analysed old)) file text nth left done

module _ (setting : Setting) (file : ℕ) (text : List ℕ) (old : List Analysis) where
  pub walk_begins : Walked setting file text 1 text old old
  walk_begins = record { done = []; longer = sym (append-nil old); walked = before_first setting (length (map analysed old)) file text }

  module _ (nth : ℕ) (left : List ℕ) (now : List Analysis) (under : Walked setting file text nth left old now) (before : ℕ) (many : before ≡ length now) (after : List ℕ) where
    counted : before ≡ length (map analysed old) + length (map analysed under.done)
    counted = many ∙ ap length under.longer ∙ omega (arith, length-append old under.done, length-map old analysed, length-map under.done analysed)

    pub file_ends : AnalysesNext setting before (place_at file nth) (next_of left) (Ok None) after
        → Extends setting.profile.now setting.limit (standing_in file text) (map analysed old) (map analysed now)
    file_ends h =
        let all = walk_ends setting (length (map analysed old)) file text nth left under.done under.walked before counted after h in
        record {
          more = map analysed under.done;
          longer = ap (map analysed) under.longer ∙ map-append analysed old under.done;
          none_refused = all.0;
          are = all.1;
        }

    pub file_is_refused : (fault : AnalysisFault) → fault ≢ Memory → AnalysesNext setting before (place_at file nth) (next_of left) (Err fault) after
        → first_refusal setting.profile.now setting.limit (length (map analysed old)) (standing_in file text) ≡ Some fault
    file_is_refused fault other h = walk_is_refused setting (length (map analysed old)) file text nth left under.done under.walked before counted fault after other h

    pub file_goes_on : (analysis : Analysis) (longer : List Analysis) → longer ≡ now ++ analysis ∷ [] → AnalysesNext setting before (place_at file nth) (next_of left) (Ok (Some analysis)) after
        → Walked setting file text (nth + 1) after old longer
    file_goes_on analysis longer is h = record {
      done = under.done ++ analysis ∷ [];
      longer = is ∙ ap (λ these. these ++ analysis ∷ []) under.longer ∙ append_assoc old under.done (analysis ∷ []);
      walked = walk_goes_on setting (length (map analysed old)) file text nth left under.done under.walked before counted analysis after h;
    }
