-- How far the files of an analysis have come, and what an analysis is answered.
use Rattle.zeb_program.proofs.Cited.{◌≡◌, ◌∙◌, ◌+◌, ℕ, suc, List, [], ◌∷◌, ◌++◌, Vec, ap, append_assoc, arith, length, map, refl, subst, sym, Option, Some, None, IfSome, Result, Ok, String, string_bytes, Global, append-nil, length-map, map-append, Directive, split_of, AnalysedLines, Refusal, HasLines, Place, AreShort, unmarked_from, unmarked_of, AreTold, Tells, ReadsContent, AreTexts, FindsFiles}
use Rattle.std.proofs.Common.{length-append}
use Rattle.zeb_program.specs.declared.analyses.AnalysedFiles.{AnalysedFiles}
use Rattle.zeb_program.specs.PrivateAnalyses.{ReadsFiles}
use Rattle.zeb_program.proofs.FileLemmas.{content_told}
use Rattle.zeb_program.proofs.ReaderLemmas.{Ends, GivesNext, IsMet, met_end, met_next, met_start, more_short, same_contents}

abbrev texts_of : List (Vec ℕ Global) → List (List ℕ)
texts_of contents = map (λ content. content.items) contents

-- one file more
unmarked-append : (file : ℕ) (texts : List (List ℕ)) (text : List ℕ) → unmarked_of file (texts ++ text ∷ []) ≡ unmarked_of file texts ++ unmarked_from (file + length texts) 1 (split_of text).slices
unmarked-append file [] text =
    let same : file ≡ file + 0 = omega arith in
    append-nil (unmarked_from file 1 (split_of text).slices) ∙ ap (λ n. unmarked_from n 1 (split_of text).slices) same
unmarked-append file (first ∷ texts) text =
    let same : file + 1 + length texts ≡ file + suc (length texts) = omega arith in
    let here = unmarked_from file 1 (split_of first).slices in
    let others = unmarked_of (file + 1) texts in
    ap (λ these. here ++ these) (unmarked-append (file + 1) texts text)
    ∙ sym (append_assoc here others (unmarked_from (file + 1 + length texts) 1 (split_of text).slices))
    ∙ ap (λ n. (here ++ others) ++ unmarked_from n 1 (split_of text).slices) same

-- one file more, of those that a walk gives
texts_behind : (told : List ℕ → Option (List ℕ)) (paths texts : List (List ℕ)) (path text : List ℕ) → AreTexts told paths texts → IfSome (told path) (λ bytes. text ≡ bytes) → AreTexts told (paths ++ path ∷ []) (texts ++ text ∷ [])
texts_behind told [] [] path text all one = (one, tt)
texts_behind told [] (other ∷ texts) path text all one = absurd all
texts_behind told (first ∷ paths) [] path text all one = absurd all
texts_behind told (first ∷ paths) (other ∷ texts) path text all one = (all.0, texts_behind told paths texts path text all.1 one)

-- So many files are read, those at these paths, which a walk gave; these paths are left, and this comes of the records so far.
pub record IsRead (tells : List ℕ → Option (List ℕ)) (profile : List Directive) (limit : ℕ) (named walked : List (List ℕ)) (next : ℕ) (lines : Result AnalysedLines Refusal) (unmarked : List Place) (left : List (List ℕ)) : Type 0 where
  pub contents : List (Vec ℕ Global)
  pub number : next ≡ length contents + 1
  pub short : AreShort (texts_of contents)
  pub lines_are : HasLines profile limit (texts_of contents) lines
  pub unmarked_are : unmarked ≡ unmarked_of 1 (texts_of contents)
  pub met : (files : List (List ℕ)) → AreTold tells named files → IsMet (λ content. Some content.items) tells files contents left
  pub texts_read : AreTexts tells walked (texts_of contents)

module _ (tells : List ℕ → Option (List ℕ)) (profile : List Directive) (limit : ℕ) (named : List (List ℕ)) where
  pub begins : (lines : Result AnalysedLines Refusal) (unmarked : List Place) (left : List (List ℕ)) → HasLines profile limit [] lines → unmarked ≡ [] → left ≡ named
      → IsRead tells profile limit named [] 1 lines unmarked left
  begins lines unmarked left has none all = record {
    contents = [];
    number = refl;
    short = tt;
    lines_are = has;
    unmarked_are = none;
    met = λ files told. met_start (λ (content : Vec ℕ Global). Some content.items) tells files [] left named refl all told;
    texts_read = tt;
  }

  module _ (walked : List (List ℕ)) (next : ℕ) (lines : Result AnalysedLines Refusal) (unmarked : List Place) (left later : List (List ℕ)) (read : IsRead tells profile limit named walked next lines unmarked left) where
    -- one file more
    pub goes_on : (path : String Global) (content : Vec ℕ Global) (text marked : List ℕ) (newer : Result AnalysedLines Refusal) (others : List Place) (behind : ℕ)
        → GivesNext tells left later (Ok (Some path)) → Ends left (Ok (Some path)) → ReadsContent (tells (string_bytes path)) path (Ok content) → text ≡ content.items → marked ≡ content.items
        → ((texts : List (List ℕ)) → next ≡ length texts + 1 → HasLines profile limit texts lines → HasLines profile limit (texts ++ text ∷ []) newer)
        → others ≡ unmarked ++ unmarked_from next 1 (split_of marked).slices → behind ≡ next + 1
        → IsRead tells profile limit named (walked ++ string_bytes path ∷ []) behind newer others later
    goes_on path content text marked newer others behind gives ended reads same alike adds noted counted =
        let contents = read.contents ++ content ∷ [] in
        let texts = texts_of read.contents in
        let count : next ≡ length texts + 1 = omega (arith, read.number, length-map read.contents (λ (content : Vec ℕ Global). content.items)) in
        let nth : next ≡ 1 + length texts = omega (arith, count) in
        let all : texts ++ text ∷ [] ≡ texts_of contents = ap (λ it. texts ++ it ∷ []) same ∙ sym (map-append (λ (content : Vec ℕ Global). content.items) read.contents (content ∷ [])) in
        record {
          contents = contents;
          number = omega (arith, read.number, counted, length-append read.contents (content ∷ []));
          short = more_short read.contents contents content read.short reads.0 refl;
          lines_are = subst (λ these. HasLines profile limit these newer) all (adds texts count read.lines_are);
          unmarked_are =
              noted
              ∙ ap (λ it. unmarked ++ unmarked_from next 1 (split_of it).slices) (alike ∙ sym same)
              ∙ ap (λ places. places ++ unmarked_from next 1 (split_of text).slices) read.unmarked_are
              ∙ ap (λ n. unmarked_of 1 texts ++ unmarked_from n 1 (split_of text).slices) nth
              ∙ sym (unmarked-append 1 texts text)
              ∙ ap (unmarked_of 1) all;
          met = λ files told.
              met_next (λ (content : Vec ℕ Global). Some content.items) tells files read.contents contents left later path content (read.met files told) gives ended
              (λ file known. ap Some (content_told path file (tells (string_bytes path)) (Ok content) reads known)) refl;
          texts_read = subst (AreTexts tells (walked ++ string_bytes path ∷ [])) (sym (map-append (λ (content : Vec ℕ Global). content.items) read.contents (content ∷ [])))
              (texts_behind tells walked texts (string_bytes path) content.items read.texts_read reads.1);
        }

    -- no path is left
    pub all_read : (at : Tells) (analysed : AnalysedFiles) → tells ≡ at.bytes → analysed.lines ≡ lines → analysed.unmarked.items ≡ unmarked → GivesNext tells left later (Ok None) → FindsFiles at named walked → ReadsFiles at profile limit named analysed
    all_read at analysed are same noted gives found = record {
      texts = texts_of read.contents;
      short = read.short;
      these = λ files told.
          same_contents read.contents files
          (met_end (λ (content : Vec ℕ Global). Some content.items) tells files read.contents left later (read.met files (subst (λ (bytes : List ℕ → Option (List ℕ)). AreTold bytes named files) (sym are) told)) gives);
      walked = walked;
      found = found;
      read = subst (λ (bytes : List ℕ → Option (List ℕ)). AreTexts bytes walked (texts_of read.contents)) are read.texts_read;
      lines = subst (HasLines profile limit (texts_of read.contents)) (sym same) read.lines_are;
      unmarked = noted ∙ read.unmarked_are;
    }
