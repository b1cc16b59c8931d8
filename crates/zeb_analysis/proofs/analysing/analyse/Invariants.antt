use Rattle.zeb_analysis.proofs.Cited.{◌+◌, drop, map, analysed, standing_in_all}
use Rattle.zeb_analysis.proofs.SoFar.{SoFar}
use Rattle.zeb_analysis.proofs.analysing.analyse.Given as goal

abbrev pub invariant-loop-index : goal.invariant-loop-index
invariant-loop-index l =
    let texts = map (λ file. file.items) l.files in
    SoFar l.profile l.limit 0 (standing_in_all 1 texts) (standing_in_all (l.index + 1) (drop l.index texts)) (map analysed l.analyses.items)
