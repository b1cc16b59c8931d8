use Rattle.std.proofs.Common.{◌≡◌, ◌++◌, ◌∙◌, ap, append_assoc, codes, rules, sym}
use Rattle.std.specs.Prelude.{nat_eq}
use Rattle.std.specs.List.{ends_with}
use Rattle.std.proofs.lemmas.Str.Pattern.{ends_text}
use Rattle.zeb_paths.specs.Walks.{slashed}
use Rattle.zeb_paths.proofs.WalkLemmas.{slash_none, slash_some}
use Rattle.zeb_paths.proofs.walk.path_in.Goals.{then-ends_with, else-ends_with}
use Rattle.zeb_paths.proofs.walk.path_in.Goals as goal

pub returns : goal.returns
returns c =
    let folder = c.args.folder.now in
    let ends : c.ends_with.result ≡ ends_with nat_eq folder (codes "/") = ends_text c.ends_with.result (codes "/") folder c.ends_with.ensures.cases in
    let slash : slashed folder ≡ folder ++ c.if-ends_with.between.now =
    elim c.if-ends_with.branch [
      | then-ends_with w ↦ slash_none folder c.if-ends_with.between.now (sym ends ∙ w.if-ends_with.true) (ap (λ b. b.now) w.between-is)
      | else-ends_with w ↦ slash_some folder c.if-ends_with.between.now (sym ends ∙ w.if-ends_with.false) (ap (λ b. b.now) w.between-is)
    ] in
    let whole : slashed folder ++ c.args.name.now ≡ folder ++ (c.if-ends_with.between.now ++ c.args.name.now) =
    ap (λ front. front ++ c.args.name.now) slash ∙ append_assoc folder c.if-ends_with.between.now c.args.name.now in
    rw whole (search rules)
