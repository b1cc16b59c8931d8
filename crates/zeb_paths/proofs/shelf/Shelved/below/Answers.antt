use Rattle.std.proofs.Common.{◌++◌, ◌∙◌, ap, arith, sym}
use Rattle.std.proofs.lemmas.Str.Pattern.{strip_prefix_char}
use Rattle.zeb_paths.proofs.ShelfLemmas.{in_folder, no_folder}
use Rattle.zeb_paths.proofs.shelf.Shelved.below.Goals as goal

pub returns-in_err-strip_prefix : goal.returns-in_err-strip_prefix
returns-in_err-strip_prefix c = no_folder c.args.folder.now c.args.self.now.path.now c.from_residual.result c.from_residual.ensures c.in_err-strip_prefix.ensures.cases

pub returns : goal.returns
returns c =
    let cut = c.in_ok-strip_prefix.ensures.cases in
    in_folder c.args.folder.now c.args.self.now.path.now c.in_ok-strip_prefix.field-0.now c.strip_prefix-2.result
    (cut.1.1 ∙ ap (λ rest. c.args.folder.now ++ rest) (sym cut.2))
    (strip_prefix_char 47 c.in_ok-strip_prefix.field-0.now c.strip_prefix-2.result c.strip_prefix-2.ensures.cases (omega arith))
