use Rattle.std.proofs.Common.{◌≡◌, [], Err, None, get_or, map, refl, rules, string_bytes, subst, sym}
use Rattle.std.specs.Prelude.{◌⊎◌, Contains, IfErr}
use Rattle.std.proofs.lemmas.List.{take_all, take_more}
use Rattle.zeb_paths.specs.Told.{AreNames, name_below, names_in}
use Rattle.zeb_paths.specs.declared.causes.PathCause.TheVariants.{Memory}
use Rattle.zeb_paths.specs.declared.shelf.Shelved.{Shelved}
use Rattle.zeb_paths.proofs.ShelfLemmas.{has_refused, names_start, names_step}
use Rattle.zeb_paths.proofs.shelf.ShelfPaths.names.Goals as goal

abbrev no_file : Shelved
no_file = record { path = record { ref_ptr = (0, 0); now = [] }; bytes = None }

pub loop-file-init : goal.loop-file-init
loop-file-init g c = names_start c.new-names.result.items c.new-names.ensures.items

pub returns-in_err-add_name_of-clause-refused : goal.returns-in_err-add_name_of-clause-refused
returns-in_err-add_name_of-clause-refused g c =
    let files = c.args.self.now.files.now in
    let i = c.loop-file.file-index in
    let is : c.from_residual.result ≡ Err c.in_err-add_name_of.field-0.0 = search rules in
    subst (λ r. IfErr r (λ cause. (cause ≡ Memory) ⊎ Contains (names_in files c.args.path.now) [])) (sym is)
    (has_refused files i (get_or files i no_file) c.args.path.now c.in_err-add_name_of.field-0.0 (take_more files i no_file c.loop-file-test.true) c.in_err-add_name_of.ensures.refused)

pub loop-file-preserved : goal.loop-file-preserved
loop-file-preserved g c =
    let files = c.args.self.now.files.now in
    let i = c.loop-file.file-index in
    names_step files i (get_or files i no_file) c.args.path.now (name_below c.args.path.now (get_or files i no_file).path.now) (map string_bytes c.loop-file.names.items) (map string_bytes c.add_name_of.new.names.items)
    (take_more files i no_file c.loop-file-test.true) refl c.in_ok-add_name_of.ensures.added c.loop-file.invariant

pub returns-clause-given : goal.returns-clause-given
returns-clause-given g c =
    subst (λ files. AreNames (names_in files c.args.path.now) (map string_bytes c.loop-file.names.items))
    (take_all c.loop-file.file-index c.args.self.now.files.now c.loop-file-test.false) c.loop-file.invariant
