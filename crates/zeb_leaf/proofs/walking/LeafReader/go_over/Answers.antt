-- Where parts stand at the front of what is left, an entry does if they fit, and tell a text.
use Rattle.zeb_leaf.proofs.Cited.{◌≡◌, ◌∙◌, ◌++◌, [], false, true, Err, take, rules, List, ℕ, ap, sym, subst, Walk, IsStuck, Parts, parts_told, Fit, shared_of, IsUtf8}
use Rattle.zeb_leaf.specs.PrivateTold.{parts_bytes}
use Rattle.zeb_leaf.proofs.Faults.{told_worse}
use Rattle.zeb_leaf.proofs.Parts.{some_parts}
use Rattle.zeb_leaf.proofs.OneEntry.{fit_told, step_set, stuck_no_text, stuck_unfit}
use Rattle.zeb_leaf.proofs.walking.LeafReader.go_over.Goals as goal

pub returns-then-not-fits-clause-answers : goal.returns-then-not-fits-clause-answers
returns-then-not-fits-clause-answers c =
    let told = c.args.told in
    let walk : Walk = record { place = record { term = c.self.inside.term; least = c.self.inside.least }; left = c.self.inside.left.now } in
    let spelled : walk.left ≡ parts_bytes (parts_told told) ++ c.args.left.now = ap (λ (w : Walk). w.left) c.self.view_is ∙ c.requires.spelled in
    let some : ¬ (walk.left ≡ []) = λ none. some_parts (parts_told told) c.args.left.now c.requires.small (sym none ∙ spelled) in
    let unfit : ¬ Fit walk.place (parts_told told) = λ fit.
    let here = subst (λ (term : List ℕ). Fit (record { term = term; least = c.self.inside.least }) (parts_told told)) (sym c.as_slice.ensures) fit in
    let both : false ≡ true = sym c.if-not-fits.true ∙ c.fits.ensures.1 here in
    cc in
    subst IsStuck c.self.view_is (stuck_unfit walk (parts_told told) c.args.left.now some c.requires.small spelled unfit)

pub set_text-requires : goal.set_text-requires
set_text-requires c =
    let told = c.args.told in
    let fit : Fit (record { term = c.self.inside.term; least = c.self.inside.least }) (parts_told told) =
    subst (λ (term : List ℕ). Fit (record { term = term; least = c.self.inside.least }) (parts_told told)) c.as_slice.ensures (c.fits.ensures.0 c.if-not-fits.false) in
    record { text = c.self.invariant; fits = (c.self.inside.least, fit) }

pub returns-in_err-set_text-clause-answers : goal.returns-in_err-set_text-clause-answers
returns-in_err-set_text-clause-answers c =
    let told = c.args.told in
    let walk : Walk = record { place = record { term = c.self.inside.term; least = c.self.inside.least }; left = c.self.inside.left.now } in
    let spelled : walk.left ≡ parts_bytes (parts_told told) ++ c.args.left.now = ap (λ (w : Walk). w.left) c.self.view_is ∙ c.requires.spelled in
    let some : ¬ (walk.left ≡ []) = λ none. some_parts (parts_told told) c.args.left.now c.requires.small (sym none ∙ spelled) in
    let fault = c.in_err-set_text.field-0.0 in
    let is : c.from_residual.result ≡ Err fault = search rules in
    rw is (told_worse (¬ IsUtf8 (take told.shared walk.place.term ++ told.suffix.now)) (IsStuck c.args.self.now) fault
    (λ none. subst IsStuck c.self.view_is (stuck_no_text walk (parts_told told) c.args.left.now some c.requires.small spelled none)) c.in_err-set_text.ensures.told)

pub returns-clause-answers : goal.returns-clause-answers
returns-clause-answers c =
    let told = c.args.told in
    let walk : Walk = record { place = record { term = c.self.inside.term; least = c.self.inside.least }; left = c.self.inside.left.now } in
    let spelled : walk.left ≡ parts_bytes (parts_told told) ++ c.args.left.now = ap (λ (w : Walk). w.left) c.self.view_is ∙ c.requires.spelled in
    let fit : Fit walk.place (parts_told told) =
    subst (λ (term : List ℕ). Fit (record { term = term; least = c.self.inside.least }) (parts_told told)) c.as_slice.ensures (c.fits.ensures.0 c.if-not-fits.false) in
    let new = c.set_text.new.text in
    let whole : new ≡ take told.shared walk.place.term ++ told.suffix.now = c.in_ok-set_text.ensures.told.0 in
    let shared = ap (λ (p : Parts). p.shared) (fit_told walk.place (parts_told told) c.requires.small fit (subst IsUtf8 whole c.in_ok-set_text.ensures.told.1)).parts in (
      step_set walk c.args.self.now (parts_told told) c.args.left.now new c.self.view_is whole c.requires.small spelled fit c.in_ok-set_text.ensures.told.1,
      sym shared ∙ ap (shared_of walk.place.term) (sym whole) ∙ ap (λ (w : Walk). shared_of w.place.term new) c.self.view_is,
    )
