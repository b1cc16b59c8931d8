-- What stands behind the separators is what is answered.
use Rattle.zeb_marc.proofs.Cited.{◌∷◌, [], sym, subst, List, ℕ, Some, Ok, Err, take, arith, err_from_is_err_and, with_items_is, Next, Gives}
use Rattle.zeb_marc.specs.Splits.{next_of}
use Rattle.zeb_marc.proofs.ReadingLemmas.{skip_none, skip_some, skip_err, slice_gives_err, slice_gives_ok}
use Rattle.zeb_marc.proofs.Unread.{IsBegun-from_skip, unread_end, unread_skip_err, unread_slice_err, unread_slice_ok}
use Rattle.zeb_marc.proofs.stream.next_record.Goals as goal

pub returns-in_err-first-clause-told : goal.returns-in_err-first-clause-told
returns-in_err-first-clause-told g c = λ text told sound.
    let p = err_from_is_err_and c.from_residual.result c.from_residual.ensures.1 in
    let left = g.R.Source.remaining c.skip_separators.new.source in
    rw (p.1, p.2) (skip_err text c.in_err-first.field-0.0 left left _ _ (c.in_err-first.ensures.told text told) c.in_err-first.ensures.fails sound)

pub returns-in_default-clause-told : goal.returns-in_default-clause-told
returns-in_default-clause-told g c = λ text told sound.
    skip_none c.in_ok-first.field-0 text (g.R.Source.remaining c.skip_separators.new.source) c.in_default.is (c.in_ok-first.ensures.told text told)

pub returns-in_err-length-clause-told : goal.returns-in_err-length-clause-told
returns-in_err-length-clause-told g c = λ text told sound.
    let p = err_from_is_err_and c.from_residual-in_err-length.result c.from_residual-in_err-length.ensures.1 in
    let first = c.in-Some.first in
    let begins = skip_some c.in_ok-first.field-0 first text (g.R.Source.remaining c.skip_separators.new.source) c.in-Some.is (c.in_ok-first.ensures.told text told) in
    let fault = c.in_err-length.field-0.0 in
    let after = g.R.Source.remaining c.read_slice.new.source in
    let given = slice_gives_err (first ∷ begins.rest) c.read_slice.new.room fault after after _ _ (c.in_err-length.ensures.told begins.rest begins.left_is) c.in_err-length.ensures.fails sound in
    rw (p.1, p.2) (subst (λ (next : Next). Gives next (Err fault) [] after) (sym begins.next_is) given)

pub returns-clause-told : goal.returns-clause-told
returns-clause-told g c = λ text told sound.
    let first = c.in-Some.first in
    let begins = skip_some c.in_ok-first.field-0 first text (g.R.Source.remaining c.skip_separators.new.source) c.in-Some.is (c.in_ok-first.ensures.told text told) in
    let after = g.R.Source.remaining c.read_slice.new.source in
    let n = c.in_ok-length.length in
    let room = c.read_slice.new.room in
    let given = slice_gives_ok (first ∷ begins.rest) room n after (c.in_ok-length.ensures.told begins.rest begins.left_is) in
    let kept = with_items_is c.buffer.inside.room room (omega arith) in
    subst (λ (bytes : List ℕ). Gives (next_of text) (Ok (Some n)) (take n bytes) after) (sym kept) (subst (λ (next : Next). Gives next (Ok (Some n)) (take n room) after) (sym begins.next_is) given)

pub returns-in_err-first-clause-unread : goal.returns-in_err-first-clause-unread
returns-in_err-first-clause-unread g c = λ text told.
    let p = err_from_is_err_and c.from_residual.result c.from_residual.ensures.1 in
    rw (p.1, p.2) (unread_skip_err text c.in_err-first.field-0.0 (g.R.Source.remaining c.skip_separators.new.source) (c.in_err-first.ensures.told text told))

pub returns-in_default-clause-unread : goal.returns-in_default-clause-unread
returns-in_default-clause-unread g c = λ text told.
    unread_end c.in_ok-first.field-0 text (g.R.Source.remaining c.skip_separators.new.source) c.in_default.is (c.in_ok-first.ensures.told text told)

pub returns-in_err-length-clause-unread : goal.returns-in_err-length-clause-unread
returns-in_err-length-clause-unread g c = λ text told.
    let p = err_from_is_err_and c.from_residual-in_err-length.result c.from_residual-in_err-length.ensures.1 in
    let first = c.in-Some.first in
    let skipped = g.R.Source.remaining c.skip_separators.new.source in
    let begins = skip_some c.in_ok-first.field-0 first text skipped c.in-Some.is (c.in_ok-first.ensures.told text told) in
    let begun = IsBegun-from_skip c.in_ok-first.field-0 first text begins.rest skipped c.in-Some.is begins.left_is (c.in_ok-first.ensures.told text told) in
    rw (p.1, p.2) (unread_slice_err text first begins.rest c.read_slice.new.room c.in_err-length.field-0.0 (g.R.Source.remaining c.read_slice.new.source) begun (c.in_err-length.ensures.told begins.rest begins.left_is))

pub returns-clause-unread : goal.returns-clause-unread
returns-clause-unread g c = λ text told.
    let first = c.in-Some.first in
    let skipped = g.R.Source.remaining c.skip_separators.new.source in
    let begins = skip_some c.in_ok-first.field-0 first text skipped c.in-Some.is (c.in_ok-first.ensures.told text told) in
    let begun = IsBegun-from_skip c.in_ok-first.field-0 first text begins.rest skipped c.in-Some.is begins.left_is (c.in_ok-first.ensures.told text told) in
    unread_slice_ok text first begins.rest c.read_slice.new.room c.in_ok-length.length (g.R.Source.remaining c.read_slice.new.source) begun (c.in_ok-length.ensures.told begins.rest begins.left_is)
