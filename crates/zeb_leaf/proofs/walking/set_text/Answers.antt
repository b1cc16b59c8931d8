-- A text cut before what rises above ASCII, with ASCII behind it, is a text.
use Rattle.zeb_leaf.proofs.Cited.{sym, subst, IsUtf8}
use Rattle.zeb_leaf.proofs.Boundaries.{text_below}
use Rattle.zeb_leaf.proofs.walking.set_text.Goals as goal

pub returns-then-is_ascii-clause-told : goal.returns-then-is_ascii-clause-told
returns-then-is_ascii-clause-told c =
    let put = c.in_ok-set_front.ensures.ok in
    let fit = c.requires.fits.1 in
    let told = c.args.told in
    (put, subst IsUtf8 (sym put) (text_below c.args.text.now told.suffix.now told.shared c.requires.fits.0 told.block c.requires.text fit.shared fit.rises (c.is_ascii.ensures c.if-is_ascii.true)))
