use Rattle.zeb_text.proofs.Cited.{chars, sym, ◌∙◌, chars_from_encodes}
use Rattle.zeb_text.specs.Folding.{folded}
use Rattle.zeb_text.proofs.cutting.words.Goals as goal

pub returns : goal.returns
returns c =
    let folded_is = chars_from_encodes (folded (chars c.args.text.now)) c.as_str.result.now c.as_str.utf8 (sym (c.as_str.ensures.value ∙ c.in_ok-folded.ensures)) in
    rw folded_is c.runs.ensures
