use Rattle.zeb_text.proofs.Cited.{chars, sym, ◌∙◌, chars_from_encodes, nfd, default_case_fold}
use Rattle.zeb_text.specs.Folding.{folded}
use Rattle.std.proofs.lemmas.Result.{IfOk-weaker}
use Rattle.zeb_text.proofs.AsciiFolding.{folded_ascii}
use Rattle.zeb_text.proofs.folding.fold.Goals as goal

pub returns-then-is_ascii : goal.returns-then-is_ascii
returns-then-is_ascii c = IfOk-weaker c.to_ascii_lowercase.result _ _ (λ key lower. lower ∙ folded_ascii c.args.text.now c.if-is_ascii.ensures.cases) c.to_ascii_lowercase.ensures.ok

pub returns : goal.returns
unfolding folded
returns c =
    let decomposed = chars_from_encodes (nfd (chars c.args.text.now)) c.as_str.result.now c.as_str.utf8 (sym (c.as_str.ensures.value ∙ c.in_ok-decomposed.ensures)) in
    let caseless = chars_from_encodes (default_case_fold (chars c.as_str.result.now)) c.as_str-2.result.now c.as_str-2.utf8 (sym (c.as_str-2.ensures.value ∙ c.in_ok-caseless.ensures)) in
    let key = chars_from_encodes (nfd (chars c.as_str-2.result.now)) c.as_str-3.result.now c.as_str-3.utf8 (sym (c.as_str-3.ensures.value ∙ c.in_ok-key.ensures)) in
    rw (decomposed, caseless, key) c.without_diacritical_marks.ensures
