use Rattle.zeb_profile.proofs.Cited.{arith, ◌≡◌, position_or_len, is_blank}
use Rattle.zeb_profile.proofs.Cuts.{boundary_before_blank, words_of-blank, words_of-cut}
use Rattle.zeb_profile.proofs.lines.first_word.Goals as goal

pub returns-then-is_empty-clause-none : goal.returns-then-is_empty-clause-none
returns-then-is_empty-clause-none c = words_of-blank c.args.text.now c.trim_start-start.result.now c.trim_start-start.ensures (grind arith)

pub split_at-requires : goal.split_at-requires
split_at-requires c =
    let e : c.word_length.result ≡ position_or_len is_blank c.trim_start-start.result.now = cc in
    rw e (boundary_before_blank c.trim_start-start.result.now c.trim_start-start.utf8)

pub returns-clause-word : goal.returns-clause-word
returns-clause-word c =
    let e : c.word_length.result ≡ position_or_len is_blank c.trim_start-start.result.now = cc in
    words_of-cut c.args.text.now c.trim_start-start.result.now _ _ c.word_length.result c.trim_start-start.ensures (grind arith) e c.split_at.ensures.front c.split_at.ensures.back
