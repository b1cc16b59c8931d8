use Rattle.zeb_profile.proofs.Cited.{◌≡◌, ◌∙◌, length, position, unwrap_or, is_blank}
use Rattle.zeb_profile.proofs.IndexFacts.{unwrap_position}
use Rattle.zeb_profile.proofs.lines.word_length.Goals as goal

pub returns : goal.returns
returns c =
    let found : c.unwrap_or.result ≡ unwrap_or (position is_blank c.args.bytes.now) (length c.args.bytes.now) = cc in
    found ∙ unwrap_position is_blank c.args.bytes.now
