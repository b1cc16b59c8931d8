use Rattle.zeb_extract.proofs.Cited.{string_bytes}
use Rattle.zeb_extract.proofs.Listed.{only_joined}
use Rattle.zeb_extract.proofs.entries.phrase_terms.Goals as goal

pub returns : goal.returns
returns c =
    only_joined string_bytes c.args.words.now _ _ _ _ c.in_ok-push.ensures.items c.new-terms.ensures.items
    c.new.ensures c.in_ok-join.ensures c.if-is_empty.ensures
