use Rattle.zeb_text.proofs.Cited.{◌≡◌, arith, length, map, take, string_bytes, lit<, length-map, length-take, encode_ascii}
use Rattle.zeb_text.proofs.JoinLemmas.{map_more, join-more, join-first}
use Rattle.zeb_text.proofs.cutting.join.Goals as goal
use Rattle.zeb_text.proofs.cutting.join.Goals.{then-at-gt0+in_ok-push, else-at-gt0}

pub loop-at-preserved : goal.loop-at-preserved
loop-at-preserved c =
    let front = map string_bytes (take c.loop-at.at c.args.words.now) in
    let word = c.index-words-at.result in
    let more = map_more string_bytes c.args.words.now c.loop-at.at word c.loop-at-test.true c.index-words-at.is in
    let long : length front ≡ c.loop-at.at = simp (length-map, length-take) (omega arith) in
    elim c.if-at-gt0.branch [
      | then-at-gt0+in_ok-push w ↦ rw (c.in_ok-push_str.ensures.bytes, w.joined-is, w.in_ok-push.ensures.bytes, encode_ascii 32 (lit< tt), c.as_str.ensures.value, c.loop-at.invariant, more, join-more 32 front (string_bytes word) (omega arith))
      | else-at-gt0 w ↦ rw (c.in_ok-push_str.ensures.bytes, w.joined-is, c.as_str.ensures.value, c.loop-at.invariant, more, join-first 32 front (string_bytes word) (omega arith))
    ]
