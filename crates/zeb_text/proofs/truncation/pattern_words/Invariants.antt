use Rattle.zeb_text.proofs.Cited.{◌≡◌, ◌++◌, ◌==◌, chars, drop, map, string_bytes, true, cuts_left, cuts_right, cuts_each, symbol_of}
use Rattle.zeb_text.proofs.TruncationLemmas.{built}
use Rattle.zeb_text.proofs.truncation.pattern_words.Given as goal

abbrev pub invariant-loop-at : goal.invariant-loop-at
invariant-loop-at l =
    let plain = map (λ word. map (symbol_of l.cut) (chars (string_bytes word))) l.word-items in
    l.patterns.items ++ built (cuts_left l.cut) (cuts_right l.cut) (cuts_each l.spread) (l.at == 0) (drop l.at plain) ≡ built (cuts_left l.cut) (cuts_right l.cut) (cuts_each l.spread) true plain
