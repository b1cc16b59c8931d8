use Rattle.zeb_text.proofs.Cited.{◌≡◌, ◌+◌, ◌<◌, ◌++◌, ◌==◌, ◌&&◌, ◌||◌, [], length, map, drop, chars, string_bytes, String, Global, sym, ap, ◌∙◌, arith, append-nil, drop_all, length-map, chars_from_encodes, cuts_left, cuts_right, cuts_each, star_if, texts_of, belongs_to_word, symbol_of}
use Rattle.zeb_text.specs.Folding.{folded}
use Rattle.zeb_text.specs.Words.{runs_of}
use Rattle.zeb_text.specs.Truncation.{truncated}
use Rattle.zeb_text.proofs.TruncationLemmas.{built-more, built-truncated, drop_map, map_map, texts_from_bytes}
use Rattle.zeb_text.proofs.truncation.pattern_words.Goals as goal

pub loop-at-preserved : goal.loop-at-preserved
loop-at-preserved c =
    let words = c.deref-word-items.result.now in
    let plain = map (λ word. map (symbol_of c.args.cut) (chars (string_bytes word))) words in
    let n = c.loop-at.at in
    let word = c.word-item.result in
    let next = drop_map (λ word. map (symbol_of c.args.cut) (chars (string_bytes word))) words n word c.loop-at-test.true c.word-item.is in
    let sym_of = λ (word : String Global). map (symbol_of c.args.cut) (chars (string_bytes word)) in
    let long : length plain ≡ c.len.result = length-map words sym_of ∙ c.deref-word-items.ensures.len ∙ sym c.len.ensures in
    let before : c.takes_star-before.result ≡ (cuts_left c.args.cut && (cuts_each c.args.spread || (n == 0))) =
    c.takes_star-before.ensures ∙ ap (λ has. has && (cuts_each c.args.spread || (n == 0))) c.has_star_before.ensures in
    let after : c.takes_star-after.result ≡ (cuts_right c.args.cut && (cuts_each c.args.spread || (n + 1 == length plain))) =
    c.takes_star-after.ensures ∙ ap (λ has. has && (cuts_each c.args.spread || (n + 1 == c.len.result))) c.has_star_after.ensures
    ∙ ap (λ k. cuts_right c.args.cut && (cuts_each c.args.spread || (n + 1 == k))) (sym long) in
    let pattern = c.in_ok-word_pattern.ensures
    ∙ ap (λ bytes. (star_if c.takes_star-before.result ++ map (symbol_of c.args.cut) (chars bytes)) ++ star_if c.takes_star-after.result) c.as_str-in-loop-at.ensures.value in
    let within : n < length plain = omega (arith, length-map words sym_of) in
    rw (c.in_ok-push.ensures.items)
    (built-more (cuts_left c.args.cut) (cuts_right c.args.cut) (cuts_each c.args.spread) n plain c.loop-at.patterns.items _ (sym_of word) c.in_ok-word_pattern.field-0 c.takes_star-before.result c.takes_star-after.result
    within next before after pattern c.loop-at.invariant)

pub returns : goal.returns
returns c =
    let words = c.in_ok-words.words.items in
    let cut = c.args.cut in
    let n = c.loop-at.at in
    let sym_of = λ (word : String Global). map (symbol_of cut) (chars (string_bytes word)) in
    let plain = map sym_of c.deref-word-items.result.now in
    let all : drop n plain ≡ [] = drop_all n plain (omega (arith, length-map c.deref-word-items.result.now sym_of)) in
    let folded_is = chars_from_encodes (folded (chars c.args.term.now)) c.as_str.result.now c.as_str.utf8 (sym (c.as_str.ensures.value ∙ c.in_ok-folded.ensures)) in
    let texts : texts_of words ≡ runs_of (belongs_to_word cut) (folded (chars c.args.term.now)) =
    texts_from_bytes words (runs_of (belongs_to_word cut) (chars c.as_str.result.now)) c.in_ok-words.ensures ∙ ap (runs_of (belongs_to_word cut)) (sym folded_is) in
    sym (append-nil c.loop-at.patterns.items) ∙ rw all at c.loop-at.invariant
    ∙ built-truncated cut c.args.spread plain
    ∙ ap (truncated cut c.args.spread) (ap (map sym_of) c.deref-word-items.ensures.value ∙ sym (map_map (map (symbol_of cut)) (λ word. chars (string_bytes word)) words) ∙ ap (map (map (symbol_of cut))) texts)
