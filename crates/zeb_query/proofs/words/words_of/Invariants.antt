use Rattle.zeb_query.proofs.Cited.{◌≡◌, ◌+◌, length, drop, words_at, words_with}
use Rattle.std.specs.Str.{chars}
use Rattle.zeb_query.proofs.words.words_of.Given as goal

abbrev pub invariant-loop-c : goal.invariant-loop-c
invariant-loop-c l = record {
  in_text : l.place + length l.c-iterator.rest.now ≡ length l.text;
  words_so_far : words_with l.cutter l.place (drop (length l.yielded) (chars l.text)) ≡ words_at 0 (chars l.text);
}
