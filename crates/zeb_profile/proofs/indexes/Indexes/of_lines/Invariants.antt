use Rattle.zeb_profile.proofs.Cited.{◌≡◌, ◌+◌, ◌++◌, [], drop, map, fold, first_spelling, numbered, directives_in, NumbersNames}
use Rattle.zeb_profile.proofs.IndexFacts.{names_from}
use Rattle.zeb_profile.proofs.Numbering.{names_after}
use Rattle.zeb_profile.proofs.Spellings.{IsSpelledBy}
use Rattle.zeb_profile.proofs.indexes.Indexes.of_lines.Given as goal

abbrev pub invariant-loop-line : goal.invariant-loop-line
invariant-loop-line l = record {
  numbers : NumbersNames l.indexes.numbers l.indexes.names.items;
  names : fold (numbered (first_spelling (directives_in l.placed))) l.indexes.names.items (names_after l.line-index l.placed) ≡ fold (numbered (first_spelling (directives_in l.placed))) [] (names_after 0 l.placed);
  spelled : IsSpelledBy l.tied l.indexes.names.items (names_from l.line-index l.placed) (names_from 0 l.placed);
}

abbrev pub invariant-loop-target : goal.invariant-loop-target
invariant-loop-target l = record {
  numbers : NumbersNames l.indexes.numbers l.indexes.names.items;
  names : fold (numbered (first_spelling (directives_in l.placed))) l.indexes.names.items (map (λ target. target.name) (drop l.target-index l.target-items) ++ names_after (l.line-index + 1) l.placed) ≡ fold (numbered (first_spelling (directives_in l.placed))) [] (names_after 0 l.placed);
  spelled : IsSpelledBy l.tied l.indexes.names.items (map (λ target. target.name) (drop l.target-index l.target-items) ++ names_from (l.line-index + 1) l.placed) (names_from 0 l.placed);
}
