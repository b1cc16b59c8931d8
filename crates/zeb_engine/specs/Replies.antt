-- What is printed for a reply (Zebra manual, zebraidx; the lines are this program's own). Each line ends with LF, and a dump
-- is its bytes alone.
use Rattle.std.specs.Prelude.{ℕ, ◌==◌, ◌&&◌, if◌then◌else◌, List, [], ◌∷◌, ◌++◌, length, map, codes, string_bytes}
use Rattle.std.specs.Char.{is_ascii_digit}
use Rattle.std.specs.List.{flat_map, list_all}
use Rattle.std.specs.Fmt.{decimal}
use Rattle.std.specs.Str.Parse.{digits_value}
use Rattle.zeb_keys.specs.Registers.{register_text}
use Rattle.zeb_keys.specs.declared.registers.Register.{Register}
use Rattle.zeb_keys.specs.declared.registers.Register.TheVariants.{Word, Phrase, Number}
use Rattle.zeb_analysis.specs.declared.analysing.Analysis.{Analysis}
use Rattle.zeb_analysis.specs.Analysing.{analysed}
use Rattle.zeb_analysis.specs.Printing.{analysis_text}
use Rattle.zeb_register.specs.declared.registers.TermCount.{TermCount}
use Rattle.zeb_engine.specs.declared.replies.Hit.{Hit}
use Rattle.zeb_engine.specs.declared.replies.Holding.{Holding}
use Rattle.zeb_engine.specs.declared.replies.Reply.{Reply}
use Rattle.zeb_engine.specs.declared.replies.Reply.TheVariants.{Done, Changed, Found, Scanned, Counted, Dumped, Analysed}

abbrev pub line : List ℕ → List ℕ
line text = text ++ 10 ∷ []

abbrev pub changed_text : ℕ → ℕ → ℕ → List ℕ
changed_text inserted updated deleted =
    line (codes "inserted " ++ decimal inserted ++ codes " updated " ++ decimal updated ++ codes " deleted " ++ decimal deleted)

abbrev pub hits_text : ℕ → List ℕ
hits_text hits = line (codes "hits " ++ decimal hits)

-- the record's number and its identifier
abbrev pub hit_line : Hit → List ℕ
hit_line hit = line (decimal hit.sysno ++ codes " " ++ string_bytes hit.ident)

-- the number of a key of 18 digits, without leading zeros; another text is no number's, and stays as it is
abbrev pub shown_number : List ℕ → List ℕ
shown_number term = if length term == 18 && list_all is_ascii_digit term then decimal (digits_value 10 term) else term

-- a term as it is printed: a number without leading zeros, and a word or a phrase as it is
abbrev pub shown_term : Register → List ℕ → List ℕ
shown_term Word term = term
shown_term Phrase term = term
shown_term Number term = shown_number term

-- the term and the number of records that have it
abbrev pub entry_line : Register → TermCount → List ℕ
entry_line register entry = line (shown_term register entry.term ++ codes " " ++ decimal entry.records)

-- a line with the number of records, and one with the last number
abbrev pub records_text : ℕ → ℕ → List ℕ
records_text records last = line (codes "records " ++ decimal records) ++ line (codes "last " ++ decimal last)

-- the index's name and its register, the number of terms and that of occurrences
abbrev pub holding_line : Holding → List ℕ
holding_line holding = line (string_bytes holding.index ++ codes ":" ++ register_text holding.register ++ codes " " ++ decimal holding.terms ++ codes " " ++ decimal holding.occurrences)

-- a record with what it is found by, under the names of the indexes
abbrev pub record_lines : List (List ℕ) → Analysis → List ℕ
record_lines names analysis = analysis_text names (analysed analysis)

-- what is printed of a reply: its lines, or of a dump the bytes of the records
abbrev pub reply_text : Reply → List ℕ
reply_text Done = line (codes "ok")
reply_text (Changed inserted updated deleted) = changed_text inserted updated deleted
reply_text (Found hits shown) = hits_text hits ++ flat_map hit_line shown.items
reply_text (Scanned register entries) = flat_map (entry_line register) entries.items
reply_text (Counted records last holdings) = records_text records last ++ flat_map holding_line holdings.items
reply_text (Dumped bytes) = bytes.items
reply_text (Analysed names records) = flat_map (record_lines (map string_bytes names.items)) records.items
