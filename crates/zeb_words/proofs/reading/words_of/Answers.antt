use Rattle.zeb_words.proofs.Cited.{rules, ◌≡◌, ◌∙◌, Err, codes, subcommand_rows_of, box_value, found_of, one_of, rows_of, out-ArgMatches, out-SubCommand, one_text-rows, IsFlagRead, IsMisuseOf, IsMisusedAct}
use Rattle.zeb_words.proofs.ReadingLemmas.{flag_read, misused_words, other_misuse, pair_read}
use Rattle.zeb_words.proofs.reading.words_of.Goals as goal

pub returns-clause-value : goal.returns-clause-value
returns-clause-value c =
    let m = c.args.matches.now in
    let same = one_text-rows (found_of m) (codes "shows") in
    let flag : IsFlagRead (one_of (codes "shows") (rows_of (found_of m))) c.get_flag-shows.result = flag_read _ _ _ same c.get_flag-shows.ensures.none c.get_flag-shows.ensures.value c.get_flag-shows.ensures.other in
    record {
      config = c.in_ok-config.ensures.ok ∙ c.text_of.ensures;
      database = c.in_ok-database.ensures.value ∙ c.text_of-2.ensures;
      shows = c.get_flag-shows.result;
      flagged = flag;
      name = c.in-Some.name.now;
      given = rows_of (found_of c.in-Some.given.now);
      is = pair_read (λ b. (out-SubCommand (box_value b)).name.now) (λ b. rows_of (found_of (out-SubCommand (box_value b)).matches))
          (out-ArgMatches m).subcommand _ _ c.in-Some.ensures.name c.in-Some.ensures.rows;
      act = c.in_ok-act.ensures.value;
    }

pub returns-in_err-act-clause-why : goal.returns-in_err-act-clause-why
returns-in_err-act-clause-why c =
    let m = c.args.matches.now in
    let rows = rows_of (found_of m) in
    let given = rows_of (found_of c.in-Some.given.now) in
    let same = one_text-rows (found_of m) (codes "shows") in
    let flag : IsFlagRead (one_of (codes "shows") rows) c.get_flag-shows.result = flag_read _ _ _ same c.get_flag-shows.ensures.none c.get_flag-shows.ensures.value c.get_flag-shows.ensures.other in
    let is = pair_read (λ b. (out-SubCommand (box_value b)).name.now) (λ b. rows_of (found_of (out-SubCommand (box_value b)).matches))
    (out-ArgMatches m).subcommand _ _ c.in-Some.ensures.name c.in-Some.ensures.rows in
    let usage = c.in_err-act.field-0.0 in
    let result : c.from_residual-in_err-act.result ≡ Err usage = search rules in
    rw result (other_misuse (λ misuse. IsMisusedAct misuse c.in-Some.name.now c.get_flag-shows.result given) (λ misuse. IsMisuseOf misuse rows (subcommand_rows_of m)) usage
    (λ misuse. misused_words rows (subcommand_rows_of m) c.in-Some.name.now c.get_flag-shows.result given misuse is flag) c.in_err-act.ensures.why)
