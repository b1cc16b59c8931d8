use Rattle.zeb_words.proofs.Cited.{◌∙◌, sym, ap, map, subst, string_bytes, IfErr-weaker, IfOk-weaker, rows_of, found_of, is_simple, matches_of, subcommand_of, fault_of, is_simple_and_free, HasKind, NamesNone, NamesWords, IsParsedAs, IsReadFrom, IsRefusedAs, program_app, ◌≡◌, true, false, rules}
use Rattle.zeb_words.proofs.Naming.{all_texts, names_parsed}
use Rattle.zeb_words.proofs.ReadingLemmas.{OwnRefusal, help_refused, own_refused, parser_refused}
use Rattle.zeb_words.proofs.Taking.{none_named}
use Rattle.zeb_words.proofs.words.read_words.Goals as goal

pub returns-in-Ok : goal.returns-in-Ok
returns-in-Ok c =
    let app = c.in_ok-program.ensures in
    let texts = map string_bytes c.args.words.now in
    let has = c.in-Ok.ensures.matches (ap is_simple app) in
    let sound = sym (ap (λ a. fault_of a texts) app) ∙ c.in-Ok.ensures.kinds (ap is_simple_and_free app) in
    let parsed = IfOk-weaker c.words_of.result _ (IsParsedAs texts) (λ named r. record {
      sound = sound;
      read = subst (λ rows. IsReadFrom rows (subcommand_of program_app texts) named) (has.0 ∙ ap (λ a. matches_of a texts) app)
          (subst (λ sub. IsReadFrom (rows_of (found_of c.in-Ok.matches)) sub named) (has.1 ∙ ap (λ a. subcommand_of a texts) app) r);
    }) c.words_of.ensures.value in
    let refused = IfErr-weaker c.words_of.result _ (IsRefusedAs texts) (λ usage own.
    own_refused texts usage sound (subst (λ rows. OwnRefusal rows (subcommand_of program_app texts) usage) (has.0 ∙ ap (λ a. matches_of a texts) app)
    (subst (λ sub. OwnRefusal (rows_of (found_of c.in-Ok.matches)) sub usage) (has.1 ∙ ap (λ a. subcommand_of a texts) app) own))) c.words_of.ensures.why in
    record {
      named = IfOk-weaker c.words_of.result (IsParsedAs texts) (NamesWords texts) (names_parsed texts (all_texts c.args.words.now)) parsed;
      parsed = parsed;
      nameless = IfErr-weaker c.words_of.result (IsRefusedAs texts) (NamesNone texts) (none_named texts) refused;
      refused = refused;
    }

pub returns-in-Err : goal.returns-in-Err
returns-in-Err c =
    let app = c.in_ok-program.ensures in
    let texts = map string_bytes c.args.words.now in
    let kind = subst (λ a. HasKind (fault_of a texts) c.in-Err.error) app (c.in-Err.ensures.kinds (ap is_simple_and_free app)) in
    let no : c.is_help.result ≡ false = search rules in
    let refused = parser_refused texts c.in-Err.error c.usage_of.result (c.is_help.ensures.other no) kind c.usage_of.ensures in
    record { named = tt; parsed = tt; nameless = none_named texts c.usage_of.result refused; refused = refused }

pub returns-then-is_help : goal.returns-then-is_help
returns-then-is_help c =
    let texts = map string_bytes c.args.words.now in
    let yes : c.is_help.result ≡ true = search rules in
    let refused = help_refused texts c.help.result (c.is_help.ensures.alone yes) c.help.ensures in
    record { named = tt; parsed = tt; nameless = none_named texts c.help.result refused; refused = refused }
