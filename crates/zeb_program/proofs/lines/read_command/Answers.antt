use Rattle.zeb_program.proofs.Cited.{◌∙◌, sym}
use Rattle.zeb_program.proofs.BatchLemmas.{names_find, names_page, names_scan}
use Rattle.zeb_program.proofs.lines.read_command.Goals as goal

pub returns-in-scan : goal.returns-in-scan
returns-in-scan c = names_scan c.args.text.now c.cut_word.result.1.now c.read_scan.result (sym c.cut_word.ensures.word ∙ c.in-scan.is) c.cut_word.ensures.rest c.read_scan.ensures

pub returns-in-find : goal.returns-in-find
returns-in-find c = names_find c.args.text.now c.cut_word.result.1.now c.read_find.result (sym c.cut_word.ensures.word ∙ c.in-find.is) c.cut_word.ensures.rest c.read_find.ensures

pub returns-in-page : goal.returns-in-page
returns-in-page c = names_page c.args.text.now c.cut_word.result.1.now c.read_page.result (sym c.cut_word.ensures.word ∙ c.in-page.is) c.cut_word.ensures.rest c.read_page.ensures
