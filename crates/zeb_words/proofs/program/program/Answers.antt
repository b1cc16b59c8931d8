use Rattle.zeb_words.proofs.Cited.{codes, new_app}
use Rattle.zeb_words.proofs.Made.{with_other, with_this}
use Rattle.zeb_words.proofs.program.program.Goals as goal
use Rattle.clap.specs.Simple.{app_of}

pub returns : goal.returns
returns c =
    let one = with_other app_of c.with_upkeep-made.result c.with_plain-made.result _ (new_app (codes "stat")) c.with_upkeep-made.ensures c.with_plain-made.ensures in
    let two = with_other app_of c.with_plain-made.result c.with_plain-made-2.result _ (new_app (codes "dump")) one c.with_plain-made-2.ensures in
    let three = with_this app_of c.with_plain-made-2.result c.finding.result c.with_command-made.result _ _ two c.finding.ensures.app c.with_command-made.ensures in
    let four = with_this app_of c.with_command-made.result c.scanning.result c.with_command-made-2.result _ _ three c.scanning.ensures.app c.with_command-made-2.ensures in
    let five = with_other app_of c.with_command-made-2.result c.with_plain-made-3.result _ (new_app (codes "batch")) four c.with_plain-made-3.ensures in
    with_other app_of c.with_plain-made-3.result c.with_plain.result _ (new_app (codes "shell")) five c.with_plain.ensures
