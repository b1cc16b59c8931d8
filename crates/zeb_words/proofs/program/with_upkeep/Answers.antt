use Rattle.zeb_words.proofs.Cited.{codes, new_app}
use Rattle.zeb_words.proofs.Made.{with_other, with_this}
use Rattle.zeb_words.proofs.program.with_upkeep.Goals as goal
use Rattle.clap.specs.Simple.{app_of}

pub returns : goal.returns
returns c =
    let one = with_other app_of c.with_changes-made.result c.with_plain-made.result _ (new_app (codes "check")) c.with_changes-made.ensures c.with_plain-made.ensures in
    let two = with_other app_of c.with_plain-made.result c.with_plain-made-2.result _ (new_app (codes "reindex")) one c.with_plain-made-2.ensures in
    with_this app_of c.with_plain-made-2.result c.founding-upgrade.result c.with_command.result _ _ two c.founding-upgrade.ensures.app c.with_command.ensures
