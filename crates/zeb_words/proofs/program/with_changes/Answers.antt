use Rattle.zeb_words.proofs.Made.{with_this}
use Rattle.zeb_words.proofs.program.with_changes.Goals as goal
use Rattle.clap.specs.Simple.{app_of}

pub returns : goal.returns
returns c =
    let one = with_this app_of c.with_options-made.result c.founding.result c.with_command-made.result _ _ c.with_options-made.ensures c.founding.ensures.app c.with_command-made.ensures in
    let two = with_this app_of c.with_command-made.result c.naming.result c.with_command-made-2.result _ _ one c.naming.ensures.app c.with_command-made-2.ensures in
    let three = with_this app_of c.with_command-made-2.result c.naming-2.result c.with_command-made-3.result _ _ two c.naming-2.ensures.app c.with_command-made-3.ensures in
    let four = with_this app_of c.with_command-made-3.result c.changing.result c.with_command-made-4.result _ _ three c.changing.ensures.app c.with_command-made-4.ensures in
    let five = with_this app_of c.with_command-made-4.result c.changing-2.result c.with_command-made-5.result _ _ four c.changing-2.ensures.app c.with_command-made-5.ensures in
    with_this app_of c.with_command-made-5.result c.changing-3.result c.with_command.result _ _ five c.changing-3.ensures.app c.with_command.ensures
