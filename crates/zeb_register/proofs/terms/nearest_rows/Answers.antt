use Rattle.zeb_register.proofs.terms.nearest_rows.Goals as goal

pub returns-in-Up : goal.returns-in-Up
returns-in-Up g c = rw c.in-Up.is c.rows_from.ensures

pub returns-in-Down : goal.returns-in-Down
returns-in-Down g c = rw c.in-Down.is c.rows_before.ensures
