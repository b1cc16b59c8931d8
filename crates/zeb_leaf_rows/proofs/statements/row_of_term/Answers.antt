use Rattle.zeb_leaf_rows.proofs.Cited.{Int, Text, ◌≡◌, pos, true, column, register_code, HasBlockFrom, IsRest, ShowsGreatest, blocks_tree, ◌∙◌, refl}
use Rattle.zeb_register.proofs.AsksInTurn.{asks_rows}
use Rattle.std.specs.Ordering.{is_lt}
use Rattle.sqlite.specs.Order.{value_cmp}
use Rattle.zeb_register.proofs.BoundColumns.{looks_up_so, none_bound, number_bound, register_bound, value_bound}
use Rattle.zeb_register.proofs.PostingStatements.{register_of}
use Rattle.zeb_register.proofs.Refusals.{refused}
use Rattle.zeb_leaf_rows.proofs.LeafStatements.{of_term_query, of_term_shown}
use Rattle.zeb_leaf_rows.proofs.statements.row_of_term.Goals as goal

pub look_up-requires : goal.look_up-requires
look_up-requires g c = (of_term_query c.args.at.db.0 (pos c.args.at.index) (pos (register_code c.args.at.register)) c.args.term.now c.args.end).silent

pub returns : goal.returns
returns g c =
    asks_rows (λ trees. ShowsGreatest (λ row. IsRest blocks_tree (register_of c.args.at.db.0 (pos c.args.at.index) (pos (register_code c.args.at.register))) trees row × (column row 0 ≡ Text c.args.term.now) × HasBlockFrom 0 row × (is_lt (value_cmp (column row 1) (Int c.args.end)) ≡ true))) (refused (of_term_query c.args.at.db.0 (pos c.args.at.index) (pos (register_code c.args.at.register)) c.args.term.now c.args.end)) _ _ c.look_up.result
    (λ rows store shown. of_term_shown _ store c.args.at.db.0 (pos c.args.at.index) (pos (register_code c.args.at.register)) c.args.term.now c.args.end _ rows shown)
    (looks_up_so c.look_up.ensures (register_bound c.column-db.ensures.fits c.column-db.ensures.value (c.from-reg.ensures ∙ c.code.ensures) c.params-to_sql.ensures c.params-to_sql-2.ensures c.params-to_sql-3.ensures
    (value_bound c.params-to_sql-4.ensures refl (value_bound c.params-to_sql-5.ensures refl (number_bound c.ranges.end refl c.params-to_sql-6.ensures none_bound)))))
