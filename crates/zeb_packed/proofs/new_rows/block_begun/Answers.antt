use Rattle.zeb_packed.proofs.Cited.{◌∙◌, rules, sym, subst, LiesIn, units_of}
use Rattle.zeb_packed.proofs.BegunKeys.{list_left}
use Rattle.zeb_packed.proofs.PackedReads.{empty_lies}
use Rattle.zeb_packed.proofs.UnitTurns.{turns_few}
use Rattle.zeb_packed.proofs.new_rows.block_begun.Goals as goal

pub changed_by-requires-clause-lies : goal.changed_by-requires-clause-lies
changed_by-requires-clause-lies c = subst (LiesIn c.args.block) (sym c.new.ensures.items) (empty_lies c.args.block)

pub spell-requires-clause-some : goal.spell-requires-clause-some
spell-requires-clause-some c none =
    let after = c.in_ok-after.after in
    list_left c.args.run.now (units_of c.new.result.items c.args.known.records) after.list.items after.records c.requires.some c.requires.leaves c.in_ok-after.ensures.turned (sym c.deref.ensures.value ∙ none)

pub returns : goal.returns
returns c = record {
  own = search rules;
  spells = search rules;
  few = turns_few c.args.run.now (units_of c.new.result.items c.args.known.records) (units_of c.in_ok-after.after.list.items c.in_ok-after.after.records) c.in_ok-after.ensures.turned c.requires.changes.few;
  honest = search rules;
}
