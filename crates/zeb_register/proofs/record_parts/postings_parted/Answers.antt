use Rattle.zeb_register.proofs.Cited.{◌∙◌, sym}
use Rattle.zeb_register.proofs.RecordParts.{lies_so, own_unit, turned_as}
use Rattle.zeb_register.proofs.record_parts.postings_parted.Goals as goal

pub returns-then-not-are_same-clause-turned : goal.returns-then-not-are_same-clause-turned
returns-then-not-are_same-clause-turned c told found = c.are_same.ensures.other c.if-not-are_same.true (c.deref.ensures.value ∙ own_unit c.args.change.now.sysno c.args.list.now c.in_ok-parted.parted.own.items c.in_ok-parted.ensures.own ∙ found)

pub returns-clause-turned : goal.returns-clause-turned
returns-clause-turned c =
    let change = c.args.change.now in
    let list = c.args.list.now in
    let parts = c.in_ok-parted.ensures in
    let found = sym (own_unit change.sysno list c.in_ok-parted.parted.own.items parts.own) ∙ sym c.deref.ensures.value ∙ c.are_same.ensures.same c.if-not-are_same.false in
    turned_as change list c.in_ok-parted.parted.before.items c.deref-2.result.now c.requires.lies c.requires.stored found parts.before (c.deref-2.ensures.value ∙ parts.behind) c.in_ok-joined.field-0.items c.in_ok-joined.ensures

pub returns-clause-lies : goal.returns-clause-lies
returns-clause-lies c =
    let change = c.args.change.now in
    let list = c.args.list.now in
    let parts = c.in_ok-parted.ensures in
    let found = sym (own_unit change.sysno list c.in_ok-parted.parted.own.items parts.own) ∙ sym c.deref.ensures.value ∙ c.are_same.ensures.same c.if-not-are_same.false in
    lies_so change list c.in_ok-parted.parted.before.items c.deref-2.result.now c.requires.lies c.requires.stored found parts.before (c.deref-2.ensures.value ∙ parts.behind) c.in_ok-joined.field-0.items c.in_ok-joined.ensures
