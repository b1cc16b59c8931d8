use Rattle.std.proofs.Common.{◌≡◌, ◌∙◌, ◌∷◌, [], sym, arith, Less}
use Rattle.std.proofs.lemmas.List.Sorted.{IsNonDecreasingBy-short}
use Rattle.std.specs.List.Sorted.{IsStrictlySortedBy}
use Rattle.zeb_keys.specs.Order.{key_order}
use Rattle.zeb_register.specs.declared.registers.RecordChange.{RecordChange}
use Rattle.tables.proofs.tests.changes.change_run.Goals as goal

pub run_changes-requires : goal.run_changes-requires
unfolding IsStrictlySortedBy
run_changes-requires g c =
    let key = c.args.one.key in
    let next = c.args.other.key in
    let less : key_order key next ≡ Less = sym (c.order_is_by_parts.ensures.keys key next) ∙ sym c.cmp.ensures ∙ c.in-Less.is in
    let alone = λ (change : RecordChange). IsNonDecreasingBy-short (λ (it : RecordChange). it.sysno) (change ∷ []) (omega arith) in
    record { rising = record { keys = ((less, tt), (tt, tt)); numbers = (alone c.of_record.result, (alone c.of_record-2.result, tt)) } }
