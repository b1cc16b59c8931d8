use Rattle.zeb_engine.proofs.Cited.{◌≢◌, Result, Ok, Err, OnOk, IfErr, ap, state, RegFault, register_refusal, IsFailing, why_of, fault_fails, IsAskRefusal, LeavesNoDatabase, Answers, IfDamaged}
use Rattle.zeb_register.specs.declared.RegFault.TheVariants as register
use Rattle.zeb_engine.proofs.ReadsInTurn.{fault_asked}
use Rattle.zeb_engine.proofs.writes.apply.Goals as goal

-- it is refused for no damage
whole_answers : (Done : Type 0) (r : Result (Unit {0}) RegFault) → r ≢ Err register.Damaged → OnOk r Done → Answers (IfDamaged ⊥) (λ _. Done) r
whole_answers Done (Ok x) whole did = did
whole_answers Done (Err fault) whole did = λ is. whole (ap Err is)

whole_fails : (r : Result (Unit {0}) RegFault) → r ≢ Err register.Damaged → IfErr r (λ fault. IsFailing (why_of (register_refusal fault)))
whole_fails (Ok x) whole = tt
whole_fails (Err fault) whole = fault_fails fault (λ is. whole (ap Err is))

any_asked : (r : Result (Unit {0}) RegFault) → IfErr r (λ fault. IsAskRefusal (register_refusal fault))
any_asked (Ok x) = tt
any_asked (Err fault) = fault_asked fault

-- ---- what is done to the rows

pub returns-in-Init-clause-works : goal.returns-in-Init-clause-works
returns-in-Init-clause-works g c clean inside store =
    rw c.in-Init.is
    (whole_answers (LeavesNoDatabase g.L.Layout.format c.in-Init.profile.now c.in-Init.pattern.now (state g.S.Store c.init.new.tx.conn.now).now) c.init.result c.init.ensures.whole (c.init.ensures.begins clean inside store))

pub returns-in-Create-clause-works : goal.returns-in-Create-clause-works
returns-in-Create-clause-works g c clean inside store = rw c.in-Create.is (c.create.ensures.makes clean inside store)

pub returns-in-Drop-clause-works : goal.returns-in-Drop-clause-works
returns-in-Drop-clause-works g c clean inside store = rw c.in-Drop.is (c.take.ensures.takes clean inside store)

pub returns-in-Reindex-clause-works : goal.returns-in-Reindex-clause-works
returns-in-Reindex-clause-works g c clean inside store = rw c.in-Reindex.is (c.reindex.ensures.remakes clean inside store)

pub returns-in-Upgrade-clause-works : goal.returns-in-Upgrade-clause-works
returns-in-Upgrade-clause-works g c clean inside store = rw c.in-Upgrade.is (c.upgrade.ensures.remakes clean inside store)

-- ---- which refusals it gives

pub returns-in-Init-clause-few : goal.returns-in-Init-clause-few
returns-in-Init-clause-few g c = rw c.in-Init.is (whole_fails c.init.result c.init.ensures.whole)

pub returns-in-Create-clause-few : goal.returns-in-Create-clause-few
returns-in-Create-clause-few g c = rw c.in-Create.is (any_asked c.create.result)

pub returns-in-Drop-clause-few : goal.returns-in-Drop-clause-few
returns-in-Drop-clause-few g c = rw c.in-Drop.is (any_asked c.take.result)

pub returns-in-Reindex-clause-few : goal.returns-in-Reindex-clause-few
returns-in-Reindex-clause-few g c = rw c.in-Reindex.is (any_asked c.reindex.result)

pub returns-in-Upgrade-clause-few : goal.returns-in-Upgrade-clause-few
returns-in-Upgrade-clause-few g c = rw c.in-Upgrade.is (any_asked c.upgrade.result)
