use Rattle.zeb_image.proofs.Cited.{ap, is_some}
use Rattle.zeb_image.proofs.checking.expectation.Goals as goal

pub returns-clause-call : goal.returns-clause-call
returns-clause-call g c =
    let call = c.in_ok-databases.ensures.call in
    record { idle = call.idle; ok = λ clean. (let it = call.ok clean in (it.0, λ _. it.1 (ap is_some c.in-Some.is))); same = call.same; crash = call.crash }
