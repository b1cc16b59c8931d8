use Rattle.zeb_engine.proofs.Cited.{◌≡◌, ◌≢◌, not, refl, rules, sym, subst, IsTrue, bytes_eq, packed_blocks, plain_rows, version_of, is_earlier}
use Rattle.zeb_engine.proofs.Ready.{texts_agree, texts_apart, texts_differ, texts_equal}
use Rattle.zeb_engine.proofs.RenewalSteps.{first_before, none_taken, second_before}
use Rattle.zeb_engine.proofs.looks.standing_of.Goals.{else-eq-3-via-then-eq-3+else-ne, else-eq-3-via-else-eq-3}
use Rattle.zeb_engine.proofs.looks.standing_of.Goals as goal

pub returns-then-eq-2 : goal.returns-then-eq-2
returns-then-eq-2 g c =
    let own = version_of g.L.Layout.format in
    let given = c.args.version.now in
    let tested : c.eq.result ≡ bytes_eq given c.version-own.result.now = search rules in
    let other = texts_apart c.eq.result given c.version-own.result.now given own tested c.if-eq.false refl c.version-own.ensures in
    let asked : c.eq-else-eq.result ≡ bytes_eq given c.version.result.now = search rules in
    let first = texts_equal c.eq-else-eq.result given c.version.result.now given (version_of plain_rows) asked c.if-eq-2.true refl c.version.ensures in
    (first, subst (λ v. IsTrue (is_earlier v own)) (sym first) (first_before g.L.Layout.format (subst (λ v. v ≢ own) first other)))

pub returns-then-ne : goal.returns-then-ne
returns-then-ne g c =
    let own = version_of g.L.Layout.format in
    let given = c.args.version.now in
    let tested : c.eq.result ≡ bytes_eq given c.version-own.result.now = search rules in
    let other = texts_apart c.eq.result given c.version-own.result.now given own tested c.if-eq.false refl c.version-own.ensures in
    let asked : c.eq-else-eq-2.result ≡ bytes_eq given c.version-else-eq-2.result.now = search rules in
    let second = texts_equal c.eq-else-eq-2.result given c.version-else-eq-2.result.now given (version_of packed_blocks) asked c.if-eq-3.true refl c.version-else-eq-2.ensures in
    let compared : c.ne.result ≡ not (bytes_eq c.version-own.result.now c.version-then-eq-3.result.now) = search rules in
    let later = texts_differ c.ne.result c.version-own.result.now c.version-then-eq-3.result.now own (version_of plain_rows) compared c.if-ne.true c.version-own.ensures c.version-then-eq-3.ensures in
    (second, subst (λ v. IsTrue (is_earlier v own)) (sym second) (second_before g.L.Layout.format (subst (λ v. v ≢ own) second other) later))

pub returns-else-eq-3 : goal.returns-else-eq-3
returns-else-eq-3 g c =
    let own = version_of g.L.Layout.format in
    let given = c.args.version.now in
    let tested : c.eq.result ≡ bytes_eq given c.version-own.result.now = search rules in
    let other = texts_apart c.eq.result given c.version-own.result.now given own tested c.if-eq.false refl c.version-own.ensures in
    let asked : c.eq-else-eq.result ≡ bytes_eq given c.version.result.now = search rules in
    let not_first = texts_apart c.eq-else-eq.result given c.version.result.now given (version_of plain_rows) asked c.if-eq-2.false refl c.version.ensures in
    let once : c.eq-else-eq-2.result ≡ bytes_eq given c.version-else-eq-2.result.now = search rules in
    none_taken g.L.Layout.format given other not_first (elim c.else-eq-3.branch [
      | else-eq-3-via-then-eq-3+else-ne w ↦
          let compared : w.ne.result ≡ not (bytes_eq c.version-own.result.now w.version-then-eq-3.result.now) = search rules in
          λ is. texts_agree w.ne.result c.version-own.result.now w.version-then-eq-3.result.now own (version_of plain_rows) compared w.if-ne.false c.version-own.ensures w.version-then-eq-3.ensures
      | else-eq-3-via-else-eq-3 w ↦
          λ is. absurd (texts_apart c.eq-else-eq-2.result given c.version-else-eq-2.result.now given (version_of packed_blocks) once w.if-eq-3.false refl c.version-else-eq-2.ensures is)
    ])
