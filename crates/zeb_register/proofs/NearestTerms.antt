-- A term whose count can't be shown, where those of all nearer ones are listed: of these there are no more.
use Rattle.zeb_register.proofs.Cited.{Trees, ◌<◌, ℕ, ℤ, arith, List, length, Register, TermCount, Format, HidesCount, HidesNearest, ListsCounts}
use Rattle.zeb_register.proofs.CountLemmas.{term_total}
use Rattle.zeb_register.proofs.CountLists.{shown_listed}
use Rattle.zeb_register.proofs.RisingLists.{no_longer}

module _ (format : Format) (trees : Trees) (db : ℤ) (index : ℕ) (register : Register) where
  pub hides_next : (IsOn : List ℕ → Type 0) (IsNearer : List ℕ → List ℕ → Type 0) (n : ℕ) (term : List ℕ) → IsOn term → HidesCount format trees db index register term → (terms : List TermCount) → length terms < n
      → ListsCounts format trees db index register (λ other. IsOn other × IsNearer other term) terms → HidesNearest format trees db index register IsOn IsNearer n
  hides_next IsOn IsNearer n term on hidden terms fewer nearer = record {
    term = term;
    on = on;
    hidden = hidden;
    few = λ some up each.
        let within = no_longer term_total terms some nearer.rising up (λ t h. let it = each t h in shown_listed format trees db index register (λ other. IsOn other × IsNearer other term) terms nearer t (it.0, it.1) it.2 it.3.0) in
        omega (arith, fewer, within);
  }
