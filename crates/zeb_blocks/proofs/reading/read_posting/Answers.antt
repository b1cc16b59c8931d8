-- A posting is its three numbers.
use Rattle.zeb_blocks.proofs.Cited.{◌≡◌, ◌++◌, sym, refl, ◌∙◌, Gaps}
use Rattle.zeb_blocks.specs.Numbers.{uleb}
use Rattle.zeb_blocks.proofs.Steps.{Small, no_sysno, no_seq, no_pos, no_gaps, bytes_of-append}
use Rattle.zeb_blocks.proofs.reading.read_posting.Goals as goal

pub returns-in_err-sysno : goal.returns-in_err-sysno
returns-in_err-sysno c = rw c.from_residual.ensures (no_sysno c.args.before c.args.bytes.now c.in_err-sysno.ensures)

pub returns-in_err-seq : goal.returns-in_err-seq
returns-in_err-seq c =
    rw c.from_residual-in_err-seq.ensures (no_seq c.args.before c.args.bytes.now c.in_ok-sysno.behind_sysno.now c.in_ok-sysno.sysno c.in_ok-sysno.ensures.0 c.in_ok-sysno.ensures.1 c.in_err-seq.ensures)

pub returns-in_err-pos : goal.returns-in_err-pos
returns-in_err-pos c =
    rw c.from_residual-in_err-pos.ensures (no_pos c.args.before c.args.bytes.now c.in_ok-sysno.behind_sysno.now c.in_ok-seq.behind_seq.now c.in_ok-sysno.sysno c.in_ok-seq.seq c.in_ok-sysno.ensures.0 c.in_ok-seq.ensures.0 c.in_ok-sysno.ensures.1 c.in_ok-seq.ensures.1 c.in_err-pos.ensures)

pub returns-in_err-posting : goal.returns-in_err-posting
returns-in_err-posting c =
    let gaps : Gaps = record { sysno = c.in_ok-sysno.sysno; seq = c.in_ok-seq.seq; pos = c.in_ok-pos.pos } in
    let small : Small gaps = record { sysno = c.in_ok-sysno.ensures.0; seq = c.in_ok-seq.ensures.0; pos = c.in_ok-pos.ensures.0 } in
    let spelled : c.args.bytes.now ≡ uleb gaps.sysno ++ (uleb gaps.seq ++ (uleb gaps.pos ++ c.in_ok-pos.behind_pos.now)) = rw (c.in_ok-sysno.ensures.1, c.in_ok-seq.ensures.1, c.in_ok-pos.ensures.1) refl in
    rw c.from_residual-in_err-posting.ensures (no_gaps c.args.before c.args.bytes.now c.in_ok-pos.behind_pos.now gaps small spelled c.in_err-posting.ensures)

pub returns : goal.returns
returns c =
    let gaps : Gaps = record { sysno = c.in_ok-sysno.sysno; seq = c.in_ok-seq.seq; pos = c.in_ok-pos.pos } in
    let spelled : c.args.bytes.now ≡ uleb gaps.sysno ++ (uleb gaps.seq ++ (uleb gaps.pos ++ c.in_ok-pos.behind_pos.now)) = rw (c.in_ok-sysno.ensures.1, c.in_ok-seq.ensures.1, c.in_ok-pos.ensures.1) refl in
    (c.in_ok-posting.ensures.0, rw c.in_ok-posting.ensures.1 (spelled ∙ sym (bytes_of-append gaps c.in_ok-pos.behind_pos.now)))
