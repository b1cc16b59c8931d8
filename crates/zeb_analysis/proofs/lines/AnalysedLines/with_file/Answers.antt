use Rattle.zeb_analysis.proofs.Cited.{rules, arith, ◌≡◌, ◌∷◌, ◌++◌, [], length, Ok, Err, sym, ap, subst, next_of, AnalysesNext, GivesLines, Setting, place_at}
use Rattle.zeb_analysis.proofs.FileWalk.{left_is_shorter, room_left}
use Rattle.zeb_analysis.proofs.LinesWalk.{LinesWalked, file_added, file_refused, lines_are_refused, lines_begin, lines_end, lines_go_on}
use Rattle.zeb_analysis.proofs.lines.AnalysedLines.with_file.Goals as goal

pub loop-buffer-init : goal.loop-buffer-init
loop-buffer-init c =
    let setting : Setting = record { alloc = c.args.alloc; profile = c.args.profile; limit = c.args.limit } in
    record {
      under =
          subst (λ left. LinesWalked setting c.args.file c.args.bytes.now 1 left c.args.self c.args.self) (sym c.new-left.ensures)
          (lines_begin setting c.args.file c.args.bytes.now c.args.self);
      room = omega (arith, ap length c.new-left.ensures);
    }

pub returns-in_err-analysis : goal.returns-in_err-analysis
returns-in_err-analysis c = λ names texts number are.
    let setting : Setting = record { alloc = c.args.alloc; profile = c.args.profile; limit = c.args.limit } in
    let refused = c.in_err-analysis.field-0.0 in
    let result : c.from_residual-in_err-analysis.result ≡ Err refused = search rules in
    subst (GivesLines names c.args.profile.now c.args.limit (texts ++ c.args.bytes.now ∷ [])) (sym result)
    (λ other. file_refused setting names texts c.args.file number c.args.bytes.now c.args.self are refused
    (lines_are_refused setting c.args.file c.args.bytes.now c.args.self c.loop-buffer.nth c.loop-buffer.left c.loop-buffer.self c.loop-buffer.invariant.under c.analyse_next.new.left refused other
    c.in_err-analysis.ensures))

pub returns : goal.returns
returns c = λ names texts number are.
    let setting : Setting = record { alloc = c.args.alloc; profile = c.args.profile; limit = c.args.limit } in
    file_added setting names texts c.args.file number c.args.bytes.now c.args.self are c.loop-buffer.self
    (lines_end setting c.args.file c.args.bytes.now c.args.self c.loop-buffer.nth c.loop-buffer.left c.loop-buffer.self c.loop-buffer.invariant.under c.analyse_next.new.left
    (subst (λ found. AnalysesNext setting c.loop-buffer.self.records (place_at c.args.file c.loop-buffer.nth) (next_of c.loop-buffer.left) (Ok found) c.analyse_next.new.left) c.in_default.is c.in_ok-analysis.ensures))

pub push-requires : goal.push-requires
push-requires c =
    let setting : Setting = record { alloc = c.args.alloc; profile = c.args.profile; limit = c.args.limit } in
    let found = subst (λ found. AnalysesNext setting c.loop-buffer.self.records (place_at c.args.file c.loop-buffer.nth) (next_of c.loop-buffer.left) (Ok found) c.analyse_next.new.left) c.in-Some.is c.in_ok-analysis.ensures in
    omega (arith, room_left setting c.loop-buffer.self.records c.args.file c.loop-buffer.nth c.loop-buffer.left c.analyse_next.new.left c.in-Some.analysis found)

pub loop-buffer-smaller : goal.loop-buffer-smaller
loop-buffer-smaller c =
    let setting : Setting = record { alloc = c.args.alloc; profile = c.args.profile; limit = c.args.limit } in
    let found = subst (λ found. AnalysesNext setting c.loop-buffer.self.records (place_at c.args.file c.loop-buffer.nth) (next_of c.loop-buffer.left) (Ok found) c.analyse_next.new.left) c.in-Some.is c.in_ok-analysis.ensures in
    omega (arith, left_is_shorter setting c.loop-buffer.self.records c.args.file c.loop-buffer.nth c.loop-buffer.left c.analyse_next.new.left c.in-Some.analysis found)

pub loop-buffer-preserved : goal.loop-buffer-preserved
loop-buffer-preserved c =
    let setting : Setting = record { alloc = c.args.alloc; profile = c.args.profile; limit = c.args.limit } in
    let found = subst (λ found. AnalysesNext setting c.loop-buffer.self.records (place_at c.args.file c.loop-buffer.nth) (next_of c.loop-buffer.left) (Ok found) c.analyse_next.new.left) c.in-Some.is c.in_ok-analysis.ensures in
    let shorter = left_is_shorter setting c.loop-buffer.self.records c.args.file c.loop-buffer.nth c.loop-buffer.left c.analyse_next.new.left c.in-Some.analysis found in
    record {
      under = lines_go_on setting c.args.file c.args.bytes.now c.args.self c.loop-buffer.nth c.loop-buffer.left c.loop-buffer.self c.loop-buffer.invariant.under c.analyse_next.new.left
          c.in-Some.analysis c.push.new.self c.in_ok-push.ensures found;
      room = omega (arith, shorter, c.loop-buffer.invariant.room);
    }
