use Rattle.zeb_engine.proofs.Cited.{◌≡◌, ◌≤◌, IsTrue, map, length, take, vec_capacity, AllByRecursion, IsErr, state, HasCleanDisk, Survives, ChangesNothing, answer_of, CommitsOne, EnduresRun, CommandTurns, FindOpen, InTurn, Runs}
use Rattle.zeb_engine.proofs.registers.Session.run_all.Given as goal
use Rattle.zeb_engine.specs.Sessions.{conditions_in}

abbrev pub invariant-loop-command : goal.invariant-loop-command
invariant-loop-command g l =
    let old = state g.S.Store l.fn.self.connection in
    let now = state g.S.Store l.self.connection in
    record {
      count : length l.answers.items ≡ l.command-index;
      room : length l.commands ≤ vec_capacity l.answers;
      under : (l.self.profile ≡ l.fn.self.profile) × (l.self.limits ≡ l.fn.self.limits);
      survives : Survives old now
          (CommitsOne (conditions_in g.L.Layout.format l.fn.self) (take l.command-index l.commands) (map answer_of l.answers.items) old);
      refused : HasCleanDisk now → AllByRecursion IsErr l.answers.items → ChangesNothing old now;
      turns : HasCleanDisk now → InTurn g.S.Store (CommandTurns g.L.Layout.format g.L.Layout.row_work g.L.Layout.block_rows (conditions_in g.L.Layout.format l.fn.self))
          (take l.command-index l.commands) l.answers.items l.fn.self.connection l.fn.self.work l.self.connection l.self.work;
      was_open : HasCleanDisk now → IsTrue now.is_open → IsTrue old.is_open;
      «open» : HasCleanDisk now → FindOpen (take l.command-index l.commands) l.answers.items old now;
      crash : HasCleanDisk now
          → EnduresRun (conditions_in g.L.Layout.format l.fn.self) (take l.command-index l.commands) (map answer_of l.answers.items) old now;
      run : HasCleanDisk now
          → Runs (conditions_in g.L.Layout.format l.fn.self) (take l.command-index l.commands) (map answer_of l.answers.items) old now;
    }
