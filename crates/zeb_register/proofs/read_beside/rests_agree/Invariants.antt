use Rattle.zeb_register.proofs.Cited.{HasGiven, state, Row, HasCleanDisk, IsUnchanged, Survives, Int, ◌≡◌, ◌↔◌, ◌≤◌, false, List, [], ◌∷◌, ◌++◌, IsInOrder, Fits, rests_text, size_of}
use Rattle.zeb_register.proofs.read_beside.rests_agree.Given as goal

abbrev pub invariant-rows : goal.invariant-rows
invariant-rows g l =
    let old = state g.S.Store l.fn.conn in
    let now = state g.S.Store l.rows.conn.now in
    record {
      name : l.rows.conn.ghost_name ≡ l.initial.rows.conn.ghost_name;
      idle : l.fn.conn.in_transaction ≡ false → l.rows.conn.now.in_transaction ≡ false;
      crash : Survives old now (λ _. ⊥);
      within : l.at ≤ size_of l.table l.database;
      turns : l._turn ≤ l.at;
      given : HasCleanDisk now → IsUnchanged old now × ((given : List Row) × HasGiven g.S.Store (rests_text l.table) (Int l.db ∷ []) l.rows.conn.now given
          × (IsInOrder l.database → (more : List Row) → Fits l.table l.database (given ++ more) 0 ↔ Fits l.table l.database more l.at));
    }
