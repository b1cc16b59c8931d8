use Rattle.zeb_text.proofs.Cited.{◌≡◌, ◌+◌, ◌++◌, [], ◌∷◌, length, map, take, chars, if◌then◌else◌, ap, ◌∙◌, arith, length_push, append_assoc, take_all, YieldsList-from_chars, YieldsList-turn, YieldsList-end, Char, Star, symbol_of}
use Rattle.zeb_text.proofs.JoinLemmas.{map_more}
use Rattle.zeb_text.proofs.truncation.push_word.Goals as goal
use Rattle.zeb_text.proofs.truncation.push_word.Goals.{After-is_star}

-- the symbols of one more character
turn : (c : After-is_star) → map (symbol_of c.args.cut) (take (length c.loop-c.yielded + 1) (chars c.args.word.now)) ≡ map (symbol_of c.args.cut) (take (length c.loop-c.yielded) (chars c.args.word.now)) ++ symbol_of c.args.cut c.in-Some.c ∷ []
turn c =
    let t = YieldsList-turn (YieldsList-from_chars c.args.word.now c.utf8.word cc) c.loop-c.yielded _ c.loop-c.yielded_by _ _ c.in-Some.c c.in-Some.is c.next.ensures.steps in
    map_more (symbol_of c.args.cut) (chars c.args.word.now) (length c.loop-c.yielded) c.in-Some.c t.0 t.1

pub loop-c-preserved-in-Continue-1 : goal.loop-c-preserved-in-Continue-1
loop-c-preserved-in-Continue-1 c =
    let more = turn (goal.at.loop-c-preserved-in-Continue-1 c).After-is_star in
    let symbol : symbol_of c.args.cut c.in-Some.c ≡ Star = c.is_star.ensures ∙ ap (λ b. if b then Star else Char c.in-Some.c) c.if-is_star.true in
    rw (length_push c.loop-c.yielded c.in-Some.c, c.in_ok-push_star.ensures, c.loop-c.invariant, more, symbol) (simp append_assoc)

pub loop-c-preserved : goal.loop-c-preserved
loop-c-preserved c =
    let more = turn (goal.at.loop-c-preserved c).After-is_star in
    let symbol : symbol_of c.args.cut c.in-Some.c ≡ Char c.in-Some.c = c.is_star.ensures ∙ ap (λ b. if b then Star else Char c.in-Some.c) c.if-is_star.false in
    rw (length_push c.loop-c.yielded c.in-Some.c, c.in_ok-push_char.ensures, c.loop-c.invariant, more, symbol) (simp append_assoc)

pub returns : goal.returns
returns c =
    let end = YieldsList-end (YieldsList-from_chars c.args.word.now c.utf8.word cc) c.loop-c.yielded _ c.loop-c.yielded_by _ _ c.in-None.is c.next.ensures.steps in
    let all = take_all (length c.loop-c.yielded) (chars c.args.word.now) (omega (arith, end.1)) in
    rw all at c.loop-c.invariant
