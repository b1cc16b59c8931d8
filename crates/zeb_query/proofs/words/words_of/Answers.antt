use Rattle.zeb_query.proofs.Cited.{length, sym, ◌∙◌, arith, common_steps, YieldsList-from_chars, YieldsList-turn, YieldsList-end, length_push, at_drop_all, IfOk-weaker, words_with}
use Rattle.std.specs.Str.{chars}
use Rattle.zeb_query.proofs.CuttingLemmas.{words_with-more}
use Rattle.zeb_query.proofs.words.words_of.Goals as goal

pub loop-c-preserved : goal.loop-c-preserved
loop-c-preserved c =
    let t = YieldsList-turn (YieldsList-from_chars c.args.text.now c.utf8.text cc) c.loop-c.yielded _ c.loop-c.yielded_by _ _ c.in-Some.c c.in-Some.is c.next.ensures.steps in
    record {
      in_text = grind (arith, common_steps);
      words_so_far = words_with-more c.loop-c.cutter c.take.new.self c.loop-c.place c.len_utf8-place.result c.in-Some.c (chars c.args.text.now) (length c.loop-c.yielded) _ t c.len_utf8-place.ensures.value (length_push c.loop-c.yielded c.in-Some.c) c.in_ok-take.ensures
          ∙ c.loop-c.invariant.words_so_far;
    }

pub returns : goal.returns
returns c =
    let t = YieldsList-end (YieldsList-from_chars c.args.text.now c.utf8.text cc) c.loop-c.yielded _ c.loop-c.yielded_by _ _ c.in-None.is c.next.ensures.steps in
    let ended = at_drop_all (words_with c.loop-c.cutter c.loop-c.place) (chars c.args.text.now) (length c.loop-c.yielded) (omega (arith, t.1)) in
    IfOk-weaker c.into_words.result _ _ (λ words same. same c.loop-c.place ∙ sym ended ∙ c.loop-c.invariant.words_so_far) c.into_words.ensures
