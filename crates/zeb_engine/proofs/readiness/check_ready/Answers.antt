use Rattle.zeb_engine.proofs.Cited.{IsTrue, IsUtf8, rules, state, subst, sym, version_of}
use Rattle.zeb_engine.proofs.LookedReady.{look_held, texts_told, texts_whole}
use Rattle.zeb_engine.proofs.readiness.check_ready.Goals as goal

pub returns : goal.returns
returns g c =
    let idle : IsTrue c.is_autocommit-settled.result = search rules in
    let done = c.check_texts.ensures in
    let old = state g.S.Store c.args.connection.now in
    let version = version_of g.L.Layout.format in
    let profile = c.args.profile.now in
    let result = c.check_texts.result in
    record {
      looks = record {
        settled = λ is_open. sym (c.is_autocommit-settled.ensures.settled idle is_open);
        reads = record { idle = done.looks.idle; same = λ clean. (done.looks.look clean).same; opened = λ clean. (done.looks.look clean).found; crash = done.looks.crash; caused = λ clean. (done.looks.look clean).caused };
        texts = λ clean. texts_told version profile old result (done.looks.look clean).told;
        held = λ clean limits before keeps. look_held version profile limits old (state g.S.Store c.check_texts.new.connection) before keeps result (done.looks.look clean);
        few = done.few;
        whole = λ clean. texts_whole version profile old result (done.looks.look clean).told (subst IsUtf8 c.version-version.ensures c.version-version.utf8) (subst IsUtf8 c.text-text.ensures c.text-text.utf8);
      };
    }
