use Rattle.std.proofs.Common.{◌≡◌, ◌<◌, ◌+◌, ◌*◌, ◌++◌, ◌∷◌, [], ◌∙◌, ap, arith, map, rules, string_bytes, sym, vec_len}
use Rattle.zeb_paths.specs.Walks.{due, due_of, dues_in, dues_left, level_weight, slashed, step_weight}
use Rattle.zeb_paths.proofs.WalkLemmas.{entered_on, folder_heavier, weight_last, weight_more}
use Rattle.zeb_paths.proofs.walk.put_names.Goals as goal

pub loop-name-preserved : goal.loop-name-preserved
loop-name-preserved c =
    let before = c.loop-name.steps.items in
    let after = c.push.new.self.items in
    let folder = due_of c.args.folder.now in
    let names : c.loop-name.names.items ≡ c.pop.new.self.items ++ c.in-Some.name ∷ [] = search rules in
    let path : string_bytes c.in_ok-path.path ≡ slashed folder.path ++ string_bytes c.in-Some.name =
    c.in_ok-path.ensures ∙ ap (λ at. slashed at ++ c.as_str-in-Some.result.now) c.as_str.ensures.value ∙ ap (λ name. slashed folder.path ++ name) c.as_str-in-Some.ensures.value in
    record {
      entered =
          entered_on folder c.pop.new.self.items c.in-Some.name before after _ c.in_ok-push.ensures.items (ap (λ at. due at (folder.level + 1)) path)
          ∙ ap (λ left. dues_in folder (map string_bytes left) ++ dues_left before) (sym names) ∙ c.loop-name.invariant.entered;
      weight =
          weight_more _ (vec_len c.pop.new.self) (vec_len c.loop-name.names) (level_weight (folder.level + 1)) _
          (weight_last after before _ c.in_ok-push.ensures.items) (omega (arith, c.in-Some.ensures.len)) ∙ c.loop-name.invariant.weight;
    }

pub returns-clause-lighter : goal.returns-clause-lighter
returns-clause-lighter c =
    let few : vec_len c.sort_unstable.new.self < 9223372036854775808 = omega (arith, c.sort_unstable.new.self.ok.1, c.sort_unstable.new.self.small) in
    let heavier : level_weight (c.args.folder.now.level + 1) * vec_len c.sort_unstable.new.self < step_weight c.args.folder.now = folder_heavier c.args.folder.now.level (vec_len c.sort_unstable.new.self) c.requires few in
    omega (arith, heavier, c.loop-name.invariant.weight)
