use Rattle.zeb_words.proofs.Cited.{◌∙◌, ap, ap₂, true, IfOk-weaker, app_of_fields, on_top, with_rule}
use Rattle.zeb_words.proofs.program.with_options.Goals as goal

pub returns : goal.returns
returns c =
    let named = ap app_of_fields c.in_ok-bin_name.ensures.0 ∙ c.new.ensures.app in
    let versioned = ap app_of_fields c.version.ensures ∙ ap (on_top (λ s. record s { has_version = true })) (ap app_of_fields c.about.ensures ∙ named) in
    let unnamed = ap app_of_fields c.no_binary_name.ensures ∙ ap (on_top (λ s. record s { no_binary_name = true })) versioned in
    let wanting = ap app_of_fields c.subcommand_required.ensures ∙ ap (on_top (λ s. record s { subcommand_required = true })) unnamed in
    let helpless = ap app_of_fields c.disable_help_subcommand.ensures ∙ ap (on_top (λ s. record s { disable_help_subcommand = true })) wanting in
    let flagless = ap app_of_fields c.disable_version_flag.ensures ∙ ap (on_top (λ s. record s { disable_version_flag = true })) helpless in
    let first = c.in_ok-arg.ensures.shape c.option.ensures.local ∙ ap₂ with_rule flagless c.option.ensures.rule in
    let second = c.in_ok-arg-2.ensures.shape c.option-2.ensures.local ∙ ap₂ with_rule first c.option-2.ensures.rule in
    let third = c.in_ok-arg-3.ensures.shape c.shows.ensures.local ∙ ap₂ with_rule second c.shows.ensures.rule in
    IfOk-weaker c.arg-4.result _ _ (λ command h. h.shape c.version-2.ensures.local ∙ ap₂ with_rule third c.version-2.ensures.rule) c.arg-4.ensures
