use Rattle.zeb_words.proofs.Cited.{rules, ◌≡◌, ◌∙◌, ap, ap₂, codes, pos, int_max, int_min, range_inclusive_end, range_inclusive_start, signed_between, IfOk-weaker, new_rule, with_rule, rule_of, ValueParser, number_rule, Some}
use Rattle.clap.specs.declared.builder.value_parser.ValueParser.TheVariants as parser
use Rattle.zeb_words.proofs.program.scanning.Goals as goal

pub returns-clause-app : goal.returns-clause-app
returns-clause-app c =
    let start : range_inclusive_start c.new.result ≡ pos 1 = search rules in
    let end : range_inclusive_end c.new.result ≡ pos 1000 = search rules in
    let one : c.range.result ≡ parser.Signed (pos 1) (pos 1000) =
    let told = rw c.value_parser.ensures at c.range.ensures in
    told ∙ ap₂ (λ low high. signed_between (int_max (pos 0) low) (int_min (pos 4294967295) high)) start end in
    let start-2 : range_inclusive_start c.new-2.result ≡ pos 1 = search rules in
    let end-2 : range_inclusive_end c.new-2.result ≡ pos 1000 = search rules in
    let two : c.range-2.result ≡ parser.Signed (pos 1) (pos 1000) =
    let told = rw c.value_parser-2.ensures at c.range-2.ensures in
    told ∙ ap₂ (λ low high. signed_between (int_max (pos 0) low) (int_min (pos 4294967295) high)) start-2 end-2 in
    let first : rule_of c.number-terms.result ≡ number_rule (codes "number") 1 1000 = c.number-terms.ensures.rule
    ∙ ap (λ (q : ValueParser). record (new_rule (codes "number")) { long = Some (codes "number"); value_names = 1; parser = Some q }) one in
    let second : rule_of c.number-position.result ≡ number_rule (codes "position") 1 1000 = c.number-position.ensures.rule
    ∙ ap (λ (q : ValueParser). record (new_rule (codes "position")) { long = Some (codes "position"); value_names = 1; parser = Some q }) two in
    let with_first = c.in_ok-arg.ensures.shape c.number-terms.ensures.local ∙ ap₂ with_rule c.plain.ensures.app first in
    let with_second = c.in_ok-arg-2.ensures.shape c.number-position.ensures.local ∙ ap₂ with_rule with_first second in
    IfOk-weaker c.arg-3.result _ _ (λ command h. h.shape c.query.ensures.local ∙ ap₂ with_rule with_second c.query.ensures.rule) c.arg-3.ensures
