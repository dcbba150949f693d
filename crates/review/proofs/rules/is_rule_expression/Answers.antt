-- `review::rules::is_rule_expression` meets its contract. Assumes nothing.
use Rattle.std.proofs.Common.{rules, ◌∙◌}
use Rattle.std.proofs.lemmas.List.Sorted.{answers_always}
use Rattle.review.proofs.Expressions.{few_rules, searched}
use Rattle.review.proofs.rules.is_rule_expression.Goals as goal

pub shared_ref_as_front-binary_search_by_key : goal.shared_ref_as_front-binary_search_by_key
shared_ref_as_front-binary_search_by_key c = few_rules _ c.requires

pub returns : goal.returns
returns c = λ b k.
    let found = c.binary_search_by_key.ensures in
    let by_key = found.position (λ noted. noted.expression) (answers_always _ _ _ (λ f a r g called. search rules)) in
    c.is_ok.ensures.value ∙ searched c.args.contents.now c.args.at b k _ found.bound by_key
