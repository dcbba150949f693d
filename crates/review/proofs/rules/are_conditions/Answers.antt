-- `review::rules::are_conditions` meets its contract. Assumes nothing.
use Rattle.std.proofs.Common.{◌∙◌, rules, tests}
use Rattle.std.proofs.lemmas.Iterator.{YieldsList-from_slice}
use Rattle.std.proofs.lemmas.Iterator.Search.{all_from_yields_List}
use Rattle.review.proofs.ToldRules.{is_condition, all_found}
use Rattle.review.proofs.rules.are_conditions.Goals as goal

pub returns : goal.returns
returns c = λ b h.
    all_from_yields_List (is_condition b) _ _ _ c.all.ensures.ran (YieldsList-from_slice c.args.words.now (cc)) (λ x t q k. search (rules, tests, h)) ∙ all_found b c.args.words.now
