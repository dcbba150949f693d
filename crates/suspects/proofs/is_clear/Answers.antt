-- `suspects::is_clear` meets its contract. Assumes nothing.
use Rattle.std.proofs.Common.{◌∙◌, nat_eq, rules, tests}
use Rattle.std.proofs.lemmas.Iterator.{YieldsList-from_slice}
use Rattle.std.proofs.lemmas.Iterator.Search.{all_from_yields_List}
use Rattle.suspects.proofs.InWriting.{zeros_all}
use Rattle.suspects.proofs.is_clear.Goals as goal

pub returns : goal.returns
returns c =
    all_from_yields_List (λ x. nat_eq x 0) _ _ _ c.all.ensures.ran (YieldsList-from_slice c.args.slots.now (cc)) (λ x b q k. search (rules, tests))
    ∙ zeros_all c.args.slots.now
