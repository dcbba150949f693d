-- The entry's outcome settles the verdict. Assumes nothing.
use Rattle.std.proofs.Common.{ap, ◌∙◌, sym}
use Rattle.model.specs.Chains.{settle}
use Rattle.walks.specs.Walks.{outcome_of}
use Rattle.walks.proofs.Walks.{settled, chains_say}
use Rattle.walks.proofs.chain_verdict.Goals as goal

pub returns-in-Some : goal.returns-in-Some
returns-in-Some c =
    let a = c.args in let w = c.walk_chain-walk in
    chains_say a.s.now a.answers.now a.p a.contents.now a.policy w.result w.ensures _
    (c.number.ensures ∙ settled a.policy c.in-Some.verdict ∙ ap (λ o. settle a.policy (outcome_of o)) (sym c.in-Some.is))

pub returns-in-None : goal.returns-in-None
returns-in-None c =
    let a = c.args in let w = c.walk_chain-walk in
    chains_say a.s.now a.answers.now a.p a.contents.now a.policy w.result w.ensures _ (ap (λ o. settle a.policy (outcome_of o)) (sym c.in-None.is))
