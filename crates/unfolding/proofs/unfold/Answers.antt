-- The entry's chain, then the policy: by the laws of Whole.
use Prim.Native.Nat.{ℕ}
use lib.ListN.{length-replicate}
use Rattle.model.specs.Limits.{rules_most}
use Rattle.unfolding.proofs.Whole.{entry_pre, policy_pre, unfolded}
use Rattle.unfolding.proofs.unfold.Goals as goal

pub unfold_chain-to-requires : goal.unfold_chain-to-requires
unfold_chain-to-requires c = let a = c.args in entry_pre a.contents.now a.policy a.words.now c.requires _ (length-replicate {A = ℕ} rules_most 0)

pub write_rule-requires : goal.write_rule-requires
write_rule-requires c =
    let a = c.args in let r = c.unfold_chain-to in
    policy_pre a.contents.now a.policy a.words.now c.requires _ r.result r.new.ctx r.new.words r.ensures r.auto.words

pub returns : goal.returns
returns c =
    let a = c.args in let r = c.unfold_chain-to in let v = c.write_rule in
    unfolded a.contents.now a.policy a.words.now c.requires _ r.result r.new.ctx r.new.words r.ensures v.result v.new.words v.ensures.next v.ensures.written
