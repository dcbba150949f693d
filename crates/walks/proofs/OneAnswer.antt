-- Two answers that meet one statement are equal. Assumes nothing.
use Rattle.std.proofs.Common.{ℕ, Bool, List, ◌≡◌, refl, sym, ◌∙◌, ap, Option, Some, None}
use Rattle.model.specs.Tree.{Book}
use Rattle.model.specs.Chains as model
use Rattle.model.specs.Chains.{accepted, denied, undecided}
use Rattle.book.specs.declared.Contents.{Contents}
use Rattle.book.specs.declared.Verdict.{Verdict}
use Rattle.book.specs.declared.Verdict.TheVariants.{Accept, Drop}
use Rattle.book.specs.Contents.{verdict_number, verdict_of}
use Rattle.walks.specs.declared.Packet.{Packet}
use Rattle.walks.specs.declared.Tactic.{Tactic}
use Rattle.walks.specs.declared.Step.{Step}
use Rattle.walks.specs.declared.Step.TheVariants.{Decides, Leaves, GoesOn}
use Rattle.walks.specs.Walks.{outcome_of, after, Kept, Keeping, HasChain, HasChains, WalksChain, ChainsSay}
use Rattle.walks.specs.Lists.{Listing, ListSays}

-- a verdict by its number, and by the model's outcome
verdict_back : (v : Verdict) → verdict_of (verdict_number v) ≡ v
verdict_back Accept = refl
verdict_back Drop = refl

pub one_verdict : (v w : Verdict) → verdict_number v ≡ verdict_number w → v ≡ w
one_verdict v w e = sym (verdict_back v) ∙ ap verdict_of e ∙ verdict_back w

named : model.Outcome → Option Verdict
named accepted = Some Accept
named denied = Some Drop
named undecided = None

named_back : (o : Option Verdict) → named (outcome_of o) ≡ o
unfolding named
named_back None = refl
named_back (Some Accept) = refl
named_back (Some Drop) = refl

pub one_outcome : (o u : Option Verdict) → outcome_of o ≡ outcome_of u → o ≡ u
one_outcome o u e = sym (named_back o) ∙ ap named e ∙ named_back u

-- a step by what it makes of two outcomes behind it
pub one_step : (x y : Step) → ((rest : model.Outcome) → after x rest ≡ after y rest) → x ≡ y
one_step (Decides v) (Decides w) f = let e : Some v ≡ Some w = one_outcome (Some v) (Some w) (f undecided) in cc
one_step (Decides Accept) Leaves f = absurd (let e : accepted ≡ undecided = f denied in cc)
one_step (Decides Drop) Leaves f = absurd (let e : denied ≡ undecided = f accepted in cc)
one_step (Decides Accept) GoesOn f = absurd (let e : accepted ≡ denied = f denied in cc)
one_step (Decides Drop) GoesOn f = absurd (let e : denied ≡ accepted = f accepted in cc)
one_step Leaves (Decides Accept) f = absurd (let e : undecided ≡ accepted = f denied in cc)
one_step Leaves (Decides Drop) f = absurd (let e : undecided ≡ denied = f accepted in cc)
one_step Leaves Leaves f = refl
one_step Leaves GoesOn f = absurd (let e : undecided ≡ denied = f denied in cc)
one_step GoesOn (Decides Accept) f = absurd (let e : denied ≡ accepted = f denied in cc)
one_step GoesOn (Decides Drop) f = absurd (let e : accepted ≡ denied = f accepted in cc)
one_step GoesOn Leaves f = absurd (let e : denied ≡ undecided = f denied in cc)
one_step GoesOn GoesOn f = refl

module _ (s answers : List ℕ) (p : Packet) where
  module _ (k : Contents) where
    pub one_walk : (c depth : ℕ) → Keeping s k (HasChain c) → (o u : Option Verdict) → WalksChain s answers p k c depth o → WalksChain s answers p k c depth u → o ≡ u
    one_walk c depth h o u f g = one_outcome o u (f h.book h.kept h.so ∙ sym (g h.book h.kept h.so))

    -- contents that are a book's are those of the book with any other policy
    under : (policy : ℕ) (b : Book) → Kept s k b → Kept s k (record { policy = policy; total = b.total; chains = b.chains })
    under policy b h = let c = h.charted in record {
      charted = record { shape = c.shape; count = c.count; total = c.total; sizes = c.sizes; noted = c.noted };
      stands = h.stands;
    }

    pub one_chain_verdict : (policy : ℕ) → Keeping s k (HasChains k.chains) → (r q : ℕ) → ChainsSay s answers p k policy r → ChainsSay s answers p k policy q → r ≡ q
    one_chain_verdict policy h r q f g =
        let b : Book = record { policy = policy; total = h.book.total; chains = h.book.chains } in
        f b (under policy h.book h.kept) refl ∙ sym (g b (under policy h.book h.kept) refl)

  pub one_list_verdict : (words : List ℕ) (told : Bool) (tactic : Tactic) → Listing s words → (r q : ℕ)
      → ListSays s answers words p told tactic r → ListSays s answers words p told tactic q → r ≡ q
  one_list_verdict words told tactic l r q f g = f l.list l.lists ∙ sym (g l.list l.lists)
