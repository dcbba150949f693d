-- The buffer's report handed out: all of it, or none.
use Prim.Native.Nat.{ℕ, ◌≤◌, ◌<◌}
use native.Mathlib.Omega.{arith}
use mathlib.Core.Bool.{Bool, true, false}
use mathlib.Core.List.{List, ◌++◌}
use mathlib.Core.Path.{◌≡◌, ap, sym, ◌∙◌}
use lib.Dec.{leb}
use lib.ListN.{length, drop, length-append}
use borrow.Author.Tests.{le-leb, lt-leb}
use Rattle.report.specs.Reports.{answer_of, text_after}
use Rattle.model.specs.Answer.{fine, refused, when}
use Rattle.std.specs.Prelude.{Result, Ok, Err}
use Rattle.refusals.specs.declared.Refusal.{Refusal}
use Rattle.refusals.specs.declared.Fault.TheVariants.{TextTooShort}
use Rattle.refusals.specs.Refusals.{refusal_at, told}

module _ (t : List ℕ) (n : ℕ) (counted : n ≡ length t) where
  pub short : (text : List ℕ) → length text < n → (told {A = ℕ} (Err (refusal_at TextTooShort n)) ≡ answer_of t (length text)) × (text ≡ text_after t text)
  unfolding answer_of text_after
  short text lt =
      let k : leb (length t) (length text) ≡ _ = lt-leb (length t) (length text) (omega (arith, counted)) in
      (rw (k, counted), rw k)

  pub handed : (text : List ℕ) → n ≤ length text → (told (Ok n) ≡ answer_of t (length text)) × (t ++ drop n text ≡ text_after t text)
  unfolding answer_of text_after
  handed text le =
      let k : leb (length t) (length text) ≡ _ = le-leb (length t) (length text) (omega (arith, counted)) in
      (rw (k, counted), rw (k, counted))

-- bytes that were written are there
pub bytes_given : (t text text' : List ℕ) (r : Result ℕ Refusal) (n : ℕ) → told r ≡ answer_of t (length text) → text' ≡ text_after t text → r ≡ Ok n → n ≤ length text'
unfolding answer_of text_after
bytes_given t text text' r n a e g = go (leb (length t) (length text)) (sym (ap told g) ∙ a) e
  where
    go : (b : Bool) → fine n ≡ when b (fine (length t)) (refused 19 (length t)) → text' ≡ when b (t ++ drop (length t) text) text → n ≤ length text'
    go true h k = let same : n ≡ length t = cc in omega (arith, ap length k, length-append t (drop (length t) text))
    go false h k = absurd (cc)
