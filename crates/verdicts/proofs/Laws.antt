-- The verdicts of the chains and of the list of a book that was read, from what walking and listing it say. Assumes nothing.
use Rattle.std.proofs.Common.{ℕ, zero, suc, ◌≤◌, Bool, List, ◌≡◌, refl, sym, ◌∙◌, ap, subst, arith, length, take, drop, length-append}
use Rattle.std.specs.Prelude.{Ok, Err}
use Rattle.std.proofs.lemmas.List.{take_at}
use borrow.Author.Tests.{le-leb}
use Rattle.model.specs.Answer.{fine, refused}
use Rattle.model.specs.Tree.{Book}
use Rattle.model.specs.Calls.{readable}
use Rattle.model.specs.Entries.{room}
use Rattle.model.specs.Matching.{value, matches}
use Rattle.model.specs.Chains.{chain_verdict}
use Rattle.model.specs.Unfolding.{list_of, words_of}
use Rattle.model.specs.Verdict.{list_verdict}
use Rattle.model.proofs.VerdictSmall.{list_small}
use Rattle.refusals.specs.declared.Refusal.{Refusal}
use Rattle.refusals.specs.Refusals.{number_of}
use Rattle.book.specs.declared.Verdict.{Verdict}
use Rattle.book.specs.Contents.{verdict_number, verdict_of, Charted}
use Rattle.checking.specs.declared.Checked.{Checked}
use Rattle.checking.specs.Checks.{Ready, CheckedFrom}
use Rattle.checking.proofs.Uses.{same_book, readable_charted, readable_policy}
use Rattle.listing.proofs.Laws.{ListedIn}
use Rattle.walks.specs.declared.Packet.{Packet}
use Rattle.walks.specs.declared.Tactic.{Tactic}
use Rattle.walks.specs.Packets.{packet_of, tactic_of, leaves_of}
use Rattle.walks.specs.Walks.{Keeping, HasChains, ChainsSay}
use Rattle.walks.specs.Lists.{Listing, ListSays}
use Rattle.walks.proofs.Walks.{say_verdict}
use Rattle.walks.proofs.Books.{read_stands, kept_of, keeping_of, lists_of, listing_of}
use Rattle.verdicts.specs.Verdicts.{Decides}

-- the numbers of the verdicts are 0 and 1
number_back : (n : ℕ) → n ≤ 1 → verdict_number (verdict_of n) ≡ n
number_back zero h = refl
number_back (suc zero) h = refl
number_back (suc (suc n)) h = absurd (omega arith)

module _ {s : List ℕ} {k : Checked} (h : CheckedFrom s k) where
  charted_as : (b : Book) → readable s ≡ fine b → Charted b k.contents
  charted_as b e = subst (λ c. Charted b c) (sym (same_book s k h b e)) (readable_charted s b e)

  pub can_walk : Keeping s k.contents (HasChains k.contents.chains)
  can_walk = keeping_of s h.book k.contents (read_stands s h.book h.read) (charted_as h.book h.read)

  -- what the chains come to under the policy of the contents names the verdict
  module _ (answers : List ℕ) (p : Packet) (policy r : ℕ) (is : policy ≡ verdict_number k.contents.policy) (say : ChainsSay s answers p k.contents policy r) where
    pub walked : (v : Verdict) → v ≡ verdict_of r → (b : Book) → readable s ≡ fine b → verdict_number v ≡ chain_verdict b (matches answers (packet_of p))
    walked v q b e =
        say_verdict s answers p k.contents policy r is say v q b (kept_of s b k.contents (read_stands s b e) (charted_as b e))
        (readable_policy s b e ∙ ap (λ c. verdict_number c.policy) (sym (same_book s k h b e)))

  pub can_list : Ready k
  can_list = record { bytes = s; from = h }

-- the list found room, and stands in the first words
module _ {b : Book} {before : List ℕ} {n : _} {after : List ℕ} (l : ListedIn b before n after) where
  pub listed_room : n.words ≤ length after
  listed_room =
      let list = words_of (list_of b) in
      omega (arith, l.words, ap length l.lent, length-append list (drop (length list) before))

  listed_words : take n.words after ≡ words_of (list_of b)
  listed_words =
      let list = words_of (list_of b) in
      ap (take n.words) l.lent ∙ take_at list (drop (length list) before) n.words (sym l.words)

  module _ (s : List ℕ) (e : readable s ≡ fine b) where
    pub can_judge : Listing s (take n.words after)
    can_judge = subst (λ ws. Listing s ws) (sym listed_words) (listing_of s b (read_stands s b e))

    module _ (told : Bool) (tactic : Tactic) (answers : List ℕ) (p : Packet) (v : ℕ) (say : ListSays s answers (take n.words after) p told tactic v) where
      judged : v ≡ list_verdict (tactic_of tactic) (value (leaves_of told answers (packet_of p))) (list_of b)
      judged = subst (λ ws. ListSays s answers ws p told tactic v) listed_words say (list_of b) (lists_of s b (read_stands s b e))

      -- every action of a list is 0 or 1, and so is what it comes to
      judged_small : v ≤ 1
      judged_small = subst (λ v. v ≤ 1) (sym judged) (list_small s b e (tactic_of tactic) (value (leaves_of told answers (packet_of p))))

      pub decides_list : (r : Verdict) → r ≡ verdict_of v → Decides told tactic answers p b before (Ok r) after
      decides_list r is =
          let fits = le-leb (length (words_of (list_of b))) (length before) l.fits in
          record { answer = rw fits (ap (λ v. fine v) (ap verdict_number is ∙ number_back v judged_small ∙ judged)); lent = rw fits l.lent }

pub decides_short : (b : Book) (before after : List ℕ) (e : Refusal) → (room (length before) b ≡ refused (number_of e.fault) e.place) × (after ≡ before)
    → (told : Bool) (tactic : Tactic) (answers : List ℕ) (p : Packet) → Decides told tactic answers p b before (Err e) after
decides_short b before after e l told tactic answers p = let q = l.0 in record { answer = rw q; lent = rw q l.1 }
