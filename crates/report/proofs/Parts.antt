-- The lines below the header, and what is refused before them: the book, then the plan, then the room for the list.
use Rattle.std.specs.Prelude.{⊤, Ok, Err}
use Rattle.std.proofs.Common.{◌≡◌, ◌∙◌, ℕ, List, ◌++◌, length, take, drop, refl, ap, sym, subst, append_assoc}
use lib.Seq.{take_at}
use borrow.Author.Tests.{le-leb}
use Rattle.arrayvec.specs.ArrayVec.{ArrayVec}
use Rattle.model.specs.Answer.{Answer, fine, refused}
use Rattle.model.specs.Tree.{Book}
use Rattle.model.specs.Calls.{readable}
use Rattle.model.specs.Plan.{Port, plan_of}
use Rattle.model.specs.Unfolding.{list_of, words_of}
use Rattle.model.specs.Text.{bytes}
use Rattle.model.specs.Report.{report, body, body_text, port_lines}
use Rattle.model.specs.Entries.{room, words_after}
use Rattle.refusals.specs.Refusals.{number_of}
use Rattle.refusals.specs.declared.Refusal.{Refusal}
use Rattle.book.specs.Contents as books
use Rattle.book.specs.declared.Contents.{Contents}
use Rattle.plan.specs.Contents.{contents_of, ports_at}
use Rattle.plan.specs.declared.PlanContents.{PlanContents}
use Rattle.plan.proofs.Charted.{plan_charted}
use Rattle.room.specs.declared.Need.{Need}
use Rattle.listing.proofs.Laws.{ListedIn}
use Rattle.report.specs.Lines.{counts_text, refusal_text}
use Rattle.report.specs.Reports.{PortsPut, BodyPut, report_entry}

pub total_told : (c : Contents) (b : Book) → c ≡ books.contents_of b → c.rules ≡ b.total
unfolding books.contents_of
total_told c b e = ap (λ (x : Contents). x.rules) e

-- the list stands in the first words
pub list_is : (b : Book) (words : List ℕ) (n : Need) (words' : List ℕ) → ListedIn b words n words' → take n.words words' ≡ words_of (list_of b)
list_is b words n words' l = ap (take n.words) l.lent ∙ take_at (words_of (list_of b)) (drop (length (words_of (list_of b))) words) n.words (sym l.words)

module _ (book plan words : List ℕ) where
  abbrev entry : Answer (List ℕ)
  entry = report_entry book plan (length words)

  -- ---- what is refused

  module _ (n p : ℕ) where
    pub book_refused : readable book ≡ refused n p → entry ≡ refused n p
    unfolding report_entry
    book_refused e = rw e

    module _ (b : Book) (read : readable book ≡ fine b) where
      pub plan_refused : plan_of plan ≡ refused n p → entry ≡ refused n p
      unfolding report_entry
      plan_refused e = rw (read, e)

      pub room_refused : (ports : List Port) → plan_of plan ≡ fine ports → room (length words) b ≡ refused n p → entry ≡ refused n p
      unfolding report_entry
      room_refused ports e f = rw (read, e, f)

  pub body_refused : (e : Refusal) → entry ≡ refused (number_of e.fault) e.place → (w : ArrayVec ℕ) → BodyPut entry w (Err e) w
  body_refused e q w = rw q (refl, refl, refl)

  pub words_refused : (e : Refusal) → entry ≡ refused (number_of e.fault) e.place → (words' : List ℕ) → words' ≡ words → words' ≡ words_after entry book words
  words_refused e q words' same = rw q same

  -- ---- what is answered

  module _ (b : Book) (read : readable book ≡ fine b) (ports : List Port) (is_plan : plan_of plan ≡ fine ports) (need : Need) (words' : List ℕ) (listed : ListedIn b words need words') where
    entry_fine : entry ≡ fine (body b ports (list_of b))
    unfolding report_entry
    entry_fine = rw (read, is_plan, le-leb (length (words_of (list_of b))) (length words) listed.fits)

    pub words_filled : words' ≡ words_after entry book words
    words_filled = rw (entry_fine, read) listed.lent

    pub body_put : (total : ℕ) → total ≡ b.total → (c : PlanContents) → c ≡ contents_of ports
        → (w w₁ w' : ArrayVec ℕ) → w₁.items ≡ w.items ++ counts_text total need.rules → PortsPut book c w₁ w' → BodyPut entry w (Ok tt) w'
    body_put total t c q w w₁ w' p ps =
        let first : w₁.items ≡ w.items ++ counts_text b.total (length (list_of b)) = rw (t, listed.rules) at p in
        let same : ports_at c 0 c.ports ≡ ports = rw q (plan_charted plan ports is_plan).ports in
        let rest : w'.items ≡ w₁.items ++ port_lines (list_of b) ports = subst (λ (x : List Port). w'.items ≡ w₁.items ++ port_lines (list_of b) x) same (ps b read) in
        rw entry_fine (rest ∙ ap (λ (t : List ℕ). t ++ port_lines (list_of b) ports) first ∙ append_assoc w.items _ _)

-- THE WHOLE: the header, and the part behind it
module _ (a : Answer (List ℕ)) (w : ArrayVec ℕ) (header : w.items ≡ bytes "spoof report 1\n") where
  behind : (w' : ArrayVec ℕ) → w'.items ≡ w.items ++ body_text a → w'.items ≡ bytes "spoof report 1\n" ++ body_text a
  behind w' h = rw header at h

  pub whole_fine : (u : ⊤) (w' : ArrayVec ℕ) → BodyPut a w (Ok u) w' → w'.items ≡ bytes "spoof report 1\n" ++ body_text a
  whole_fine u w' h = behind w' (go a h)
    where
      go : (x : Answer (List ℕ)) → BodyPut x w (Ok u) w' → w'.items ≡ w.items ++ body_text x
      go (fine t) g = g
      go (refused n p) g = absurd g

  pub whole_refused : (e : Refusal) (w₁ w' : ArrayVec ℕ) → BodyPut a w (Err e) w₁ → w'.items ≡ w₁.items ++ refusal_text (number_of e.fault) e.place
      → w'.items ≡ bytes "spoof report 1\n" ++ body_text a
  whole_refused e w₁ w' h q = behind w' (go a h)
    where
      go : (x : Answer (List ℕ)) → BodyPut x w (Err e) w₁ → w'.items ≡ w.items ++ body_text x
      go (fine t) g = absurd g
      go (refused n p) g = rw (g.0, g.1) (rw g.2 at q)

pub report_is : (book plan : List ℕ) (lent : ℕ) → report book plan lent ≡ bytes "spoof report 1\n" ++ body_text (report_entry book plan lent)
unfolding report report_entry
report_is book plan lent = refl
