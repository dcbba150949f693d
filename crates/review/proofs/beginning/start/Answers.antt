-- `review::beginning::start` meets its contract: the book, the plan, the port, the room, and then the list and the port's suspects. Assumes nothing.
use Rattle.std.proofs.Common.{refl, sym, ◌∙◌, ap, Err}
use Rattle.std.proofs.lemmas.Result.{err_from_is_err_and}
use Rattle.refusals.specs.Refusals.{refusal_at}
use Rattle.refusals.specs.declared.Fault.TheVariants.{MissingPort}
use Rattle.checking.proofs.Uses.{from_ok, from_err}
use Rattle.plan.proofs.Charted.{answer_fine, answer_refused, answer_few}
use Rattle.listing.proofs.Laws.{listed_ok, listed_err}
use Rattle.review.proofs.Starting.{plan_read, asked_inside, asked_is, asked_none, refuses, book_refused, plan_refused, port_missing, no_room, starts}
use Rattle.review.proofs.beginning.start.Goals as goal

pub returns-in_err-checked : goal.returns-in_err-checked
returns-in_err-checked c =
    let a = c.args in
    let p = err_from_is_err_and c.from_residual.result c.from_residual.ensures.1 in
    let u = c.in_err-checked.field-0.0 in
    let refused = book_refused a.book.now a.plan.now a.port a.words.now _ _ (from_err _ _ c.check.ensures u c.in_err-checked.was) in
    refuses a.book.now a.plan.now a.port a.words.now u.refusal refused _ (rw (p.1, p.2)) _ refl

pub returns-in_err-contents : goal.returns-in_err-contents
returns-in_err-contents c =
    let a = c.args in
    let p = err_from_is_err_and c.from_residual-in_err-contents.result c.from_residual-in_err-contents.ensures.1 in
    let k = from_ok _ _ c.check.ensures _ c.in_ok-checked.was in
    let e = c.in_err-contents.field-0.0 in
    let refused = plan_refused a.book.now a.plan.now a.port a.words.now k.book k.read _ _ (answer_refused _ _ c.read_plan.ensures e c.in_err-contents.was) in
    refuses a.book.now a.plan.now a.port a.words.now e refused _ (rw (p.1, p.2)) _ refl

pub port_index-requires : goal.port_index-requires
port_index-requires c = answer_few _ _ c.read_plan.ensures _ c.in_ok-contents.was

pub returns-in_err-i : goal.returns-in_err-i
returns-in_err-i c =
    let a = c.args in
    let p = err_from_is_err_and c.from_residual-in_err-i.result c.from_residual-in_err-i.ensures.1 in
    let k = from_ok _ _ c.check.ensures _ c.in_ok-checked.was in
    let plan = plan_read a.plan.now c.in_ok-contents.contents (answer_fine _ _ c.read_plan.ensures _ c.in_ok-contents.was) in
    let none = asked_none _ _ _ c.ok_or.ensures.value _ c.in_err-i.was in
    let refused = port_missing a.book.now a.plan.now a.port a.words.now k.book k.read plan.ports plan.is c.in_ok-contents.contents _ (plan.ranges a.port) (sym c.port_index.ensures ∙ none.0) in
    refuses a.book.now a.plan.now a.port a.words.now (refusal_at MissingPort a.port) refused _ (p.1 ∙ ap Err (p.2 ∙ none.1 ∙ c.at.ensures)) _ refl

pub returns-in_err-counts : goal.returns-in_err-counts
returns-in_err-counts c =
    let a = c.args in
    let p = err_from_is_err_and c.from_residual-in_err-counts.result c.from_residual-in_err-counts.ensures.1 in
    let k = from_ok _ _ c.check.ensures _ c.in_ok-checked.was in
    let plan = plan_read a.plan.now c.in_ok-contents.contents (answer_fine _ _ c.read_plan.ensures _ c.in_ok-contents.was) in
    let found = sym c.port_index.ensures ∙ asked_is _ _ _ c.ok_or.ensures.value _ c.in_ok-i.was in
    let e = c.in_err-counts.field-0.0 in
    let none = listed_err k.book a.words.now _ _ (c.list_book.ensures a.book.now k.book k.read k) e c.in_err-counts.was in
    let refused = no_room a.book.now a.plan.now a.port a.words.now k.book k.read plan.ports plan.is c.in_ok-contents.contents _ (plan.ranges a.port) c.in_ok-i.i found _ _ none.0 in
    refuses a.book.now a.plan.now a.port a.words.now e refused _ (rw (p.1, p.2)) _ none.1

pub port_suspects-requires-clause-shape : goal.port_suspects-requires-clause-shape
port_suspects-requires-clause-shape c = (plan_read c.args.plan.now c.in_ok-contents.contents (answer_fine _ _ c.read_plan.ensures _ c.in_ok-contents.was)).shape

pub port_suspects-requires-clause-known : goal.port_suspects-requires-clause-known
port_suspects-requires-clause-known c = asked_inside _ _ _ _ (sym c.port_index.ensures ∙ asked_is _ _ _ c.ok_or.ensures.value _ c.in_ok-i.was)

pub returns : goal.returns
returns c =
    let a = c.args in
    let k = from_ok _ _ c.check.ensures _ c.in_ok-checked.was in
    let plan = plan_read a.plan.now c.in_ok-contents.contents (answer_fine _ _ c.read_plan.ensures _ c.in_ok-contents.was) in
    let found = sym c.port_index.ensures ∙ asked_is _ _ _ c.ok_or.ensures.value _ c.in_ok-i.was in
    let listed = listed_ok k.book a.words.now _ _ (c.list_book.ensures a.book.now k.book k.read k) _ c.in_ok-counts.was in
    starts a.book.now a.plan.now a.port a.words.now k.book k.read plan.ports plan.is c.in_ok-contents.contents _ (plan.ranges a.port) c.in_ok-i.i found _ _ listed _ c.port_suspects.ensures
