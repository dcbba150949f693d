-- `listing::list_book` meets its contract: what `room` and `unfold` say of the book that was read. Assumes nothing.
use Rattle.calls.proofs.Charted.{charted_actions}
use Rattle.checking.proofs.Uses.{readable_passes, same_book}
use Rattle.listing.proofs.Laws.{charted, short, can_unfold, enough, holds}
use Rattle.listing.proofs.list_book.Goals as goal

pub room-need-requires : goal.room-need-requires
room-need-requires c = let f = c.requires.from in (charted _ f.book _ f.read f.contents).shape

pub returns-then-words-need : goal.returns-then-words-need
returns-then-words-need c = λ s b e f.
    let q = same_book s _ f b e in
    rw c.at.ensures (short s b _ e q c.room-need.result (c.room-need.ensures.2 b (charted_actions (charted s b _ e q)) f.ranked (readable_passes s b e)) _ c.if-words-need.true)

pub unfold-requires : goal.unfold-requires
unfold-requires c =
    let f = c.requires.from in
    can_unfold _ f.book _ f.read f.contents c.room-need.result
    (c.room-need.ensures.2 f.book (charted_actions (charted _ f.book _ f.read f.contents)) f.ranked (readable_passes _ f.book f.read))
    _ c.number.ensures _ c.if-words-need.false

pub returns : goal.returns
returns c = λ s b e f.
    let q = same_book s _ f b e in
    enough s b _ e q c.room-need.result (c.room-need.ensures.2 b (charted_actions (charted s b _ e q)) f.ranked (readable_passes s b e)) _ c.if-words-need.false _ _
    (c.unfold.ensures b (holds s b _ e q _ c.number.ensures))
