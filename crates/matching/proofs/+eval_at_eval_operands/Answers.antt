-- The answers of the cycle of calls {eval_at, eval_operands}: each goes by what is seen inside. Assumes nothing.
use Rattle.std.proofs.Common.{◌≡◌, refl, sym, arith}
use Rattle.model.specs.Number.{numeral, number_at}
use Rattle.model.specs.Standing.{Standing}
use Rattle.model.specs.Tree.Leaf.{source, destination, service, port, protocol, unread}
use Rattle.model.proofs.NumberPast.{number_past}
use Rattle.matching.proofs.Inside.{rest_of, kind_here, inside_not, inside_all, counted_legible, counted_standing, row_of, inside_leaf, first_legible, pair_of}
use Rattle.matching.proofs.Inside.{sees_always, sees_leaf, sees_not, sees_all, seen_past, sees_ever, left_all, left_standing, left_more, left_none}
use Rattle.matching.proofs.+eval_at_eval_operands.Goals as goal

pub eval_at-eval_at-inner-requires : goal.eval_at-eval_at-inner-requires
eval_at-eval_at-inner-requires t c =
    let k = c.number_here-number in
    (omega (arith, number_past _ _ _ _ k.ensures), inside_not _ _ (rest_of _ _ _ _ (kind_here _ _ _ _ _ _ k.ensures c.in-Ok.ensures c.in-Not.is) c.requires))

pub eval_at-returns-in-Not : goal.eval_at-returns-in-Not
eval_at-returns-in-Not t c =
    let k = c.number_here-number in let r = c.eval_at-inner in
    let q : number_at c.args.s.now c.args.at ≡ numeral 1 k.result.next = kind_here _ _ _ _ _ _ k.ensures c.in-Ok.ensures c.in-Not.is in
    sees_not _ _ _ _ _ _ _ q _ refl (inside_not _ _ (rest_of _ _ _ _ q c.requires)) r.result r.ensures c.not.ensures refl

pub eval_at-number_here-count-requires : goal.eval_at-number_here-count-requires
eval_at-number_here-count-requires t c =
    let k = c.number_here-number in
    counted_legible (inside_all _ _ (rest_of _ _ _ _ (kind_here _ _ _ _ _ _ k.ensures c.in-Ok.ensures c.in-All.is) c.requires))

pub eval_at-eval_operands-requires : goal.eval_at-eval_operands-requires
eval_at-eval_operands-requires t c =
    let k = c.number_here-number in let n = c.number_here-count in (
      omega (arith, number_past _ _ _ _ k.ensures, number_past _ _ _ _ n.ensures),
      counted_standing _ _ n.ensures (inside_all _ _ (rest_of _ _ _ _ (kind_here _ _ _ _ _ _ k.ensures c.in-Ok.ensures c.in-All.is) c.requires)),
    )

pub eval_at-returns-in-All : goal.eval_at-returns-in-All
eval_at-returns-in-All t c =
    let k = c.number_here-number in let n = c.number_here-count in
    let q : number_at c.args.s.now c.args.at ≡ numeral 2 k.result.next = kind_here _ _ _ _ _ _ k.ensures c.in-Ok.ensures c.in-All.is in
    sees_all _ _ _ _ _ _ _ q _ refl _ _ n.ensures (counted_standing _ _ n.ensures (inside_all _ _ (rest_of _ _ _ _ q c.requires))) c.eval_operands.ensures

pub eval_at-returns-in-Always : goal.eval_at-returns-in-Always
eval_at-returns-in-Always t c =
    let k = c.number_here-number in
    sees_always _ _ _ _ _ _ _ (kind_here _ _ _ _ _ _ k.ensures c.in-Ok.ensures c.in-Always.is) _ refl refl
    (sees_ever _ _ _ _ c.ever.ensures (omega (arith, c.ranges.source)) (λ y. refl))

pub eval_at-limits_here-limits-requires : goal.eval_at-limits_here-limits-requires
eval_at-limits_here-limits-requires t c =
    pair_of refl (inside_leaf _ 3 _ (omega arith) (rest_of _ _ _ _ (kind_here _ _ _ _ _ _ c.number_here-number.ensures c.in-Ok.ensures c.in-Source.is) c.requires))

pub eval_at-returns-in-Source : goal.eval_at-returns-in-Source
eval_at-returns-in-Source t c =
    let k = c.number_here-number in let r = c.limits_here-limits in
    sees_leaf _ _ _ _ _ _ _ (kind_here _ _ _ _ _ _ k.ensures c.in-Ok.ensures c.in-Source.is) _ (source r.result.low r.result.high) refl r.ensures c.hold.ensures

pub eval_at-number_here-port-requires : goal.eval_at-number_here-port-requires
eval_at-number_here-port-requires t c =
    first_legible (inside_leaf _ 4 _ (omega arith) (rest_of _ _ _ _ (kind_here _ _ _ _ _ _ c.number_here-number.ensures c.in-Ok.ensures c.in-Port.is) c.requires))

pub eval_at-returns-in-Port : goal.eval_at-returns-in-Port
eval_at-returns-in-Port t c =
    let k = c.number_here-number in let r = c.number_here-port in
    sees_leaf _ _ _ _ _ _ _ (kind_here _ _ _ _ _ _ k.ensures c.in-Ok.ensures c.in-Port.is) _ (port r.result.value) refl (row_of _ _ _ _ r.ensures)
    (sees_ever _ _ _ _ c.ever-in-Port.ensures (omega (arith, c.ranges.source)) (λ y. sym c.from.ensures))

pub eval_at-limits_here-limits-requires-in-Destination : goal.eval_at-limits_here-limits-requires-in-Destination
eval_at-limits_here-limits-requires-in-Destination t c =
    pair_of refl (inside_leaf _ 5 _ (omega arith) (rest_of _ _ _ _ (kind_here _ _ _ _ _ _ c.number_here-number.ensures c.in-Ok.ensures c.in-Destination.is) c.requires))

pub eval_at-returns-in-Destination : goal.eval_at-returns-in-Destination
eval_at-returns-in-Destination t c =
    let k = c.number_here-number in let r = c.limits_here-limits-in-Destination in
    sees_leaf _ _ _ _ _ _ _ (kind_here _ _ _ _ _ _ k.ensures c.in-Ok.ensures c.in-Destination.is) _ (destination r.result.low r.result.high) refl r.ensures
    (sees_ever _ _ _ _ c.ever-in-Destination.ensures (omega (arith, c.ranges.source)) (λ y. sym c.destination_in.ensures))

pub eval_at-number_here-protocol-requires : goal.eval_at-number_here-protocol-requires
eval_at-number_here-protocol-requires t c =
    first_legible (inside_leaf _ 6 _ (omega arith) (rest_of _ _ _ _ (kind_here _ _ _ _ _ _ c.number_here-number.ensures c.in-Ok.ensures c.in-Protocol.is) c.requires))

pub eval_at-returns-in-Protocol : goal.eval_at-returns-in-Protocol
eval_at-returns-in-Protocol t c =
    let k = c.number_here-number in let r = c.number_here-protocol in
    sees_leaf _ _ _ _ _ _ _ (kind_here _ _ _ _ _ _ k.ensures c.in-Ok.ensures c.in-Protocol.is) _ (protocol r.result.value) refl (row_of _ _ _ _ r.ensures)
    (sees_ever _ _ _ _ c.ever-in-Protocol.ensures (omega (arith, c.ranges.source)) (λ y. sym c.protocol_is.ensures))

pub eval_at-limits_here-limits-requires-in-Service : goal.eval_at-limits_here-limits-requires-in-Service
eval_at-limits_here-limits-requires-in-Service t c =
    pair_of refl (inside_leaf _ 7 _ (omega arith) (rest_of _ _ _ _ (kind_here _ _ _ _ _ _ c.number_here-number.ensures c.in-Ok.ensures c.in-Service.is) c.requires))

pub eval_at-returns-in-Service : goal.eval_at-returns-in-Service
eval_at-returns-in-Service t c =
    let k = c.number_here-number in let r = c.limits_here-limits-in-Service in
    sees_leaf _ _ _ _ _ _ _ (kind_here _ _ _ _ _ _ k.ensures c.in-Ok.ensures c.in-Service.is) _ (service r.result.low r.result.high) refl r.ensures
    (sees_ever _ _ _ _ c.ever-in-Service.ensures (omega (arith, c.ranges.source)) (λ y. sym c.service_in.ensures))

pub eval_at-number_here-unread-requires : goal.eval_at-number_here-unread-requires
eval_at-number_here-unread-requires t c =
    first_legible (inside_leaf _ 8 _ (omega arith) (rest_of _ _ _ _ (kind_here _ _ _ _ _ _ c.number_here-number.ensures c.in-Ok.ensures c.in-Unread.is) c.requires))

pub eval_at-returns-in-Unread : goal.eval_at-returns-in-Unread
eval_at-returns-in-Unread t c =
    let k = c.number_here-number in let r = c.number_here-unread in
    sees_leaf _ _ _ _ _ _ _ (kind_here _ _ _ _ _ _ k.ensures c.in-Ok.ensures c.in-Unread.is) _ (unread r.result.value) refl (row_of _ _ _ _ r.ensures)
    (sees_ever _ _ _ _ c.ever-in-Unread.ensures (omega (arith, c.ranges.source)) (λ y. sym c.unread.ensures))

pub eval_operands-loop-init : goal.eval_operands-loop-init
eval_operands-loop-init t c =
    let a = c.args in
    record {
      ahead = omega arith;
      left = λ es next k o. left_all a.a.now a.source a.s.now a.answers.now es next _ (sees_ever _ _ _ _ c.ever.ensures (omega (arith, c.ranges.source)) (λ y. refl)) o;
    }

pub eval_operands-eval_at-operand-requires : goal.eval_operands-eval_at-operand-requires
eval_operands-eval_at-operand-requires t c =
    let l = c.loop in let p = c.requires in
    (omega (arith, l.invariant.ahead), left_standing _ _ _ _ _ _ _ _ (l.invariant.left p.operands p.next p.count p.stands) (omega (arith, c.loop-test.true, p.count)))

pub eval_operands-loop-preserved : goal.eval_operands-loop-preserved
eval_operands-loop-preserved t c =
    let a = c.args in let l = c.loop in let p = c.requires in let r = c.eval_at-operand in
    let standing : Standing a.s.now l.seen.next =
    left_standing _ _ _ _ _ _ _ _ (l.invariant.left p.operands p.next p.count p.stands) (omega (arith, c.loop-test.true, p.count)) in
    record {
      ahead = omega (arith, l.invariant.ahead, seen_past a.a.now a.source a.s.now a.answers.now _ r.result r.ensures standing);
      left = λ es next k o. left_more a.a.now a.source a.s.now a.answers.now es next l.seen l.counter (l.invariant.left es next k o) (omega (arith, c.loop-test.true, k))
          r.result _ r.ensures c.bitand.ensures refl;
    }

pub eval_operands-returns : goal.eval_operands-returns
eval_operands-returns t c =
    let a = c.args in let l = c.loop in
    λ es next k o. left_none a.a.now a.source a.s.now a.answers.now es next l.seen l.counter (l.invariant.left es next k o) (omega (arith, c.loop-test.false, k))
