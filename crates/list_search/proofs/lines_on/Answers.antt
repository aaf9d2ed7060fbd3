-- `list_search::lines_on` meets its contract. The invariant, `Kept`: what was written, and then what the stack still gives, is the text that the search gave at first.
use borrow.Author.Rules.{rules}
use native.Mathlib.Omega.{arith}
use lib.Seq.{length-take-le}
use mathlib.Core.Path.{refl, ◌∙◌}
use Rattle.model.specs.Limits.{tower}
use Rattle.model.specs.declared.Event.TheVariants.{Crash}
use Rattle.packed.proofs.Turns.{few, rulable}
use Rattle.list_search.proofs.Loop.{ready, loop_starts, gave_last, short_line, ends, down, down_less, turned_down, turned_less, room_for, count_one, listed, listed_less, listed_more, raised, raised_less}
use Rattle.list_search.proofs.lines_on.Goals as goal

pub loop-top-init : goal.loop-top-init
loop-top-init c = (
  loop_starts c.args.s _ _ _ c.requires.0 c.requires.1 c.requires.2.0 c.requires.2.1,
  c.event_count-count.ensures.0,
  c.events-events.ensures,
  refl,
)

-- all events were tried: on the lowest table, or on another
pub returns-then-height-eq0 : goal.returns-then-height-eq0
returns-then-height-eq0 c =
    let l = c.loop-top in
    let p = c.put_count.ensures in
    record {
      same = p.0.same ∙ l.invariant.3;
      gave = gave_last _ _ _ _ _ _ (ends l.invariant.0 _ l.invariant.1 c.if-top-count.true c.if-height-eq0.true) p.0.appended p.1;
    }

pub loop-top-smaller-then-top-count : goal.loop-top-smaller-then-top-count
loop-top-smaller-then-top-count c =
    let l = c.loop-top in
    down_less l.invariant.0 _ l.invariant.1 c.if-top-count.true c.if-height-eq0.false

pub loop-top-preserved-then-top-count : goal.loop-top-preserved-then-top-count
loop-top-preserved-then-top-count c =
    let l = c.loop-top in
    (down l.invariant.0 _ l.invariant.1 c.if-top-count.true c.if-height-eq0.false, l.invariant.1, l.invariant.2, l.invariant.3)

-- an event is tried
-- v: where it was judged
pub rule_in_tower-ruling-requires : goal.rule_in_tower-ruling-requires
rule_in_tower-ruling-requires c =
    let l = c.loop-top in
    let h = ready _ _ _ l.invariant.0.top in
    (few _ tower _ _ _ _ _ _ h (Crash 0), rulable _ tower _ _ _ _ _ _ h _ _ c.seat-i.ensures.0 _)

-- it is refused
pub loop-top-smaller-in_default : goal.loop-top-smaller-in_default
loop-top-smaller-in_default c =
    let l = c.loop-top in
    turned_less l.invariant.0 _ l.invariant.1 c.if-top-count.false (l.invariant.2.each _) c.seat-i.ensures.0 _ c.rule_in_tower-ruling.ensures _ c.in_default.is

pub loop-top-preserved-in_default : goal.loop-top-preserved-in_default
loop-top-preserved-in_default c =
    let l = c.loop-top in (
      turned_down l.invariant.0 _ l.invariant.1 c.if-top-count.false (l.invariant.2.each _) c.seat-i.ensures.0 _ c.rule_in_tower-ruling.ensures _ c.in_default.is,
      l.invariant.1,
      l.invariant.2,
      l.invariant.3,
    )

-- it is accepted, and the last of a list: there is room for another line, or not
pub shared_ref_as_front-put_line : goal.shared_ref_as_front-put_line
shared_ref_as_front-put_line c =
    let k = c.loop-top.invariant.0 in
    let e = short_line k _ c.loop-top.invariant.1 in
    let l = k.top.space in
    search rules

pub put_line-requires : goal.put_line-requires
put_line-requires c =
    let k = c.loop-top.invariant.0 in
    let e = short_line k _ c.loop-top.invariant.1 in
    let l = k.top.space in
    (omega (arith, k.size, k.space), omega (arith, e, length-take-le c.loop-top.top.end c.loop-top.top.line (omega (arith, e, l))))

pub overflow_add-given : goal.overflow_add-given
overflow_add-given c =
    let l = c.loop-top in
    let z = count_one l.invariant.0 _ l.invariant.1 c.if-top-count.false (l.invariant.2.each _) c.seat-i.ensures.0 _ c.rule_in_tower-ruling.ensures _ c.in-Ok.is c.if-height-length.true in
    search rules

pub loop-top-smaller-then-out : goal.loop-top-smaller-then-out
loop-top-smaller-then-out c =
    let l = c.loop-top in
    listed_less l.invariant.0 _ l.invariant.1 c.if-top-count.false (l.invariant.2.each _) c.seat-i.ensures.0 _ c.rule_in_tower-ruling.ensures _ c.in-Ok.is c.if-height-length.true

pub loop-top-preserved-then-out : goal.loop-top-preserved-then-out
loop-top-preserved-then-out c =
    let l = c.loop-top in (
      listed l.invariant.0 _ l.invariant.1 c.if-top-count.false (l.invariant.2.each _) c.seat-i.ensures.0 _ c.rule_in_tower-ruling.ensures _ c.in-Ok.is c.if-height-length.true c.put_line.ensures.0.appended (omega (arith, c.if-out.true)),
      l.invariant.1,
      l.invariant.2,
      c.put_line.ensures.0.same ∙ l.invariant.3,
    )

pub returns-then-height-length : goal.returns-then-height-length
returns-then-height-length c =
    let l = c.loop-top in
    record {
      same = c.put_line.ensures.0.same ∙ l.invariant.3;
      gave = listed_more l.invariant.0 _ l.invariant.1 c.if-top-count.false (l.invariant.2.each _) c.seat-i.ensures.0 _ c.rule_in_tower-ruling.ensures _ c.in-Ok.is c.if-height-length.true c.put_line.ensures.0.appended _ refl c.put_line.ensures.1;
    }

-- it is accepted, and others follow
pub exchange-requires : goal.exchange-requires
exchange-requires c =
    let l = c.loop-top in
    let h = ready _ _ _ l.invariant.0.top in (
      few _ tower _ _ _ _ _ _ h (Crash 0),
      c.rule_in_tower-ruling.ensures.reach,
      room_for l.invariant.0 _ l.invariant.1 c.if-top-count.false (l.invariant.2.each _) c.seat-i.ensures.0 _ c.rule_in_tower-ruling.ensures _ c.in-Ok.is,
    )

pub extend-requires : goal.extend-requires
extend-requires c =
    let l = c.loop-top in
    short_line l.invariant.0 _ l.invariant.1

pub loop-top-smaller : goal.loop-top-smaller
loop-top-smaller c =
    let l = c.loop-top in
    raised_less l.invariant.0 _ l.invariant.1 c.if-top-count.false (l.invariant.2.each _) c.seat-i.ensures.0 _ c.rule_in_tower-ruling.ensures _ c.in-Ok.is c.if-height-length.false _ _ c.exchange.ensures.2 c.exchange.ensures.0 c.extend.ensures.1

pub loop-top-preserved : goal.loop-top-preserved
loop-top-preserved c =
    let l = c.loop-top in (
      raised l.invariant.0 _ l.invariant.1 c.if-top-count.false (l.invariant.2.each _) c.seat-i.ensures.0 _ c.rule_in_tower-ruling.ensures _ c.in-Ok.is c.if-height-length.false _ _ c.exchange.ensures.2 c.exchange.ensures.0 c.extend.ensures.1 c.extend.ensures.2,
      l.invariant.1,
      l.invariant.2,
      l.invariant.3,
    )
