-- `list_tree::tree::add_next` meets its contract: a turn for each event of the alphabet.
use Prim.Native.Nat.{◌≤◌, ◌<◌}
use native.Mathlib.Omega.{arith}
use mathlib.Core.Path.{sym, ◌∙◌, subst}
use mathlib.Core.List.{[], ◌++◌}
use lib.ListN.{length, get_or}
use lib.Seq.{get_or-take, length-take-le}
use Rattle.model.specs.State.{view}
use Rattle.model.specs.declared.Event.TheVariants.{Crash}
use Rattle.short_lists_text.specs.Lists.{alphabet}
use Rattle.list_events.specs.Events.{size_of}
use Rattle.list_tree.specs.Tree.{lists_in, Extends}
use Rattle.list_tree.proofs.Turns.{all_turns, next_by, by_event, still_state, event_room, event_on}
use Rattle.list_tree.proofs.tree.add_next.Goals as goal

pub add_event-requires : goal.add_event-requires
add_event-requires c =
    let i = c.loop-e.e-index in
    let u = c.table_of-table in
    let t = c.args.t.now in
    let n = c.event_count-count in
    let es = c.events-events in
    let m = length-take-le n.result es.result (omega (arith, n.ensures.1, es.ensures.long)) in
    let k : i < size_of t.n = omega (arith, c.loop-e-test.true, m, n.ensures.0) in
    let x = get_or-take n.result es.result i (Crash 0) (omega (arith, c.loop-e-test.true, m)) ∙ es.ensures.each i k in
    let r = subst (λ m. length (lists_in t ++ m) ≤ 601) (next_by t.n (view u.result) (get_or (lists_in t) c.args.a []) u.ensures) c.requires.2 in
    let g = c.loop-e.invariant in
    (g.sound, still_state t c.requires.0 c.args.a c.requires.1 (view u.result) t.n i k g _ x, event_room t c.requires.0 c.args.a c.requires.1 (view u.result) t.n i k g _ x r)

pub loop-e-preserved : goal.loop-e-preserved
loop-e-preserved c =
    let i = c.loop-e.e-index in
    let u = c.table_of-table in
    let t = c.args.t.now in
    let n = c.event_count-count in
    let es = c.events-events in
    let m = length-take-le n.result es.result (omega (arith, n.ensures.1, es.ensures.long)) in
    let k : i < size_of t.n = omega (arith, c.loop-e-test.true, m, n.ensures.0) in
    let x = get_or-take n.result es.result i (Crash 0) (omega (arith, c.loop-e-test.true, m)) ∙ es.ensures.each i k in
    event_on t c.requires.0 c.args.a c.requires.1 (view u.result) t.n i k c.loop-e.invariant _ x c.add_event.ensures

pub returns : goal.returns
returns c =
    let n = c.event_count-count in
    let es = c.events-events in
    let m = length-take-le n.result es.result (omega (arith, n.ensures.1, es.ensures.long)) in
    let u = c.table_of-table in
    let t = c.args.t.now in
    let q = next_by t.n (view u.result) (get_or (lists_in t) c.args.a []) u.ensures in
    subst (λ m. Extends t m c.loop-e.t) (sym q)
    (all_turns (by_event t c.args.a (view u.result)) (alphabet t.n) (Crash 0) t c.loop-e.e-index (omega (arith, c.loop-e-test.false, m, n.ensures.0)) c.loop-e.invariant)
