-- The invariant: the first messages are counted.
use Prim.Native.Nat.{ℕ}
use mathlib.Core.Path.{refl, ◌∙◌, ap}
use mathlib.Core.List.{List}
use native.Mathlib.Omega.{arith}
use lib.ListN.{get_or, take, length-take}
use lib.Seq.{take_all}
use Rattle.model.specs.Counts.{listed, rows_of}
use Rattle.model.specs.State.{no_message, how_many, waiting}
use Rattle.model.specs.declared.Message.{Message}
use Rattle.traffic.specs.Rows.{one_more_in}
use Rattle.traffic.proofs.Laws.{waiting_turn, waiting_end, waiting_few, used_few, messages_long}
use Rattle.traffic.proofs.waiting_rows.Goals as goal

pub slice_bounds-messages-end : goal.slice_bounds-messages-end
slice_bounds-messages-end c = let h = messages_long c.args.messages c.well_formed.0 in omega (arith, c.used.ensures, used_few c.args.waiting)

pub slice_bounds-m-items-end : goal.slice_bounds-m-items-end
slice_bounds-m-items-end c =
    let h = messages_long c.args.messages c.well_formed.0 in omega (arith, c.used.ensures, used_few c.args.waiting, length-take c.used.result c.args.messages)

pub loop-m-init : goal.loop-m-init
unfolding listed how_many
loop-m-init c = refl

pub count-requires : goal.count-requires
count-requires c =
    let q = take c.used.result c.args.messages in
    let m = get_or q c.loop-m.m-index no_message in
    rw c.loop-m.invariant
    (omega (arith, waiting_few (take c.loop-m.m-index q) m.sender m.receiver, length-take c.loop-m.m-index q, length-take c.used.result c.args.messages, c.used.ensures, used_few c.args.waiting))

pub loop-m-preserved : goal.loop-m-preserved
loop-m-preserved c =
    let q = take c.used.result c.args.messages in
    let m = get_or q c.loop-m.m-index no_message in
    waiting_turn q c.loop-m.m-index no_message c.loop-m-test.true _ (c.count.ensures ∙ ap (λ (w : List (List ℕ)). one_more_in w m.sender m.receiver) c.loop-m.invariant)

pub returns : goal.returns
returns c =
    let h = messages_long c.args.messages c.well_formed.0 in
    c.loop-m.invariant
    ∙ ap (λ (q : List Message). rows_of (waiting q)) (take_all c.loop-m.m-index _ c.loop-m-test.false)
    ∙ rw c.used.ensures (waiting_end c.args.waiting c.args.messages h)
