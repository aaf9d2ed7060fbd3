-- The local step of one node: what it does with an event, and on delivery. It sees the number of nodes, its own number, its own record and the input.
-- Where Step refuses an event by the table, by its numbers, by the node's record and n, or for want of a message (1, 7 to 11, 18, 19), what is written here does not matter.
-- Grounds 12 to 14 and 17 are read off what is written here.
use Rattle.std.specs.Prelude.{ℕ, ◌-◌, Bool, true, not, ◌&&◌, ◌||◌, eqb, ltb, Some}
use Rattle.node_set.specs.NodeSet.{has, with}
use Rattle.model.specs.Pick.{pick}
use Rattle.model.specs.Node.{is_election, is_reorganization, is_normal, owner_of, next_call, turned, calling, settled, tasked, joined, invited, calls, replies}
use Rattle.model.specs.Procedures.{reaction, stays, answers, recovers, invite_next, merges, hand_next, finishes, forward_next, ask_after}
use Rattle.model.specs.declared.Status.TheVariants.{Down, Reorganization, Normal}
use Rattle.model.specs.declared.Activity.{Activity}
use Rattle.model.specs.declared.Activity.TheVariants.{Idle, Asking, Waiting, Inviting, Collecting, Handing, Contacting, Forwarding, Accepting}
use Rattle.model.specs.declared.Node.{Node}
use Rattle.model.specs.declared.GroupNo.{GroupNo}
use Rattle.model.specs.declared.Message.{Message}
use Rattle.model.specs.declared.Mark.TheVariants.{Plain}
use Rattle.model.specs.declared.Reaction.{Reaction}
use Rattle.model.specs.declared.Input.{Input}
use Rattle.model.specs.declared.Input.TheVariants.{Crash, Recover, Check, Timeout, Tick, Expire, Finish, Receive}

-- "Normal and its own coordinator"
abbrev pub leads : ℕ → Node → Bool
leads i c = is_normal c.status && eqb c.coordinator i

-- "check i: .. it asks every other cabinet in turn with kind 1. .. with n = 1, nothing changes." Since T-06 a check is refused unless the node leads: ground 18 of Step
-- stands for 01's "if Normal and its own coordinator" and for its "Otherwise .. nothing changes".
unfoldable pub checked : ℕ → ℕ → Node → Reaction
checked n i c = pick (ltb 1 n) (ask_after n i c 0 0) (stays c)

-- "timeout i: if its own coordinator, nothing changes. Else it calls AreYouThere on its coordinator, with its group."
unfoldable pub timed_out : ℕ → Node → Reaction
timed_out i c =
    pick (eqb c.coordinator i)
    (stays c)
    (reaction (calling c Contacting) (Some (calls i 2 c.coordinator (next_call c) c.group)) Plain)

-- "tick i: one tick less; at none it merges." By the activity, which is waiting.
unfoldable pub ticked : ℕ → Node → Activity → Reaction
ticked i c Idle = stays c
ticked i c (Asking asked found) = stays c
ticked i c (Waiting ticks found) = pick (eqb ticks 1) (merges i c found) (stays (turned c (Waiting (ticks - 1) found)))
ticked i c (Inviting found former now) = stays c
ticked i c Collecting = stays c
ticked i c (Handing rest now) = stays c
ticked i c Contacting = stays c
ticked i c (Forwarding rest now caller call) = stays c
ticked i c (Accepting caller call) = stays c

-- "expire i: the open call is given up. Asking, inviting, forwarding: on to the next. Handing, accepting, contacting: it recovers and nothing
-- further of the procedure runs". By the activity, which has an open call.
unfoldable pub expired : ℕ → ℕ → Node → Activity → Reaction
expired n i c Idle = stays c
expired n i c (Asking asked found) = ask_after n i c asked found
expired n i c (Waiting ticks found) = stays c
expired n i c (Inviting found former now) = invite_next i c Plain found former
expired n i c Collecting = stays c
expired n i c (Handing rest now) = recovers i c
expired n i c Contacting = recovers i c
expired n i c (Forwarding rest now caller call) = forward_next i c rest caller call
expired n i c (Accepting caller call) = recovers i c

-- the open call is answered, with y for yes: "it goes on: asking adds the cabinet asked on yes; accepting turns to Reorganization, replies to its
-- caller and is idle; contacting is idle on yes and recovers on no". Without an open call "the reply is dropped".
unfoldable pub resumed : ℕ → ℕ → Node → Bool → Activity → Reaction
resumed n i c y Idle = stays c
resumed n i c y (Asking asked found) = ask_after n i c asked (pick y (with found asked) found)
resumed n i c y (Waiting ticks found) = stays c
resumed n i c y (Inviting found former now) = invite_next i c Plain found former
resumed n i c y Collecting = stays c
resumed n i c y (Handing rest now) = hand_next i c rest
resumed n i c y Contacting = pick y (stays (turned c Idle)) (recovers i c)
resumed n i c y (Forwarding rest now caller call) = forward_next i c rest caller call
resumed n i c y (Accepting caller call) = reaction (settled c Reorganization) (Some (replies i caller call true)) Plain

-- ── on delivery, by the kind ──

-- "1: reply yes exactly when Normal and its own coordinator."
unfoldable pub on_are_you_coordinator : ℕ → Node → Message → Reaction
on_are_you_coordinator i c m = answers i c m (leads i c)

-- "2: yes exactly when the group is equal, it is its own coordinator and the sender is a member."
unfoldable pub on_are_you_there : ℕ → Node → Message → Reaction
on_are_you_there i c m =
    answers i c m (eqb c.group.number m.group.number && eqb c.coordinator i && has c.members m.sender)

-- the conditions for a plain reply to an invitation to group g: two of 01, and that of 02, T-03, which "amends the delivery of kind 3"
abbrev pub only_replies : ℕ → Node → GroupNo → Bool
only_replies i c g =
    -- "3: if not Normal,
    not (is_normal c.status)
    -- or it owns that group, plain reply and no change."
    || eqb (owner_of g.number) i
    -- 02: "From now on an invitation to the group a cabinet already holds gets a plain reply and changes nothing else."
    || eqb c.group.number g.number

-- 3: "Otherwise its activity stops; Election, the new group and its owner as coordinator. If it was its own coordinator, it forwards the invitation to each member;
-- then it calls Accept on the new coordinator. The member set is kept."
unfoldable pub on_invitation : ℕ → Node → Message → Reaction
on_invitation i c m =
    pick (only_replies i c m.group)
    (answers i c m true)
    (forward_next i (invited c m.group) (pick (eqb c.coordinator i) c.members 0) m.sender m.call)

-- "4: if in Election, its own coordinator and in that group, the sender joins the members. Plain reply always."
unfoldable pub on_accept : ℕ → Node → Message → Reaction
on_accept i c m =
    answers i
    (pick (is_election c.status && eqb c.coordinator i && eqb c.group.number m.group.number) (joined c m.sender) c)
    m true

-- "5: if in Reorganization and in that group, task taken, Normal. Plain reply always."
unfoldable pub on_ready : ℕ → Node → Message → Reaction
on_ready i c m =
    answers i
    (pick (is_reorganization c.status && eqb c.group.number m.group.number) (tasked c Normal m.task) c)
    m true

-- "6: if a call is open with this number, it goes on .. Otherwise the reply is dropped." The sender is not looked at.
unfoldable pub on_reply : ℕ → ℕ → Node → Message → Reaction
on_reply n i c m = pick (eqb m.call.number c.last.number) (resumed n i c m.yes c.activity) (stays c)

-- "On delivery": by the kind number; no kind is outside 1 to 6 in a table in range
unfoldable pub received : ℕ → ℕ → Node → Message → Reaction
received n i c m =
    pick (eqb m.kind 1) (on_are_you_coordinator i c m)
    (pick (eqb m.kind 2) (on_are_you_there i c m)
    (pick (eqb m.kind 3) (on_invitation i c m)
    (pick (eqb m.kind 4) (on_accept i c m)
    (pick (eqb m.kind 5) (on_ready i c m)
    (pick (eqb m.kind 6) (on_reply n i c m)
    (stays c))))))

-- the local step
unfoldable pub react : ℕ → ℕ → Node → Input → Reaction
-- "crash i: status Down, idle. All else is kept"
react n i c Crash = stays (settled c Down)
react n i c Recover = recovers i c
react n i c Check = checked n i c
react n i c Timeout = timed_out i c
react n i c Tick = ticked i c c.activity
react n i c Expire = expired n i c c.activity
react n i c (Finish t) = finishes i c t
react n i c (Receive m) = received n i c m
