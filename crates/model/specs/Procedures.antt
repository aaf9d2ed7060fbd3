-- The procedures of one node: what it does next, each as a reaction (its new record, the message out or none, the mark for the history).
-- No procedure speaks of a refusal: Step holds the grounds.
use Rattle.std.specs.Prelude.{ℕ, ◌+◌, ◌-◌, Bool, not, eqb, leb, ltb, Option, None, Some}
use Rattle.node_set.specs.NodeSet.{without, highest}
use Rattle.model.specs.Pick.{pick}
use Rattle.model.specs.Node.{next_call, turned, calling, settled, tasked, merged, asks, calls, readies, replies}
use Rattle.model.specs.Recovery.{recovered}
use Rattle.model.specs.declared.Status.TheVariants.{Reorganization, Normal}
use Rattle.model.specs.declared.Activity.TheVariants.{Idle, Asking, Waiting, Inviting, Collecting, Handing, Forwarding, Accepting}
use Rattle.model.specs.declared.Node.{Node}
use Rattle.model.specs.declared.CallNo.{CallNo}
use Rattle.model.specs.declared.TaskNo.{TaskNo}
use Rattle.model.specs.declared.Message.{Message}
use Rattle.model.specs.declared.Mark.{Mark}
use Rattle.model.specs.declared.Mark.TheVariants.{Plain, Recovers, Merges}
use Rattle.model.specs.declared.Reaction.{Reaction}

abbrev pub reaction : Node → Option Message → Mark → Reaction
reaction c o k = record { node = c; outgoing = o; mark = k }

-- the record c, and nothing sent
abbrev pub stays : Node → Reaction
stays c = reaction c None Plain

-- the record c, and a reply to the sender of m
abbrev pub answers : ℕ → Node → Message → Bool → Reaction
answers i c m y = reaction c (Some (replies i m.sender m.call y)) Plain

-- "recover i: .. 'Recovers' below means this."
abbrev pub recovers : ℕ → Node → Reaction
recovers i c = reaction (recovered i c) None Recovers

-- 02, T-02: "Whoever picks the next cabinet from a set shall now pick the highest, in inviting, forwarding and handing. Asking still goes from 1 up." So 01's "Sets
-- are walked from the lowest number up" holds of asking alone, which is ask_after.
abbrev pub next : ℕ → ℕ
next s = highest s

-- "It invites the cabinets found, then those set aside (one in both is invited twice), and then collects."
unfoldable pub invite_next : ℕ → Node → Mark → ℕ → ℕ → Reaction
invite_next i c k found former =
    pick (not (eqb found 0))
    (reaction (calling c (Inviting (without found (next found)) former (next found))) (Some (calls i 3 (next found) (next_call c) c.group)) k)
    (pick (not (eqb former 0))
    (reaction (calling c (Inviting 0 (without former (next former)) (next former))) (Some (calls i 3 (next former) (next_call c) c.group)) k)
    (reaction (turned c Collecting) None k))

-- "merge: Election; counter plus one, new group, coordinator i; members are set aside and emptied."
unfoldable pub merges : ℕ → Node → ℕ → Reaction
merges i c found = invite_next i (merged i c) Merges found c.members

-- "It hands Ready to each member; after the last, or with none, Normal and idle."
unfoldable pub hand_next : ℕ → Node → ℕ → Reaction
hand_next i c rest =
    pick (eqb rest 0)
    (stays (settled c Normal))
    (reaction (calling c (Handing (without rest (next rest)) (next rest)))
    (Some (readies i (next rest) (next_call c) c.group c.task)) Plain)

-- "finish i with task t: Reorganization, task t."
unfoldable pub finishes : ℕ → Node → TaskNo → Reaction
finishes i c t = hand_next i (tasked c Reorganization t) c.members

-- "it forwards the invitation to each member; then it calls Accept on the new coordinator"
unfoldable pub forward_next : ℕ → Node → ℕ → ℕ → CallNo → Reaction
forward_next i c rest caller call =
    pick (eqb rest 0)
    (reaction (calling c (Accepting caller call))
    (Some (calls i 4 c.coordinator (next_call c) c.group)) Plain)
    (reaction (calling c (Forwarding (without rest (next rest)) (next rest) caller call))
    (Some (calls i 3 (next rest) (next_call c) c.group)) Plain)

-- "After the last: none found, idle. Else let p be the highest found: if i < p it waits p − i ticks, else it merges."
unfoldable pub asked_all : ℕ → Node → ℕ → Reaction
asked_all i c found =
    pick (eqb found 0)
    (stays (turned c Idle))
    (pick (ltb i (highest found))
    (stays (turned c (Waiting (highest found - i) found)))
    (merges i c found))

-- node j is asked "with kind 1", or where there is none, the asking ends
unfoldable pub ask_at : ℕ → ℕ → Node → ℕ → ℕ → Reaction
ask_at n i c j found =
    pick (leb j n)
    (reaction (calling c (Asking j found)) (Some (asks i j (next_call c))) Plain)
    (asked_all i c found)

-- "it asks every other cabinet in turn"; 02, T-02: "from 1 up". The one after j is asked, i itself left out.
unfoldable pub ask_after : ℕ → ℕ → Node → ℕ → ℕ → Reaction
ask_after n i c j found = pick (eqb (j + 1) i) (ask_at n i c (j + 2) found) (ask_at n i c (j + 1) found)
