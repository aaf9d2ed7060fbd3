-- A record "as the bench prints it, with its activity in words", and a message in words. Single spaces part the words and numbers.
use Rattle.std.specs.Prelude.{ℕ, zero, suc, ◌+◌, Bool, List, [], ◌∷◌, ◌++◌, eqb}
use Rattle.node_set.specs.NodeSet.{has, count}
use Rattle.model.specs.Pick.{pick}
use Rattle.model.specs.Answers.{status_number}
use Rattle.model.specs.declared.Activity.{Activity}
use Rattle.model.specs.declared.Activity.TheVariants.{Idle, Asking, Waiting, Inviting, Collecting, Handing, Contacting, Forwarding, Accepting}
use Rattle.model.specs.declared.Node.{Node}
use Rattle.model.specs.declared.Message.{Message}
use Rattle.listing.specs.Ascii.{bytes}
use Rattle.listing.specs.Decimal.{decimal}
use Rattle.short_lists_text.specs.Text.{spaced}
use Rattle.list_text.specs.Words.{same}

-- ── a record ──

-- those of the k numbers from i up that are in the set s
unfoldable pub nodes_from : ℕ → ℕ → ℕ → List ℕ
nodes_from zero i s = []
nodes_from (suc k) i s = pick (has s i) (i ∷ []) [] ++ nodes_from k (i + 1) s

-- the nodes of a set, from 1 up, each after a space; ` none` of the empty set
unfoldable pub set_text : ℕ → List ℕ
set_text s = pick (eqb s 0) (bytes " none") (spaced (nodes_from 16 1 s))

-- a word and a number
abbrev pub numbered : List ℕ → ℕ → List ℕ
numbered w x = w ++ spaced (x ∷ [])

-- "its activity in words", with 01's "what it needs to go on": "idle; asking (cabinet asked, set found); waiting (ticks left 1 to 15, set found); inviting (whom still, in two sets, and whom now);
-- collecting; handing (whom still, whom now); contacting; forwarding (whom still, whom now, caller and the number of its call); accepting (caller and the number of its call)".
-- Of inviting the two sets are those still to be invited among the nodes found and among the former members; the call of forwarding and accepting is the caller's.
unfoldable pub activity_text : Activity → List ℕ
activity_text Idle = bytes "idle"
activity_text (Asking i f) = numbered (bytes "asking") i ++ (bytes " found" ++ set_text f)
activity_text (Waiting t f) = numbered (bytes "waiting ticks") t ++ (bytes " found" ++ set_text f)
activity_text (Inviting f g i) = numbered (bytes "inviting") i ++ (bytes " found" ++ (set_text f ++ (bytes " former" ++ set_text g)))
activity_text Collecting = bytes "collecting"
activity_text (Handing r i) = numbered (bytes "handing") i ++ (bytes " still" ++ set_text r)
activity_text Contacting = bytes "contacting"
activity_text (Forwarding r i a k) = numbered (bytes "forwarding") i ++ (bytes " still" ++ (set_text r ++ (numbered (bytes " caller") a ++ numbered (bytes " call") k.number)))
activity_text (Accepting a k) = bytes "accepting" ++ (numbered (bytes " caller") a ++ numbered (bytes " call") k.number)

-- what the bench's line of a record shows behind the node's number: "status, coordinator, group, task, counter, count of members"
abbrev pub shown_numbers : Node → List ℕ
shown_numbers c = status_number c.status ∷ c.coordinator ∷ c.group.number ∷ c.task.number ∷ c.counter ∷ count c.members ∷ []

-- "the line of each record that changed (as the bench prints it, with its activity in words)", behind two spaces
unfoldable pub record_line : ℕ → Node → List ℕ
record_line i c = bytes "  " ++ (decimal i ++ (spaced (shown_numbers c) ++ (bytes " " ++ (activity_text c.activity ++ bytes "\n"))))

-- ── a record that changed ──

-- an activity as five numbers: which it is, and what it needs to go on
abbrev pub activity_numbers : Activity → List ℕ
activity_numbers Idle = 0 ∷ 0 ∷ 0 ∷ 0 ∷ 0 ∷ []
activity_numbers (Asking i f) = 1 ∷ i ∷ f ∷ 0 ∷ 0 ∷ []
activity_numbers (Waiting t f) = 2 ∷ t ∷ f ∷ 0 ∷ 0 ∷ []
activity_numbers (Inviting f g i) = 3 ∷ i ∷ f ∷ g ∷ 0 ∷ []
activity_numbers Collecting = 4 ∷ 0 ∷ 0 ∷ 0 ∷ 0 ∷ []
activity_numbers (Handing r i) = 5 ∷ i ∷ r ∷ 0 ∷ 0 ∷ []
activity_numbers Contacting = 6 ∷ 0 ∷ 0 ∷ 0 ∷ 0 ∷ []
activity_numbers (Forwarding r i a k) = 7 ∷ i ∷ r ∷ a ∷ k.number ∷ []
activity_numbers (Accepting a k) = 8 ∷ a ∷ k.number ∷ 0 ∷ 0 ∷ []

-- a whole record as twelve
abbrev pub node_numbers : Node → List ℕ
node_numbers c =
    status_number c.status ∷ c.counter ∷ c.group.number ∷ c.coordinator ∷ c.task.number ∷ c.members ∷ c.last.number ∷ activity_numbers c.activity

-- two records are the same, field by field (`SameRecords` in specs/Claims)
unfoldable pub same_node : Node → Node → Bool
same_node c d = same (node_numbers c) (node_numbers d)

-- ── a message ──

-- 01: "Kinds: 1 AreYouCoordinator; 2 AreYouThere (group); 3 Invitation (group); 4 Accept (group); 5 Ready (group, task); 6 reply (yes or no ..)"
unfoldable pub kind_text : ℕ → List ℕ
kind_text k =
    pick (eqb k 1) (bytes "AreYouCoordinator")
    (pick (eqb k 2) (bytes "AreYouThere")
    (pick (eqb k 3) (bytes "Invitation")
    (pick (eqb k 4) (bytes "Accept")
    (pick (eqb k 5) (bytes "Ready")
    (bytes "reply")))))

-- what a message of its kind carries; a table in range has no other kinds than 1 to 6
unfoldable pub carried_text : Message → List ℕ
carried_text m =
    pick (eqb m.kind 1) []
    (pick (eqb m.kind 6) (pick m.yes (bytes " yes") (bytes " no"))
    (numbered (bytes " group") m.group.number ++ pick (eqb m.kind 5) (numbered (bytes " task") m.task.number) []))

-- "the message .., in words (`2 -> 1 Invitation group 33 call 2`)"
unfoldable pub message_words : Message → List ℕ
message_words m =
    decimal m.sender ++ (bytes " -> " ++ (decimal m.receiver ++ (bytes " " ++ (kind_text m.kind ++ (carried_text m ++ numbered (bytes " call") m.call.number)))))

-- "the message taken out", behind two spaces
unfoldable pub taken_line : Message → List ℕ
taken_line m = bytes "  taken " ++ (message_words m ++ bytes "\n")

-- the message "put in"
unfoldable pub sent_line : Message → List ℕ
sent_line m = bytes "  sent " ++ (message_words m ++ bytes "\n")
