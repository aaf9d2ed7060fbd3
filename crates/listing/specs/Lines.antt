-- The lines that are printed. In each, "single spaces part the fields, numbers have no leading zeros, and 0x0A ends each line".
use Rattle.std.specs.Prelude.{List, [], ◌∷◌, ◌++◌, ℕ, ◌+◌, length}
use Rattle.node_set.specs.NodeSet.{count}
use Rattle.model.specs.declared.Node.{Node}
use Rattle.model.specs.Answers.{status_number}
use Rattle.model.specs.Counts.{total}
use Rattle.model.specs.State.{State}
use Rattle.listing.specs.Ascii.{bytes}
use Rattle.listing.specs.Decimal.{decimal}

-- the fields after a line's first, which are numbers, each behind a space, and the line's end: 0x0A is "\n"
unfoldable pub row : List ℕ → List ℕ
row [] = bytes "\n"
row (x ∷ xs) = bytes " " ++ (decimal x ++ row xs)

-- "It prints `cabinets n`"
unfoldable pub cabinets_line : ℕ → List ℕ
cabinets_line n = bytes "cabinets" ++ row (n ∷ [])

-- "for each event refused `refused e r` (e counts events from 1, r the number)"
unfoldable pub refused_line : ℕ → ℕ → List ℕ
refused_line e r = bytes "refused" ++ row (e ∷ r ∷ [])

-- "A list refusal prints `stopped b r` at the offset b of its field's tag"
unfoldable pub stopped_line : ℕ → ℕ → List ℕ
stopped_line b r = bytes "stopped" ++ row (b ∷ r ∷ [])

-- "a line per cabinet: number, status, coordinator, group, task, counter, count of members"
unfoldable pub node_line : ℕ → Node → List ℕ
node_line i c = decimal i ++ row (status_number c.status ∷ c.coordinator ∷ c.group.number ∷ c.task.number ∷ c.counter ∷ count c.members ∷ [])

-- "last `messages` and how many wait"
unfoldable pub messages_line : ℕ → List ℕ
messages_line k = bytes "messages" ++ row (k ∷ [])

-- T-13: how many turns of the round were made until no message waits
unfoldable pub turns_line : ℕ → List ℕ
turns_line k = bytes "turns" ++ row (k ∷ [])

-- T-05: "three more lines, `sent`, `delivered` and `lost`, each with its total": their words
abbrev pub sent_word : List ℕ
sent_word = bytes "sent"

abbrev pub delivered_word : List ℕ
delivered_word = bytes "delivered"

abbrev pub lost_word : List ℕ
lost_word = bytes "lost"

-- such a line: the word and the total x
unfoldable pub total_line : List ℕ → ℕ → List ℕ
total_line word x = word ++ row (x ∷ [])

-- "The totals equal the sums of the records."
unfoldable pub total_lines : State → List (List ℕ)
total_lines s = total_line sent_word (total s.sent) ∷ total_line delivered_word (total s.delivered) ∷ total_line lost_word (total s.lost) ∷ []

-- the lines of nodes, the first of which is node i
unfoldable pub node_lines : ℕ → List Node → List (List ℕ)
node_lines i [] = []
node_lines i (c ∷ cs) = node_line i c ∷ node_lines (i + 1) cs

-- "then a line per cabinet ..; last `messages` and how many wait"; T-05: "The listing ends with three more lines"
unfoldable pub table_lines : State → List (List ℕ)
table_lines s = node_lines 1 s.nodes ++ (messages_line (length s.queue) ∷ total_lines s)
