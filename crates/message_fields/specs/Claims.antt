-- What is claimed of a message's bytes: what is encoded decodes to the same message, bytes that decode are the encoding of what they decode to, and no others decode. The proofs are in
-- proofs/RoundTrip and proofs/Cases.
use Rattle.std.specs.Prelude.{Some, None, ℕ, ◌≤◌, true, false, ◌≡◌, List, [], ◌∷◌, ◌++◌, length}
use Rattle.model.specs.Pick.{pick}
use Rattle.model.specs.Range.{message_in_range}
use Rattle.model.specs.Node.{asks, calls, readies, replies}
use Rattle.model.specs.declared.Message.{Message}
use Rattle.message_fields.specs.Fields.{fields, most_bytes, is_message, read_number, reading, carried}

-- Of messages among n nodes, n up to 16, and any bytes l.
pub record OneForm : Type 0 where
  -- what is encoded decodes to the same message
  pub same : (n : ℕ) (m : Message) → n ≤ 16 → message_in_range n m ≡ true → carried m ≡ m → reading n (fields m) ≡ Some m
  -- where something stands in fields that its kind does not carry, as it may in a table, the message is the same but for these
  pub back : (n : ℕ) (m : Message) → n ≤ 16 → message_in_range n m ≡ true → reading n (fields m) ≡ Some (carried m)
  -- bytes that decode are exactly the encoding of what they decode to
  pub exactly : (n : ℕ) (l : List ℕ) (m : Message) → reading n l ≡ Some m → l ≡ fields m
  -- which is in range, with nothing in fields that its kind does not carry
  pub decoded : (n : ℕ) (l : List ℕ) (m : Message) → reading n l ≡ Some m → (message_in_range n m ≡ true) × (carried m ≡ m)
  -- so there is one form for each message,
  pub one_form : (n : ℕ) (l k : List ℕ) (m : Message) → reading n l ≡ Some m → reading n k ≡ Some m → l ≡ k
  -- and one message for each form
  pub one_message : (n : ℕ) (m k : Message) → n ≤ 16 → message_in_range n m ≡ true → message_in_range n k ≡ true → fields m ≡ fields k → carried m ≡ carried k
  -- bytes that are refused are those of no message in range
  pub no_other : (n : ℕ) (l : List ℕ) (m : Message) → n ≤ 16 → reading n l ≡ None → message_in_range n m ≡ true → l ≡ fields m → ⊥
  -- by its number, bytes are refused exactly where they are no message
  pub number : (n : ℕ) (l : List ℕ) → read_number (reading n l) ≡ pick (is_message n l) 0 20
  -- bytes behind a message's make none, and neither do a message's with the last of them missing
  pub nothing_behind : (n : ℕ) (l k : List ℕ) → is_message n l ≡ true → is_message n (l ++ k) ≡ true → k ≡ []
  -- how many bytes a message has: by its kind 13, 20, 25 or 17, and no more than 25, whatever its numbers are
  pub most : (m : Message) → length (fields m) ≤ most_bytes
  pub length_one : (m : Message) → m.kind ≡ 1 → length (fields m) ≡ 13
  pub length_group : (m : Message) → 2 ≤ m.kind → m.kind ≤ 4 → length (fields m) ≡ 20
  pub length_ready : (m : Message) → m.kind ≡ 5 → length (fields m) ≡ 25
  pub length_reply : (m : Message) → m.kind ≡ 6 → length (fields m) ≡ 17

-- ── single messages, and ways in which bytes are none, among three nodes ──
pub record FieldCases : Type 0 where
  -- a message of each form
  pub one : reading 3 (0x20 ∷ 0 ∷ 3 ∷ 2 ∷ 1 ∷ 1 ∷ 0x21 ∷ 0 ∷ 4 ∷ 0 ∷ 0 ∷ 0 ∷ 1 ∷ []) ≡ Some (asks 2 1 (record { number = 1 }))
  pub two : reading 3 (0x20 ∷ 0 ∷ 3 ∷ 1 ∷ 2 ∷ 2 ∷ 0x21 ∷ 0 ∷ 4 ∷ 0 ∷ 0 ∷ 0 ∷ 4 ∷ 0x22 ∷ 0 ∷ 4 ∷ 0 ∷ 0 ∷ 0 ∷ 33 ∷ []) ≡ Some (calls 1 2 2 (record { number = 4 }) (record { number = 33 }))
  pub three : reading 3 (0x20 ∷ 0 ∷ 3 ∷ 2 ∷ 1 ∷ 3 ∷ 0x21 ∷ 0 ∷ 4 ∷ 0 ∷ 0 ∷ 1 ∷ 2 ∷ 0x22 ∷ 0 ∷ 4 ∷ 0 ∷ 0 ∷ 0 ∷ 33 ∷ []) ≡ Some (calls 2 3 1 (record { number = 258 }) (record { number = 33 }))
  pub four : reading 3 (0x20 ∷ 0 ∷ 3 ∷ 1 ∷ 2 ∷ 4 ∷ 0x21 ∷ 0 ∷ 4 ∷ 0 ∷ 0 ∷ 0 ∷ 1 ∷ 0x22 ∷ 0 ∷ 4 ∷ 0 ∷ 0 ∷ 0 ∷ 33 ∷ []) ≡ Some (calls 1 4 2 (record { number = 1 }) (record { number = 33 }))
  pub five : reading 3 (0x20 ∷ 0 ∷ 3 ∷ 2 ∷ 1 ∷ 5 ∷ 0x21 ∷ 0 ∷ 4 ∷ 0 ∷ 0 ∷ 0 ∷ 3 ∷ 0x22 ∷ 0 ∷ 4 ∷ 0 ∷ 0 ∷ 0 ∷ 33 ∷ 0x23 ∷ 0 ∷ 2 ∷ 1 ∷ 44 ∷ []) ≡ Some (readies 2 1 (record { number = 3 }) (record { number = 33 }) (record { number = 300 }))
  pub six_yes : reading 3 (0x20 ∷ 0 ∷ 3 ∷ 1 ∷ 2 ∷ 6 ∷ 0x21 ∷ 0 ∷ 4 ∷ 0 ∷ 0 ∷ 0 ∷ 1 ∷ 0x24 ∷ 0 ∷ 1 ∷ 1 ∷ []) ≡ Some (replies 1 2 (record { number = 1 }) true)
  pub six_no : reading 3 (0x20 ∷ 0 ∷ 3 ∷ 1 ∷ 2 ∷ 6 ∷ 0x21 ∷ 0 ∷ 4 ∷ 0 ∷ 0 ∷ 0 ∷ 1 ∷ 0x24 ∷ 0 ∷ 1 ∷ 0 ∷ []) ≡ Some (replies 1 2 (record { number = 1 }) false)
  -- no bytes, and the last byte missing
  pub none : reading 3 [] ≡ None
  pub cut : reading 3 (0x20 ∷ 0 ∷ 3 ∷ 2 ∷ 1 ∷ 1 ∷ 0x21 ∷ 0 ∷ 4 ∷ 0 ∷ 0 ∷ 0 ∷ []) ≡ None
  -- a wrong tag, and the fields in another order
  pub tag : reading 3 (0x30 ∷ 0 ∷ 3 ∷ 2 ∷ 1 ∷ 1 ∷ 0x21 ∷ 0 ∷ 4 ∷ 0 ∷ 0 ∷ 0 ∷ 1 ∷ []) ≡ None
  pub order : reading 3 (0x21 ∷ 0 ∷ 4 ∷ 0 ∷ 0 ∷ 0 ∷ 1 ∷ 0x20 ∷ 0 ∷ 3 ∷ 2 ∷ 1 ∷ 1 ∷ []) ≡ None
  pub order_behind : reading 3 (0x20 ∷ 0 ∷ 3 ∷ 2 ∷ 1 ∷ 5 ∷ 0x21 ∷ 0 ∷ 4 ∷ 0 ∷ 0 ∷ 0 ∷ 3 ∷ 0x23 ∷ 0 ∷ 2 ∷ 1 ∷ 44 ∷ 0x22 ∷ 0 ∷ 4 ∷ 0 ∷ 0 ∷ 0 ∷ 33 ∷ []) ≡ None
  -- a length that is not the field's, and one with its low byte first
  pub long : reading 3 (0x20 ∷ 0 ∷ 4 ∷ 2 ∷ 1 ∷ 1 ∷ 0x21 ∷ 0 ∷ 4 ∷ 0 ∷ 0 ∷ 0 ∷ 1 ∷ []) ≡ None
  pub low_first : reading 3 (0x20 ∷ 3 ∷ 0 ∷ 2 ∷ 1 ∷ 1 ∷ 0x21 ∷ 0 ∷ 4 ∷ 0 ∷ 0 ∷ 0 ∷ 1 ∷ []) ≡ None
  -- a field too few: an invitation without a group, Ready without a task, a reply without its yes or no
  pub no_group : reading 3 (0x20 ∷ 0 ∷ 3 ∷ 2 ∷ 1 ∷ 3 ∷ 0x21 ∷ 0 ∷ 4 ∷ 0 ∷ 0 ∷ 0 ∷ 2 ∷ []) ≡ None
  pub no_task : reading 3 (0x20 ∷ 0 ∷ 3 ∷ 2 ∷ 1 ∷ 5 ∷ 0x21 ∷ 0 ∷ 4 ∷ 0 ∷ 0 ∷ 0 ∷ 3 ∷ 0x22 ∷ 0 ∷ 4 ∷ 0 ∷ 0 ∷ 0 ∷ 33 ∷ []) ≡ None
  pub no_yes : reading 3 (0x20 ∷ 0 ∷ 3 ∷ 1 ∷ 2 ∷ 6 ∷ 0x21 ∷ 0 ∷ 4 ∷ 0 ∷ 0 ∷ 0 ∷ 1 ∷ []) ≡ None
  -- a field that the kind does not carry, and one twice
  pub group_too : reading 3 (0x20 ∷ 0 ∷ 3 ∷ 2 ∷ 1 ∷ 1 ∷ 0x21 ∷ 0 ∷ 4 ∷ 0 ∷ 0 ∷ 0 ∷ 1 ∷ 0x22 ∷ 0 ∷ 4 ∷ 0 ∷ 0 ∷ 0 ∷ 33 ∷ []) ≡ None
  pub group_in_reply : reading 3 (0x20 ∷ 0 ∷ 3 ∷ 1 ∷ 2 ∷ 6 ∷ 0x21 ∷ 0 ∷ 4 ∷ 0 ∷ 0 ∷ 0 ∷ 1 ∷ 0x22 ∷ 0 ∷ 4 ∷ 0 ∷ 0 ∷ 0 ∷ 33 ∷ []) ≡ None
  pub twice : reading 3 (0x20 ∷ 0 ∷ 3 ∷ 1 ∷ 2 ∷ 6 ∷ 0x21 ∷ 0 ∷ 4 ∷ 0 ∷ 0 ∷ 0 ∷ 1 ∷ 0x24 ∷ 0 ∷ 1 ∷ 1 ∷ 0x24 ∷ 0 ∷ 1 ∷ 1 ∷ []) ≡ None
  -- bytes behind
  pub behind : reading 3 (0x20 ∷ 0 ∷ 3 ∷ 2 ∷ 1 ∷ 1 ∷ 0x21 ∷ 0 ∷ 4 ∷ 0 ∷ 0 ∷ 0 ∷ 1 ∷ 0 ∷ []) ≡ None
  -- numbers out of range: a yes or no of 2; kinds 0 and 7
  pub neither : reading 3 (0x20 ∷ 0 ∷ 3 ∷ 1 ∷ 2 ∷ 6 ∷ 0x21 ∷ 0 ∷ 4 ∷ 0 ∷ 0 ∷ 0 ∷ 1 ∷ 0x24 ∷ 0 ∷ 1 ∷ 2 ∷ []) ≡ None
  pub kind_none : reading 3 (0x20 ∷ 0 ∷ 3 ∷ 2 ∷ 1 ∷ 0 ∷ 0x21 ∷ 0 ∷ 4 ∷ 0 ∷ 0 ∷ 0 ∷ 1 ∷ []) ≡ None
  pub kind_seven : reading 3 (0x20 ∷ 0 ∷ 3 ∷ 2 ∷ 1 ∷ 7 ∷ 0x21 ∷ 0 ∷ 4 ∷ 0 ∷ 0 ∷ 0 ∷ 1 ∷ []) ≡ None
  -- no call number, and one above 16,777,215, which is the last
  pub call_none : reading 3 (0x20 ∷ 0 ∷ 3 ∷ 2 ∷ 1 ∷ 1 ∷ 0x21 ∷ 0 ∷ 4 ∷ 0 ∷ 0 ∷ 0 ∷ 0 ∷ []) ≡ None
  pub call_high : reading 3 (0x20 ∷ 0 ∷ 3 ∷ 2 ∷ 1 ∷ 1 ∷ 0x21 ∷ 0 ∷ 4 ∷ 1 ∷ 0 ∷ 0 ∷ 0 ∷ []) ≡ None
  -- a sender or receiver that is none of the three
  pub sender_none : reading 3 (0x20 ∷ 0 ∷ 3 ∷ 0 ∷ 1 ∷ 1 ∷ 0x21 ∷ 0 ∷ 4 ∷ 0 ∷ 0 ∷ 0 ∷ 1 ∷ []) ≡ None
  pub sender_four : reading 3 (0x20 ∷ 0 ∷ 3 ∷ 4 ∷ 1 ∷ 1 ∷ 0x21 ∷ 0 ∷ 4 ∷ 0 ∷ 0 ∷ 0 ∷ 1 ∷ []) ≡ None
  pub receiver_none : reading 3 (0x20 ∷ 0 ∷ 3 ∷ 2 ∷ 0 ∷ 1 ∷ 0x21 ∷ 0 ∷ 4 ∷ 0 ∷ 0 ∷ 0 ∷ 1 ∷ []) ≡ None
  pub receiver_four : reading 3 (0x20 ∷ 0 ∷ 3 ∷ 2 ∷ 4 ∷ 1 ∷ 0x21 ∷ 0 ∷ 4 ∷ 0 ∷ 0 ∷ 0 ∷ 1 ∷ []) ≡ None
  -- group 0, one of counter 0, one of node 4, and one of counter 1,048,576
  pub group_zero : reading 3 (0x20 ∷ 0 ∷ 3 ∷ 2 ∷ 1 ∷ 3 ∷ 0x21 ∷ 0 ∷ 4 ∷ 0 ∷ 0 ∷ 0 ∷ 1 ∷ 0x22 ∷ 0 ∷ 4 ∷ 0 ∷ 0 ∷ 0 ∷ 0 ∷ []) ≡ None
  pub group_low : reading 3 (0x20 ∷ 0 ∷ 3 ∷ 2 ∷ 1 ∷ 3 ∷ 0x21 ∷ 0 ∷ 4 ∷ 0 ∷ 0 ∷ 0 ∷ 1 ∷ 0x22 ∷ 0 ∷ 4 ∷ 0 ∷ 0 ∷ 0 ∷ 1 ∷ []) ≡ None
  pub group_four : reading 3 (0x20 ∷ 0 ∷ 3 ∷ 2 ∷ 1 ∷ 3 ∷ 0x21 ∷ 0 ∷ 4 ∷ 0 ∷ 0 ∷ 0 ∷ 1 ∷ 0x22 ∷ 0 ∷ 4 ∷ 0 ∷ 0 ∷ 0 ∷ 35 ∷ []) ≡ None
  pub group_high : reading 3 (0x20 ∷ 0 ∷ 3 ∷ 2 ∷ 1 ∷ 3 ∷ 0x21 ∷ 0 ∷ 4 ∷ 0 ∷ 0 ∷ 0 ∷ 1 ∷ 0x22 ∷ 0 ∷ 4 ∷ 1 ∷ 0 ∷ 0 ∷ 0 ∷ []) ≡ None
  -- a task of 99
  pub task_low : reading 3 (0x20 ∷ 0 ∷ 3 ∷ 2 ∷ 1 ∷ 5 ∷ 0x21 ∷ 0 ∷ 4 ∷ 0 ∷ 0 ∷ 0 ∷ 3 ∷ 0x22 ∷ 0 ∷ 4 ∷ 0 ∷ 0 ∷ 0 ∷ 33 ∷ 0x23 ∷ 0 ∷ 2 ∷ 0 ∷ 99 ∷ []) ≡ None
  -- the ends of these ranges pass
  pub call_last : reading 3 (0x20 ∷ 0 ∷ 3 ∷ 2 ∷ 1 ∷ 1 ∷ 0x21 ∷ 0 ∷ 4 ∷ 0 ∷ 255 ∷ 255 ∷ 255 ∷ []) ≡ Some (asks 2 1 (record { number = 16777215 }))
  pub group_last : reading 3 (0x20 ∷ 0 ∷ 3 ∷ 2 ∷ 1 ∷ 3 ∷ 0x21 ∷ 0 ∷ 4 ∷ 0 ∷ 0 ∷ 0 ∷ 1 ∷ 0x22 ∷ 0 ∷ 4 ∷ 0 ∷ 255 ∷ 255 ∷ 242 ∷ []) ≡ Some (calls 2 3 1 (record { number = 1 }) (record { number = 16777202 }))
  pub task_first : reading 3 (0x20 ∷ 0 ∷ 3 ∷ 2 ∷ 1 ∷ 5 ∷ 0x21 ∷ 0 ∷ 4 ∷ 0 ∷ 0 ∷ 0 ∷ 3 ∷ 0x22 ∷ 0 ∷ 4 ∷ 0 ∷ 0 ∷ 0 ∷ 33 ∷ 0x23 ∷ 0 ∷ 2 ∷ 0 ∷ 100 ∷ []) ≡ Some (readies 2 1 (record { number = 3 }) (record { number = 33 }) (record { number = 100 }))
  -- the same sender and receiver
  pub to_itself : reading 3 (0x20 ∷ 0 ∷ 3 ∷ 2 ∷ 2 ∷ 1 ∷ 0x21 ∷ 0 ∷ 4 ∷ 0 ∷ 0 ∷ 0 ∷ 1 ∷ []) ≡ None
