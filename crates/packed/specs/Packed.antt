-- What a row of words means as waiting messages.
use Rattle.std.specs.Prelude.{ℕ, ◌+◌, ◌*◌, ◌/◌, ◌%◌, ◌≤◌, ◌≡◌, Bool, true, false, List, [], ◌∷◌, eqb, get_or}
use Rattle.model.specs.State.{no_message, first_of}
use Rattle.model.specs.declared.Node.{Node}
use Rattle.model.specs.declared.Message.{Message}
use Rattle.model.specs.declared.Event.{Event}
use Rattle.machine.specs.Parts.{place_for, Judging, Judged}
use Rattle.packed.specs.declared.Ruling.{Ruling}

abbrev pub one_if : Bool → ℕ
one_if true = 1
one_if false = 0

-- the words of a message: whom it goes from and to; kind, yes and task; call; group
abbrev pub route : ℕ → ℕ → ℕ
route a b = b * 256 + a

abbrev pub content : Message → ℕ
content m = (m.task.number * 2 + one_if m.yes) * 256 + m.kind

-- and the message of four words
abbrev pub unpacked : ℕ → ℕ → ℕ → ℕ → Message
unpacked a b c d = record {
  sender = a % 256;
  receiver = a / 256 % 256;
  kind = b % 256;
  call = record { number = c };
  group = record { number = d };
  task = record { number = b / 256 / 2 % 65536 };
  yes = eqb (b / 256 % 2) 1;
}

-- whether a first word has the key's sender and receiver
abbrev pub is_route : ℕ → ℕ → Bool
is_route word key = eqb (word % 65536) key

-- the messages of a row of words
unfoldable pub held : List ℕ → List Message
held [] = []
held (a ∷ []) = []
held (a ∷ b ∷ []) = []
held (a ∷ b ∷ c ∷ []) = []
held (a ∷ b ∷ c ∷ d ∷ ws) = unpacked a b c d ∷ held ws

-- those of the first w places
abbrev pub queue : List ℕ → ℕ → List Message
queue ws w = first_of w no_message (held ws)

-- the message at k
abbrev pub message_at : List ℕ → ℕ → Message
message_at ws k = get_or (held ws) (k % 64) no_message

-- what a ruling needs, and what it says
abbrev pub Rulable : List ℕ → ℕ → ℕ → Node → Event → Type 0
Rulable ws n waiting c e = Judging n waiting (place_for (queue ws waiting) e) c (message_at ws (place_for (queue ws waiting) e)) e

pub record Ruled (ws : List ℕ) (n limit waiting : ℕ) (c : Node) (e : Event) (r : Ruling) : Type 0 where
  pub place : r.place ≡ place_for (queue ws waiting) e
  pub reach : r.place ≤ waiting
  pub judged : Judged n limit waiting r.place c (message_at ws r.place) e r.verdict
