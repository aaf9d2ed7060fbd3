-- T-01's order: "The order compares lists event by event, tag first, then contents as bytes."
use Rattle.std.specs.Prelude.{ℕ, ◌<◌, ◌/◌, ◌%◌, ◌≡◌, ◌⊎◌, List, [], ◌∷◌}
use Rattle.model.specs.declared.Event.{Event}
use Rattle.model.specs.declared.Event.TheVariants.{Crash, Recover, Check, Timeout, Tick, Expire, Finish, Deliver, Lose}

-- 01: "0x10 crash, 0x11 recover, 0x12 check, 0x13 timeout, 0x14 tick, 0x15 expire, .. 0x16 finish, .. 0x17 deliver and 0x18 lose"
abbrev pub tag : Event → ℕ
tag (Crash i) = 0x10
tag (Recover i) = 0x11
tag (Check i) = 0x12
tag (Timeout i) = 0x13
tag (Tick i) = 0x14
tag (Expire i) = 0x15
tag (Finish i t) = 0x16
tag (Deliver a b) = 0x17
tag (Lose a b) = 0x18

-- 01: "each one byte i", "i and a two-byte task, high byte first", "sender and receiver"
abbrev pub contents : Event → List ℕ
contents (Crash i) = i ∷ []
contents (Recover i) = i ∷ []
contents (Check i) = i ∷ []
contents (Timeout i) = i ∷ []
contents (Tick i) = i ∷ []
contents (Expire i) = i ∷ []
contents (Finish i t) = i ∷ (t.number / 256) ∷ (t.number % 256) ∷ []
contents (Deliver a b) = a ∷ b ∷ []
contents (Lose a b) = a ∷ b ∷ []

-- c comes before d: the first byte that differs decides. What ends first comes first: 02 does not say so, and among contents of one tag, which are of one length, it does not arise.
abbrev pub BytesBefore : List ℕ → List ℕ → Type 0
BytesBefore c [] = ⊥
BytesBefore [] (y ∷ ys) = Unit {0}
BytesBefore (x ∷ xs) (y ∷ ys) = (x < y) ⊎ ((x ≡ y) × BytesBefore xs ys)

-- "tag first, then contents as bytes"
abbrev pub Before : Event → Event → Type 0
Before e f = (tag e < tag f) ⊎ ((tag e ≡ tag f) × BytesBefore (contents e) (contents f))

-- "The order compares lists event by event": the first event that differs decides. What ends first comes first: that does not arise either, among lists of one length.
abbrev pub ListBefore : List Event → List Event → Type 0
ListBefore l [] = ⊥
ListBefore [] (f ∷ fs) = Unit {0}
ListBefore (e ∷ es) (f ∷ fs) = Before e f ⊎ ((e ≡ f) × ListBefore es fs)
