-- The bytes of a message by its kind; when bytes are the same; a packet's bytes.
use Prim.Native.Nat.{ℕ, zero, suc, ◌+◌, ◌≤◌, ◌<◌}
use native.Mathlib.Numerals.{add-one}
use native.Mathlib.Omega.{arith}
use mathlib.Core.Bool.{Bool, true, false, ◌&&◌}
use mathlib.Core.Path.{◌≡◌, refl, ap}
use mathlib.Core.List.{List, ◌++◌}
use lib.Dec.{eqb, leb}
use lib.ListN.{length, get_or, take, drop, replicate, drop_of_length-le}
use lib.Seq.{drop-cons, take-append_seam}
use borrow.Author.Tests.{eq-eqb, ne_eqb, le-leb, lt-leb}
use Rattle.model.specs.Pick.{pick}
use Rattle.model.specs.Range.{carries_group}
use Rattle.model.specs.declared.Message.{Message}
use Rattle.model.proofs.Lists.{left_turn, left_end}
use Rattle.model.proofs.Local.{right_fails}
use Rattle.number_bytes.specs.Bytes.{bytes, same_bytes}
use Rattle.number_bytes.proofs.Numbers.{written_over}
use Rattle.message_fields.specs.declared.Packet.{Packet}
use Rattle.message_fields.specs.Fields.{group_field, task_field, yes_field, carries_task, carries_yes, only_if, fields, most_bytes, Packed}
use Rattle.message_fields.specs.Parts.{call_fields}

-- ── by the kind ──
fields_by : (m : Message) {g t y : Bool} → carries_group m.kind ≡ g → carries_task m.kind ≡ t → carries_yes m.kind ≡ y → fields m ≡ call_fields m ++ (only_if g (group_field m) ++ (only_if t (task_field m) ++ only_if y (yes_field m)))
unfolding bytes fields
fields_by m a b c = rw (a, b, c)

-- what is written, and how many bytes
pub record Form (m : Message) (l : List ℕ) (k : ℕ) : Type 0 where
  pub bytes : fields m ≡ l
  pub length : length (fields m) ≡ k

pub no_group_low : (k : ℕ) → k ≤ 1 → carries_group k ≡ false
no_group_low k h = rw (lt-leb 2 k (omega arith))

pub no_group_high : (k : ℕ) → 6 ≤ k → carries_group k ≡ false
no_group_high k h = right_fails (leb 2 k) (lt-leb k 5 (omega arith))

pub a_group : (k : ℕ) → 2 ≤ k → k ≤ 5 → carries_group k ≡ true
a_group k h l = rw (le-leb 2 k h, le-leb k 5 l)

module _ (m : Message) where
  plain : carries_group m.kind ≡ false → (m.kind ≡ 5 → ⊥) → (m.kind ≡ 6 → ⊥) → Form m (call_fields m) 13
  unfolding bytes pick
  plain a b c =
      let e = fields_by m a (ne_eqb _ _ b) (ne_eqb _ _ c) in
      record { bytes = e; length = ap length e }

  pub plain_low : m.kind ≤ 1 → Form m (call_fields m) 13
  plain_low h = plain (no_group_low _ h) (λ q. omega (arith, q, h)) (λ q. omega (arith, q, h))

  pub plain_high : 7 ≤ m.kind → Form m (call_fields m) 13
  plain_high h = plain (no_group_high m.kind (omega arith)) (λ q. omega (arith, q, h)) (λ q. omega (arith, q, h))

  pub grouped : 2 ≤ m.kind → m.kind ≤ 4 → Form m (call_fields m ++ group_field m) 20
  unfolding bytes pick
  grouped h l =
      let e = fields_by m (a_group m.kind h (omega arith)) (ne_eqb m.kind 5 (λ q. omega (arith, q, l))) (ne_eqb m.kind 6 (λ q. omega (arith, q, l))) in
      record { bytes = e; length = ap length e }

  pub ready : m.kind ≡ 5 → Form m ((call_fields m ++ group_field m) ++ task_field m) 25
  unfolding bytes pick
  ready h =
      let e = fields_by m (a_group m.kind (omega arith) (omega arith)) (eq-eqb m.kind 5 h) (ne_eqb m.kind 6 (λ q. omega (arith, q, h))) in
      record { bytes = e; length = ap length e }

  pub reply : m.kind ≡ 6 → Form m (call_fields m ++ yes_field m) 17
  unfolding bytes pick
  reply h =
      let e = fields_by m (no_group_high m.kind (omega arith)) (ne_eqb m.kind 5 (λ q. omega (arith, q, h))) (eq-eqb m.kind 6 h) in
      record { bytes = e; length = ap length e }

-- ── the kinds, as far as their fields differ ──
pub data Kind (k : ℕ) : Type 0 where
  low : k ≤ 1 → Kind k
  middle : 2 ≤ k → k ≤ 4 → Kind k
  five : k ≡ 5 → Kind k
  six : k ≡ 6 → Kind k
  high : 7 ≤ k → Kind k

pub kind_of : (k : ℕ) → Kind k
kind_of zero = low (omega arith)
kind_of (suc zero) = low (omega arith)
kind_of (suc (suc zero)) = middle (omega arith) (omega arith)
kind_of (suc (suc (suc zero))) = middle (omega arith) (omega arith)
kind_of (suc (suc (suc (suc zero)))) = middle (omega arith) (omega arith)
kind_of (suc (suc (suc (suc (suc zero))))) = five refl
kind_of (suc (suc (suc (suc (suc (suc zero)))))) = six refl
kind_of (suc (suc (suc (suc (suc (suc (suc k))))))) = high (omega arith)

pub at_most : (m : Message) → length (fields m) ≤ most_bytes
at_most m = by (kind_of m.kind)
  where
    by : Kind m.kind → length (fields m) ≤ most_bytes
    by (low h) = rw (plain_low m h).length (omega arith)
    by (middle h l) = rw (grouped m h l).length (omega arith)
    by (five h) = rw (ready m h).length (omega arith)
    by (six h) = rw (reply m h).length (omega arith)
    by (high h) = rw (plain_high m h).length (omega arith)

-- the bytes of a packet that are the message's
pub unpacked : (p : Packet) (m : Message) → Packed p (fields m) → take p.length p.bytes ≡ fields m
unpacked p m h = rw (h.bytes, h.length, written_over (replicate most_bytes 0) (fields m) (at_most m)) (take-append_seam (fields m) _)

-- ── the same bytes ──
-- at place i of s and of the first k of b
module _ (s b : List ℕ) (k : ℕ) (h : k ≤ length b) (e : length s ≡ k) (i : ℕ) where
  pub same_turn : i < k → same_bytes (drop i s) (drop i (take k b)) ≡ eqb (get_or s i 0) (get_or b i 0) && same_bytes (drop (i + 1) s) (drop (i + 1) (take k b))
  unfolding same_bytes
  same_turn p = rw (left_turn b k h i p 0, drop-cons s i 0 (omega arith), add-one i)

  pub same_end : k ≤ i → same_bytes (drop i s) (drop i (take k b)) ≡ true
  unfolding same_bytes
  same_end p =
      let q : length s ≤ i = omega arith in
      rw (left_end b k h i p, drop_of_length-le)
