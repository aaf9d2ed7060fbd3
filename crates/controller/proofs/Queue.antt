-- A queue of messages in bytes does as a queue of messages: who waits, the oldest, the queue without it; and what is sent.
use Prim.Native.Nat.{ℕ, ◌+◌, ◌≤◌}
use mathlib.Core.Bool.{Bool, true, false, ◌&&◌, ◌||◌, true≢false}
use mathlib.Core.Path.{◌≡◌, refl, sym, ap}
use mathlib.Core.List.{List, [], ◌∷◌, map}
use lib.Dec.{eqb}
use lib.ListN.{length, length-map}
use Rattle.model.specs.Pick.{pick}
use Rattle.model.specs.Range.{message_in_range}
use Rattle.model.specs.State.{goes, waits, oldest, without_oldest, every}
use Rattle.model.specs.Step.{sent, is_sending}
use Rattle.model.proofs.Local.{both_left, both_right}
use Rattle.model.specs.declared.Message.{Message}
use Rattle.std.specs.Prelude.{Option, None, Some}
use Rattle.message_fields.specs.Fields.{fields}
use Rattle.message_fields.proofs.RoundTrip.{sender_at, receiver_at, has_bytes}
use Rattle.controller.specs.Controller.{sent_bytes}
use Rattle.controller.specs.Network.{goes_bytes, waits_in, oldest_in, without_in, as_queued, is_full}

module _ (n : ℕ) (small : n ≤ 16) where
  -- ── from whom and to whom, by the bytes ──
  module _ (m : Message) (r : message_in_range n m ≡ true) where
    goes_bytes_lem : (a b : ℕ) → goes_bytes a b (fields m) ≡ goes a b m
    goes_bytes_lem a b = rw (sender_at n m small r, receiver_at n m small r)

  -- ── the queue ──
  module _ (a b : ℕ) where
    pub waits_bytes : (k : ℕ) (q : List Message) → every (λ _. message_in_range n) k q ≡ true → waits_in a b (map fields q) ≡ waits a b q
    unfolding every waits waits_in
    waits_bytes k [] r = refl
    waits_bytes k (m ∷ q) r = rw (goes_bytes_lem m (both_left (message_in_range n m) _ r) a b, waits_bytes (k + 1) q (both_right (message_in_range n m) _ r))

    pub oldest_bytes : (k : ℕ) (q : List Message) → every (λ _. message_in_range n) k q ≡ true → waits a b q ≡ true → oldest_in a b (map fields q) ≡ fields (oldest a b q)
    unfolding pick every waits oldest oldest_in
    oldest_bytes k [] r w = absurd (true≢false (sym w))
    oldest_bytes k (m ∷ q) r w = rw (goes_bytes_lem m (both_left (message_in_range n m) _ r) a b) (by (goes a b m) w (oldest_bytes (k + 1) q (both_right (message_in_range n m) _ r)))
      where
        by : (t : Bool) → (t || waits a b q) ≡ true → (waits a b q ≡ true → oldest_in a b (map fields q) ≡ fields (oldest a b q)) → pick t (fields m) (oldest_in a b (map fields q)) ≡ fields (pick t m (oldest a b q))
        by true w f = refl
        by false w f = f w

    pub without_bytes : (k : ℕ) (q : List Message) → every (λ _. message_in_range n) k q ≡ true → without_in a b (map fields q) ≡ map fields (without_oldest a b q)
    unfolding pick every without_oldest without_in
    without_bytes k [] r = refl
    without_bytes k (m ∷ q) r = rw (goes_bytes_lem m (both_left (message_in_range n m) _ r) a b, without_bytes (k + 1) q (both_right (message_in_range n m) _ r)) (by (goes a b m))
      where
        by : (t : Bool) → pick t (map fields q) (fields m ∷ map fields (without_oldest a b q)) ≡ map fields (pick t q (m ∷ without_oldest a b q))
        by true = refl
        by false = refl

-- ── what is sent ──
pub queued_sent : (o : Option Message) → as_queued (sent_bytes o) ≡ map fields (sent o)
queued_sent None = refl
queued_sent (Some m) = has_bytes m (λ (l : List ℕ). as_queued l ≡ l ∷ []) (λ x l. refl)

pub full_is : (limit : ℕ) (q : List Message) (o : Option Message) → is_full limit (map fields q) (as_queued (sent_bytes o)) ≡ is_sending o && eqb (length q) limit
full_is limit q None = refl
full_is limit q (Some m) = has_bytes m (λ (l : List ℕ). is_full limit (map fields q) (as_queued l) ≡ eqb (length q) limit) (λ x l. ap (λ (k : ℕ). eqb k limit) (length-map q fields))
