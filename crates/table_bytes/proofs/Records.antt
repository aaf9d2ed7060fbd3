-- How long each record is, and where each part of a table ends.
use Prim.Native.Nat.{ℕ, ◌+◌}
use mathlib.Core.Path.{◌≡◌}
use mathlib.Core.List.{List, ◌++◌}
use lib.ListN.{length, length-append}
use Rattle.model.specs.declared.Table.{Table}
use Rattle.number_bytes.specs.Bytes.{bytes, all}
use Rattle.number_bytes.proofs.Numbers.{length_bytes}
use Rattle.number_bytes.proofs.Records.{all_long}
pub use Rattle.table_bytes.specs.Sizes.{node_long, message_long}
use Rattle.table_bytes.specs.Bytes.{limits_bytes, node_bytes, message_bytes, size, encoded, Fits}

-- how many elements each array of a table has
pub record Lengths (t : Table) : Type 0 where
  pub nodes : length t.nodes ≡ 16
  pub messages : length t.messages ≡ 64
  pub sent : length t.sent ≡ 256
  pub delivered : length t.delivered ≡ 256
  pub lost : length t.lost ≡ 256

pub lengths : (t : Table) → Fits t → Lengths t
lengths t h = record { nodes = h.nodes.0; messages = h.messages.0; sent = h.sent.0; delivered = h.delivered.0; lost = h.lost.0 }

-- 256 counts behind n bytes
counts_end : (a : List ℕ) (n : ℕ) (xs : List ℕ) → length a ≡ n → length xs ≡ 256 → length (a ++ all (bytes 4) xs) ≡ n + 1024
counts_end a n xs e h = rw (length-append, e, all_long (bytes 4) 4 (length_bytes 4), h)

-- the bytes of a table up to each of its parts, and where that part ends
module _ (t : Table) where
  abbrev pub to_nodes : List ℕ
  to_nodes = bytes 1 t.n ++ all node_bytes t.nodes

  abbrev pub to_messages : List ℕ
  to_messages = to_nodes ++ all message_bytes t.messages

  abbrev pub to_waiting : List ℕ
  to_waiting = to_messages ++ bytes 1 t.waiting

  abbrev pub to_sent : List ℕ
  to_sent = to_waiting ++ all (bytes 4) t.sent

  abbrev pub to_delivered : List ℕ
  to_delivered = to_sent ++ all (bytes 4) t.delivered

  abbrev pub to_lost : List ℕ
  to_lost = to_delivered ++ all (bytes 4) t.lost

  module _ (h : Lengths t) where
    pub nodes_end : length to_nodes ≡ 465
    nodes_end = rw (length-append, length_bytes, all_long node_bytes 29 node_long, h.nodes)

    pub messages_end : length to_messages ≡ 1361
    messages_end = rw (length-append, nodes_end, all_long message_bytes 14 message_long, h.messages)

    pub waiting_end : length to_waiting ≡ 1362
    waiting_end = rw (length-append, messages_end, length_bytes)

    pub sent_end : length to_sent ≡ 2386
    sent_end = counts_end to_waiting 1362 t.sent waiting_end h.sent

    pub delivered_end : length to_delivered ≡ 3410
    delivered_end = counts_end to_sent 2386 t.delivered sent_end h.delivered

    pub lost_end : length to_lost ≡ 4434
    lost_end = counts_end to_delivered 3410 t.lost delivered_end h.lost

    pub encoded_size : length (encoded t) ≡ size
    unfolding encoded limits_bytes
    encoded_size = rw (length-append, lost_end, length-append, length_bytes, length_bytes)
