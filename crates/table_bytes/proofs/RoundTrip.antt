-- A table that fits is read back from its bytes: the claims `ReadBack`.
use Prim.Native.Nat.{ℕ, ◌≤◌, ◌<◌}
use mathlib.Core.Path.{◌≡◌, refl, ◌∙◌, ap}
use mathlib.Core.List.{List, [], ◌++◌, append_assoc, append-nil}
use lib.ListN.{length, drop}
use lib.Seq.{drop-append_seam}
use Rattle.model.specs.Pick.{pick}
use Rattle.model.specs.Answers.{status_number}
use Rattle.model.specs.declared.Limits.{Limits}
use Rattle.model.specs.declared.Activity.{Activity}
use Rattle.model.specs.declared.Activity.TheVariants.{Idle, Asking, Waiting, Inviting, Collecting, Handing, Contacting, Forwarding, Accepting}
use Rattle.model.specs.declared.Node.{Node}
use Rattle.model.specs.declared.Message.{Message}
use Rattle.model.specs.declared.Table.{Table}
use Rattle.number_bytes.specs.Bytes.{number, bytes, many, all, Each, written, yes_number}
use Rattle.number_bytes.proofs.Numbers.{read, one_back, number_at_lem, length_bytes, written_over}
use Rattle.number_bytes.proofs.Records.{all_long, many_back, status_back, status_small, yes_back, yes_small}
use Rattle.table_bytes.specs.Bytes.{parts_of, activity_of, node_of, message_of, count_of, limits_of, decoded, parts_bytes, node_bytes, message_bytes, limits_bytes, size, encoded, Stored, records_size, RecordsStored, NodeFits, MessageFits, CountFits, Fits}
use Rattle.table_bytes.specs.Claims.{ReadBack}
use Rattle.table_bytes.proofs.Records.{node_long, message_long, lengths, to_nodes, to_messages, to_waiting, to_sent, to_delivered, to_lost, nodes_end, messages_end, waiting_end, sent_end, delivered_end, lost_end, encoded_size}

-- ── the records ──
activity_back : (a : Activity) → activity_of (parts_of a) ≡ a
unfolding activity_of pick
activity_back Idle = refl
activity_back (Asking asked found) = refl
activity_back (Waiting ticks found) = refl
activity_back (Inviting found former now) = refl
activity_back Collecting = refl
activity_back (Handing rest now) = refl
activity_back Contacting = refl
activity_back (Forwarding rest now caller call) = refl
activity_back (Accepting caller call) = refl

pub node_back : (c : Node) → NodeFits c → (l : List ℕ) → node_of (node_bytes c ++ l) ≡ c
unfolding number bytes node_of parts_bytes node_bytes
node_back c h l =
    let p = parts_of c.activity in
    let a = h.activity in
    rw (read 1 (status_number c.status) (status_small c.status), read 4 c.counter h.counter, read 4 c.group.number h.group, read 1 c.coordinator h.coordinator, read 2 c.task.number h.task, read 2 c.members h.members, read 4 c.last.number h.last)
    (rw (read 1 p.tag a.tag, read 2 p.set a.set, read 2 p.former a.former, read 1 p.node a.node, read 1 p.caller a.caller, read 4 p.call a.call, status_back, activity_back c.activity))

message_back : (m : Message) → MessageFits m → (l : List ℕ) → message_of (message_bytes m ++ l) ≡ m
unfolding number bytes message_of message_bytes
message_back m h l =
    rw (read 1 m.sender h.sender, read 1 m.receiver h.receiver, read 1 m.kind h.kind, read 4 m.call.number h.call, read 4 m.group.number h.group, read 2 m.task.number h.task, read 1 (yes_number m.yes) (yes_small m.yes), yes_back)

count_back : (x : ℕ) → CountFits x → (l : List ℕ) → count_of (bytes 4 x ++ l) ≡ x
unfolding number bytes
count_back x h l = read 4 x h

counts_back : (n : ℕ) (a xs : List ℕ) → length a ≡ n → (length xs ≡ 256) × Each CountFits xs → (l : List ℕ) → many count_of 4 256 (drop n (a ++ (all (bytes 4) xs ++ l))) ≡ xs
counts_back = many_back count_of (bytes 4) 4 (length_bytes 4) CountFits count_back 256

limits_read : (x : Limits) → (x.nodes < 256) × (x.messages < 256) → (l : List ℕ) → limits_of (limits_bytes x ++ l) ≡ x
unfolding number bytes limits_of limits_bytes
limits_read x h l = rw (read 1 x.nodes h.0, read 1 x.messages h.1)

-- ── the table ──

-- what comes behind the first n elements
drop_behind : (a b : List ℕ) (n : ℕ) → length a ≡ n → drop n (a ++ b) ≡ b
drop_behind a b n e = rw (← e) (drop-append_seam a b)

table_is : (t : Table) {n w : ℕ} {lim : Limits} {xs : List Node} {qs : List Message} {ss ds ls : List ℕ} → n ≡ t.n → lim ≡ t.limits → xs ≡ t.nodes → qs ≡ t.messages → w ≡ t.waiting → ss ≡ t.sent → ds ≡ t.delivered → ls ≡ t.lost
    → ◌≡◌ {A = Table} (record { n = n; limits = lim; nodes = xs; messages = qs; waiting = w; sent = ss; delivered = ds; lost = ls }) t
table_is t a i b c d e f g = rw (a, i, b, c, d, e, f, g)

module _ (t : Table) (h : Fits t) (l : List ℕ) where
  n_back : number 1 (encoded t ++ l) 0 ≡ t.n
  unfolding number bytes encoded
  n_back = read 1 t.n h.n

  nodes_back : many node_of 29 16 (drop 1 (encoded t ++ l)) ≡ t.nodes
  unfolding encoded
  nodes_back =
      rw (append_assoc, append_assoc, append_assoc, append_assoc, append_assoc, append_assoc, append_assoc)
      (many_back node_of node_bytes 29 node_long NodeFits node_back 16 1 (bytes 1 t.n) t.nodes (length_bytes 1 t.n) h.nodes _)

  messages_back : many message_of 14 64 (drop 465 (encoded t ++ l)) ≡ t.messages
  unfolding encoded
  messages_back =
      rw (append_assoc, append_assoc, append_assoc, append_assoc, append_assoc, append_assoc)
      (many_back message_of message_bytes 14 message_long MessageFits message_back 64 465 (to_nodes t) t.messages (nodes_end t (lengths t h)) h.messages _)

  waiting_back : number 1 (encoded t ++ l) 1361 ≡ t.waiting
  unfolding encoded
  waiting_back =
      rw (append_assoc, append_assoc, append_assoc, append_assoc, append_assoc, number_at_lem 1 (to_messages t) _ 1361 (messages_end t (lengths t h)))
      (one_back t.waiting h.waiting _)

  sent_back : many count_of 4 256 (drop 1362 (encoded t ++ l)) ≡ t.sent
  unfolding encoded
  sent_back = rw (append_assoc, append_assoc, append_assoc, append_assoc) (counts_back 1362 (to_waiting t) t.sent (waiting_end t (lengths t h)) h.sent _)

  delivered_back : many count_of 4 256 (drop 2386 (encoded t ++ l)) ≡ t.delivered
  unfolding encoded
  delivered_back = rw (append_assoc, append_assoc, append_assoc) (counts_back 2386 (to_sent t) t.delivered (sent_end t (lengths t h)) h.delivered _)

  lost_back : many count_of 4 256 (drop 3410 (encoded t ++ l)) ≡ t.lost
  unfolding encoded
  lost_back = rw (append_assoc, append_assoc) (counts_back 3410 (to_delivered t) t.lost (delivered_end t (lengths t h)) h.lost _)

  limits_back : limits_of (drop 4434 (encoded t ++ l)) ≡ t.limits
  unfolding encoded
  limits_back =
      rw append_assoc
      (ap limits_of (drop_behind (to_lost t) (limits_bytes t.limits ++ l) 4434 (lost_end t (lengths t h))) ∙ limits_read t.limits h.limits l)

  -- also where more bytes come after them
  decode_more : decoded (encoded t ++ l) ≡ t
  unfolding decoded
  decode_more = table_is t n_back limits_back nodes_back messages_back waiting_back sent_back delivered_back lost_back

decode_encode : (t : Table) → Fits t → decoded (encoded t) ≡ t
decode_encode t h = rw (← append-nil (encoded t)) (decode_more t h [])

encoded_long : (t : Table) → Fits t → length (encoded t) ≡ size
encoded_long t h = encoded_size t (lengths t h)

over : (t : Table) → Fits t → (out : List ℕ) → size ≤ length out → written out 0 (encoded t) ≡ encoded t ++ drop size out
over t h out room =
    let e = encoded_long t h in
    written_over out (encoded t) (rw e room) ∙ rw e

round_trip : (t : Table) → Fits t → (out : List ℕ) → size ≤ length out → decoded (written out 0 (encoded t)) ≡ t
round_trip t h out room = rw (over t h out room) (decode_more t h _)

pub read_back : ReadBack
read_back = record { long = encoded_long; decode_encode = decode_encode; decode_more = decode_more; round_trip = round_trip }

-- what `encode` leaves in a buffer
pub stored : (t : Table) → Fits t → (b o : List ℕ) → o ≡ written b 0 (encoded t) → Stored t b o
stored t h b o e = record { bytes = e; whole = λ room. e ∙ over t h b room; back = λ room l. ap (λ (k : List ℕ). decoded (k ++ l)) (e ∙ over t h b room) ∙ ap decoded (append_assoc (encoded t) (drop size b) l) ∙ decode_more t h (drop size b ++ l) }

-- ── eight records ──

-- what `encode_records` leaves in a buffer
pub records_stored : (l : List Node) → length l ≡ 8 → Each NodeFits l → (b o : List ℕ) → o ≡ written b 0 (all node_bytes l) → RecordsStored l b o
records_stored l e h b o w =
    record {
      bytes = w;
      whole = over;
      back = λ room. ap (many node_of 29 8) (over room) ∙ many_back node_of node_bytes 29 node_long NodeFits node_back 8 0 [] l refl (e, h) (drop records_size b);
    }
  where
    long : length (all node_bytes l) ≡ records_size
    long = rw (all_long node_bytes 29 node_long, e)

    over : records_size ≤ length b → o ≡ all node_bytes l ++ drop records_size b
    over room = w ∙ written_over b (all node_bytes l) (rw long room) ∙ rw long
