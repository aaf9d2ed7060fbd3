-- What `answered` leaves in a buffer; and the promises of the exported functions by their cases: too little room, a refusal, and an outcome in bytes.
use Rattle.std.specs.Prelude.{Ok, Err}
use Prim.Native.Nat.{ℕ, ◌≤◌, ◌<◌}
use native.Mathlib.Omega.{arith}
use mathlib.Core.Path.{◌≡◌, sym, ◌∙◌, ap}
use mathlib.Core.List.{List, ◌++◌, append_assoc}
use lib.ListN.{length, get_or, take, drop, length-append}
use Rattle.model.specs.Answers.{answer_number}
use Rattle.model.specs.declared.Node.{Node}
use Rattle.event_list.specs.Format.{stop_number}
use Rattle.event_list.specs.declared.Stop.{Stop}
use Rattle.event_list.proofs.Fields.{refuses}
use Rattle.number_bytes.specs.Bytes.{number_in, buffer_in, written}
use Rattle.number_bytes.proofs.Numbers.{length_bytes, then, written_over}
use Rattle.number_bytes.proofs.Lent.{short_in, long_in, keeps_in, gives_in}
use Rattle.table_bytes.specs.Bytes.{node_of, node_bytes, NodeFits}
use Rattle.table_bytes.proofs.Records.{node_long}
use Rattle.table_bytes.proofs.RoundTrip.{node_back}
use Rattle.message_fields.specs.Fields.{most_bytes}
use Rattle.controller.specs.declared.LocalEvent.{LocalEvent}
use Rattle.controller.specs.declared.ControllerOutcome.{ControllerOutcome}
use Rattle.controller.specs.Controller.{event, message, Result, controller_step, result_number, node_after, sent_in}
use Rattle.controller.specs.Stepped.{OutcomeOf, ControllerStepped}
use Rattle.controller.proofs.Alone.{sent_short}
use Rattle.exports_controller.specs.Field.{FieldRead, event_in}
use Rattle.exports_controller.specs.Boundary.{outcome_size, outcome_bytes, field_step, event_number, event_bytes, message_number, message_bytes, ReadBack, EventExported, MessageExported}
use Rattle.exports_controller.specs.Parts.{packet_bytes, Answered}
use Rattle.exports_controller.proofs.Outcomes.{given_sent}

-- ── the outcome q over the start of a buffer that held b; x is answered ──

module _ (q : ControllerOutcome) (b : List ℕ) (x : ℕ) (e : x ≡ answer_number q.answer) where
  abbrev all : List ℕ
  all = node_bytes q.node ++ packet_bytes q.packet

  pub refused_kept : (x ≡ 0 → ⊥) → Answered q b b x
  refused_kept h = record { number = e; buffer = sym (keeps_in outcome_size b x all h); back = λ z. absurd (h z) }

  module _ (fits : NodeFits q.node × (length q.packet.bytes ≡ most_bytes)) (room : outcome_size ≤ length b) where
    all_long : length all ≡ outcome_size
    all_long = rw (length-append, node_long, length-append, length_bytes, fits.1)

    over : written b 0 all ≡ all ++ drop outcome_size b
    over = written_over b all (rw all_long room) ∙ rw all_long

    pub accepted_stored : x ≡ 0 → (m o : List ℕ) → m ≡ written b 0 (node_bytes q.node) → o ≡ written m 29 (packet_bytes q.packet) → Answered q b o x
    accepted_stored z m o v w =
        let whole = then b 0 (node_bytes q.node) (packet_bytes q.packet) 29 v (node_long q.node) w ∙ over in
        record {
          number = e;
          buffer = whole ∙ sym (gives_in outcome_size b x all z);
          back = λ _. ap node_of (whole ∙ append_assoc (node_bytes q.node) (packet_bytes q.packet) (drop outcome_size b)) ∙ node_back q.node fits.0 (packet_bytes q.packet ++ drop outcome_size b);
        }

-- ── what both functions promise, by the result y with the record c before it ──

record Exported (c : Node) (y : Result) (b o : List ℕ) (x : ℕ) : Type 0 where
  number : x ≡ number_in outcome_size b (result_number y)
  buffer : o ≡ buffer_in outcome_size b (number_in outcome_size b (result_number y)) (outcome_bytes c y)
  back : x ≡ 0 → ReadBack c y o

module _ (c : Node) (y : Result) (b : List ℕ) where
  abbrev answer : ℕ
  answer = number_in outcome_size b (result_number y)

  -- any number but 0 keeps the buffer
  kept_by : (x : ℕ) → x ≡ answer → (x ≡ 0 → ⊥) → Exported c y b b x
  kept_by x e h = record { number = e; buffer = sym (keeps_in outcome_size b answer (outcome_bytes c y) (λ z. h (e ∙ z))); back = λ z. absurd (h z) }

  too_short : length b < outcome_size → Exported c y b b 255
  too_short h = kept_by 255 (sym (short_in outcome_size b (result_number y) h)) (λ z. omega arith)

  module _ (room : outcome_size ≤ length b) where
    refusal : (x : ℕ) → x ≡ result_number y → (x ≡ 0 → ⊥) → Exported c y b b x
    refusal x e h = kept_by x (e ∙ sym (long_in outcome_size b (result_number y) room)) h

    outcome : length (sent_in y) ≤ most_bytes → (q : ControllerOutcome) → OutcomeOf c y q → (o : List ℕ) (x : ℕ) → Answered q b o x → Exported c y b o x
    outcome short q s o x a =
        record {
          number = number;
          buffer = buffer;
          back = λ z. record {
            node = a.back z ∙ s.node;
            sent = ap (λ (l : List ℕ). take (get_or l 29 0) (drop 30 l)) (buffer ∙ gives_in outcome_size b answer (outcome_bytes c y) (sym number ∙ z)) ∙ given_sent (node_after c y) (sent_in y) short (drop outcome_size b);
          };
        }
      where
        number : x ≡ answer
        number = a.number ∙ s.answer ∙ sym (long_in outcome_size b (result_number y) room)

        buffer : o ≡ buffer_in outcome_size b answer (outcome_bytes c y)
        buffer = a.buffer ∙ rw (number, s.node, s.packet.bytes, s.packet.length)

-- an outcome of a result is one of what is equal to it
same_outcome : {c : Node} {y z : Result} {q : ControllerOutcome} → z ≡ y → OutcomeOf c y q → OutcomeOf c z q
same_outcome e s = rw e s

-- ── nevraspu_controller_event ──

module _ (n i : ℕ) (r f b : List ℕ) where
  abbrev result : Result
  result = field_step n i (node_of r) (event_in f)

  event_exported : {o : List ℕ} {x : ℕ} → Exported (node_of r) result b o x → EventExported n i r f b o x
  unfolding event_number event_bytes
  event_exported e = record { number = e.number; buffer = e.buffer; back = e.back }

  pub event_short : length b < outcome_size → EventExported n i r f b b 255
  event_short h = event_exported (too_short (node_of r) result b h)

  module _ (room : outcome_size ≤ length b) where
    -- x is answered for the ground s
    pub no_event : {s : Stop} → event_in f ≡ Err s → (x : ℕ) → x ≡ stop_number s → EventExported n i r f b b x
    no_event {s} q x e = event_exported (refusal (node_of r) result b room x (e ∙ sym (ap (λ (y : FieldRead). result_number (field_step n i (node_of r) y)) q)) (λ z. refuses s (sym e ∙ z)))

    -- q is the outcome of the event e
    pub event_stepped : {e : LocalEvent} → event_in f ≡ Ok e → (q : ControllerOutcome) → ControllerStepped n i (node_of r) (event e) q → (o : List ℕ) (x : ℕ) → Answered q b o x → EventExported n i r f b o x
    event_stepped {e} w q t o x a =
        let y = ap (field_step n i (node_of r)) w in
        event_exported (outcome (node_of r) result b room (rw y (sent_short n i (node_of r) (event e))) q (same_outcome y t) o x a)

-- ── nevraspu_controller_message ──

module _ (n i : ℕ) (r l b : List ℕ) where
  abbrev step : Result
  step = controller_step n i (node_of r) (message l)

  message_exported : {o : List ℕ} {x : ℕ} → Exported (node_of r) step b o x → MessageExported n i r l b o x
  unfolding message_number message_bytes
  message_exported e = record { number = e.number; buffer = e.buffer; back = e.back }

  pub message_short : length b < outcome_size → MessageExported n i r l b b 255
  message_short h = message_exported (too_short (node_of r) step b h)

  pub message_stepped : outcome_size ≤ length b → (q : ControllerOutcome) → ControllerStepped n i (node_of r) (message l) q → (o : List ℕ) (x : ℕ) → Answered q b o x → MessageExported n i r l b o x
  message_stepped room q t o x a = message_exported (outcome (node_of r) step b room (sent_short n i (node_of r) (message l)) q t o x a)
