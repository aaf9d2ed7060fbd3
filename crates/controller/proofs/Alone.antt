-- One controller by itself: its grounds and their numbers, and that what it accepts stays in range: the claims `ControllerRefuses` and `ControllerStaysInRange`.
use Prim.Native.Nat.{ℕ, ◌<◌, ◌≤◌}
use native.Mathlib.Omega.{arith}
use mathlib.Core.Bool.{Bool, true, false, not, ◌&&◌, true≢false}
use mathlib.Core.Path.{◌≡◌, refl, sym, ◌∙◌, ap}
use mathlib.Core.Logic.{◌⊎◌, inl, inr}
use mathlib.Core.List.{List, [], ◌∷◌, map}
use lib.Dec.{eqb, leb}
use lib.ListN.{length}
use borrow.Author.Tests.{eqb-true, eqb-false, leb-true, not-true, not-false}
use Rattle.model.specs.Limits.{node_limit, counter_end, call_end}
use Rattle.model.specs.Grounds.{NoneApplies}
use Rattle.model.specs.Range.{is_node, is_given_task}
use Rattle.model.specs.State.{is_count}
use Rattle.model.specs.Claims.{FirstApplies}
use Rattle.model.specs.React.{react}
use Rattle.model.specs.Step.{wrong_task, wrong_status}
use Rattle.model.proofs.Fields.{given_is, node_facts, message_facts}
use Rattle.model.proofs.Grounds.{judged_none, judged_each, first_refuses, first_applies, not_refused}
use Rattle.model.proofs.Local.{both_left, both_right}
use Rattle.model.proofs.Range.{Numbered, ReactionIn, OutgoingIn, InputIn, react_in, both}
use Rattle.model.proofs.Due.{From, react_within}
use Rattle.model.specs.declared.Node.{Node}
use Rattle.model.specs.declared.Message.{Message}
use Rattle.std.specs.Prelude.{Option, None, Some}
use Rattle.message_fields.specs.Fields.{most_bytes, message_in, is_message, carried}
use Rattle.message_fields.proofs.Forms.{at_most}
use Rattle.message_fields.proofs.RoundTrip.{widths, message_back, fields_message, its_range}
use Rattle.controller.specs.declared.LocalEvent.{LocalEvent}
use Rattle.controller.specs.declared.LocalEvent.TheVariants.{Crash, Recover, Check, Timeout, Tick, Expire, Finish}
use Rattle.controller.specs.Controller.{Incoming, event, message, as_event, input_of, input_in, reaction_in, sent_bytes, in_range_for, controller_grounds, Result, refused, accepted, controller_step, result_number, sent_in}
use Rattle.controller.specs.Claims.{ControllerRefuses, ControllerStaysInRange}

-- ── results ──
pub apart : {d : Node} {l : List ℕ} {r : ℕ} → accepted d l ≡ refused r → ⊥
apart q = let z : ◌≡◌ {A = ℕ} 0 1 = cc in omega arith

pub refused_same : (a b : ℕ) → refused a ≡ refused b → a ≡ b
refused_same a b q = cc

accepted_same : {c d : Node} {k l : List ℕ} → accepted c k ≡ accepted d l → (c ≡ d) × (k ≡ l)
accepted_same q = (cc, cc)

-- not 11, 14 or 17, nor 0
abbrev is_no_queue_number : ℕ → Bool
is_no_queue_number k = not (eqb k 11) && (not (eqb k 14) && (not (eqb k 17) && not (eqb k 0)))

module _ (n i : ℕ) (c : Node) (x : Incoming) where
  abbrev acts : Result
  acts = accepted (reaction_in n i c x).node (sent_bytes (reaction_in n i c x).outgoing)

  order : map (λ g. g.number) (controller_grounds n i c x) ≡ 1 ∷ 7 ∷ 8 ∷ 20 ∷ 21 ∷ 9 ∷ 10 ∷ 18 ∷ 19 ∷ 12 ∷ 13 ∷ []
  unfolding controller_grounds
  order = refl

  first : (r : ℕ) → controller_step n i c x ≡ refused r → FirstApplies (controller_grounds n i c x) r
  unfolding controller_step
  first r q = first_applies refused refused_same acts (λ k. apart) (controller_grounds n i c x) r q

  first_given : (r : ℕ) → FirstApplies (controller_grounds n i c x) r → controller_step n i c x ≡ refused r
  unfolding controller_step
  first_given r f = first_refuses refused acts (controller_grounds n i c x) r f

  none_accepts : NoneApplies (controller_grounds n i c x) → controller_step n i c x ≡ acts
  unfolding controller_step
  none_accepts h = judged_none refused acts (controller_grounds n i c x) h

  -- what holds of the numbers of its grounds and of what it accepts
  pub by_number : (P : Result → Type 0) → P (refused 1) → P (refused 7) → P (refused 8) → P (refused 20) → P (refused 21) → P (refused 9) → P (refused 10) → P (refused 18) → P (refused 19) → P (refused 12) → P (refused 13)
      → P acts → P (controller_step n i c x)
  unfolding controller_step controller_grounds
  by_number P a b d e f g h j k l m p = judged_each refused P acts (controller_grounds n i c x) (a, (b, (d, (e, (f, (g, (h, (j, (k, (l, (m, tt))))))))))) p

  -- an accepted one
  pub accepted_none : (d : Node) (l : List ℕ) → controller_step n i c x ≡ accepted d l → NoneApplies (controller_grounds n i c x)
  unfolding controller_step
  accepted_none d l q = not_refused refused acts (accepted d l) (λ r. apart) (controller_grounds n i c x) q

  pub accepted_acts : (d : Node) (l : List ℕ) → controller_step n i c x ≡ accepted d l → ((reaction_in n i c x).node ≡ d) × (sent_bytes (reaction_in n i c x).outgoing ≡ l)
  accepted_acts d l q = accepted_same (sym (none_accepts (accepted_none d l q)) ∙ q)

  never : (r : ℕ) → controller_step n i c x ≡ refused r → (r ≡ 11 → ⊥) × ((r ≡ 14 → ⊥) × ((r ≡ 17 → ⊥) × (r ≡ 0 → ⊥)))
  never r =
      by_number (λ (y : Result). y ≡ refused r → (r ≡ 11 → ⊥) × ((r ≡ 14 → ⊥) × ((r ≡ 17 → ⊥) × (r ≡ 0 → ⊥))))
      (other 1 refl) (other 7 refl) (other 8 refl) (other 20 refl) (other 21 refl) (other 9 refl) (other 10 refl) (other 18 refl) (other 19 refl) (other 12 refl) (other 13 refl)
      (λ q. absurd (apart q))
    where
      differs : (k j : ℕ) → not (eqb k j) ≡ true → refused k ≡ refused r → r ≡ j → ⊥
      differs k j h q z = eqb-false k j (not-true (eqb k j) h) (refused_same k r q ∙ z)

      other : (k : ℕ) → is_no_queue_number k ≡ true → refused k ≡ refused r → (r ≡ 11 → ⊥) × ((r ≡ 14 → ⊥) × ((r ≡ 17 → ⊥) × (r ≡ 0 → ⊥)))
      other k h q =
          let a = both_right (not (eqb k 11)) _ h in
          let b = both_right (not (eqb k 14)) _ a in
          (differs k 11 (both_left (not (eqb k 11)) _ h) q, (differs k 14 (both_left (not (eqb k 14)) _ a) q, (differs k 17 (both_left (not (eqb k 17)) _ b) q, differs k 0 (both_right (not (eqb k 17)) _ b) q)))

pub controller_refuses : ControllerRefuses
controller_refuses = record { order = order; first = first; first_given = first_given; none_accepts = none_accepts; never_queues = never }

-- ── bounds of every step: its number, and how many bytes it sends ──
pub controller_small : (n i : ℕ) (c : Node) (x : Incoming) → result_number (controller_step n i c x) ≤ 21
controller_small n i c x =
    by_number n i c x (λ (y : Result). result_number y ≤ 21) (omega arith) (omega arith) (omega arith) (omega arith) (omega arith) (omega arith) (omega arith) (omega arith) (omega arith) (omega arith) (omega arith) (omega arith)

outgoing_short : (o : Option Message) → length (sent_bytes o) ≤ most_bytes
outgoing_short None = omega arith
outgoing_short (Some m) = at_most m

pub sent_short : (n i : ℕ) (c : Node) (x : Incoming) → length (sent_in (controller_step n i c x)) ≤ most_bytes
sent_short n i c x =
    by_number n i c x (λ (y : Result). length (sent_in y) ≤ most_bytes) (omega arith) (omega arith) (omega arith) (omega arith) (omega arith) (omega arith) (omega arith) (omega arith) (omega arith) (omega arith) (omega arith)
    (outgoing_short (reaction_in n i c x).outgoing)

-- ── what is accepted stays in range ──

-- below the end, where a number that is needed is not at it
below : (b : Bool) (x end : ℕ) → b && eqb x end ≡ false → x ≤ end → b ≡ true → x < end
below b x end h l t = by (eqb x end) refl
  where
    by : (v : Bool) → eqb x end ≡ v → x < end
    by true v = absurd (true≢false (sym (both b (eqb x end) t v) ∙ h))
    by false v = let k = eqb-false x end v in omega (arith, l, k)

-- what an input brings, where the grounds of its numbers, its bytes, its node and its status do not apply
event_in : (n i : ℕ) (c : Node) (e : LocalEvent) → wrong_task (as_event e) ≡ false → wrong_status c.status (as_event e) ≡ false → InputIn n i c (input_of e)
event_in n i c (Crash j) t h = tt
event_in n i c (Recover j) t h = tt
event_in n i c (Check j) t h = h
event_in n i c (Timeout j) t h = h
event_in n i c (Tick j) t h = h
event_in n i c (Expire j) t h = h
event_in n i c (Finish j k) t h = (h, given_is k.number (not-false (is_given_task k.number) t))

input_in_lem : (n i : ℕ) (c : Node) (x : Incoming) → NoneApplies (controller_grounds n i c x) → InputIn n i c (input_in x)
unfolding controller_grounds
input_in_lem n i c (event e) g = event_in n i c e g.1.1.0 g.1.1.1.1.1.0
input_in_lem n i c (message l) g =
    (g.1.1.1.1.1.0, message_facts n (message_in l) (its_range n l (not-false (is_message n l) g.1.1.1.0)), eqb-true (message_in l).receiver i (not-false (eqb (message_in l).receiver i) g.1.1.1.1.0))

module _ (n i : ℕ) (c : Node) (x : Incoming) (g : NoneApplies (controller_grounds n i c x)) where
  in_range_lem : in_range_for n i c ≡ true
  unfolding controller_grounds
  in_range_lem = not-false (in_range_for n i c) g.0

  numbered : Numbered n i
  numbered =
      let a = both_left (is_count node_limit n) _ in_range_lem in
      let b = both_left (is_node n i) _ (both_right (is_count node_limit n) _ in_range_lem) in
      record { low = leb-true 1 i (both_left (leb 1 i) (leb i n) b); high = leb-true i n (both_right (leb 1 i) (leb i n) b); small = leb-true n node_limit (both_right (leb 1 n) (leb n node_limit) a) }

  reaction_in_lem : ReactionIn n i (reaction_in n i c x)
  unfolding controller_grounds reaction_in
  reaction_in_lem =
      let f = node_facts n i c (both_right (is_node n i) _ (both_right (is_count node_limit n) _ in_range_lem)) in
      react_in numbered c (input_in x) f (input_in_lem n i c x g) (below _ c.counter counter_end g.1.1.1.1.1.1.1.1.1.0 f.counter) (below _ c.last.number call_end g.1.1.1.1.1.1.1.1.1.1.0 f.last)

  record_in : in_range_for n i (reaction_in n i c x).node ≡ true
  record_in = both (is_count node_limit n) _ (both_left (is_count node_limit n) _ in_range_lem) (both (is_node n i) _ (both_left (is_node n i) _ (both_right (is_count node_limit n) _ in_range_lem)) reaction_in_lem.node)

-- what is sent
sent_in_lem : (n i : ℕ) (o : Option Message) → n ≤ 16 → OutgoingIn n o → From i o → (sent_bytes o ≡ []) ⊎ ((is_message n (sent_bytes o) ≡ true) × ((message_in (sent_bytes o)).sender ≡ i))
unfolding carried
sent_in_lem n i None h r f = inl refl
sent_in_lem n i (Some m) h r f = inr (fields_message n m h r, ap (λ (x : Message). x.sender) (message_back m (widths n m h r)) ∙ f)

message_in_lem : (n i : ℕ) (c : Node) (x : Incoming) → NoneApplies (controller_grounds n i c x)
    → (sent_bytes (reaction_in n i c x).outgoing ≡ []) ⊎ ((is_message n (sent_bytes (reaction_in n i c x).outgoing) ≡ true) × ((message_in (sent_bytes (reaction_in n i c x).outgoing)).sender ≡ i))
unfolding reaction_in
message_in_lem n i c x g = sent_in_lem n i (react n i c (input_in x)).outgoing (numbered n i c x g).small (reaction_in_lem n i c x g).outgoing (react_within n i c (input_in x)).from

pub controller_stays_in_range : ControllerStaysInRange
controller_stays_in_range =
    record {
      record_after = λ n i c x d l q. rw (← (accepted_acts n i c x d l q).0) (record_in n i c x (accepted_none n i c x d l q));
      message_after = λ n i c x d l q. rw (← (accepted_acts n i c x d l q).1) (message_in_lem n i c x (accepted_none n i c x d l q));
    }
