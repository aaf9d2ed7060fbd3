-- The controller's step by the tests of the code: which ground refuses, or what is left once none of the first does; and what outcome same_outcome that.
use Prim.Native.Nat.{ℕ, ◌≤◌}
use native.Mathlib.Omega.{arith}
use mathlib.Core.Bool.{true, false, not}
use mathlib.Core.Path.{◌≡◌, refl, sym, ◌∙◌, ap}
use mathlib.Core.List.{List, ◌∷◌, ◌++◌}
use lib.Dec.{eqb, leb}
use borrow.Author.Tests.{eq-eqb, ne_eqb, leb-true}
use Rattle.model.specs.Pick.{pick, pick_true, pick_false}
use Rattle.model.specs.Limits.{node_limit}
use Rattle.model.specs.Grounds.{Ground, ground, judged, first}
use Rattle.model.specs.Answers.{refusal_number}
use Rattle.model.specs.declared.Refusal.{Refusal}
use Rattle.model.specs.Range.{is_node}
use Rattle.model.specs.React.{react}
use Rattle.model.specs.State.{is_count}
use Rattle.model.specs.Step.{actor}
use Rattle.model.proofs.Answers.{ground_some}
use Rattle.model.proofs.Grounds.{first_met, judged_clear, judged_past, judged_first}
use Rattle.model.proofs.Local.{both_left, both_right}
use Rattle.model.specs.declared.Node.{Node}
use Rattle.model.specs.declared.Message.{Message}
use Rattle.model.specs.declared.Input.{Input}
use Rattle.model.specs.declared.Input.TheVariants.{Receive}
use Rattle.model.specs.declared.Event.{Event}
use Rattle.model.specs.declared.Event.TheVariants.{Deliver}
use Rattle.node_step.specs.Fits.{Fits, FitsInput}
use Rattle.node_step.specs.Grounds.{number_grounds, node_grounds, own_end_grounds}
use Rattle.node_step.proofs.InRange.{in_range_fits}
use Rattle.message_fields.specs.Fields.{message_in, is_message}
use Rattle.controller.specs.declared.LocalEvent.{LocalEvent}
use Rattle.controller.specs.declared.LocalEvent.TheVariants.{Crash, Recover, Check, Timeout, Tick, Expire, Finish}
use Rattle.controller.specs.Controller.{Incoming, event, message, as_event, input_of, reaction_in, in_range_for, controller_grounds, refused, controller_step}
use Rattle.controller.specs.Parts.{act_grounds, acts, acted, received_by}

module _ (n i : ℕ) (c : Node) where
  -- ── 1 ──
  pub out_of_range : (x : Incoming) → in_range_for n i c ≡ false → controller_step n i c x ≡ refused 1
  unfolding controller_step controller_grounds judged
  out_of_range x h = rw (h, pick_true)

  pub small : in_range_for n i c ≡ true → n ≤ 16
  small h = leb-true n node_limit (both_right (leb 1 n) (leb n node_limit) (both_left (is_count node_limit n) _ h))

  pub fits : in_range_for n i c ≡ true → Fits i c
  fits h =
      let r = both_right (is_count node_limit n) _ h in
      let j = both_left (is_node n i) _ r in
      in_range_fits n i c (small h) (leb-true 1 i (both_left (leb 1 i) (leb i n) j)) (leb-true i n (both_right (leb 1 i) (leb i n) j)) (both_right (is_node n i) _ r)

  -- ── an event ──
  module _ (e : LocalEvent) where
    abbrev behind : List Ground
    behind = ground 20 false ∷ ground 21 (not (eqb (actor (as_event e)) i)) ∷ act_grounds n i c (as_event e) (input_of e)

    module _ (ok : in_range_for n i c ≡ true) where
      by_numbers : controller_step n i c (event e) ≡ judged refused (acts n i c (input_of e)) (number_grounds n (as_event e) ++ behind)
      unfolding controller_step controller_grounds reaction_in judged
      by_numbers = rw (ok, pick_false)

      pub wrong_numbers : (g : Refusal) → refusal_number g ≡ first (number_grounds n (as_event e)) → controller_step n i c (event e) ≡ refused (refusal_number g)
      wrong_numbers g h =
          let f = first_met (number_grounds n (as_event e)) behind (omega (arith, ground_some g, h)) in
          by_numbers ∙ judged_first refused (acts n i c (input_of e)) (number_grounds n (as_event e) ++ behind) (omega (arith, ground_some g, f, h)) ∙ ap refused (f ∙ sym h)

      module _ (clear : 0 ≡ first (number_grounds n (as_event e))) where
        past : controller_step n i c (event e) ≡ judged refused (acts n i c (input_of e)) behind
        past = by_numbers ∙ judged_past refused (acts n i c (input_of e)) (number_grounds n (as_event e)) behind refl (sym clear)

        pub other_event : (actor (as_event e) ≡ i → ⊥) → controller_step n i c (event e) ≡ refused 21
        unfolding judged
        other_event h = past ∙ rw (pick_false, ne_eqb (actor (as_event e)) i h, pick_true)

        pub own_event : actor (as_event e) ≡ i → controller_step n i c (event e) ≡ acted n i c (as_event e) (input_of e)
        unfolding judged
        own_event h = past ∙ rw (pick_false, eq-eqb (actor (as_event e)) i h, pick_false)

  -- ── a message ──
  module _ (l : List ℕ) (ok : in_range_for n i c ≡ true) where
    pub wrong_bytes : is_message n l ≡ false → controller_step n i c (message l) ≡ refused 20
    unfolding controller_step controller_grounds judged pick
    wrong_bytes h = rw (ok, h)

    pub good_bytes : is_message n l ≡ true → controller_step n i c (message l) ≡ received_by n i c (message_in l)
    unfolding controller_step controller_grounds reaction_in judged pick
    good_bytes h = rw (ok, h)

  module _ (m : Message) where
    pub other_message : (m.receiver ≡ i → ⊥) → received_by n i c m ≡ refused 21
    unfolding judged
    other_message h = rw (ne_eqb m.receiver i h, pick_true)

    pub own_message : m.receiver ≡ i → received_by n i c m ≡ acted n i c (Deliver m.sender m.receiver) (Receive m)
    unfolding judged
    own_message h = rw (eq-eqb m.receiver i h, pick_false)

  -- ── by the record ──
  module _ (e : Event) (x : Input) where
    pub wrong_state : (g : Refusal) → refusal_number g ≡ first (node_grounds n c e) → acted n i c e x ≡ refused (refusal_number g)
    wrong_state g h =
        let f = first_met (node_grounds n c e) (own_end_grounds c (react n i c x)) (omega (arith, ground_some g, h)) in
        judged_first refused (acts n i c x) (act_grounds n i c e x) (omega (arith, ground_some g, f, h)) ∙ ap refused (f ∙ sym h)

    module _ (clear : 0 ≡ first (node_grounds n c e)) where
      ends : acted n i c e x ≡ judged refused (acts n i c x) (own_end_grounds c (react n i c x))
      ends = judged_past refused (acts n i c x) (node_grounds n c e) (own_end_grounds c (react n i c x)) refl (sym clear)

      pub at_end : (g : Refusal) → refusal_number g ≡ first (own_end_grounds c (react n i c x)) → acted n i c e x ≡ refused (refusal_number g)
      at_end g h = ends ∙ judged_first refused (acts n i c x) (own_end_grounds c (react n i c x)) (omega (arith, ground_some g, h)) ∙ ap refused (sym h)

      pub all_clear : 0 ≡ first (own_end_grounds c (react n i c x)) → acted n i c e x ≡ acts n i c x
      all_clear h = ends ∙ judged_clear refused (acts n i c x) (own_end_grounds c (react n i c x)) refl (sym h)

-- an event's input needs nothing of its numbers
pub event_fits : (e : LocalEvent) → FitsInput (input_of e)
event_fits (Crash i) = tt
event_fits (Recover i) = tt
event_fits (Check i) = tt
event_fits (Timeout i) = tt
event_fits (Tick i) = tt
event_fits (Expire i) = tt
event_fits (Finish i t) = tt
