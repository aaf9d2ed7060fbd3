-- What a turn of a loop does to a table that it holds in pieces, its messages as words: `rule` judges an event, and where that is accepted a record is stored
-- and `exchange` changes the words.
use Prim.Native.Nat.{ℕ, ◌+◌, ◌%◌, ◌≤◌}
use native.Mathlib.Omega.{arith}
use mathlib.Core.Path.{◌≡◌, refl, sym, ◌∙◌, ap}
use mathlib.Core.Bool.{Bool, true, false}
use mathlib.Core.List.{List, ◌++◌}
use lib.ListN.{length, get_or, set, length-set}
use Rattle.model.specs.Claims.{BelowEnd}
use Rattle.model.specs.State.{State, start, no_message, in_range, first_of, view}
use Rattle.model.specs.Step.{actor, reaction_to, sent, pair_at_end, effect, refused, accepted, step, kept, after}
use Rattle.std.specs.Prelude.{Ok, Err}
use Rattle.model.specs.Answers.{refusal_number, result_number}
use Rattle.model.specs.declared.Refusal.{Refusal}
use Rattle.model.specs.declared.Reaction.{Reaction}
use Rattle.model.proofs.Answers.{ground_some}
use Rattle.model.specs.declared.Limits.{Limits}
use Rattle.model.specs.declared.Node.{Node}
use Rattle.model.specs.declared.Table.{Table}
use Rattle.model.specs.declared.Event.{Event}
use Rattle.model.proofs.Judged.{Clear}
use Rattle.model.proofs.Fields.{in_range_places}
use Rattle.model.proofs.InRange.{stays_in_range}
use Rattle.model.proofs.Traffic.{SentWithin, pair_below}
use Rattle.model.proofs.Aside.{below}
use Rattle.machine.specs.Parts.{Judged, without, sent_place, sent_by, moved_place, delivered_by, lost_by, raised, Small, Room, left_of}
use Rattle.model.proofs.Lists.{first_length, first_set}
use Rattle.machine.proofs.Laws.{Sized, state_is}
use Rattle.machine.proofs.Places.{small, counts_small}
use Rattle.machine.proofs.Judged.{judging, refuses, seated, room, reacts, is_clear, stores, model_accepts}
use Rattle.machine.proofs.Runs.{by_number}
use Rattle.packed.specs.declared.Ruling.{Ruling}
use Rattle.packed.specs.Packed.{queue, message_at, Rulable, Ruled}
use Rattle.packed.specs.Seen.{whole, seen}
use Rattle.packed.proofs.Laws.{held_long, within}

-- ── before the first turn: where none waits, it makes no difference what the messages are ──

pub same_start : (t : Table) (ws : List ℕ) → t.waiting ≡ 0 → seen t.n t.limits t.nodes ws t.waiting t.sent t.delivered t.lost ≡ view t
unfolding first_of
same_start t ws h = rw h

pub start_empty : (t : Table) (n : ℕ) (lim : Limits) → view t ≡ start n lim → t.waiting ≡ 0
start_empty t n lim h = sym (first_length t.waiting no_message t.messages) ∙ ap (λ (s : State). length s.queue) h

-- ── a turn ──

-- what the loop keeps of the table
pub record Ready (n : ℕ) (lim : Limits) (cs : List Node) (ws : List ℕ) (w : ℕ) (sent delivered lost : List ℕ) : Type 0 where
  pub words : length ws ≡ 256
  pub nodes : length cs ≡ 16
  pub range : in_range (seen n lim cs ws w sent delivered lost) ≡ true

module _ (n : ℕ) (lim : Limits) (cs : List Node) (ws : List ℕ) (w : ℕ) (sends delivers loses : List ℕ) (h : Ready n lim cs ws w sends delivers loses) (e : Event) where
  abbrev t : Table
  t = whole n lim cs ws w sends delivers loses

  z : Sized t
  z =
      let p = in_range_places (view t) h.range in
      record { nodes = h.nodes; messages = held_long 64 ws h.words; sent = p.0; delivered = p.1; lost = p.2 }

  pub few : w ≤ 64
  few = (small t z h.range e).2

  -- the counts are 256 each, and none is above the end
  pub counted : (length sends ≡ 256) × (length delivers ≡ 256) × (length loses ≡ 256)
  counted = in_range_places (view t) h.range

  pub counts_low : Small sends × Small delivers × Small loses
  counts_low = counts_small t h.range

  -- at: the place of the event's node, whose record the loop reads there
  module _ (at : ℕ) (ha : at ≡ (actor e + 15) % 16) (d : Node) where
    pub rulable : Rulable ws n w (get_or cs at d) e
    rulable = judging t z h.range e _ refl (within ws w e) at ha d _ refl no_message _ refl

    module _ (r : Ruling) (j : Ruled ws n lim.messages w (get_or cs at d) e r) where
      -- refused by g: its number, and the same state
      module _ (g : Refusal) (q : r.verdict ≡ Err g) where
        met : Judged n lim.messages w r.place (get_or cs at d) (message_at ws r.place) e (Err g)
        met = rw q at j.judged

        pub refused_turn : (refusal_number g ≡ result_number (step (view t) e)) × (view t ≡ after (view t) e)
        refused_turn = let s = refuses t z h.range e _ j.place j.reach at ha d _ refl no_message _ refl g met in (s.answer, s.table)

        -- the same of the step
        pub refused_step : step (view t) e ≡ refused (refusal_number g)
        refused_step = by_number (step (view t) e) (refusal_number g) (ground_some g) refused_turn.0

      -- or x is what the node does
      module _ (x : Reaction) (q : r.verdict ≡ Ok x) where
        none_met : Judged n lim.messages w r.place (get_or cs at d) (message_at ws r.place) e (Ok x)
        none_met = rw q at j.judged

        pub has_room : Room x.outgoing (left_of w r.place)
        has_room = room t z h.range e _ j.place j.reach at ha d _ refl no_message _ refl x none_met

        clear : Clear (view t) e
        clear = is_clear t z h.range e _ j.place j.reach at ha d _ refl no_message _ refl x none_met

        own : x ≡ reaction_to (view t) e
        own = reacts t z h.range e _ j.place j.reach at ha d _ refl no_message _ refl x none_met

        -- 17 is not met: where no more was sent than a run can send
        pub within_below : SentWithin (view t) → pair_at_end sends x.outgoing ≡ false
        within_below few_sent = by (pair_at_end sends (reaction_to (view t) e).outgoing) refl
          where
            by : (y : Bool) → pair_at_end sends (reaction_to (view t) e).outgoing ≡ y → pair_at_end sends x.outgoing ≡ false
            by true p = absurd (pair_below (view t) e clear few_sent p)
            by false p = rw own p

        -- or where no count is at its end
        pub end_below : BelowEnd sends → pair_at_end sends x.outgoing ≡ false
        end_below low = below sends x.outgoing low

        module _ (p : pair_at_end sends x.outgoing ≡ false) where
          -- accepted: the step is, whatever is then done with the words
          pub step_accepts : step (view t) e ≡ accepted (effect (view t) e) (reaction_to (view t) e).mark
          step_accepts = model_accepts t z h.range e _ j.place j.reach at ha d _ refl no_message _ refl x none_met p

          -- accepted: the state after it, where us are the words after the exchange and v is how many wait then
          module _ (us : List ℕ) (v : ℕ) (y : queue us v ≡ without r.place (queue ws w) ++ sent x.outgoing) where
            -- the table after it
            abbrev next : Table
            next =
                whole n lim (set cs at x.node) us v
                (raised sends (sent_place x.outgoing) (sent_by x.outgoing))
                (raised delivers (moved_place e) (delivered_by e))
                (raised loses (moved_place e) (lost_by e))

            pub next_is : view next ≡ effect (view t) e
            next_is =
                let below = seated t z h.range e _ j.place j.reach at ha d _ refl no_message _ refl x none_met in
                state_is n lim _ _ _ (first_set n at _ cs x.node below (omega (arith, h.nodes, (small t z h.range e).1))) y
                ∙ stores t z h.range e _ j.place j.reach at ha d _ refl no_message _ refl x none_met p

            pub accepted_turn : (0 ≡ result_number (step (view t) e)) × (view next ≡ after (view t) e)
            accepted_turn = (sym (ap result_number step_accepts), next_is ∙ sym (ap (kept (view t)) step_accepts))

            -- the same of the step
            pub accepted_step : step (view t) e ≡ accepted (view next) (reaction_to (view t) e).mark
            accepted_step = step_accepts ∙ ap (λ (s : State). accepted s (reaction_to (view t) e).mark) (sym next_is)

            -- and the table is ready for the next turn
            pub ready_again : length us ≡ 256 → Ready n lim (set cs at x.node) us v next.sent next.delivered next.lost
            ready_again k =
                record { words = k; nodes = simp length-set h.nodes; range = stays_in_range.keeps (view t) e (view next) (reaction_to (view t) e).mark accepted_step }
