-- The judgement of an event, by its groups of grounds; and what it comes to on a table. `advance` and the run loop over numbers both go by this file.
use Prim.Native.Nat.{ℕ, zero, suc, ◌+◌, ◌-◌, ◌%◌, ◌≤◌, ◌<◌}
use native.Mathlib.Omega.{arith}
use mathlib.Core.Path.{◌≡◌, refl, sym, ◌∙◌}
use mathlib.Core.List.{List, [], ◌∷◌, ◌++◌}
use mathlib.Core.Bool.{Bool, true, false, true≢false}
use lib.Dec.{ltb}
use lib.ListN.{length, get_or}
use Rattle.model.specs.State.{node_at, in_range, view}
use Rattle.model.specs.Pick.{pick, pick_true, pick_false}
use Rattle.model.specs.Grounds.{Ground, ground, first}
use Rattle.model.specs.Step.{actor, is_lose, reaction_to, pair_at_end, effect, accepted, step}
use Rattle.model.proofs.Judged.{Clear}
use Rattle.model.proofs.Range.{OutgoingIn}
use Rattle.model.proofs.InRange.{event_in}
use Rattle.model.specs.React.{react}
use Rattle.model.specs.Procedures.{stays}
use Rattle.model.specs.Answers.{refusal_number, Accepted}
use Rattle.model.proofs.Answers.{ground_some}
use Rattle.model.specs.declared.Node.{Node}
use Rattle.model.specs.declared.Message.{Message}
use Rattle.model.specs.declared.Reaction.{Reaction}
use Rattle.model.specs.declared.Table.{Table}
use Rattle.model.specs.declared.Event.{Event}
use Rattle.model.specs.declared.Event.TheVariants.{Crash, Recover, Check, Timeout, Tick, Expire, Finish, Deliver, Lose}
use Rattle.node_step.specs.Fits.{FitsInput}
use Rattle.node_step.specs.Grounds.{number_grounds}
use Rattle.model.specs.declared.Refusal.{Refusal}
use Rattle.model.specs.declared.Refusal.TheVariants.{SentAtEnd}
use Rattle.std.specs.Prelude.{Ok, Err}
use Rattle.machine.specs.Parts.{place_for, sent_place, sent_at_end, stored, Room, state_grounds, end_grounds, reacts_to, input_of, FitsMessage, left_of, judged_grounds, Judging, Judged, sent_grounds, last_grounds, all_grounds, JudgedAll}
use Rattle.machine.specs.Stepped.{Stepped}
use Rattle.machine.proofs.Laws.{Sized}
use Rattle.model.proofs.Grounds.{Numbered, first_clear, first_met, not_met}
use Rattle.machine.proofs.Parts.{numbers_refuse, state_refuses, ends_refuse, last_refuses, step_accepts, all_clear}
use Rattle.machine.proofs.Places.{small, actor_is, node_read, node_fits, found_is, reaction_is, message_ok, left_counts, room_is, last_is, clear_is, effect_is}

-- ── the reaction by what the node is told ──
pub reacts_lost : (n : ℕ) (c : Node) (m : Message) (e : Event) → is_lose e ≡ true → stays c ≡ reacts_to n c m e
reacts_lost n c m (Crash i) q = absurd (true≢false (sym q))
reacts_lost n c m (Recover i) q = absurd (true≢false (sym q))
reacts_lost n c m (Check i) q = absurd (true≢false (sym q))
reacts_lost n c m (Timeout i) q = absurd (true≢false (sym q))
reacts_lost n c m (Tick i) q = absurd (true≢false (sym q))
reacts_lost n c m (Expire i) q = absurd (true≢false (sym q))
reacts_lost n c m (Finish i t) q = absurd (true≢false (sym q))
reacts_lost n c m (Deliver a b) q = absurd (true≢false (sym q))
reacts_lost n c m (Lose a b) q = refl

pub reacts_told : (n : ℕ) (c : Node) (m : Message) (e : Event) → is_lose e ≡ false → react n (actor e) c (input_of m e) ≡ reacts_to n c m e
reacts_told n c m (Crash i) q = refl
reacts_told n c m (Recover i) q = refl
reacts_told n c m (Check i) q = refl
reacts_told n c m (Timeout i) q = refl
reacts_told n c m (Tick i) q = refl
reacts_told n c m (Expire i) q = refl
reacts_told n c m (Finish i t) q = refl
reacts_told n c m (Deliver a b) q = refl
reacts_told n c m (Lose a b) q = absurd (true≢false q)

pub told_fits : (m : Message) (e : Event) → is_lose e ≡ false → FitsMessage m e → FitsInput (input_of m e)
told_fits m (Crash i) q f = tt
told_fits m (Recover i) q f = tt
told_fits m (Check i) q f = tt
told_fits m (Timeout i) q f = tt
told_fits m (Tick i) q f = tt
told_fits m (Expire i) q f = tt
told_fits m (Finish i t) q f = tt
told_fits m (Deliver a b) q f = f
told_fits m (Lose a b) q f = absurd (true≢false q)

-- ── the groups of grounds ──

-- a refusal by the grounds xs in front of others
pub in_front : (g : Refusal) (xs ys : List Ground) → refusal_number g ≡ first xs → refusal_number g ≡ first (xs ++ ys)
in_front g xs ys h = h ∙ sym (first_met xs ys (omega (arith, ground_some g, h)))

-- where they are clear, and one ground is behind them
module _ (xs : List Ground) (n : Numbered xs) (h : 0 ≡ first xs) (r : ℕ) (t : Bool) where
  behind : first (xs ++ (ground r t ∷ [])) ≡ pick t r 0
  unfolding first
  behind = first_clear xs _ n (sym h)

  pub behind_met : t ≡ true → r ≡ first (xs ++ (ground r t ∷ []))
  behind_met q = sym (behind ∙ rw (q, pick_true))

  pub behind_clear : t ≡ false → 0 ≡ first (xs ++ (ground r t ∷ []))
  behind_clear q = sym (behind ∙ rw (q, pick_false))

some_not_none : (x : ℕ) → 1 ≤ x → x ≡ 0 → ⊥
some_not_none x p q = omega arith

first_none : (xs ys : List Ground) → Numbered xs → first (xs ++ ys) ≡ 0 → (first xs ≡ 0) × (first ys ≡ 0)
first_none xs ys n h = by (first xs) refl
  where
    by : (x : ℕ) → first xs ≡ x → (first xs ≡ 0) × (first ys ≡ 0)
    by zero q = (q, sym (first_clear xs ys n q) ∙ h)
    by (suc x) q = absurd (some_not_none (first xs) (omega arith) (sym (first_met xs ys (omega arith)) ∙ h))

module _ (n limit waiting k : ℕ) (c : Node) (m : Message) (e : Event) where
  pub by_numbers : (g : Refusal) → refusal_number g ≡ first (number_grounds n e) → Judged n limit waiting k c m e (Err g)
  by_numbers g h = record { answer = in_front g (number_grounds n e) _ h; reaction = tt }

  module _ (clear : 0 ≡ first (number_grounds n e)) where
    past_numbers : first (judged_grounds n limit waiting k c m e) ≡ first (state_grounds n c e (ltb k waiting) ++ end_grounds c (reacts_to n c m e) (left_of waiting k) limit)
    past_numbers = first_clear (number_grounds n e) _ refl (sym clear)

    pub by_state : (g : Refusal) → refusal_number g ≡ first (state_grounds n c e (ltb k waiting)) → Judged n limit waiting k c m e (Err g)
    by_state g h = record { answer = in_front g (state_grounds n c e (ltb k waiting)) _ h ∙ sym past_numbers; reaction = tt }

    module _ (going : 0 ≡ first (state_grounds n c e (ltb k waiting))) where
      pub past_state : first (judged_grounds n limit waiting k c m e) ≡ first (end_grounds c (reacts_to n c m e) (left_of waiting k) limit)
      past_state = past_numbers ∙ first_clear (state_grounds n c e (ltb k waiting)) _ refl (sym going)

      module _ (r : Reaction) (left : ℕ) (hr : r ≡ reacts_to n c m e) (hl : left ≡ left_of waiting k) where
        pub by_ends : (g : Refusal) → refusal_number g ≡ first (end_grounds c r left limit) → Judged n limit waiting k c m e (Err g)
        by_ends g h = record { answer = h ∙ rw (hr, hl) (sym past_state); reaction = tt }

        pub by_none : 0 ≡ first (end_grounds c r left limit) → Judged n limit waiting k c m e (Ok r)
        by_none h = record { answer = h ∙ rw (hr, hl) (sym past_state); reaction = hr }

-- ── with ground 17 behind them ──
module _ (n limit waiting k : ℕ) (c : Node) (m : Message) (e : Event) (l : List ℕ) where
  pub by_judged : (g : Refusal) → Judged n limit waiting k c m e (Err g) → JudgedAll n limit waiting k c m e l (Err g)
  by_judged g j = record { answer = in_front g (judged_grounds n limit waiting k c m e) _ j.answer; reaction = tt }

  module _ (r : Reaction) (j : Judged n limit waiting k c m e (Ok r)) where
    all_is : first (all_grounds n limit waiting k c m e l) ≡ pick (sent_at_end r.outgoing (get_or l (sent_place r.outgoing) 0)) 17 0
    unfolding first
    all_is = rw j.reaction (first_clear (judged_grounds n limit waiting k c m e) (sent_grounds l (reacts_to n c m e).outgoing) refl (sym j.answer))

    pub by_last : sent_at_end r.outgoing (get_or l (sent_place r.outgoing) 0) ≡ true → JudgedAll n limit waiting k c m e l (Err SentAtEnd)
    by_last q = record { answer = sym (all_is ∙ rw (q, pick_true)); reaction = tt }

    pub by_no_ground : sent_at_end r.outgoing (get_or l (sent_place r.outgoing) 0) ≡ false → JudgedAll n limit waiting k c m e l (Ok r)
    by_no_ground q = record { answer = sym (all_is ∙ rw (q, pick_false)); reaction = j.reaction }

-- ── a judgement on a table: c and m as read from the arrays ──
pub seat_is : (i : ℕ) → 1 ≤ i → i ≤ 16 → (i + 15) % 16 ≡ i - 1
seat_is i l h = omega arith

module _ (t : Table) (z : Sized t) (ok : in_range (view t) ≡ true) (e : Event) (k : ℕ) (hk : k ≡ place_for (view t).queue e) (reach : k ≤ t.waiting) (at : ℕ) (ha : at ≡ (actor e + 15) % 16) (d : Node) (c : Node) (hc : c ≡ get_or t.nodes at d) (f : Message) (m : Message) (hm : m ≡ get_or t.messages (k % 64) f) where
  at_is : first (number_grounds t.n e) ≡ 0 → at ≡ actor e - 1
  at_is clear =
      let a = actor_is t z ok e clear in
      ha ∙ seat_is (actor e) a.0 (omega (arith, a.1, (small t z ok e).1))

  node_is : first (number_grounds t.n e) ≡ 0 → c ≡ node_at (view t) (actor e)
  node_is clear = hc ∙ rw (at_is clear) (node_read t z ok e clear d)

  pub judging : Judging t.n t.waiting k c m e
  judging = record { node = λ clear. node_fits t z ok e clear c (node_is clear); message = λ clear going. rw hm (message_ok t z ok e k hk reach c going f) }

  found : ltb k t.waiting ≡ ltb (place_for (view t).queue e) (length (view t).queue)
  found = found_is t z ok e k hk reach

  module _ (g : Refusal) (j : Judged t.n t.limits.messages t.waiting k c m e (Err g)) where
    pub refuses : Stepped t e (record { answer = Err g; table = t })
    refuses = by_first (first (number_grounds t.n e)) refl
      where
        by_second : (clear : first (number_grounds t.n e) ≡ 0) (y : ℕ) → first (state_grounds t.n c e (ltb k t.waiting)) ≡ y → Stepped t e (record { answer = Err g; table = t })
        by_second clear zero y =
            let r = reaction_is t z ok e k hk reach c y f (node_is clear) in
            ends_refuse t e ok c (node_is clear) _ found clear y (reacts_to t.n c m e) (rw hm r) _ (left_counts t z ok e k hk reach _ refl) g (j.answer ∙ past_state t.n t.limits.messages t.waiting k c m e (sym clear) (sym y))
        by_second clear (suc x) y =
            state_refuses t e ok c (node_is clear) _ found clear g
            (j.answer ∙ first_clear (number_grounds t.n e) _ refl clear ∙ first_met (state_grounds t.n c e (ltb k t.waiting)) _ (omega arith))

        by_first : (x : ℕ) → first (number_grounds t.n e) ≡ x → Stepped t e (record { answer = Err g; table = t })
        by_first zero y = by_second y (first (state_grounds t.n c e (ltb k t.waiting))) refl
        by_first (suc x) y = numbers_refuse t e ok _ refl _ refl g (j.answer ∙ first_met (number_grounds t.n e) _ (omega arith))

  module _ (r : Reaction) (j : Judged t.n t.limits.messages t.waiting k c m e (Ok r)) where
    none : first (judged_grounds t.n t.limits.messages t.waiting k c m e) ≡ 0
    none = sym j.answer

    clear : first (number_grounds t.n e) ≡ 0
    clear = (first_none (number_grounds t.n e) _ refl none).0

    later : (first (state_grounds t.n c e (ltb k t.waiting)) ≡ 0) × (first (end_grounds c (reacts_to t.n c m e) (left_of t.waiting k) t.limits.messages) ≡ 0)
    later = first_none (state_grounds t.n c e (ltb k t.waiting)) _ refl (first_none (number_grounds t.n e) _ refl none).1

    ends : first (end_grounds c r (left_of t.waiting k) t.limits.messages) ≡ 0
    ends = rw j.reaction later.1

    -- what storing needs
    pub seated : at < t.n
    seated = let a = actor_is t z ok e clear in omega (arith, at_is clear, a.0, a.1)

    pub room : Room r.outgoing (left_of t.waiting k)
    room = room_is t z ok e k hk reach _ refl c r ends

    pub reacts : r ≡ reaction_to (view t) e
    reacts = j.reaction ∙ rw hm (reaction_is t z ok e k hk reach c later.0 f (node_is clear))

    pub is_clear : Clear (view t) e
    is_clear = clear_is t z ok e k hk reach _ refl c (node_is clear) clear later.0 r reacts ends

    pub outgoing_in : OutgoingIn t.n r.outgoing
    outgoing_in = rw reacts (event_in (view t) e is_clear).reaction.outgoing

    at_end : sent_at_end r.outgoing (get_or t.sent (sent_place r.outgoing) 0) ≡ pair_at_end t.sent r.outgoing
    at_end = last_is t.n t.sent r.outgoing (small t z ok e).1 outgoing_in

    last_refused : (g : Refusal) → refusal_number g ≡ first (last_grounds t.sent r.outgoing) → Stepped t e (record { answer = Err g; table = t })
    last_refused g h = last_refuses t e ok c (node_is clear) _ found clear later.0 r reacts _ (left_counts t z ok e k hk reach _ refl) ends g h

    module _ (p : pair_at_end t.sent r.outgoing ≡ false) where
      -- what is then stored is the model's
      pub stores : stored (view t) e k at r ≡ effect (view t) e
      stores = effect_is t z ok e k hk reach _ refl is_clear r at reacts (at_is clear)

      pub model_accepts : step (view t) e ≡ accepted (effect (view t) e) (reaction_to (view t) e).mark
      model_accepts = step_accepts t e ok c (node_is clear) _ found clear later.0 r reacts _ (left_counts t z ok e k hk reach _ refl) ends p

      pub accepts : (u : Table) → view u ≡ stored (view t) e k at r → Stepped t e (record { answer = Accepted; table = u })
      accepts u h =
          all_clear t e ok c (node_is clear) _ found clear later.0 r reacts _ (left_counts t z ok e k hk reach _ refl) ends p u (h ∙ stores)

  -- with ground 17
  abbrev all : List Ground
  all = all_grounds t.n t.limits.messages t.waiting k c m e t.sent

  abbrev before : List Ground
  before = judged_grounds t.n t.limits.messages t.waiting k c m e

  pub all_refuses : (g : Refusal) → JudgedAll t.n t.limits.messages t.waiting k c m e t.sent (Err g) → Stepped t e (record { answer = Err g; table = t })
  all_refuses g j = by_first (first before) refl
    where
      by_first : (x : ℕ) → first before ≡ x → Stepped t e (record { answer = Err g; table = t })
      by_first zero y =
          let r = reacts_to t.n c m e in
          let j' : Judged t.n t.limits.messages t.waiting k c m e (Ok r) = record { answer = sym y; reaction = refl } in
          last_refused r j' g (rw (at_end r j') at (j.answer ∙ first_clear before (sent_grounds t.sent r.outgoing) refl y))
      by_first (suc x) y = refuses g (record { answer = j.answer ∙ first_met before _ (omega arith); reaction = tt })

  module _ (r : Reaction) (j : JudgedAll t.n t.limits.messages t.waiting k c m e t.sent (Ok r)) where
    pub judged : Judged t.n t.limits.messages t.waiting k c m e (Ok r)
    judged = record { answer = sym (first_none before _ refl (sym j.answer)).0; reaction = j.reaction }

    pub pair_below : pair_at_end t.sent r.outgoing ≡ false
    unfolding pick
    pair_below = sym (at_end r judged) ∙ rw j.reaction (not_met 17 all refl (sym j.answer))

    pub all_accept : (u : Table) → view u ≡ stored (view t) e k at r → Stepped t e (record { answer = Accepted; table = u })
    all_accept u h = accepts r judged pair_below u h
