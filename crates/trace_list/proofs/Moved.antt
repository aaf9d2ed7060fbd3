-- What an accepted step changes, as the code finds it: one record, the message taken out, and the message put in.
use Prim.Native.Nat.{ℕ, zero, suc, ◌+◌, ◌-◌, ◌%◌, ◌≤◌, ◌<◌}
use native.Mathlib.Nat.{mod-eq_of_lt}
use native.Mathlib.Omega.{arith}
use mathlib.Core.Path.{◌≡◌, refl, sym, ◌∙◌, ap}
use mathlib.Core.Bool.{Bool, true, false, not, ◌&&◌, true≢false}
use mathlib.Core.List.{List, [], ◌∷◌, ◌++◌, append_assoc, append-nil}
use lib.Dec.{ltb}
use lib.ListN.{length, get_or, set, length-append}
use lib.Seq.{get_or-take, get_or-set_same, get_or-append-add}
use borrow.Author.Tests.{ltb-true, ltb-false, not-false}
use Rattle.model.specs.Pick.{pick, pick_true, pick_false}
use Rattle.model.specs.State.{State, starting_node, no_message, first_of, view}
use Rattle.model.specs.Step.{actor, reaction_to, remaining, sent, effect, none_waits, Result, refused, accepted, step, kept}
use Rattle.model.specs.Answers.{answer_number, result_number, is_accepted}
use Rattle.model.specs.declared.Node.{Node}
use Rattle.model.specs.declared.Message.{Message}
use Rattle.std.specs.Prelude.{Option, Some, None}
use Rattle.model.specs.declared.Table.{Table}
use Rattle.model.specs.declared.Outcome.{Outcome}
use Rattle.model.specs.declared.Event.{Event}
use Rattle.model.specs.declared.Event.TheVariants.{Crash, Recover, Check, Timeout, Tick, Expire, Finish, Deliver, Lose}
use Rattle.model.proofs.Answers.{accepted_zero, refused_some}
use Rattle.model.proofs.Fields.{in_range_size}
use Rattle.model.proofs.InRange.{stays_in_range, without_length}
use Rattle.model.proofs.Judged.{Accepted, accepted_is}
use Rattle.model.proofs.Lists.{first_take, first_length}
use Rattle.model.proofs.Numbers.{actor_in}
use Rattle.model.proofs.Refusals.{refuses_by_ground}
use Rattle.machine.specs.Parts.{takes, place_for}
use Rattle.machine.specs.Stepped.{Stepped}
use Rattle.machine.proofs.Laws.{Sized}
use Rattle.machine.proofs.Parts.{oldest_place, none_place}
use Rattle.listing.specs.Printing.{joined}
use Rattle.trace_text.specs.Words.{record_line, same_node, taken_line, sent_line}
use Rattle.trace_text.specs.Trace.{accepted_line, refused_step_line, changed_lines, taken_lines, sent_lines, detail_lines, answered_lines, step_lines}
use Rattle.trace_list.specs.Steps.{Moves}
use Rattle.trace_list.proofs.Compared.{node_itself}

-- ── lists ──

pub joined_single : (x : List ℕ) → joined (x ∷ []) ≡ x
unfolding joined
joined_single x = append-nil x

joined_append : (xs ys : List (List ℕ)) → joined (xs ++ ys) ≡ joined xs ++ joined ys
unfolding joined
joined_append [] ys = refl
joined_append (x ∷ xs) ys = rw (joined_append xs ys, append_assoc)

-- within a list, what stands past its end does not matter
get_d_any : {A : Type 0} (l : List A) (k : ℕ) (d f : A) → k < length l → get_or l k d ≡ get_or l k f
get_d_any [] k d f h = absurd (none h)
  where
    none : k < 0 → ⊥
    none q = omega arith
get_d_any (x ∷ l) zero d f h = refl
get_d_any (x ∷ l) (suc k) d f h = get_d_any l k d f (omega arith)

-- an element of the first n
first_at : {A : Type 0} (n k : ℕ) (l : List A) (d f : A) → k < n → n ≤ length l → get_or l k d ≡ get_or (first_of n f l) k f
first_at n k l d f h g = rw (first_take n f l g, get_or-take n l k f h) (get_d_any l k d f (omega arith))

-- ── one record ──

changed_none : (i : ℕ) (cs : List Node) → changed_lines i cs cs ≡ []
unfolding changed_lines
changed_none i [] = refl
changed_none i (c ∷ cs) = rw (node_itself c, pick_true, changed_none (i + 1) cs)

changed_set : (i : ℕ) (cs : List Node) (j : ℕ) (x d : Node) → j < length cs → changed_lines i cs (set cs j x) ≡ pick (same_node (get_or cs j d) x) [] (record_line (i + j) x ∷ [])
unfolding changed_lines
changed_set i [] j x d h = absurd (none h)
  where
    none : j < 0 → ⊥
    none q = omega arith
changed_set i (c ∷ cs) zero x d h = let z : i + 0 ≡ i = omega arith in rw (changed_none (i + 1) cs, append-nil, z)
changed_set i (c ∷ cs) (suc j) x d h =
    let z : i + 1 + j ≡ i + suc j = omega arith in
    rw (node_itself c, pick_true) (changed_set (i + 1) cs j x d (omega arith) ∙ rw z)

-- ── the message taken out ──

taken_none : (q : List Message) (v : Event) → takes v ≡ false → taken_lines q v ≡ []
taken_none q (Crash i) h = refl
taken_none q (Recover i) h = refl
taken_none q (Check i) h = refl
taken_none q (Timeout i) h = refl
taken_none q (Tick i) h = refl
taken_none q (Expire i) h = refl
taken_none q (Finish i t) h = refl
taken_none q (Deliver a b) h = absurd (true≢false h)
taken_none q (Lose a b) h = absurd (true≢false h)

taken_some : (q : List Message) (v : Event) → takes v ≡ true → taken_lines q v ≡ taken_line (get_or q (place_for q v) no_message) ∷ []
taken_some q (Crash i) h = absurd (true≢false (sym h))
taken_some q (Recover i) h = absurd (true≢false (sym h))
taken_some q (Check i) h = absurd (true≢false (sym h))
taken_some q (Timeout i) h = absurd (true≢false (sym h))
taken_some q (Tick i) h = absurd (true≢false (sym h))
taken_some q (Expire i) h = absurd (true≢false (sym h))
taken_some q (Finish i t) h = absurd (true≢false (sym h))
taken_some q (Deliver a b) h = ap (λ (m : Message). taken_line m ∷ []) (oldest_place a b q)
taken_some q (Lose a b) h = ap (λ (m : Message). taken_line m ∷ []) (oldest_place a b q)

-- an event that takes a message out has found it
found : (q : List Message) (v : Event) → takes v ≡ true → none_waits q v ≡ false → place_for q v < length q
found q v h w =
    let e : takes v && not (ltb (place_for q v) (length q)) ≡ false = sym (none_place q v) ∙ w in
    ltb-true (place_for q v) (length q) (not-false _ (rw h at e))

pub some_waits : (t : Table) (v : Event) → none_waits (view t).queue v ≡ false → takes v ≡ true → 1 ≤ t.waiting
some_waits t v w h = let f = found (view t).queue v h w in let l = first_length t.waiting no_message t.messages in omega (arith, f, l)

taken_text : (t : Table) (v : Event) → Sized t → t.waiting ≤ 64 → none_waits (view t).queue v ≡ false → (m : Message) → m ≡ get_or t.messages (place_for (view t).queue v % 64) no_message
    → taken_lines (view t).queue v ≡ pick (takes v) (taken_line m ∷ []) []
taken_text t v z small w m e = by (takes v) refl
  where
    by : (b : Bool) → takes v ≡ b → taken_lines (view t).queue v ≡ pick b (taken_line m ∷ []) []
    by false h = taken_none (view t).queue v h ∙ sym (pick_false (taken_line m ∷ []) [])
    by true h =
        let f = found (view t).queue v h w in
        let l = first_length t.waiting no_message t.messages in
        let k : place_for (view t).queue v % 64 ≡ place_for (view t).queue v = mod-eq_of_lt (omega (arith, f, l, small)) in
        let g : m ≡ get_or (view t).queue (place_for (view t).queue v) no_message =
        e ∙ rw k (first_at t.waiting (place_for (view t).queue v) t.messages no_message no_message (omega (arith, f, l)) (omega (arith, small, z.messages))) in
        taken_some (view t).queue v h ∙ ap (λ (y : Message). taken_line y ∷ []) (sym g) ∙ sym (pick_true (taken_line m ∷ []) [])

-- ── the message put in ──

left_long : (s : State) (v : Event) → none_waits s.queue v ≡ false → length (remaining s v) ≡ pick (takes v) (length s.queue - 1) (length s.queue)
unfolding remaining pick
left_long s (Crash i) w = refl
left_long s (Recover i) w = refl
left_long s (Check i) w = refl
left_long s (Timeout i) w = refl
left_long s (Tick i) w = refl
left_long s (Expire i) w = refl
left_long s (Finish i t) w = refl
left_long s (Deliver a b) w = omega (arith, without_length a b s.queue (not-false _ w))
left_long s (Lose a b) w = omega (arith, without_length a b s.queue (not-false _ w))

-- what stands behind the k messages of r, by how many there are then
put_none : (r : List Message) (k w : ℕ) (o : Option Message) → k ≡ length r → w ≡ length (r ++ sent o) → w ≤ k → sent_lines o ≡ []
put_none r k w None e f h = refl
put_none r k w (Some m) e f h = absurd (omega (arith, e, f, h, length-append r (m ∷ [])))

put_some : (r : List Message) (k w : ℕ) (o : Option Message) → k ≡ length r → w ≡ length (r ++ sent o) → k < w → sent_lines o ≡ sent_line (get_or (r ++ sent o) k no_message) ∷ []
put_some r k w None e f h = absurd (omega (arith, e, f, h, length-append r []))
put_some r k w (Some m) e f h =
    let z : length r + 0 ≡ k = omega (arith, e) in
    ap (λ (y : Message). sent_line y ∷ []) (sym (ap (λ (j : ℕ). get_or (r ++ (m ∷ [])) j no_message) (sym z) ∙ get_or-append-add r (m ∷ []) 0 no_message))

-- ── an accepted step ──

module _ (t : Table) (v : Event) (u : Table) (h : Moves t v u) where
  clear_of : Accepted (view t) v (view u) (reaction_to (view t) v).mark
  clear_of = accepted_is (view t) v (view u) (reaction_to (view t) v).mark h

  pub none_of : none_waits (view t).queue v ≡ false
  none_of = clear_of.clear.waiting

  size : (1 ≤ t.n) × (t.n ≤ 16) × (length (view t).nodes ≡ t.n) × (length (view t).queue ≤ 64)
  size = in_range_size (view t) clear_of.clear.in_range_lem

  pub waiting_small : t.waiting ≤ 64
  waiting_small = let s = size.3 in let l = first_length t.waiting no_message t.messages in omega (arith, s, l)

  next_small : u.waiting ≤ 64
  next_small =
      let s = (in_range_size (view u) (stays_in_range.keeps (view t) v (view u) (reaction_to (view t) v).mark h)).3 in
      let l = first_length u.waiting no_message u.messages in
      omega (arith, s, l)

  actor_of : (1 ≤ actor v) × (actor v ≤ t.n)
  actor_of = actor_in t.n v clear_of.clear.number

  same_n : u.n ≡ t.n
  unfolding effect
  same_n = ap (λ (s : State). s.n) clear_of.state

  nodes_after : (view u).nodes ≡ set (view t).nodes (actor v - 1) (reaction_to (view t) v).node
  unfolding effect
  nodes_after = ap (λ (s : State). s.nodes) clear_of.state

  queue_after : (view u).queue ≡ remaining (view t) v ++ sent (reaction_to (view t) v).outgoing
  unfolding effect
  queue_after = ap (λ (s : State). s.queue) clear_of.state

  -- the record of the event's node, before and after
  module _ (zt : Sized t) (zu : Sized u) (k : ℕ) (hk : k ≡ (actor v + 15) % 16) where
    place_is : k ≡ actor v - 1
    place_is = let a = actor_of in let n = size.1 in omega (arith, a.0, a.1, n, hk)

    below : actor v - 1 < t.n
    below = let a = actor_of in omega (arith, a.0, a.1)

    before_is : get_or t.nodes k starting_node ≡ get_or (view t).nodes (actor v - 1) starting_node
    before_is = rw place_is (first_at t.n (actor v - 1) t.nodes starting_node starting_node below (let n = size.1 in omega (arith, n, zt.nodes)))

    after_is : get_or u.nodes k starting_node ≡ (reaction_to (view t) v).node
    after_is =
        let n = size.1 in
        let b = below in
        let l = size.2 in
        rw place_is (first_at u.n (actor v - 1) u.nodes starting_node starting_node (omega (arith, b, same_n)) (omega (arith, n, same_n, zu.nodes)))
        ∙ ap (λ (c : List Node). get_or c (actor v - 1) starting_node) nodes_after ∙ get_or-set_same (view t).nodes (actor v - 1) (reaction_to (view t) v).node starting_node (omega (arith, b, l))

    changed_is : changed_lines 1 (view t).nodes (view u).nodes ≡ pick (same_node (get_or t.nodes k starting_node) (get_or u.nodes k starting_node)) [] (record_line (actor v) (get_or u.nodes k starting_node) ∷ [])
    changed_is =
        let b = below in
        let l = size.2 in
        let z : 1 + (actor v - 1) ≡ actor v = let a = actor_of in omega (arith, a.0) in
        rw (before_is, after_is) (ap (changed_lines 1 (view t).nodes) nodes_after ∙ changed_set 1 (view t).nodes (actor v - 1) (reaction_to (view t) v).node starting_node (omega (arith, b, l)) ∙ rw z)

  -- the message behind those that are left, k of them
  module _ (k : ℕ) (hk : k ≡ pick (takes v) (t.waiting - 1) t.waiting) where
    left_is : k ≡ length (remaining (view t) v)
    left_is = hk ∙ sym (left_long (view t) v none_of ∙ rw (first_length t.waiting no_message t.messages))

    next_is : u.waiting ≡ length (remaining (view t) v ++ sent (reaction_to (view t) v).outgoing)
    next_is = sym (first_length u.waiting no_message u.messages) ∙ ap length queue_after

    sent_is : Sized u → (y : Message) → y ≡ get_or u.messages (k % 64) no_message → sent_lines (reaction_to (view t) v).outgoing ≡ pick (ltb k u.waiting) (sent_line y ∷ []) []
    sent_is z y e = by (ltb k u.waiting) refl
      where
        by : (b : Bool) → ltb k u.waiting ≡ b → sent_lines (reaction_to (view t) v).outgoing ≡ pick b (sent_line y ∷ []) []
        by false q =
            put_none (remaining (view t) v) k u.waiting (reaction_to (view t) v).outgoing left_is next_is (ltb-false k u.waiting q) ∙ sym (pick_false (sent_line y ∷ []) [])
        by true q =
            let i = ltb-true k u.waiting q in
            let n = next_small in
            let m : k % 64 ≡ k = mod-eq_of_lt (omega (arith, i, n)) in
            let g : y ≡ get_or (remaining (view t) v ++ sent (reaction_to (view t) v).outgoing) k no_message =
            e ∙ rw m (first_at u.waiting k u.messages no_message no_message i (omega (arith, n, z.messages)) ∙ ap (λ (l : List Message). get_or l k no_message) queue_after) in
            put_some (remaining (view t) v) k u.waiting (reaction_to (view t) v).outgoing left_is next_is i ∙ ap (λ (x : Message). sent_line x ∷ []) (sym g)
            ∙ sym (pick_true (sent_line y ∷ []) [])

  -- all lines, by what the code finds: the records c and d, the messages m and y, and how many are left, k
  pub details_are : Sized t → Sized u → (i : ℕ) → i ≡ actor v → (c d : Node) → c ≡ get_or t.nodes ((actor v + 15) % 16) starting_node → d ≡ get_or u.nodes ((actor v + 15) % 16) starting_node
      → (m : Message) → m ≡ get_or t.messages (place_for (view t).queue v % 64) no_message → (k : ℕ) → k ≡ pick (takes v) (t.waiting - 1) t.waiting
      → (y : Message) → y ≡ get_or u.messages (k % 64) no_message
      → joined (detail_lines (view t) v (view u)) ≡ joined (pick (same_node c d) [] (record_line i d ∷ [])) ++ (joined (pick (takes v) (taken_line m ∷ []) []) ++ joined (pick (ltb k u.waiting) (sent_line y ∷ []) []))
  details_are zt zu i hi c d hc hd m hm k hk y hy =
      let a : changed_lines 1 (view t).nodes (view u).nodes ≡ pick (same_node c d) [] (record_line i d ∷ []) = rw (hc, hd, hi) (changed_is zt zu ((actor v + 15) % 16) refl) in
      let b = taken_text t v zt waiting_small none_of m hm in
      let e = sent_is k hk zu y hy in
      joined_append (changed_lines 1 (view t).nodes (view u).nodes) (taken_lines (view t).queue v ++ sent_lines (reaction_to (view t) v).outgoing)
      ∙ ap (λ (l : List ℕ). joined (changed_lines 1 (view t).nodes (view u).nodes) ++ l) (joined_append (taken_lines (view t).queue v) (sent_lines (reaction_to (view t) v).outgoing))
      ∙ rw (a, b, e)

-- ── all lines of a step ──

module _ (t : Table) (v : Event) (o : Outcome) (h : Stepped t v o) where
  pub step_refused : is_accepted o.answer ≡ false → (e r : ℕ) → r ≡ answer_number o.answer → joined (step_lines (view t) e v) ≡ refused_step_line e v r
  unfolding step_lines
  step_refused q e r f = by (step (view t) v) h.answer
    where
      by : (x : Result) → answer_number o.answer ≡ result_number x → joined (answered_lines (view t) e v x) ≡ refused_step_line e v r
      by (refused k) g = joined_single (refused_step_line e v k) ∙ ap (refused_step_line e v) (sym (f ∙ g))
      by (accepted u k) g = absurd (let z = refused_some o.answer q in omega (arith, z, g))

  pub step_moves : is_accepted o.answer ≡ true → Moves t v o.table
  step_moves q =
      let x = refuses_by_ground.zero_accepts (view t) v (sym h.answer ∙ accepted_zero o.answer q) in
      let a = accepted_is (view t) v x.state x.mark x.is in
      let w : view o.table ≡ x.state = h.table ∙ ap (kept (view t)) x.is in
      x.is ∙ rw (w, a.mark)

pub step_accepted : (t : Table) (v : Event) (u : Table) → Moves t v u → (e : ℕ) → joined (step_lines (view t) e v) ≡ accepted_line e v ++ joined (detail_lines (view t) v (view u))
unfolding step_lines joined
step_accepted t v u h e = rw h
