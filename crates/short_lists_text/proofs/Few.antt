-- There are fewer than 2 ^ 32 lists for each n and length that is allowed: from the starting table n events are accepted, later at most 33.
use Prim.Native.Nat.{ℕ, zero, suc, ◌*◌, ◌^◌, ◌≤◌, ◌<◌}
use native.Mathlib.Nat.{pow-succ', pow-le-pow_right, mul-le-mul_right}
use native.Mathlib.Omega.{arith}
use mathlib.Core.Path.{◌≡◌, refl, ap}
use mathlib.Core.List.{List, [], ◌∷◌, map}
use lib.Count.{ones_in, ones, count_leading_zeros}
use lib.ListN.{length, length-append, length-map}
use Rattle.model.specs.Limits.{tower}
use Rattle.model.specs.Pick.{pick}
use Rattle.model.specs.Procedures.{invite_next, merges, hand_next, finishes, forward_next, asked_all, ask_at, ask_after}
use Rattle.model.specs.React.{checked, timed_out, ticked, expired, resumed, on_are_you_coordinator, on_are_you_there, on_invitation, on_accept, on_ready, on_reply, received, react}
use Rattle.model.specs.Range.{activity_in_range, node_in_range, message_in_range, count_in_range}
use Rattle.model.specs.State.{State, start, waits, oldest, without_oldest, how_many, every, up_to, counts_in_range, traffic_in_range, in_range}
use Rattle.model.specs.Grounds.{judged}
use Rattle.model.specs.Step.{reaction_to, remaining, effect, grounds, Result, refused, accepted, step}
use Rattle.model.specs.declared.Mark.{Mark}
use Rattle.model.specs.declared.Event.{Event}
use Rattle.model.specs.declared.Event.TheVariants.{Recover}
use Rattle.model.proofs.Judged.{accepted_is}
use Rattle.short_lists_text.specs.Rows.{concat_map}
use Rattle.short_lists_text.specs.Lists.{up_from, nodes_of, without, pairs_of, alphabet, continued, lists_from}
use Rattle.short_lists_text.specs.Claims.{FewLists}

-- what holds of 1, 2 and 3
pub of_three : (P : ℕ → Type 0) → P 1 → P 2 → P 3 → (n : ℕ) → 1 ≤ n → n ≤ 3 → P n
of_three P a b c zero h k = absurd (omega arith)
of_three P a b c (suc zero) h k = a
of_three P a b c (suc (suc zero)) h k = b
of_three P a b c (suc (suc (suc zero))) h k = c
of_three P a b c (suc (suc (suc (suc n)))) h k = absurd (omega arith)

-- ── lengths ──

rows_long : {A B : Type 0} (f : A → List B) (b : ℕ) → ((x : A) → length (f x) ≤ b) → (xs : List A) → length (concat_map f xs) ≤ length xs * b
rows_long f b h [] = omega arith
rows_long f b h (x ∷ xs) = let r = rows_long f b h xs in let q = h x in simp length-append (omega arith)

-- 7 events of each node, and 2 of each ordered pair
alphabet_long : (n : ℕ) → 1 ≤ n → n ≤ 3 → length (alphabet n) ≤ 33
unfolding alphabet pairs_of up_from without pick
alphabet_long = of_three (λ n. length (alphabet n) ≤ 33) (omega arith) (omega arith) (omega arith)

-- ── from any table of at most three nodes ──

pub same_n : (s : State) (e : Event) (u : State) (m : Mark) → step s e ≡ accepted u m → u.n ≡ s.n
unfolding effect
same_n s e u m q = ap (λ (x : State). x.n) (accepted_is s e u m q).state

pub lists_within : (k : ℕ) (s : State) → 1 ≤ s.n → s.n ≤ 3 → length (lists_from k s) ≤ 33 ^ k
unfolding lists_from
lists_within zero s a b = omega arith
lists_within (suc k) s a b =
    let r = rows_long (λ e. continued e (step s e) (lists_from k)) (33 ^ k) (λ e. by (lists_within k) e (step s e) refl) (alphabet s.n) in
    let l = mul-le-mul_right (33 ^ k) (alphabet_long s.n a b) in
    omega (arith, pow-succ' 33 k)
  where
    by : ((u : State) → 1 ≤ u.n → u.n ≤ 3 → length (lists_from k u) ≤ 33 ^ k) → (e : Event) (r : Result) → step s e ≡ r → length (continued e r (lists_from k)) ≤ 33 ^ k
    by f e (refused x) q = omega arith
    by f e (accepted u m) q = let z = same_n s e u m q in let h = f u (omega arith) (omega arith) in rw (length-map (lists_from k u) (λ l. e ∷ l)) h

-- ── from the starting table ──

-- one event is accepted for each node, its recovery
module _ (later : State → List (List Event)) where
  abbrev recovered : ℕ → ℕ → List (List Event)
  recovered n i = map (λ l. Recover i ∷ l) (later (effect (start n tower) (Recover i)))

  first_events : (n : ℕ) → 1 ≤ n → n ≤ 3 → concat_map (λ e. continued e (step (start n tower) e) later) (alphabet n) ≡ concat_map (recovered n) (nodes_of n)
  unfolding pick ones_in ones count_leading_zeros invite_next merges hand_next finishes forward_next asked_all ask_at ask_after checked timed_out ticked expired resumed on_are_you_coordinator on_are_you_there on_invitation on_accept on_ready on_reply received react activity_in_range node_in_range message_in_range count_in_range waits oldest without_oldest how_many every up_to counts_in_range traffic_in_range in_range reaction_to remaining effect grounds judged step up_from without pairs_of alphabet
  first_events = of_three (λ n. concat_map (λ e. continued e (step (start n tower) e) later) (alphabet n) ≡ concat_map (recovered n) (nodes_of n)) refl refl refl

nodes_long : (k c : ℕ) → length (up_from k c) ≡ c
unfolding up_from
nodes_long k zero = refl
nodes_long k (suc c) = ap suc (nodes_long (suc k) c)

few : (n k : ℕ) → 1 ≤ n → n ≤ 3 → k ≤ 7 → length (lists_from k (start n tower)) < 2 ^ 32
unfolding lists_from effect
few n zero p q h = omega arith
few n (suc k) p q h =
    let r =
    rows_long (recovered (lists_from k) n) (33 ^ k)
    (λ i. rw (length-map (lists_from k (effect (start n tower) (Recover i))) (λ l. Recover i ∷ l)) (lists_within k (effect (start n tower) (Recover i)) p q)) (nodes_of n)
    in
    let m : 33 ^ k ≤ 33 ^ 6 = pow-le-pow_right {n = 33} (omega arith) {i = k} {j = 6} (omega arith) in
    let t : length (nodes_of n) * 33 ^ k ≤ 3 * 33 ^ k = mul-le-mul_right (33 ^ k) (omega (arith, nodes_long 1 n)) in
    rw (first_events (lists_from k) n p q) (omega arith)

pub few_lists : FewLists
few_lists = record { few = few }
