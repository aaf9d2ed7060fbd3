-- Laws of packed messages: a message is read back from its words, the message at k, and the words of one stored.
use Prim.Native.Nat.{ℕ, zero, suc, ◌+◌, ◌-◌, ◌*◌, ◌/◌, ◌%◌, ◌≤◌, ◌<◌}
use native.Mathlib.Omega.{arith}
use native.Mathlib.Nat.{mod-eq_of_lt, mod-lt, le_refl}
use mathlib.Core.Path.{◌≡◌, refl, sym, ◌∙◌, ap}
use mathlib.Core.List.{List, [], ◌∷◌, ◌++◌}
use mathlib.Core.Bool.{Bool, true, false, ◌&&◌}
use lib.Arith.{digits_div, digits_mod, mod-mul}
use lib.Dec.{eqb}
use lib.ListN.{length, get_or, take, set}
use mir.Val.{Val}
use denote.Laws.{Is}
use denote.Struct.Declared.{row}
use borrow.Author.Tests.{eqb-true, eqb-false, eq-eqb, ne_eqb}
use Rattle.model.specs.State.{no_message, goes}
use Rattle.model.specs.declared.Message.{Message}
use Rattle.model.specs.contracts.Message as message
use Rattle.model.specs.Pick.{by_test}
use Rattle.model.specs.declared.Event.{Event}
use Rattle.model.specs.declared.Event.TheVariants.{Crash, Recover, Check, Timeout, Tick, Expire, Finish, Deliver, Lose}
use Rattle.machine.specs.Parts.{place, place_for, without}
use Rattle.model.proofs.Lists.{first_take, first_length}
use Rattle.machine.proofs.Laws.{without_none}
use Rattle.packed.specs.Packed.{one_if, route, content, unpacked, is_route, held, queue}

-- ── one message ──

-- What owning a message tells of its numbers. The paths follow the order of the fields in crate model.
pub record Narrow (m : Message) : Type 0 where
  pub sender : m.sender < 256
  pub receiver : m.receiver < 256
  pub kind : m.kind < 256
  pub task : m.task.number < 65536

pub narrow : (m : Message) {vs : List Val} → Is (row message.the_type) m vs → Narrow m
narrow m g =
    let f = g.1.1 in
    record { sender = f.0.1; receiver = f.1.0.1; kind = f.1.1.0.1; task = f.1.1.1.1.1.0.1.1.0.1 }

yes_back : (t : ℕ) (y : Bool) → eqb ((t * 2 + one_if y) % 2) 1 ≡ y
yes_back t true = rw (digits_mod t {m = 2} {r = 1} (omega arith))
yes_back t false = rw (digits_mod t {m = 2} {r = 0} (omega arith))

half_back : (t : ℕ) (y : Bool) → (t * 2 + one_if y) / 2 ≡ t
half_back t true = digits_div t (omega arith)
half_back t false = digits_div t (omega arith)

pub read_back : (m : Message) → Narrow m → unpacked (route m.sender m.receiver) (content m) m.call.number m.group.number ≡ m
read_back m f =
    let v : content m / 256 ≡ m.task.number * 2 + one_if m.yes = digits_div (m.task.number * 2 + one_if m.yes) f.kind in
    let s : route m.sender m.receiver % 256 ≡ m.sender = digits_mod m.receiver f.sender in
    let r : route m.sender m.receiver / 256 % 256 ≡ m.receiver = ap (λ (x : ℕ). x % 256) (digits_div m.receiver f.sender) ∙ mod-eq_of_lt f.receiver in
    let k : content m % 256 ≡ m.kind = digits_mod (m.task.number * 2 + one_if m.yes) f.kind in
    let y : eqb (content m / 256 % 2) 1 ≡ m.yes = rw v (yes_back m.task.number m.yes) in
    let t : content m / 256 / 2 % 65536 ≡ m.task.number = rw (v, half_back m.task.number m.yes) (mod-eq_of_lt f.task) in
    rw (s, r, k, y, t)

digits_eqb : (x y b a : ℕ) → y < 256 → a < 256 → eqb (x * 256 + y) (b * 256 + a) ≡ eqb y a && eqb x b
digits_eqb x y b a hy ha = by (eqb y a) refl (eqb x b) refl
  where
    lows : x * 256 + y ≡ b * 256 + a → y ≡ a
    lows e = sym (digits_mod x hy) ∙ ap (λ (z : ℕ). z % 256) e ∙ digits_mod b ha

    highs : x * 256 + y ≡ b * 256 + a → x ≡ b
    highs e = sym (digits_div x hy) ∙ ap (λ (z : ℕ). z / 256) e ∙ digits_div b ha

    by : (p : Bool) → eqb y a ≡ p → (q : Bool) → eqb x b ≡ q → eqb (x * 256 + y) (b * 256 + a) ≡ eqb y a && eqb x b
    by true p true q = rw (p, q) (eq-eqb (x * 256 + y) (b * 256 + a) (rw (eqb-true y a p, eqb-true x b q)))
    by true p false q = rw (p, q) (ne_eqb _ _ (λ e. eqb-false x b q (highs e)))
    by false p q r = rw p (ne_eqb _ _ (λ e. eqb-false y a p (lows e)))

-- the test of a first word is that of the message
pub goes_route : (a b : ℕ) → a < 256 → (w x y z : ℕ) → is_route w (route a b) ≡ goes a b (unpacked w x y z)
goes_route a b h w x y z =
    let e : w % 65536 ≡ w / 256 % 256 * 256 + w % 256 = mod-mul w {m = 256} {c = 256} (omega arith) (omega arith) in
    rw e (digits_eqb (w / 256 % 256) (w % 256) b a (mod-lt w (omega arith)) h)

-- ── the row ──
four : (k : ℕ) → suc k * 4 ≡ suc (suc (suc (suc (k * 4))))
four k = omega arith

more : (k j : ℕ) → suc k * 4 + j ≡ suc (suc (suc (suc (k * 4 + j))))
more k j = omega arith

pub held_long : (n : ℕ) (ws : List ℕ) → length ws ≡ n * 4 → length (held ws) ≡ n
unfolding held
held_long zero [] h = refl
held_long zero (a ∷ ws) h = let v : ⊥ = omega arith in absurd v
held_long (suc n) [] h = let v : ⊥ = omega arith in absurd v
held_long (suc n) (a ∷ []) h = let v : ⊥ = omega arith in absurd v
held_long (suc n) (a ∷ b ∷ []) h = let v : ⊥ = omega arith in absurd v
held_long (suc n) (a ∷ b ∷ c ∷ []) h = let v : ⊥ = omega arith in absurd v
held_long (suc n) (a ∷ b ∷ c ∷ d ∷ ws) h = ap suc (held_long n ws (omega arith))

pub held_at : (ws : List ℕ) (k : ℕ) (d : Message) → k * 4 + 3 < length ws
    → get_or (held ws) k d ≡ unpacked (get_or ws (k * 4) 0) (get_or ws (k * 4 + 1) 0) (get_or ws (k * 4 + 2) 0) (get_or ws (k * 4 + 3) 0)
unfolding held
held_at [] k d h = let v : ⊥ = omega arith in absurd v
held_at (a ∷ []) k d h = let v : ⊥ = omega arith in absurd v
held_at (a ∷ b ∷ []) k d h = let v : ⊥ = omega arith in absurd v
held_at (a ∷ b ∷ c ∷ []) k d h = let v : ⊥ = omega arith in absurd v
held_at (a ∷ b ∷ c ∷ e ∷ ws) zero d h = refl
held_at (a ∷ b ∷ c ∷ e ∷ ws) (suc k) d h = rw (more k 1, more k 2, more k 3, four k) (held_at ws k d (omega arith))

-- the words of message k
abbrev pub stored : List ℕ → ℕ → ℕ → ℕ → ℕ → ℕ → List ℕ
stored ws k a b c d = set (set (set (set ws (k * 4) a) (k * 4 + 1) b) (k * 4 + 2) c) (k * 4 + 3) d

pub held_set : (ws : List ℕ) (k a b c d : ℕ) → k * 4 + 3 < length ws → held (stored ws k a b c d) ≡ set (held ws) k (unpacked a b c d)
unfolding held
held_set [] k a b c d h = let v : ⊥ = omega arith in absurd v
held_set (p ∷ []) k a b c d h = let v : ⊥ = omega arith in absurd v
held_set (p ∷ q ∷ []) k a b c d h = let v : ⊥ = omega arith in absurd v
held_set (p ∷ q ∷ r ∷ []) k a b c d h = let v : ⊥ = omega arith in absurd v
held_set (p ∷ q ∷ r ∷ s ∷ ws) zero a b c d h = refl
held_set (p ∷ q ∷ r ∷ s ∷ ws) (suc k) a b c d h = rw (more k 1, more k 2, more k 3, four k) (ap (λ (l : List Message). unpacked p q r s ∷ l) (held_set ws k a b c d (omega arith)))

pub queue_take : (ws : List ℕ) (w : ℕ) → length ws ≡ 256 → w ≤ 64 → queue ws w ≡ take w (held ws)
queue_take ws w l h = first_take w no_message (held ws) (omega (arith, held_long 64 ws l))

-- the message behind message k
pub held_after : (ws : List ℕ) (k : ℕ) (d : Message) → k * 4 + 7 < length ws
    → get_or (held ws) (k + 1) d ≡ unpacked (get_or ws (k * 4 + 4) 0) (get_or ws (k * 4 + 5) 0) (get_or ws (k * 4 + 6) 0) (get_or ws (k * 4 + 7) 0)
held_after ws k d h =
    let e0 : (k + 1) * 4 ≡ k * 4 + 4 = omega arith in
    let e1 : (k + 1) * 4 + 1 ≡ k * 4 + 5 = omega arith in
    let e2 : (k + 1) * 4 + 2 ≡ k * 4 + 6 = omega arith in
    let e3 : (k + 1) * 4 + 3 ≡ k * 4 + 7 = omega arith in
    rw (← e1, ← e2, ← e3, ← e0) (held_at ws (k + 1) d (omega arith))

-- what the test of message k's first word gives
pub found_at : (a b : ℕ) (ws : List ℕ) (k : ℕ) → a < 256 → k * 4 + 3 < length ws → (key : ℕ) (r : Bool) → key ≡ route a b → r ≡ is_route (get_or ws (k * 4) 0) key → r ≡ goes a b (get_or (held ws) k no_message)
found_at a b ws k h l key r e f = f ∙ rw (e, held_at ws k no_message l) (goes_route a b h (get_or ws (k * 4) 0) (get_or ws (k * 4 + 1) 0) (get_or ws (k * 4 + 2) 0) (get_or ws (k * 4 + 3) 0))

-- the queue after an exchange, where one message goes out of us into vs, and where none does
module _ (ws vs : List ℕ) (l : length ws ≡ 256) (n : length vs ≡ 256) (w k r : ℕ) (few : w ≤ 64) (fit : r ≤ 64) (sent : List Message) where
  pub one_out : (us : List ℕ) → 1 ≤ w → take (w - 1) (held us) ≡ without k (take (w - 1 + 1) (held ws)) → take r (held vs) ≡ take (w - 1) (held us) ++ sent → queue vs r ≡ without k (queue ws w) ++ sent
  one_out us some out put =
      let e : w - 1 + 1 ≡ w = omega arith in
      rw (queue_take vs r n fit, queue_take ws w l few) (put ∙ ap (λ (x : List Message). x ++ sent) (rw e at out))

  pub none_out : w ≤ k → take r (held vs) ≡ take w (held ws) ++ sent → queue vs r ≡ without k (queue ws w) ++ sent
  none_out past put =
      let q : length (queue ws w) ≤ k = omega (arith, first_length w no_message (held ws)) in
      rw (without_none (queue ws w) k q, queue_take vs r n fit, queue_take ws w l few) put

-- ── the place of an event's message is one of the queue, or its length ──
place_within : (a b : ℕ) (q : List Message) → place a b q ≤ length q
unfolding place
place_within a b [] = le_refl 0
place_within a b (m ∷ ms) =
    let h = place_within a b ms in
    by_test (λ (x : ℕ). x ≤ suc (length ms)) (λ t. omega arith) (λ t. omega arith)

placed_within : (q : List Message) (e : Event) → place_for q e ≤ length q
placed_within q (Crash i) = le_refl _
placed_within q (Recover i) = le_refl _
placed_within q (Check i) = le_refl _
placed_within q (Timeout i) = le_refl _
placed_within q (Tick i) = le_refl _
placed_within q (Expire i) = le_refl _
placed_within q (Finish i t) = le_refl _
placed_within q (Deliver a b) = place_within a b q
placed_within q (Lose a b) = place_within a b q

pub within : (ws : List ℕ) (w : ℕ) (e : Event) → place_for (queue ws w) e ≤ w
within ws w e = omega (arith, placed_within (queue ws w) e, first_length w no_message (held ws))
