-- The tag and the contents that the order compares are those of the event's field in a list.
use Prim.Native.Nat.{ℕ, suc, ◌+◌, ◌*◌, ◌/◌, ◌%◌, ◌≤◌, ◌<◌}
use native.Mathlib.Omega.{arith}
use mathlib.Core.Bool.{Bool, true, false, true≢false, not, ◌&&◌}
use mathlib.Core.Path.{◌≡◌, refl, sym, subst}
use mathlib.Core.List.{List, [], ◌∷◌}
use lib.Dec.{eqb, leb}
use lib.ListN.{length, get_or}
use borrow.Author.Tests.{leb-true, eqb-true, eqb-false, not-false}
use Rattle.model.specs.Pick.{pick}
use Rattle.model.specs.Range.{is_node, is_other}
use Rattle.model.specs.State.{State}
use Rattle.model.specs.Step.{Result, refused, accepted, step, wrong_number, wrong_task}
use Rattle.model.specs.declared.Event.{Event}
use Rattle.model.specs.declared.Event.TheVariants.{Crash, Recover, Check, Timeout, Tick, Expire, Finish, Deliver, Lose}
use Rattle.model.proofs.Local.{both_left, both_right}
use Rattle.model.proofs.Fields.{in_range_size}
use Rattle.model.proofs.Numbers.{is_node_lem}
use Rattle.model.proofs.Judged.{accepted_is}
use Rattle.event_list.specs.Format.{event_tag, length_of, event_of}
use Rattle.short_lists_text.specs.Rows.{All}
use Rattle.short_lists_text.specs.Order.{tag, contents}
use Rattle.short_lists_text.specs.Lists.{is_accepted}
use Rattle.short_lists_text.specs.Claims.{FitsBytes, SameBytes}
use Rattle.short_lists_text.proofs.Order.{read}

-- ── what stands for an event has its tag and length ──

tagged : (e : Event) → event_tag (tag e) ≡ true
tagged (Crash i) = refl
tagged (Recover i) = refl
tagged (Check i) = refl
tagged (Timeout i) = refl
tagged (Tick i) = refl
tagged (Expire i) = refl
tagged (Finish i t) = refl
tagged (Deliver a b) = refl
tagged (Lose a b) = refl

long : (e : Event) → length (contents e) ≡ length_of (tag e)
unfolding length_of pick
long (Crash i) = refl
long (Recover i) = refl
long (Check i) = refl
long (Timeout i) = refl
long (Tick i) = refl
long (Expire i) = refl
long (Finish i t) = refl
long (Deliver a b) = refl
long (Lose a b) = refl

-- ── what is read as an event is what stands for it ──

-- for the tag t
abbrev Back : ℕ → Type 0
Back t = (c : List ℕ) → length c ≡ length_of t → All (λ b. b < 256) c → (tag (event_of t c) ≡ t) × (contents (event_of t c) ≡ c)

one_byte : (f : ℕ → Event) (t : ℕ) → ((i : ℕ) → (tag (f i) ≡ t) × (contents (f i) ≡ (i ∷ []))) → (c : List ℕ) → length c ≡ 1 → (tag (f (get_or c 0 0)) ≡ t) × (contents (f (get_or c 0 0)) ≡ c)
one_byte f t g [] e = absurd (omega arith)
one_byte f t g (i ∷ []) e = g i
one_byte f t g (i ∷ j ∷ c) e = absurd (omega arith)

two_bytes : (f : ℕ → ℕ → Event) (t : ℕ) → ((a b : ℕ) → (tag (f a b) ≡ t) × (contents (f a b) ≡ (a ∷ b ∷ []))) → (c : List ℕ) → length c ≡ 2 → (tag (f (get_or c 0 0) (get_or c 1 0)) ≡ t) × (contents (f (get_or c 0 0) (get_or c 1 0)) ≡ c)
two_bytes f t g [] e = absurd (omega arith)
two_bytes f t g (a ∷ []) e = absurd (omega arith)
two_bytes f t g (a ∷ b ∷ []) e = g a b
two_bytes f t g (a ∷ b ∷ x ∷ c) e = absurd (omega arith)

back_finish : Back 0x16
unfolding length_of event_of pick
back_finish [] e h = absurd (omega arith)
back_finish (i ∷ []) e h = absurd (omega arith)
back_finish (i ∷ a ∷ []) e h = absurd (omega arith)
back_finish (i ∷ a ∷ b ∷ []) e h =
    let l = h.1.1.0 in
    let p : (a * 256 + b) / 256 ≡ a = omega arith in
    let q : (a * 256 + b) % 256 ≡ b = omega arith in
    (refl, rw (p, q))
back_finish (i ∷ a ∷ b ∷ x ∷ c) e h = absurd (omega arith)

next : (P : ℕ → Type 0) (k t : ℕ) → P k → (suc k ≤ t → P t) → k ≤ t → P t
next P k t p f h = by (eqb t k) refl
  where
    by : (b : Bool) → eqb t k ≡ b → P t
    by true q = subst P (sym (eqb-true t k q)) p
    by false q = let d = eqb-false t k q in f (omega arith)

back : (t : ℕ) → 0x10 ≤ t → t ≤ 0x18 → Back t
unfolding length_of event_of pick
back t a b =
    next Back 0x10 t (λ c e h. one_byte Crash 0x10 (λ i. (refl, refl)) c e)
    (next Back 0x11 t (λ c e h. one_byte Recover 0x11 (λ i. (refl, refl)) c e)
    (next Back 0x12 t (λ c e h. one_byte Check 0x12 (λ i. (refl, refl)) c e)
    (next Back 0x13 t (λ c e h. one_byte Timeout 0x13 (λ i. (refl, refl)) c e)
    (next Back 0x14 t (λ c e h. one_byte Tick 0x14 (λ i. (refl, refl)) c e)
    (next Back 0x15 t (λ c e h. one_byte Expire 0x15 (λ i. (refl, refl)) c e)
    (next Back 0x16 t back_finish
    (next Back 0x17 t (λ c e h. two_bytes Deliver 0x17 (λ x y. (refl, refl)) c e)
    (next Back 0x18 t (λ c e h. two_bytes Lose 0x18 (λ x y. (refl, refl)) c e)
    (λ o. absurd (omega arith)))))))))) a

-- ── bytes ──

are_bytes : (e : Event) → FitsBytes e → All (λ b. b < 256) (tag e ∷ contents e)
are_bytes (Crash i) f = omega arith
are_bytes (Recover i) f = omega arith
are_bytes (Check i) f = omega arith
are_bytes (Timeout i) f = omega arith
are_bytes (Tick i) f = omega arith
are_bytes (Expire i) f = omega arith
are_bytes (Finish i t) f = omega arith
are_bytes (Deliver a b) f = omega arith
are_bytes (Lose a b) f = omega arith

module _ (n : ℕ) (h : n ≤ 16) where
  node_fits : (i : ℕ) → not (is_node n i) ≡ false → i < 256
  node_fits i q = let r = is_node_lem n i (not-false _ q) in omega arith

  pair_fits : (a b : ℕ) → not (is_node n a && is_other n a b) ≡ false → (a < 256) × (b < 256)
  pair_fits a b q =
      let g : is_node n a && is_other n a b ≡ true = not-false _ q in
      let r = is_node_lem n a (both_left _ _ g) in
      let u = is_node_lem n b (both_left (is_node n b) _ (both_right (is_node n a) _ g)) in
      (omega arith, omega arith)

  numbers_fit : (e : Event) → wrong_number n e ≡ false → wrong_task e ≡ false → FitsBytes e
  numbers_fit (Crash i) q t = node_fits i q
  numbers_fit (Recover i) q t = node_fits i q
  numbers_fit (Check i) q t = node_fits i q
  numbers_fit (Timeout i) q t = node_fits i q
  numbers_fit (Tick i) q t = node_fits i q
  numbers_fit (Expire i) q t = node_fits i q
  numbers_fit (Finish i x) q t = let u = leb-true x.number 65535 (both_right (leb 100 x.number) _ (not-false _ t)) in (node_fits i q, omega arith)
  numbers_fit (Deliver a b) q t = pair_fits a b q
  numbers_fit (Lose a b) q t = pair_fits a b q

pub accepted_fits : (s : State) (e : Event) → is_accepted (step s e) ≡ true → FitsBytes e
accepted_fits s e = by (step s e) refl
  where
    by : (r : Result) → step s e ≡ r → is_accepted r ≡ true → FitsBytes e
    by (refused x) q b = absurd (true≢false (sym b))
    by (accepted u m) q b = let c = (accepted_is s e u m q).clear in numbers_fit s.n (in_range_size s c.in_range_lem).1 e c.number c.task

pub same_bytes : SameBytes
same_bytes = record {
  tagged = tagged;
  long = long;
  read = read;
  only = λ t c g. back t (leb-true 0x10 t (both_left _ _ g)) (leb-true t 0x18 (both_right (leb 0x10 t) _ g)) c;
  are_bytes = are_bytes;
  accepted_fits = accepted_fits;
}
