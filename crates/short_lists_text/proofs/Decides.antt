-- The first place where two lists differ decides their order.
use Prim.Native.Nat.{ℕ, ◌≤◌, ◌<◌}
use native.Mathlib.Omega.{arith}
use mathlib.Core.Path.{◌≡◌, refl}
use mathlib.Core.Logic.{◌⊎◌, inl, inr}
use mathlib.Core.List.{List, [], ◌∷◌, ◌++◌}
use Rattle.model.specs.declared.Event.{Event}
use Rattle.short_lists_text.specs.Order.{tag, contents, BytesBefore, Before, ListBefore}
use Rattle.short_lists_text.specs.Claims.{OrderIs}
use Rattle.short_lists_text.proofs.Order.{event_never}

bytes_first : (p : List ℕ) (x y : ℕ) (r t : List ℕ) → x < y → BytesBefore (p ++ (x ∷ r)) (p ++ (y ∷ t))
bytes_first [] x y r t h = inl h
bytes_first (z ∷ p) x y r t h = inr (refl, bytes_first p x y r t h)

bytes_only : (p : List ℕ) (x y : ℕ) (r t : List ℕ) → BytesBefore (p ++ (x ∷ r)) (p ++ (y ∷ t)) → x ≤ y
bytes_only [] x y r t (inl h) = omega (arith, h)
bytes_only [] x y r t (inr h) = let e = h.0 in omega (arith, e)
bytes_only (z ∷ p) x y r t (inl h) = absurd (omega (arith, h))
bytes_only (z ∷ p) x y r t (inr h) = bytes_only p x y r t h.1

events_first : (p : List Event) (e f : Event) (r t : List Event) → Before e f → ListBefore (p ++ (e ∷ r)) (p ++ (f ∷ t))
events_first [] e f r t h = inl h
events_first (z ∷ p) e f r t h = inr (refl, events_first p e f r t h)

events_only : (p : List Event) (e f : Event) (r t : List Event) → ListBefore (p ++ (e ∷ r)) (p ++ (f ∷ t)) → Before e f ⊎ (e ≡ f)
events_only [] e f r t (inl h) = inl h
events_only [] e f r t (inr h) = inr h.0
events_only (z ∷ p) e f r t (inl h) = absurd (event_never z h)
events_only (z ∷ p) e f r t (inr h) = events_only p e f r t h.1

begins : (l : List Event) (e : Event) (r : List Event) → ListBefore l (l ++ (e ∷ r))
begins [] e r = tt
begins (z ∷ l) e r = inr (refl, begins l e r)

bytes_begin : (c : List ℕ) (y : ℕ) (r : List ℕ) → BytesBefore c (c ++ (y ∷ r))
bytes_begin [] y r = tt
bytes_begin (x ∷ c) y r = inr (refl, bytes_begin c y r)

tag_only : (e f : Event) → Before e f → tag e ≤ tag f
tag_only e f (inl h) = omega (arith, h)
tag_only e f (inr h) = let q = h.0 in omega (arith, q)

contents_only : (e f : Event) → tag e ≡ tag f → Before e f → BytesBefore (contents e) (contents f)
contents_only e f q (inl h) = absurd (omega (arith, q, h))
contents_only e f q (inr h) = h.1

pub order_is : OrderIs
order_is = record {
  events = λ l m e f q h. rw (q.first, q.second) (events_first q.same e f q.left q.right h);
  events_only = λ l m e f q h. events_only q.same e f q.left q.right (rw (q.first, q.second) at h);
  shorter = λ l m q. rw q.is (begins l q.next q.more);
  tag_first = λ e f h. inl h;
  tag_only = tag_only;
  contents_next = λ e f q h. inr (q, h);
  contents_only = contents_only;
  bytes_first = λ c d x y q h. rw (q.first, q.second) (bytes_first q.same x y q.left q.right h);
  bytes_only = λ c d x y q h. bytes_only q.same x y q.left q.right (rw (q.first, q.second) at h);
  bytes_shorter = λ c d q. rw q.is (bytes_begin c q.next q.more);
}
