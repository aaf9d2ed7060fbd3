-- The alphabet by its places: each of the three alphabets is computed.
use Prim.Native.Nat.{ℕ, zero, suc, ◌+◌, ◌≤◌, ◌<◌}
use native.Mathlib.Omega.{arith}
use mathlib.Core.Path.{◌≡◌, refl, ◌∙◌, ap}
use mathlib.Core.List.{map}
use lib.ListN.{get_or}
use Rattle.model.specs.Pick.{pick}
use Rattle.model.specs.declared.Event.{Event}
use Rattle.model.specs.declared.Event.TheVariants.{Crash}
use Rattle.short_lists_text.specs.Lists.{up_from, without, pairs_of, alphabet}
use Rattle.short_lists_text.proofs.Few.{of_three}
use Rattle.list_events.specs.Events.{size_of, event_at, single, receiver, event_count, event_by, ByPlace}

map_at : (f : ℕ → Event) (k c i : ℕ) (d : Event) → i < c → get_or (map f (up_from k c)) i d ≡ f (k + i)
unfolding up_from
map_at f k zero i d h = absurd (omega arith)
map_at f k (suc c) zero d h = let z : k ≡ k + 0 = omega arith in ap f z
map_at f k (suc c) (suc i) d h = let z : suc k + i ≡ k + suc i = omega arith in map_at f (suc k) c i d (omega arith) ∙ ap f z

one_node : alphabet 1 ≡ map (event_by 1) (up_from 0 7)
unfolding pick single receiver event_by up_from without pairs_of alphabet
one_node = refl

two_nodes : alphabet 2 ≡ map (event_by 2) (up_from 0 18)
unfolding pick single receiver event_by up_from without pairs_of alphabet
two_nodes = refl

three_nodes : alphabet 3 ≡ map (event_by 3) (up_from 0 33)
unfolding pick single receiver event_by up_from without pairs_of alphabet
three_nodes = refl

at_place : (n c i : ℕ) → alphabet n ≡ map (event_by n) (up_from 0 c) → i < c → event_at n i ≡ event_by n i
unfolding event_at
at_place n c i q h = let z : 0 + i ≡ i = omega arith in ap (λ l. get_or l i (Crash 0)) q ∙ (map_at (event_by n) 0 c i (Crash 0) h ∙ ap (event_by n) z)

pub sizes : (n : ℕ) → 1 ≤ n → n ≤ 3 → size_of n ≡ event_count n
unfolding pick up_from without pairs_of alphabet
sizes = of_three (λ n. size_of n ≡ event_count n) refl refl refl

pub by_place : ByPlace
by_place = record {
  size = sizes;
  event = λ n i a b. of_three (λ m. i < event_count m → event_at m i ≡ event_by m i) (at_place 1 7 i one_node) (at_place 2 18 i two_nodes) (at_place 3 33 i three_nodes) n a b;
}

-- the event at a place, as `event_by` finds it
pub found : (n i : ℕ) → 1 ≤ n → n ≤ 3 → i < size_of n → event_at n i ≡ event_by n i
found n i a b h = by_place.event n i a b (rw (by_place.size n a b) at h)
