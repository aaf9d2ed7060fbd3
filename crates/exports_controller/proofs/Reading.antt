-- What the functions that read a field answer is what the definition says; and laws of what a field says.
use Rattle.std.specs.Prelude.{Some, Ok, Err}
use Prim.Native.Nat.{ℕ, ◌≤◌, ◌<◌}
use native.Mathlib.Omega.{arith}
use mathlib.Core.Bool.{Bool, true, false}
use mathlib.Core.Path.{◌≡◌, refl}
use mathlib.Core.List.{List, ◌++◌}
use lib.ListN.{length}
use lib.Dec.{leb}
use borrow.Author.Tests.{le-leb, lt-leb, leb-true}
use Rattle.model.specs.Pick.{pick, pick_false, by_test}
use Rattle.model.proofs.Local.{both_left}
use Rattle.model.specs.declared.Event.{Event}
use Rattle.model.specs.declared.Event.TheVariants.{Crash, Recover, Check, Timeout, Tick, Expire, Finish, Deliver, Lose}
use Rattle.event_list.specs.Format.{stop_number, between, tag_at, contents_at, length_of, cut_short, checked, event_of, next_at}
use Rattle.event_list.specs.declared.Stop.{Stop}
use Rattle.event_list.specs.declared.Stop.TheVariants.{CutShort, WrongTag, WrongLength}
use Rattle.event_list.proofs.Fields.{Found, not_between, cut_empty, checked_alone}
use Rattle.exports_controller.specs.Field.{FieldRead, local_tag, local_of, event_in}
use Rattle.exports_controller.specs.Parts.{read_as}

-- the list reader's grounds 4 and 5 are a controller's
read_picked : (p q : Bool) (e : Event) (k : ℕ) → read_as (pick p (Err WrongTag) (pick q (Err WrongLength) (Ok (Some (e, k))))) ≡ pick p (Err WrongTag) (pick q (Err WrongLength) (local_of e))
unfolding pick
read_picked true q e k = refl
read_picked false true e k = refl
read_picked false false e k = refl

module _ (l : List ℕ) where
  pub field_short : cut_short l 0 ≡ true → event_in l ≡ Err CutShort
  unfolding event_in checked pick
  field_short k = rw k

  pub field_none : length l ≤ 0 → event_in l ≡ Err CutShort
  field_none z = field_short (cut_empty l z)

  module _ (t s e : ℕ) (f : Found l 0 t s e) where
    -- deliver, lose, and what is no event of a list
    pub field_other : 0x17 ≤ t → event_in l ≡ Err WrongTag
    unfolding event_in checked pick
    field_other h = rw (f.uncut, ← f.tag, not_between 0x10 0x16 t (λ _ k. omega (arith, h, k)))

    -- below deliver, the tags of a list's events are those of a controller's
    pub field_read : t < 0x17 → read_as (next_at l 0) ≡ event_in l
    unfolding event_in next_at checked
    field_read h = rw (lt-leb (length l) 0 f.more, f.uncut, ← f.tag, le-leb t 0x18 (omega (arith, h)), le-leb t 0x16 (omega (arith, h)), pick_false, pick_false, pick_false) (read_picked _ _ _ _)

-- ── what a field says ──

abbrev Bad : FieldRead → Type 0
Bad (Err s) = (3 ≤ stop_number s) × (stop_number s ≤ 5)
Bad (Ok e) = Unit {0}

local_bad : (e : Event) → Bad (local_of e)
local_bad (Crash i) = tt
local_bad (Recover i) = tt
local_bad (Check i) = tt
local_bad (Timeout i) = tt
local_bad (Tick i) = tt
local_bad (Expire i) = tt
local_bad (Finish i t) = tt
local_bad (Deliver a b) = omega arith
local_bad (Lose a b) = omega arith

bad_in : (f : List ℕ) → Bad (event_in f)
unfolding event_in checked
bad_in f = by_test Bad (λ u. omega arith) (λ u. by_test Bad (λ t. omega arith) (λ t. by_test Bad (λ w. omega arith) (λ w. local_bad (event_of (tag_at f 0) (contents_at f 0)))))

pub field_grounds : (f : List ℕ) (s : Stop) → event_in f ≡ Err s → (3 ≤ stop_number s) × (stop_number s ≤ 5)
field_grounds f s e = rw e at (bad_in f)

-- bytes behind a field that is there whole
pub field_alone : (f g : List ℕ) → cut_short f 0 ≡ false → event_in (f ++ g) ≡ event_in f
unfolding event_in
field_alone f g h = checked_alone local_tag length_of Err (λ t c _. local_of (event_of t c)) f g h

-- deliver and lose are no events of a controller, whatever the length is
pub queue_tag : (f : List ℕ) → cut_short f 0 ≡ false → between 0x17 0x18 (tag_at f 0) ≡ true → event_in f ≡ Err WrongTag
unfolding event_in checked pick
queue_tag f w t =
    let k = leb-true 0x17 (tag_at f 0) (both_left (leb 0x17 (tag_at f 0)) (leb (tag_at f 0) 0x18) t) in
    rw (w, not_between 0x10 0x16 (tag_at f 0) (λ low high. omega (arith, k, high)))
