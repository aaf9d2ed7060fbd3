-- What a node does with a message depends on nothing that its kind does not carry; and what a node sends has 0, or no, there.
use Prim.Native.Nat.{ℕ, ◌+◌}
use mathlib.Core.Bool.{Bool, true, false}
use mathlib.Core.Path.{◌≡◌, refl}
use lib.Dec.{eqb}
use borrow.Author.Tests.{eqb-true}
use Rattle.node_set.specs.NodeSet.{with}
use Rattle.model.specs.Pick.{pick, pick_true, by_test}
use Rattle.model.specs.Node.{tasked, merged, asks, calls, readies, replies}
use Rattle.model.specs.Range.{carries_group}
use Rattle.model.specs.Procedures.{invite_next, merges, hand_next, finishes, forward_next, asked_all, ask_at, ask_after}
use Rattle.model.specs.React.{checked, timed_out, ticked, expired, resumed, on_are_you_coordinator, on_are_you_there, on_invitation, on_accept, on_ready, on_reply, received, react}
use Rattle.model.specs.declared.Status.TheVariants.{Reorganization}
use Rattle.model.specs.declared.Activity.{Activity}
use Rattle.model.specs.declared.Activity.TheVariants.{Idle, Asking, Waiting, Inviting, Collecting, Handing, Contacting, Forwarding, Accepting}
use Rattle.model.specs.declared.CallNo.{CallNo}
use Rattle.model.specs.declared.GroupNo.{GroupNo}
use Rattle.model.specs.declared.TaskNo.{TaskNo}
use Rattle.model.specs.declared.Node.{Node}
use Rattle.model.specs.declared.Message.{Message}
use Rattle.std.specs.Prelude.{Option, None, Some}
use Rattle.model.specs.declared.Mark.{Mark}
use Rattle.model.specs.declared.Mark.TheVariants.{Plain, Merges}
use Rattle.model.specs.declared.Reaction.{Reaction}
use Rattle.model.specs.declared.Input.{Input}
use Rattle.model.specs.declared.Input.TheVariants.{Crash, Recover, Check, Timeout, Tick, Expire, Finish, Receive}
use Rattle.message_fields.specs.Fields.{carries_task, carries_yes, carried}

-- a choice with its branches changed where they are taken
choose : {A : Type 0} (t : Bool) {a b c d : A} → (t ≡ true → a ≡ c) → (t ≡ false → b ≡ d) → pick t a b ≡ pick t c d
unfolding pick
choose true f g = f refl
choose false f g = g refl

module _ (n i : ℕ) (c : Node) (m : Message) where
  -- of each kind
  two : eqb m.kind 2 ≡ true → on_are_you_there i c (carried m) ≡ on_are_you_there i c m
  unfolding on_are_you_there carried
  two h = let g : carries_group m.kind ≡ true = rw (eqb-true m.kind 2 h) in rw (g, pick_true)

  three : eqb m.kind 3 ≡ true → on_invitation i c (carried m) ≡ on_invitation i c m
  unfolding on_invitation carried
  three h = let g : carries_group m.kind ≡ true = rw (eqb-true m.kind 3 h) in rw (g, pick_true)

  four : eqb m.kind 4 ≡ true → on_accept i c (carried m) ≡ on_accept i c m
  unfolding on_accept carried
  four h = let g : carries_group m.kind ≡ true = rw (eqb-true m.kind 4 h) in rw (g, pick_true)

  five : eqb m.kind 5 ≡ true → on_ready i c (carried m) ≡ on_ready i c m
  unfolding on_ready carried pick
  five h = let g : carries_group m.kind ≡ true = rw (eqb-true m.kind 5 h) in rw (g, h)

  six : eqb m.kind 6 ≡ true → on_reply n i c (carried m) ≡ on_reply n i c m
  unfolding on_reply carried
  six h = rw h

  pub received_carried : received n i c (carried m) ≡ received n i c m
  unfolding received on_are_you_coordinator carried
  received_carried =
      choose (eqb m.kind 1) (λ _. refl) (λ _.
      choose (eqb m.kind 2) two (λ _.
      choose (eqb m.kind 3) three (λ _.
      choose (eqb m.kind 4) four (λ _.
      choose (eqb m.kind 5) five (λ _.
      choose (eqb m.kind 6) six (λ _. refl))))))

  pub react_carried : react n i c (Receive (carried m)) ≡ react n i c (Receive m)
  unfolding react
  react_carried = received_carried

-- ── what a node sends holds nothing that its kind does not carry ──
abbrev pub SentCarried : Option Message → Type 0
SentCarried None = Unit {0}
SentCarried (Some m) = carried m ≡ m

-- of a reaction
abbrev Own : Reaction → Type 0
Own r = SentCarried r.outgoing

asks_carried : (i r : ℕ) (k : CallNo) → carried (asks i r k) ≡ asks i r k
unfolding carried pick
asks_carried i r k = refl

calls_carried : (i j r : ℕ) (k : CallNo) (g : GroupNo) → carries_group j ≡ true → carries_task j ≡ false → carries_yes j ≡ false → carried (calls i j r k g) ≡ calls i j r k g
unfolding carried pick
calls_carried i j r k g a b c = rw (a, b, c)

readies_carried : (i r : ℕ) (k : CallNo) (g : GroupNo) (t : TaskNo) → carried (readies i r k g t) ≡ readies i r k g t
unfolding carried pick
readies_carried i r k g t = refl

replies_carried : (i r : ℕ) (k : CallNo) (y : Bool) → carried (replies i r k y) ≡ replies i r k y
unfolding carried pick
replies_carried i r k y = refl

-- one lemma a procedure
module _ (n i : ℕ) where
  invites : (c : Node) (k : Mark) (found former : ℕ) → Own (invite_next i c k found former)
  unfolding invite_next
  invites c k found former = by_test Own (λ _. calls_carried i 3 _ _ _ refl refl refl) (λ _. by_test Own (λ _. calls_carried i 3 _ _ _ refl refl refl) (λ _. tt))

  merging : (c : Node) (found : ℕ) → Own (merges i c found)
  unfolding merges
  merging c found = invites (merged i c) Merges found c.members

  hands : (c : Node) (rest : ℕ) → Own (hand_next i c rest)
  unfolding hand_next
  hands c rest = by_test Own (λ _. tt) (λ _. readies_carried i _ _ _ _)

  forwards : (c : Node) (rest caller : ℕ) (call : CallNo) → Own (forward_next i c rest caller call)
  unfolding forward_next
  forwards c rest caller call = by_test Own (λ _. calls_carried i 4 _ _ _ refl refl refl) (λ _. calls_carried i 3 _ _ _ refl refl refl)

  asked : (c : Node) (found : ℕ) → Own (asked_all i c found)
  unfolding asked_all
  asked c found = by_test Own (λ _. tt) (λ _. by_test Own (λ _. tt) (λ _. merging c found))

  asks_at : (c : Node) (j found : ℕ) → Own (ask_at n i c j found)
  unfolding ask_at
  asks_at c j found = by_test Own (λ _. asks_carried i j _) (λ _. asked c found)

  asks_after : (c : Node) (j found : ℕ) → Own (ask_after n i c j found)
  unfolding ask_after
  asks_after c j found = by_test Own (λ _. asks_at c (j + 2) found) (λ _. asks_at c (j + 1) found)

  expires : (c : Node) (a : Activity) → Own (expired n i c a)
  unfolding expired
  expires c Idle = tt
  expires c (Asking asked found) = asks_after c asked found
  expires c (Waiting ticks found) = tt
  expires c (Inviting found former now) = invites c Plain found former
  expires c Collecting = tt
  expires c (Handing rest now) = tt
  expires c Contacting = tt
  expires c (Forwarding rest now caller call) = forwards c rest caller call
  expires c (Accepting caller call) = tt

  resumes : (c : Node) (y : Bool) (a : Activity) → Own (resumed n i c y a)
  unfolding resumed
  resumes c y Idle = tt
  resumes c y (Asking asked found) = asks_after c asked (pick y (with found asked) found)
  resumes c y (Waiting ticks found) = tt
  resumes c y (Inviting found former now) = invites c Plain found former
  resumes c y Collecting = tt
  resumes c y (Handing rest now) = hands c rest
  resumes c y Contacting = by_test Own (λ _. tt) (λ _. tt)
  resumes c y (Forwarding rest now caller call) = forwards c rest caller call
  resumes c y (Accepting caller call) = replies_carried i caller call true

  ticks_off : (c : Node) (a : Activity) → Own (ticked i c a)
  unfolding ticked
  ticks_off c Idle = tt
  ticks_off c (Asking asked found) = tt
  ticks_off c (Waiting ticks found) = by_test Own (λ _. merging c found) (λ _. tt)
  ticks_off c (Inviting found former now) = tt
  ticks_off c Collecting = tt
  ticks_off c (Handing rest now) = tt
  ticks_off c Contacting = tt
  ticks_off c (Forwarding rest now caller call) = tt
  ticks_off c (Accepting caller call) = tt

  receives : (c : Node) (m : Message) → Own (received n i c m)
  unfolding received on_are_you_coordinator on_are_you_there on_invitation on_accept on_ready on_reply
  receives c m =
      by_test Own (λ _. replies_carried i _ _ _) (λ _.
      by_test Own (λ _. replies_carried i _ _ _) (λ _.
      by_test Own (λ _. by_test Own (λ _. replies_carried i _ _ _) (λ _. forwards _ _ _ _)) (λ _.
      by_test Own (λ _. replies_carried i _ _ _) (λ _.
      by_test Own (λ _. replies_carried i _ _ _) (λ _.
      by_test Own (λ _. by_test Own (λ _. resumes c m.yes c.activity) (λ _. tt)) (λ _. tt))))))

  pub sends_carried : (c : Node) (x : Input) → SentCarried (react n i c x).outgoing
  unfolding react checked timed_out finishes
  sends_carried c Crash = tt
  sends_carried c Recover = tt
  sends_carried c Check = by_test Own (λ _. asks_after c 0 0) (λ _. tt)
  sends_carried c Timeout = by_test Own (λ _. tt) (λ _. calls_carried i 2 _ _ _ refl refl refl)
  sends_carried c Tick = ticks_off c c.activity
  sends_carried c Expire = expires c c.activity
  sends_carried c (Finish t) = hands (tasked c Reorganization t) c.members
  sends_carried c (Receive m) = receives c m
