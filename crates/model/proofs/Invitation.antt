-- The conditions for a plain reply to an invitation: where one holds, and what is known where none does.
use Prim.Native.Nat.{ℕ}
use mathlib.Core.Bool.{Bool, true, false, true≢false}
use mathlib.Core.Path.{◌≡◌, refl, sym, ◌∙◌, ap}
use lib.Dec.{eqb}
use borrow.Author.Tests.{eqb-true, eq-eqb, ne_eqb}
use Rattle.model.specs.Node.{is_normal, owner_of, invited}
use Rattle.model.specs.Pick.{pick, pick_false}
use Rattle.model.specs.Procedures.{answers, forward_next}
use Rattle.model.specs.React.{only_replies, on_invitation, received}
use Rattle.model.specs.declared.Node.{Node}
use Rattle.model.specs.declared.GroupNo.{GroupNo}
use Rattle.model.specs.declared.Message.{Message}

module _ (i : ℕ) (c : Node) (g : GroupNo) where
  pub where_not_normal : is_normal c.status ≡ false → only_replies i c g ≡ true
  where_not_normal e = rw e

  pub where_owned : owner_of g.number ≡ i → only_replies i c g ≡ true
  where_owned e = by (is_normal c.status) refl
    where
      by : (x : Bool) → is_normal c.status ≡ x → only_replies i c g ≡ true
      by true p = rw (p, eq-eqb _ _ e)
      by false p = where_not_normal p

  pub where_held : c.group.number ≡ g.number → only_replies i c g ≡ true
  where_held e = by (is_normal c.status) (eqb (owner_of g.number) i) refl refl
    where
      by : (x y : Bool) → is_normal c.status ≡ x → eqb (owner_of g.number) i ≡ y → only_replies i c g ≡ true
      by true true p q = where_owned (eqb-true _ i q)
      by true false p q = simp (p, q, eq-eqb _ _ e)
      by false y p q = where_not_normal p

  -- none of the three holds
  pub where_none : is_normal c.status ≡ true → (owner_of g.number ≡ i → ⊥) → (c.group.number ≡ g.number → ⊥) → only_replies i c g ≡ false
  where_none e o h = simp (e, ne_eqb _ _ o, ne_eqb _ _ h)

  -- a node that acts on an invitation is Normal, and does not own the group
  pub acts_normal : only_replies i c g ≡ false → is_normal c.status ≡ true
  acts_normal e = by (is_normal c.status) refl
    where
      by : (x : Bool) → is_normal c.status ≡ x → is_normal c.status ≡ true
      by true p = p
      by false p = absurd (true≢false (sym (where_not_normal p) ∙ e))

  pub acts_not_owned : only_replies i c g ≡ false → owner_of g.number ≡ i → ⊥
  acts_not_owned e o = true≢false (sym (where_owned o) ∙ e)

pub plain_reply : (i : ℕ) (c : Node) (m : Message) → only_replies i c m.group ≡ true → on_invitation i c m ≡ answers i c m true
unfolding on_invitation pick
plain_reply i c m e = rw e

pub acted_on : (i : ℕ) (c : Node) (m : Message) → only_replies i c m.group ≡ false
    → on_invitation i c m ≡ forward_next i (invited c m.group) (pick (eqb c.coordinator i) c.members 0) m.sender m.call
unfolding on_invitation
acted_on i c m e =
    ap (λ (t : Bool). pick t (answers i c m true) (forward_next i (invited c m.group) (pick (eqb c.coordinator i) c.members 0) m.sender m.call)) e
    ∙ pick_false _ _

-- a message of kind 3 that is delivered is an invitation
pub kind_three : (n i : ℕ) (c : Node) (m : Message) → m.kind ≡ 3 → received n i c m ≡ on_invitation i c m
unfolding received pick
kind_three n i c m k = rw k
