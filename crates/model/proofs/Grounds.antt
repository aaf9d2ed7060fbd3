-- Laws of the table of grounds, for any table and any results: what `judged` gives, ground by ground and by the first number.
use Prim.Native.Nat.{ℕ, ◌≤◌}
use native.Mathlib.Omega.{arith}
use mathlib.Core.Bool.{Bool, true, false, not, ◌&&◌, ◌||◌, true≢false}
use mathlib.Core.Path.{◌≡◌, refl, sym, ◌∙◌, ap}
use mathlib.Core.List.{List, [], ◌∷◌, ◌++◌}
use lib.Dec.{eqb, ltb}
use borrow.Author.Tests.{eqb-true, eq-eqb, ltb-true}
use Rattle.model.specs.Pick.{pick, pick_true, pick_false, by_test}
use Rattle.model.specs.Grounds.{Ground, ground, judged, NoneApplies, leaving_out, first}
use Rattle.model.specs.Claims.{FirstApplies}
use Rattle.model.proofs.Local.{both_left, both_right}

-- ── a ground by its number ──

-- whether the ground of number r applies; each number stands once in a table of grounds
abbrev pub applies_of : ℕ → List Ground → Bool
applies_of r [] = false
applies_of r (g ∷ gs) = pick (eqb g.number r) g.applies (applies_of r gs)

-- the ground of number q stands before that of number r
abbrev pub before : ℕ → ℕ → List Ground → Bool
before q r [] = false
before q r (g ∷ gs) = not (eqb g.number r) && (eqb g.number q || before q r gs)

-- no ground has the number r; one has, or none
abbrev absent : ℕ → List Ground → Bool
absent r [] = true
absent r (g ∷ gs) = not (eqb g.number r) && absent r gs

abbrev pub once : ℕ → List Ground → Bool
once r [] = true
once r (g ∷ gs) = pick (eqb g.number r) (absent r gs) (once r gs)

pub none_of : (r : ℕ) (gs : List Ground) → NoneApplies gs → applies_of r gs ≡ false
none_of r [] c = refl
none_of r (g ∷ gs) c = by_test (λ (t : Bool). t ≡ false) (λ _. c.0) (λ _. none_of r gs c.1)

-- ── what is judged ──
module _ {R : Type 0} (refuse : ℕ → R) where
  -- what holds of every refusal, and of x where no ground applies
  pub judged_by : (P : R → Type 0) (x : R) (gs : List Ground) → ((r : ℕ) → P (refuse r)) → (NoneApplies gs → P x) → P (judged refuse x gs)
  unfolding judged
  judged_by P x [] f g = g tt
  judged_by P x (h ∷ gs) f g = by_test P (λ _. f h.number) (λ q. judged_by P x gs f (λ c. g (q, c)))

  pub judged_none : (x : R) (gs : List Ground) → NoneApplies gs → judged refuse x gs ≡ x
  unfolding judged
  judged_none x [] c = refl
  judged_none x (g ∷ gs) c = ap (λ (b : Bool). pick b (refuse g.number) (judged refuse x gs)) c.0 ∙ pick_false _ _ ∙ judged_none x gs c.1

  -- refusals are told apart by their numbers, and from x
  module _ (same : (a b : ℕ) → refuse a ≡ refuse b → a ≡ b) (x : R) (apart : (r : ℕ) → x ≡ refuse r → ⊥) where
    numbered_same : {q r : ℕ} → refuse q ≡ refuse r → eqb q r ≡ true
    numbered_same {q} {r} e = eq-eqb q r (same q r e)

    judged_absent : (r : ℕ) (gs : List Ground) → absent r gs ≡ true → judged refuse x gs ≡ refuse r → ⊥
    unfolding judged
    judged_absent r [] a = apart r
    judged_absent r (g ∷ gs) a =
        by_test (λ (y : R). y ≡ refuse r → ⊥)
        (λ _ e. true≢false (sym (both_left (not (eqb g.number r)) _ a) ∙ ap not (numbered_same e)))
        (λ _. judged_absent r gs (both_right (not (eqb g.number r)) _ a))

    -- a refusal's ground applies
    pub judged_met : (r : ℕ) (gs : List Ground) → once r gs ≡ true → judged refuse x gs ≡ refuse r → applies_of r gs ≡ true
    unfolding judged pick
    judged_met r [] o = λ e. absurd (apart r e)
    judged_met r (g ∷ gs) o = by g.applies (eqb g.number r) refl o (judged_met r gs)
      where
        by : (t v : Bool) → eqb g.number r ≡ v → pick v (absent r gs) (once r gs) ≡ true
            → (once r gs ≡ true → judged refuse x gs ≡ refuse r → applies_of r gs ≡ true)
            → pick t (refuse g.number) (judged refuse x gs) ≡ refuse r → pick v t (applies_of r gs) ≡ true
        by true true n h f e = refl
        by true false n h f e = absurd (true≢false (sym (numbered_same e) ∙ n))
        by false true n h f e = absurd (judged_absent r gs h e)
        by false false n h f e = f h e

    -- and one before it does not
    pub judged_passed : (q r : ℕ) (gs : List Ground) → before q r gs ≡ true → judged refuse x gs ≡ refuse r → applies_of q gs ≡ false
    unfolding judged pick
    judged_passed q r [] b = absurd (true≢false (sym b))
    judged_passed q r (g ∷ gs) b = by g.applies (eqb g.number q) (both_left (not (eqb g.number r)) _ b) (both_right (not (eqb g.number r)) _ b) (judged_passed q r gs)
      where
        by : (t v : Bool) → not (eqb g.number r) ≡ true → (v || before q r gs) ≡ true
            → (before q r gs ≡ true → judged refuse x gs ≡ refuse r → applies_of q gs ≡ false)
            → pick t (refuse g.number) (judged refuse x gs) ≡ refuse r → pick v t (applies_of q gs) ≡ false
        by true v n h f e = absurd (true≢false (sym n ∙ ap not (numbered_same e)))
        by false true n h f e = refl
        by false false n h f e = f h e

    -- what is not refused by the ground of number r is judged as without it
    pub judged_without : (r : ℕ) (gs : List Ground) → (judged refuse x gs ≡ refuse r → ⊥) → judged refuse x gs ≡ judged refuse x (leaving_out r gs)
    unfolding judged pick
    judged_without r [] f = refl
    judged_without r (g ∷ gs) f = by g.applies (eqb g.number r) refl f (judged_without r gs)
      where
        by : (t v : Bool) → eqb g.number r ≡ v → (pick t (refuse g.number) (judged refuse x gs) ≡ refuse r → ⊥)
            → ((judged refuse x gs ≡ refuse r → ⊥) → judged refuse x gs ≡ judged refuse x (leaving_out r gs))
            → pick t (refuse g.number) (judged refuse x gs) ≡ judged refuse x (pick v (leaving_out r gs) (ground g.number t ∷ leaving_out r gs))
        by true true n h k = absurd (h (ap refuse (eqb-true g.number r n)))
        by true false n h k = refl
        by false true n h k = k h
        by false false n h k = k h

-- ── the first ground that applies ──

-- the grounds' numbers are not 0: of a list of grounds by `refl`
abbrev numbered : List Ground → Bool
numbered [] = true
numbered (g ∷ gs) = ltb 0 g.number && numbered gs

abbrev pub Numbered : List Ground → Type 0
Numbered gs = numbered gs ≡ true

-- where none applies, the first does not, and none of the others
not_first : (g : Ground) (gs : List Ground) → Numbered (g ∷ gs) → first (g ∷ gs) ≡ 0 → (g.applies ≡ false) × (first gs ≡ 0)
unfolding first pick
not_first g gs n = by g.applies
  where
    by : (t : Bool) → pick t g.number (first gs) ≡ 0 → (t ≡ false) × (first gs ≡ 0)
    by true h = absurd (omega (arith, h, ltb-true 0 g.number (both_left (ltb 0 g.number) _ n)))
    by false h = (refl, h)

others_numbered : (g : Ground) (gs : List Ground) → Numbered (g ∷ gs) → Numbered gs
others_numbered g gs n = both_right (ltb 0 g.number) _ n

-- so the one of number r does not
pub not_met : (r : ℕ) (gs : List Ground) → Numbered gs → first gs ≡ 0 → applies_of r gs ≡ false
not_met r [] n h = refl
not_met r (g ∷ gs) n h =
    let x = not_first g gs n h in
    by_test (λ (t : Bool). t ≡ false) (λ _. x.0) (λ _. not_met r gs (others_numbered g gs n) x.1)

-- none applies in front
pub first_clear : (xs ys : List Ground) → Numbered xs → first xs ≡ 0 → first (xs ++ ys) ≡ first ys
unfolding first
first_clear [] ys n h = refl
first_clear (g ∷ gs) ys n h = let x = not_first g gs n h in rw (x.0, pick_false) (first_clear gs ys (others_numbered g gs n) x.1)

-- one applies in front
pub first_met : (xs ys : List Ground) → 1 ≤ first xs → first (xs ++ ys) ≡ first xs
unfolding first
first_met [] ys h = absurd (none h)
  where
    none : 1 ≤ 0 → ⊥
    none q = omega arith
first_met (g ∷ gs) ys h = by_applies g.applies refl (first_met gs ys)
  where
    by_applies : (t : Bool) → g.applies ≡ t → (1 ≤ first gs → first (gs ++ ys) ≡ first gs) → pick g.applies g.number (first (gs ++ ys)) ≡ pick g.applies g.number (first gs)
    by_applies true a r = rw (a, pick_true, pick_true)
    by_applies false a r = rw (a, pick_false, pick_false) (r (rw (a, pick_false) at h))

-- what is judged, by the first ground's number
module _ {R : Type 0} (refuse : ℕ → R) (x : R) where
  pub judged_clear : (gs : List Ground) → Numbered gs → first gs ≡ 0 → judged refuse x gs ≡ x
  unfolding judged
  judged_clear [] n h = refl
  judged_clear (g ∷ gs) n h = let y = not_first g gs n h in rw (y.0, pick_false) (judged_clear gs (others_numbered g gs n) y.1)

  -- none applies in front
  pub judged_past : (xs ys : List Ground) → Numbered xs → first xs ≡ 0 → judged refuse x (xs ++ ys) ≡ judged refuse x ys
  unfolding judged
  judged_past [] ys n h = refl
  judged_past (g ∷ gs) ys n h = let y = not_first g gs n h in rw (y.0, pick_false) (judged_past gs ys (others_numbered g gs n) y.1)

  pub judged_first : (gs : List Ground) → 1 ≤ first gs → judged refuse x gs ≡ refuse (first gs)
  unfolding judged first
  judged_first [] h = absurd (none h)
    where
      none : 1 ≤ 0 → ⊥
      none q = omega arith
  judged_first (g ∷ gs) h = by_applies g.applies refl (judged_first gs)
    where
      by_applies : (t : Bool) → g.applies ≡ t → (1 ≤ first gs → judged refuse x gs ≡ refuse (first gs)) → pick g.applies (refuse g.number) (judged refuse x gs) ≡ refuse (pick g.applies g.number (first gs))
      by_applies true a k = rw (a, pick_true, pick_true)
      by_applies false a k = rw (a, pick_false, pick_false) (k (rw (a, pick_false) at h))

-- ── two tables of grounds, or two kinds of results ──

-- what is judged, and then taken to another kind of result
pub judged_map : {R S : Type 0} (h : R → S) (refuse : ℕ → R) (x : R) (gs : List Ground) → h (judged refuse x gs) ≡ judged (λ r. h (refuse r)) (h x) gs
unfolding judged pick
judged_map h refuse x [] = refl
judged_map {R} {S} h refuse x (g ∷ gs) = by g.applies (judged_map h refuse x gs)
  where
    by : (t : Bool) → h (judged refuse x gs) ≡ judged (λ r. h (refuse r)) (h x) gs → h (pick t (refuse g.number) (judged refuse x gs)) ≡ pick t (h (refuse g.number)) (judged (λ r. h (refuse r)) (h x) gs)
    by true f = refl
    by false f = f

module _ {R : Type 0} (refuse : ℕ → R) where
  -- the result where none applies matters only there
  pub judged_same : (x y : R) (gs : List Ground) → (NoneApplies gs → x ≡ y) → judged refuse x gs ≡ judged refuse y gs
  unfolding judged pick
  judged_same x y [] f = f tt
  judged_same x y (g ∷ gs) f = by g.applies refl (λ q. judged_same x y gs (λ c. f (q, c)))
    where
      by : (t : Bool) → g.applies ≡ t → (g.applies ≡ false → judged refuse x gs ≡ judged refuse y gs) → pick t (refuse g.number) (judged refuse x gs) ≡ pick t (refuse g.number) (judged refuse y gs)
      by true q k = refl
      by false q k = k q

  -- what holds of a refusal by each ground's number, and of x, holds of what is judged
  abbrev pub EachRefusal : (R → Type 0) → List Ground → Type 0
  EachRefusal P [] = Unit {0}
  EachRefusal P (g ∷ gs) = P (refuse g.number) × EachRefusal P gs

  pub judged_each : (P : R → Type 0) (x : R) (gs : List Ground) → EachRefusal P gs → P x → P (judged refuse x gs)
  unfolding judged
  judged_each P x [] h p = p
  judged_each P x (g ∷ gs) h p = by_test P (λ _. h.0) (λ _. judged_each P x gs h.1 p)

  -- ── the first ground that applies, in its place: it is given ──
  in_place : (x : R) (before behind : List Ground) (r : ℕ) → NoneApplies before → judged refuse x (before ++ (ground r true ∷ behind)) ≡ refuse r
  unfolding judged
  in_place x [] behind r c = pick_true _ _
  in_place x (g ∷ before) behind r c =
      ap (λ (b : Bool). pick b (refuse g.number) (judged refuse x (before ++ (ground r true ∷ behind)))) c.0 ∙ pick_false _ _ ∙ in_place x before behind r c.1

  pub first_refuses : (x : R) (gs : List Ground) (r : ℕ) → FirstApplies gs r → judged refuse x gs ≡ refuse r
  first_refuses x gs r f = ap (judged refuse x) f.whole ∙ in_place x f.before f.behind r f.none_before

  -- and what is given is the first; a result that is no refusal is given where none applies
  one_more : (g : Ground) (gs : List Ground) (r : ℕ) → g.applies ≡ false → FirstApplies gs r → FirstApplies (g ∷ gs) r
  one_more g gs r q f = record { before = g ∷ f.before; behind = f.behind; whole = ap (λ (l : List Ground). g ∷ l) f.whole; none_before = (q, f.none_before) }

  module _ (same : (a b : ℕ) → refuse a ≡ refuse b → a ≡ b) (x : R) (apart : (r : ℕ) → x ≡ refuse r → ⊥) where
    pub first_applies : (gs : List Ground) (r : ℕ) → judged refuse x gs ≡ refuse r → FirstApplies gs r
    unfolding judged
    first_applies [] r = λ q. absurd (apart r q)
    first_applies (g ∷ gs) r =
        by_test (λ (y : R). y ≡ refuse r → FirstApplies (g ∷ gs) r)
        (λ t q. record { before = []; behind = gs; whole = ap (λ (b : Bool). ground g.number b ∷ gs) t ∙ ap (λ (k : ℕ). ground k true ∷ gs) (same g.number r q); none_before = tt })
        (λ t q. one_more g gs r t (first_applies gs r q))

  pub not_refused : (x y : R) → ((r : ℕ) → y ≡ refuse r → ⊥) → (gs : List Ground) → judged refuse x gs ≡ y → NoneApplies gs
  unfolding judged
  not_refused x y apart [] = λ q. tt
  not_refused x y apart (g ∷ gs) = by_test (λ (z : R). z ≡ y → NoneApplies (g ∷ gs)) (λ _ q. absurd (apart g.number (sym q))) (λ t q. (t, not_refused x y apart gs q))
