-- Choice by a test, and its laws. It stays shut: a proof opens it by `unfolding pick`, or goes by cases with `by_test`.
use Rattle.std.specs.Prelude.{Bool, true, false, ◌≡◌, refl}

-- a where the test holds, else b
unfoldable pub pick {ℓ} : {A : Type ℓ} → Bool → A → A → A
pick true a b = a
pick false a b = b

pub pick_true {ℓ} : {A : Type ℓ} (a b : A) → pick true a b ≡ a
unfolding pick
pick_true a b = refl

pub pick_false {ℓ} : {A : Type ℓ} (a b : A) → pick false a b ≡ b
unfolding pick
pick_false a b = refl

by_cases {ℓ κ} : {A : Type ℓ} (P : A → Type κ) (t : Bool) (a b : A) → (t ≡ true → P a) → (t ≡ false → P b) → P (pick t a b)
unfolding pick
by_cases P true a b f g = f refl
by_cases P false a b f g = g refl

-- what holds of each branch under its test holds of the choice
pub by_test {ℓ κ} : {A : Type ℓ} (P : A → Type κ) {t : Bool} {a b : A} → (t ≡ true → P a) → (t ≡ false → P b) → P (pick t a b)
by_test P {t} {a} {b} f g = by_cases P t a b f g
