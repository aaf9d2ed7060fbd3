-- Laws of `listed`, of rows of counts and of the tests over all counts, for the loops.
use Prim.Native.Nat.{ℕ, zero, suc, ◌+◌, ◌-◌, ◌*◌, ◌≤◌, ◌<◌}
use native.Mathlib.Nat.{not-suc-le-zero}
use native.Mathlib.Numerals.{add-one}
use native.Mathlib.Omega.{arith}
use mathlib.Core.Path.{◌≡◌, refl, sym, ◌∙◌, ap, ap₂}
use mathlib.Core.Bool.{Bool, true, false, ◌&&◌, ◌||◌, and-true, and-false, or-true, true≢false}
use mathlib.Core.List.{List, [], ◌∷◌, ◌++◌}
use lib.Dec.{eqb, leb, ltb}
use Rattle.std.proofs.lemmas.List.{length-take, length-drop, get_or-take, get_or-drop}
use lib.ListN.{length, get_or, take, drop, set, length-set, drop_of_length-le, get_or-eq_default}
use lib.Seq.{take-suc, take-suc-set, take_all, drop-cons, ext_get_or, get_or-set_same, get_or-set_other}
use mir.Val.{Val}
use denote.Laws.{Is}
use denote.Array.{Array}
use denote.Struct.Declared.{row}
use borrow.Author.Tests.{eqb-true, eqb-false, ltb-true, ltb-false, leb-true, leb-false, le-leb, lt-leb, eq-eqb, ne_eqb}
use Rattle.model.specs.Limits.{traffic_end}
use Rattle.model.specs.Pick.{by_test}
use Rattle.model.specs.Counts.{count_at, one, listed, rows_of}
use Rattle.model.specs.Range.{is_node, count_in_range}
use Rattle.model.specs.State.{no_message, goes, how_many, waiting, every, up_to, first_of}
use Rattle.model.proofs.Local.{both_left, both_right}
use Rattle.model.proofs.Fields.{Counting, node_is}
use Rattle.model.proofs.Counts.{many_append}
use Rattle.model.proofs.Waiting.{many_few}
use Rattle.model.specs.contracts.Message as message
use Rattle.model.specs.declared.Message.{Message}
use Rattle.traffic.specs.Rows.{entry, raised, one_more_in, used_of, most_at, adding}

-- ── listed ──
module _ {A : Type 0} where
  pub listed_long : (f : ℕ → A) (k m : ℕ) → length (listed f k m) ≡ m
  unfolding listed
  listed_long f k zero = refl
  listed_long f k (suc m) = ap suc (listed_long f (k + 1) m)

  pub listed_at : (f : ℕ → A) (k m i : ℕ) (d : A) → i < m → get_or (listed f k m) i d ≡ f (k + i)
  unfolding listed
  listed_at f k zero i d h = absurd (not-suc-le-zero h)
  listed_at f k (suc m) zero d h = ap f (omega arith)
  listed_at f k (suc m) (suc i) d h = listed_at f (k + 1) m i d (omega arith) ∙ ap f (omega arith)

  pub listed_same : (f g : ℕ → A) (k m : ℕ) → ((j : ℕ) → k ≤ j → j < k + m → f j ≡ g j) → listed f k m ≡ listed g k m
  unfolding listed
  listed_same f g k zero h = refl
  listed_same f g k (suc m) h =
      ap₂ (λ (x : A) (l : List A). x ∷ l) (h k (omega arith) (omega arith)) (listed_same f g (k + 1) m (λ j p q. h j (omega arith) (omega arith)))

  listed_more : (f : ℕ → A) (k m : ℕ) → listed f k (suc m) ≡ listed f k m ++ (f (k + m) ∷ [])
  unfolding listed
  listed_more f k zero = ap (λ (j : ℕ). f j ∷ []) (omega arith)
  listed_more f k (suc m) = ap (λ (l : List A). f k ∷ l) (listed_more f (k + 1) m ∙ ap (λ (j : ℕ). listed f (k + 1) m ++ (f j ∷ [])) (omega arith))

  -- the element at i set to what g has there, where g is f elsewhere
  pub listed_set : (f g : ℕ → A) (k m i : ℕ) (v : A) → i < m → v ≡ g (k + i) → ((j : ℕ) → (j ≡ k + i → ⊥) → f j ≡ g j) → set (listed f k m) i v ≡ listed g k m
  listed_set f g k m i v h e other = ext_get_or v _ _ (simp (length-set, listed_long)) (λ j p. at j (simp (length-set, listed_long) at p) (eqb j i) refl)
    where
      at : (j : ℕ) → j < m → (t : Bool) → eqb j i ≡ t → get_or (set (listed f k m) i v) j v ≡ get_or (listed g k m) j v
      at j p true q =
          let r : j ≡ i = eqb-true j i q in
          rw r (get_or-set_same (listed f k m) i v v (simp listed_long h) ∙ e ∙ sym (listed_at g k m i v h))
      at j p false q =
          let r : j ≡ i → ⊥ = eqb-false j i q in
          get_or-set_other (listed f k m) i j v v r ∙ listed_at f k m j v p ∙ other (k + j) (λ z. r (omega arith)) ∙ sym (listed_at g k m j v p)

  -- an array whose first i elements are those of f
  module _ (f : ℕ → A) (k : ℕ) (xs : List A) (i : ℕ) (filled : take i xs ≡ listed f k i) where
    pub fill_turn : i < length xs → (x : A) → x ≡ f (k + i) → take (i + 1) (set xs i x) ≡ listed f k (i + 1)
    fill_turn h x e = rw (add-one, take-suc-set, listed_more, filled, e)

    pub fill_end : (n : ℕ) → length xs ≡ n → i ≤ n → n ≤ i → xs ≡ listed f k n
    fill_end n long a b =
        let e : i ≡ n = omega arith in
        rw (← e) (sym (take_all i xs (omega arith)) ∙ filled)

-- ── rows ──
-- the counts from node i + 1 are the 16 from place 16 i on
pub row_slice : (l : List ℕ) (i m : ℕ) → length l ≡ 256 → i < 16 → m ≡ 16 → take m (drop (i * 16) l) ≡ listed (count_at l (1 + i)) 1 16
row_slice l i m h b e =
    rw e
    (ext_get_or 0 _ _ (simp (length-take, length-drop, listed_long) (omega arith))
    (λ j p.
    let q : j < 16 = omega (arith, length-take 16 (drop (i * 16) l)) in
    get_or-take 16 (drop (i * 16) l) j 0 q
    ∙ get_or-drop (i * 16) l j 0
    ∙ ap (λ (k : ℕ). get_or l k 0) (omega arith)
    ∙ sym (listed_at (count_at l (1 + i)) 1 16 j 0 q)))

pub rows_same : (f g : ℕ → ℕ → ℕ) → ((a b : ℕ) → Counting a b → f a b ≡ g a b) → rows_of f ≡ rows_of g
rows_same f g h =
    listed_same _ _ 1 16 (λ a l u. listed_same (f a) (g a) 1 16 (λ b m v. h a b (record { low = l; high = omega arith; low_to = m; high_to = omega arith })))

module _ (f : ℕ → ℕ → ℕ) where
  row_is : (a : ℕ) → 1 ≤ a → a ≤ 16 → get_or (rows_of f) (a - 1) [] ≡ listed (f a) 1 16
  row_is a l h = listed_at (λ x. listed (f x) 1 16) 1 16 (a - 1) [] (omega arith) ∙ ap (λ (x : ℕ). listed (f x) 1 16) (omega arith)

  pub entry_is : (a b : ℕ) → Counting a b → entry (rows_of f) a b ≡ f a b
  entry_is a b p = rw (row_is a p.low p.high) (listed_at (f a) 1 16 (b - 1) 0 (omega arith) ∙ ap (f a) (omega arith))

  -- no entry is above m, where no count is
  pub entry_few : (m : ℕ) → ((a b : ℕ) → f a b ≤ m) → (a b : ℕ) → entry (rows_of f) a b ≤ m
  entry_few m h a b = by_row (ltb (a - 1) 16) refl
    where
      by_place : (x : ℕ) (t : Bool) → ltb (b - 1) 16 ≡ t → get_or (listed (f x) 1 16) (b - 1) 0 ≤ m
      by_place x true e = rw (listed_at (f x) 1 16 (b - 1) 0 (ltb-true _ _ e)) (h x (1 + (b - 1)))
      by_place x false e =
          let q : length (listed (f x) 1 16) ≤ b - 1 = simp listed_long (ltb-false _ _ e) in
          rw (get_or-eq_default (listed (f x) 1 16) 0 q) (omega arith)

      by_row : (t : Bool) → ltb (a - 1) 16 ≡ t → entry (rows_of f) a b ≤ m
      by_row true e = rw (listed_at (λ x. listed (f x) 1 16) 1 16 (a - 1) [] (ltb-true _ _ e)) (by_place (1 + (a - 1)) (ltb (b - 1) 16) refl)
      by_row false e =
          let q : length (rows_of f) ≤ a - 1 = simp listed_long (ltb-false _ _ e) in
          rw (get_or-eq_default (rows_of f) [] q) (omega arith)

-- both are 1 to 16
pub numbers : (a b : ℕ) → (is_node 16 a && is_node 16 b) ≡ true → Counting a b
numbers a b e =
    let p = node_is 16 a (both_left _ _ e) in
    let q = node_is 16 b (both_right (is_node 16 a) _ e) in
    record { low = p.low; high = p.high; low_to = q.low; high_to = q.high }

-- one more from x to y
module _ (f : ℕ → ℕ → ℕ) (x y : ℕ) where
  abbrev more : ℕ → ℕ → ℕ
  more a b = f a b + one (eqb x a && eqb y b)

  pub more_rows : one_more_in (rows_of f) x y ≡ rows_of more
  unfolding one_more_in
  more_rows = by_test (λ w. w ≡ rows_of more) counts nowhere
    where
      counts : (is_node 16 x && is_node 16 y) ≡ true → raised (rows_of f) x y ≡ rows_of more
      counts e =
          let p = numbers x y e in
          let i : 1 + (x - 1) ≡ x = omega arith in
          let j : 1 + (y - 1) ≡ y = omega arith in
          listed_set (λ a. listed (f a) 1 16) (λ a. listed (more a) 1 16) 1 16 (x - 1) _ (omega arith)
          (rw (i, entry_is f x y p, row_is f x p.low p.high)
          (listed_set (f x) (more x) 1 16 (y - 1) _ (omega arith)
          (rw (j, eq-eqb x x refl, eq-eqb y y refl))
          (λ b d. rw (ne_eqb y b (λ z. d (omega arith)), eq-eqb x x refl) (omega arith))))
          (λ a d. listed_same (f a) (more a) 1 16 (λ b l u. rw (ne_eqb x a (λ z. d (omega arith))) (omega arith)))

      nowhere : (is_node 16 x && is_node 16 y) ≡ false → rows_of f ≡ rows_of more
      nowhere e = rows_same f more (λ a b p. other a b p (eqb x a && eqb y b) refl)
        where
          other : (a b : ℕ) → Counting a b → (t : Bool) → (eqb x a && eqb y b) ≡ t → f a b ≡ f a b + one t
          other a b p true q =
              let i = eqb-true x a (both_left _ _ q) in
              let j = eqb-true y b (both_right (eqb x a) _ q) in
              absurd (true≢false (sym (rw (i, j, le-leb 1 a p.low, le-leb a 16 p.high, le-leb 1 b p.low_to, le-leb b 16 p.high_to)) ∙ e))
          other a b p false q = omega arith

-- ── the waiting messages ──
module _ (l : List Message) (k : ℕ) where
  many_turn : (f : Message → Bool) (d : Message) → k < length l → how_many f (take (k + 1) l) ≡ how_many f (take k l) + one (f (get_or l k d))
  unfolding how_many
  many_turn f d h = rw (add-one, take-suc l k d, many_append) (omega arith)

  -- w: the rows once the message m at k is counted
  pub waiting_turn : (d : Message) → k < length l → (w : List (List ℕ)) → w ≡ one_more_in (rows_of (waiting (take k l))) (get_or l k d).sender (get_or l k d).receiver → w ≡ rows_of (waiting (take (k + 1) l))
  waiting_turn d h w e =
      e ∙ more_rows (waiting (take k l)) (get_or l k d).sender (get_or l k d).receiver ∙ rows_same _ _ (λ a b _. sym (many_turn (goes a b) d h))

-- none of the messages that pad the queue passes the test
many_padded : (f : Message → Bool) (d : Message) → f d ≡ false → (w : ℕ) (l : List Message) → how_many f (take w l) ≡ how_many f (first_of w d l)
unfolding how_many first_of
many_padded f d e zero l = refl
many_padded f d e (suc w) [] = rw (e, ← many_padded f d e w []) (none w)
  where
    none : (w : ℕ) → 0 ≡ 0 + how_many f (take w [])
    none zero = omega arith
    none (suc w) = omega arith
many_padded f d e (suc w) (m ∷ ms) = ap (λ (x : ℕ). one (f m) + x) (many_padded f d e w ms)

pub used_take : (w : ℕ) (l : List Message) → length l ≡ 64 → take (used_of w) l ≡ take w l
unfolding used_of
used_take w l h = by_test (λ k. take k l ≡ take w l) (λ e. refl) (λ e. let q : 64 < w = leb-false w 64 e in take_all 64 l (omega arith) ∙ sym (take_all w l (omega arith)))

pub used_few : (w : ℕ) → used_of w ≤ 64
unfolding used_of
used_few w = by_test (λ k. k ≤ 64) (λ e. leb-true w 64 e) (λ e. omega arith)

pub waiting_end : (w : ℕ) (l : List Message) → length l ≡ 64 → rows_of (waiting (take (used_of w) l)) ≡ rows_of (waiting (first_of w no_message l))
waiting_end w l h =
    rw (used_take w l h) (rows_same _ _ (λ a b p. many_padded (goes a b) no_message (rw (ne_eqb 0 a (λ z. omega arith))) w l))

pub waiting_few : (q : List Message) (a b : ℕ) → entry (rows_of (waiting q)) a b ≤ length q
waiting_few q a b = entry_few (waiting q) (length q) (λ x y. many_few (goes x y) q) a b

-- ── tests of all counts ──

-- a count is in range where it is not above the most
most_is : (n k x : ℕ) → leb x (most_at n k) ≡ count_in_range n k x
unfolding most_at count_in_range
most_is n k x = by_test (λ m. leb x m ≡ count_in_range n k x) (λ e. rw e (sym (ap (λ (t : Bool). leb x traffic_end && t) (or-true (eqb x 0)) ∙ and-true _))) (λ e. rw e (none (eqb x 0) refl))
  where
    none : (t : Bool) → eqb x 0 ≡ t → leb x 0 ≡ (leb x traffic_end && (t || false))
    none true q =
        let z : x ≡ 0 = eqb-true x 0 q in
        rw (le-leb x 0 (omega arith), le-leb x traffic_end (omega arith))
    none false q =
        let d : x ≡ 0 → ⊥ = eqb-false x 0 q in
        rw (lt-leb x 0 (omega arith)) (sym (and-false (leb x traffic_end)))

-- three tests, each taken before what is left of its list
in_order : (good r s t x y z : Bool) → (good && ((r && x) && (s && y) && (t && z))) ≡ ((good && (r && s && t)) && (x && y && z))
in_order false r s t x y z = refl
in_order true false s t x y z = refl
in_order true true false t true y z = refl
in_order true true false t false y z = refl
in_order true true true false true true z = refl
in_order true true true false true false z = refl
in_order true true true false false y z = refl
in_order true true true true x y z = refl

-- the tests of three lists from k on; good is the test so far
module _ (n : ℕ) (x y z : List ℕ) where
  abbrev pub rest : ℕ → Bool
  rest k = every (count_in_range n) k (drop k x) && every (count_in_range n) k (drop k y) && every (count_in_range n) k (drop k z)

  module _ (k : ℕ) (good : Bool) where
    -- the test at k, and those behind it
    abbrev pub here : List ℕ → Bool
    here l = leb (get_or l k 0) (most_at n k)

    abbrev pub behind : List ℕ → Bool
    behind l = every (count_in_range n) (k + 1) (drop (k + 1) l)

    one_turn : (l : List ℕ) → k < length l → every (count_in_range n) k (drop k l) ≡ (here l && behind l)
    unfolding every
    one_turn l h =
        let d : drop k l ≡ get_or l k 0 ∷ drop (k + 1) l = rw (add-one k) (drop-cons l k 0 h) in
        rw (d, most_is n k (get_or l k 0))

    pub each_turn : k < length x → k < length y → k < length z → (good && rest k) ≡ ((good && (here x && here y && here z)) && rest (k + 1))
    each_turn a b c = rw (one_turn x a, one_turn y b, one_turn z c) (in_order good (here x) (here y) (here z) (behind x) (behind y) (behind z))

    pub each_end : length x ≤ k → length y ≤ k → length z ≤ k → (good && rest k) ≡ good
    unfolding every
    each_end a b c = rw (drop_of_length-le x a, drop_of_length-le y b, drop_of_length-le z c) (and-true good)

-- ── tests of all pairs ──
pub up_to_more : (k : ℕ) (f : ℕ → Bool) (good r : Bool) → good ≡ up_to k f → r ≡ f (k + 1) → (good && r) ≡ up_to (k + 1) f
unfolding up_to
up_to_more k f good r p q = rw (p, q, add-one k)

pub up_to_same : (k : ℕ) (f g : ℕ → Bool) → ((j : ℕ) → 1 ≤ j → j ≤ k → f j ≡ g j) → up_to k f ≡ up_to k g
unfolding up_to
up_to_same zero f g h = refl
up_to_same (suc k) f g h = ap₂ ◌&&◌ (up_to_same k f g (λ j l u. h j l (omega arith))) (h (suc k) (omega arith) (omega arith))

-- with the waiting messages in rows
pub adding_is : (n : ℕ) → n ≤ 16 → (sent delivered lost : List ℕ) (q : List Message) (w : List (List ℕ)) → w ≡ rows_of (waiting q)
    → up_to n (λ a. up_to n (adding sent delivered lost w a)) ≡ up_to n (λ a. up_to n (λ b. eqb (count_at sent a b) (count_at delivered a b + count_at lost a b + waiting q a b)))
adding_is n h sent delivered lost q w e =
    rw e
    (up_to_same n _ _ (λ a l u. up_to_same n _ _ (λ b m v.
    ap (λ (x : ℕ). eqb (count_at sent a b) (count_at delivered a b + count_at lost a b + x)) (entry_is (waiting q) a b (record { low = l; high = omega arith; low_to = m; high_to = omega arith })))))

-- what owning 64 messages as an array tells of their number
pub messages_long : (ms : List Message) {vs : List Val} → Is (Array (row message.the_type) 64) ms vs → length ms ≡ 64
messages_long ms g = g.1.0.1
