-- Blocks that are written, lengthened and let go.
use Rattle.std.proofs.Common.{◌≡◌, ◌≢◌, ℕ, zero, suc, ◌+◌, ◌*◌, ◌/◌, ◌%◌, ◌<◌, ◌≤◌, true, false, cond, nat_lt, List, [], ◌∷◌, ◌++◌, length, get_or, Option, Some, None, is_some, refl, sym, ap, ◌∙◌, arith, slice_get, slice_set}
use Rattle.std.proofs.Math.Path.{fun_ext}
use Rattle.std.proofs.Math.Nat.{mod-lt, div-add-mod}
use Rattle.std.proofs.lemmas.Bool.{eqb-true, eqb-false, lt-ltb}
use Rattle.std.proofs.lemmas.Bool.Decides.{nat_tests}
use Rattle.std.proofs.lemmas.Option.{slice_get_past, slice_get_within, slice_get-get_or}
use Rattle.std.specs.Global.{Vec}
use lib.Dec.{eqb}
use Rattle.sled_store.specs.Update.{put_at}
use Rattle.sled_store.specs.theory.Facts.{put_here, put_elsewhere}
use Rattle.sled_pages.specs.declared.memory.slots.Slot.{Slot}
use Rattle.sled_pages.specs.Joined.{joined}
use Rattle.sled_pages.specs.Rows.{row_of, rows_of, lies_in, has_in}
use Rattle.sled_pages.proofs.Places.{same_place, other_place, last_place, not_last, one_place}

abbrev Rows : Type 0
Rows = ℕ → List (Option Slot)

-- ---- the list of blocks

pub rows_set : (blocks : List (Vec (Option Slot))) (b : ℕ) (block : Vec (Option Slot)) → b < length blocks → rows_of (slice_set blocks b block) ≡ put_at (rows_of blocks) b block.items
rows_set blocks b block h = one_place (rows_of (slice_set blocks b block)) (rows_of blocks) b block.items (ap row_of (same_place blocks b block h)) (λ q n. ap row_of (other_place blocks b q block n))

pub rows_pushed : (blocks : List (Vec (Option Slot))) (block : Vec (Option Slot)) → block.items ≡ [] → rows_of (blocks ++ block ∷ []) ≡ rows_of blocks
rows_pushed blocks block none = fun_ext (λ q.
    elim (eqb q (length blocks)) as (λ b. eqb q (length blocks) ≡ b → rows_of (blocks ++ block ∷ []) q ≡ rows_of blocks q) [
      | true ↦ λ e.
          let here = eqb-true q (length blocks) e in
          ap (rows_of (blocks ++ block ∷ [])) here
          ∙ (ap row_of (last_place blocks block) ∙ (none ∙ (sym (ap row_of (slice_get_past blocks (length blocks) (omega arith))) ∙ ap (rows_of blocks) (sym here))))
      | false ↦ λ e. ap row_of (not_last blocks q block (eqb-false q (length blocks) e))
    ] refl)

-- ---- one block

same_at : (p q : ℕ) → q / 64 ≡ p / 64 → q % 64 ≡ p % 64 → q ≡ p
same_at p q d m = sym (div-add-mod q 64) ∙ (ap (λ n. 64 * n + q % 64) d ∙ (ap (λ n. 64 * (p / 64) + n) m ∙ div-add-mod p 64))

length_set : {X : Type 0} (xs : List X) (i : ℕ) (x : X) → length (slice_set xs i x) ≡ length xs
length_set [] i x = refl
length_set (y ∷ ys) zero x = refl
length_set (y ∷ ys) (suc i) x = ap suc (length_set ys i x)

lt_of : (a b : ℕ) → nat_lt a b ≡ true → a < b
lt_of a b h = grind (arith, nat_tests)

-- a slot that is written over
abbrev row_put : Rows → ℕ → Option Slot → List (Option Slot)
row_put rows i slot = slice_set (rows (i / 64)) (i % 64) slot

abbrev rows_put : Rows → ℕ → Option Slot → Rows
rows_put rows i slot = put_at rows (i / 64) (row_put rows i slot)

lies_elsewhere : (rows : Rows) (i : ℕ) (slot : Option Slot) (q : ℕ) → q ≢ i → lies_in (rows_put rows i slot) q ≡ lies_in rows q
lies_elsewhere rows i slot q n =
    elim (eqb (q / 64) (i / 64)) as (λ b. eqb (q / 64) (i / 64) ≡ b → lies_in (rows_put rows i slot) q ≡ lies_in rows q) [
      | true ↦ λ e.
          let same = eqb-true (q / 64) (i / 64) e in
          ap (λ b. joined (slice_get (rows_put rows i slot b) (q % 64))) same
          ∙ (ap (λ r. joined (slice_get r (q % 64))) (put_here rows (i / 64) (row_put rows i slot))
          ∙ (ap joined (other_place (rows (i / 64)) (i % 64) (q % 64) slot (λ d. n (same_at i q same d)))
          ∙ ap (λ b. joined (slice_get (rows b) (q % 64))) (sym same)))
      | false ↦ λ e. ap (λ r. joined (slice_get r (q % 64))) (put_elsewhere rows (i / 64) (q / 64) (row_put rows i slot) (eqb-false (q / 64) (i / 64) e))
    ] refl

lies_put : (rows : Rows) (i : ℕ) (slot : Option Slot) → i % 64 < length (rows (i / 64)) → lies_in (rows_put rows i slot) ≡ put_at (lies_in rows) i slot
lies_put rows i slot h = one_place (lies_in (rows_put rows i slot)) (lies_in rows) i slot
    (ap (λ r. joined (slice_get r (i % 64))) (put_here rows (i / 64) (row_put rows i slot)) ∙ ap joined (same_place (rows (i / 64)) (i % 64) slot h)) (lies_elsewhere rows i slot)

has_put : (rows : Rows) (i : ℕ) (slot : Option Slot) → has_in (put_at rows (i / 64) (slice_set (rows (i / 64)) (i % 64) slot)) ≡ has_in rows
has_put rows i slot = fun_ext (λ q.
    elim (eqb (q / 64) (i / 64)) as (λ b. eqb (q / 64) (i / 64) ≡ b → nat_lt (q % 64) (length (cond b (slice_set (rows (i / 64)) (i % 64) slot) (rows (q / 64)))) ≡ has_in rows q) [
      | true ↦ λ e. ap (nat_lt (q % 64)) (length_set (rows (i / 64)) (i % 64) slot ∙ ap (λ b. length (rows b)) (sym (eqb-true (q / 64) (i / 64) e)))
      | false ↦ λ e. refl
    ] refl)

-- a block in the place of another with the same slots
lies_same : (rows : Rows) (b : ℕ) (row : List (Option Slot)) → ((j : ℕ) → joined (slice_get row j) ≡ joined (slice_get (rows b) j)) → lies_in (put_at rows b row) ≡ lies_in rows
lies_same rows b row h = fun_ext (λ q.
    elim (eqb (q / 64) b) as (λ t. eqb (q / 64) b ≡ t → joined (slice_get (cond t row (rows (q / 64))) (q % 64)) ≡ lies_in rows q) [
      | true ↦ λ e. h (q % 64) ∙ ap (λ c. joined (slice_get (rows c) (q % 64))) (sym (eqb-true (q / 64) b e))
      | false ↦ λ e. refl
    ] refl)

has_more : (rows : Rows) (b : ℕ) (row : List (Option Slot)) → length (rows b) ≤ length row → (p : ℕ) → has_in rows p ≡ true → has_in (put_at rows b row) p ≡ true
has_more rows b row h p f =
    elim (eqb (p / 64) b) as (λ t. eqb (p / 64) b ≡ t → nat_lt (p % 64) (length (cond t row (rows (p / 64)))) ≡ true) [
      | true ↦ λ e.
          let l : length (rows (p / 64)) ≡ length (rows b) = ap (λ c. length (rows c)) (eqb-true (p / 64) b e) in
          let k = lt_of (p % 64) (length (rows (p / 64))) f in
          lt-ltb (p % 64) (length row) (omega (arith, l, k, h))
      | false ↦ λ e. f
    ] refl

has_all : (rows : Rows) (i : ℕ) (row : List (Option Slot)) → 64 ≤ length row → has_in (put_at rows (i / 64) row) i ≡ true
has_all rows i row h =
    let m : i % 64 < 64 = mod-lt i (omega arith) in
    ap (λ r. nat_lt (i % 64) (length r)) (put_here rows (i / 64) row) ∙ lt-ltb (i % 64) (length row) (omega (arith, m, h))

-- ---- the same of a list of blocks

module _ (blocks : List (Vec (Option Slot))) (i : ℕ) (block : Vec (Option Slot)) (within : i / 64 < length blocks) where
  set_is : rows_of (slice_set blocks (i / 64) block) ≡ put_at (rows_of blocks) (i / 64) block.items
  set_is = rows_set blocks (i / 64) block within

  pub put_lies : (slot : Option Slot) → i % 64 < length (rows_of blocks (i / 64)) → block.items ≡ slice_set (rows_of blocks (i / 64)) (i % 64) slot → lies_in (rows_of (slice_set blocks (i / 64) block)) ≡ put_at (lies_in (rows_of blocks)) i slot
  put_lies slot h e = ap lies_in (set_is ∙ ap (put_at (rows_of blocks) (i / 64)) e) ∙ lies_put (rows_of blocks) i slot h

  pub put_has : (slot : Option Slot) → block.items ≡ slice_set (rows_of blocks (i / 64)) (i % 64) slot → has_in (rows_of (slice_set blocks (i / 64) block)) ≡ has_in (rows_of blocks)
  put_has slot e = ap has_in (set_is ∙ ap (put_at (rows_of blocks) (i / 64)) e) ∙ has_put (rows_of blocks) i slot

  pub set_lies : ((j : ℕ) → joined (slice_get block.items j) ≡ joined (slice_get (rows_of blocks (i / 64)) j)) → lies_in (rows_of (slice_set blocks (i / 64) block)) ≡ lies_in (rows_of blocks)
  set_lies h = ap lies_in set_is ∙ lies_same (rows_of blocks) (i / 64) block.items h

  pub set_more : length (rows_of blocks (i / 64)) ≤ length block.items → (p : ℕ) → has_in (rows_of blocks) p ≡ true → has_in (rows_of (slice_set blocks (i / 64) block)) p ≡ true
  set_more h p f = ap (λ r. has_in r p) set_is ∙ has_more (rows_of blocks) (i / 64) block.items h p f

  pub set_all : 64 ≤ length block.items → has_in (rows_of (slice_set blocks (i / 64) block)) i ≡ true
  set_all h = ap (λ r. has_in r i) set_is ∙ has_all (rows_of blocks) i block.items h

-- a place that is there, in its block
pub place_within : (blocks : List (Vec (Option Slot))) (i : ℕ) → has_in (rows_of blocks) i ≡ true → i / 64 < length blocks
place_within blocks i h = by (slice_get blocks (i / 64)) refl h
  where
    by : (o : Option (Vec (Option Slot))) → slice_get blocks (i / 64) ≡ o → nat_lt (i % 64) (length (row_of o)) ≡ true → i / 64 < length blocks
    by None e k = absurd (none_below (i % 64) k)
      where
        none_below : (n : ℕ) → nat_lt n 0 ≡ true → ⊥
        none_below n k = grind (arith, nat_tests)
    by (Some block) e k = slice_get_within blocks (i / 64) block e

pub in_place : (blocks : List (Vec (Option Slot))) (i : ℕ) → has_in (rows_of blocks) i ≡ true → i % 64 < length (rows_of blocks (i / 64))
in_place blocks i h = lt_of (i % 64) (length (rows_of blocks (i / 64))) h

-- ---- the places of a block, one after the other

pub none_more : (xs : List (Option Slot)) (n : ℕ) (x : Option Slot) → n < length xs → x ≡ get_or xs n x → is_some x ≡ false → ((i : ℕ) → i < n → joined (slice_get xs i) ≡ None) → (i : ℕ) → i < n + 1 → joined (slice_get xs i) ≡ None
none_more xs n x h is none below i k =
    elim (nat_lt i n) as (λ b. nat_lt i n ≡ b → joined (slice_get xs i) ≡ None) [
      | true ↦ λ e. below i (lt_of i n e)
      | false ↦ λ e. ap (λ j. joined (slice_get xs j)) (last i e k) ∙ (ap joined (slice_get-get_or xs n x h) ∙ (sym is ∙ empty x none))
    ] refl
  where
    last : (i : ℕ) → nat_lt i n ≡ false → i < n + 1 → i ≡ n
    last i e k = grind (arith, nat_tests)

    empty : (o : Option Slot) → is_some o ≡ false → o ≡ None
    empty None e = refl
    empty (Some s) e = cc

pub none_all : (xs : List (Option Slot)) (n : ℕ) → length xs ≤ n → ((i : ℕ) → i < n → joined (slice_get xs i) ≡ None) → (i : ℕ) → joined (slice_get xs i) ≡ None
none_all xs n h below i =
    elim (nat_lt i n) as (λ b. nat_lt i n ≡ b → joined (slice_get xs i) ≡ None) [
      | true ↦ λ e. below i (lt_of i n e)
      | false ↦ λ e. ap joined (slice_get_past xs i (past i e))
    ] refl
  where
    past : (i : ℕ) → nat_lt i n ≡ false → length xs ≤ i
    past i e = grind (arith, nat_tests)

pub pushed_none : (xs new : List (Option Slot)) → new ≡ xs ++ None ∷ [] → (i : ℕ) → joined (slice_get new i) ≡ joined (slice_get xs i)
pushed_none xs new e i = ap (λ ys. joined (slice_get ys i)) e ∙
    elim (eqb i (length xs)) as (λ b. eqb i (length xs) ≡ b → joined (slice_get (xs ++ None ∷ []) i) ≡ joined (slice_get xs i)) [
      | true ↦ λ d.
          let here = eqb-true i (length xs) d in
          ap (λ j. joined (slice_get (xs ++ None ∷ []) j)) here ∙ (ap joined (last_place xs None) ∙ (sym (ap joined (slice_get_past xs (length xs) (omega arith))) ∙ ap (λ j. joined (slice_get xs j)) (sym here)))
      | false ↦ λ d. ap joined (not_last xs i None (eqb-false i (length xs) d))
    ] refl

-- a block of a list
pub row_is : (blocks : List (Vec (Option Slot))) (b : ℕ) (block d : Vec (Option Slot)) → b < length blocks → get_or blocks b d ≡ block → rows_of blocks b ≡ block.items
row_is blocks b block d h e = ap row_of (slice_get-get_or blocks b d h) ∙ ap (λ (x : Vec (Option Slot)). x.items) e
