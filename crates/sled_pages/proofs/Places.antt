-- Slots that are written by number.
use Rattle.std.proofs.Common.{◌≡◌, ◌≢◌, ℕ, zero, suc, ◌+◌, ◌-◌, ◌<◌, ◌≤◌, Bool, true, false, cond, ◌&&◌, nat_le, nat_lt, nat_eq, List, [], ◌∷◌, ◌++◌, length, Option, Some, None, is_some, refl, sym, ap, ◌∙◌, arith, slice_get, slice_set}
use Rattle.std.proofs.Math.Path.{fun_ext}
use Rattle.std.proofs.lemmas.Bool.{eqb-true, eqb-false}
use Rattle.std.proofs.lemmas.Bool.Decides.{nat_tests}
use lib.Dec.{eqb}
use Rattle.std.specs.BTreeMap.{BTreeMap, get, is_at}
use Rattle.std.specs.Cmp.{unsigned_ties}
use Rattle.std.specs.Ordering.{nat_cmp}
use Rattle.sled_pages.specs.declared.memory.slots.Slot.{Slot}
use Rattle.sled_store.specs.Update.{put_at}
use Rattle.sled_store.specs.theory.Facts.{put_here, put_elsewhere}
use Rattle.sled_pages.specs.Joined.{joined}
use Rattle.sled_pages.specs.Slots.{slot_in, place_in, own_places, given_in}
use Rattle.sled_pages.specs.theory.Known.{IsKnown}
use Rattle.sled_pages.specs.Building.{IsUnused}

pub same_place : {X : Type 0} (xs : List X) (i : ℕ) (x : X) → i < length xs → slice_get (slice_set xs i x) i ≡ Some x
same_place [] i x h = absurd (omega (arith, h))
same_place (y ∷ ys) zero x h = refl
same_place (y ∷ ys) (suc i) x h = same_place ys i x (omega (arith, h))

pub other_place : {X : Type 0} (xs : List X) (i j : ℕ) (x : X) → (j ≡ i → ⊥) → slice_get (slice_set xs i x) j ≡ slice_get xs j
other_place [] i j x h = refl
other_place (y ∷ ys) zero zero x h = absurd (h refl)
other_place (y ∷ ys) zero (suc j) x h = refl
other_place (y ∷ ys) (suc i) zero x h = refl
other_place (y ∷ ys) (suc i) (suc j) x h = other_place ys i j x (λ e. h (ap suc e))

pub last_place : {X : Type 0} (xs : List X) (x : X) → slice_get (xs ++ x ∷ []) (length xs) ≡ Some x
last_place [] x = refl
last_place (y ∷ ys) x = last_place ys x

pub not_last : {X : Type 0} (xs : List X) (j : ℕ) (x : X) → (j ≡ length xs → ⊥) → slice_get (xs ++ x ∷ []) j ≡ slice_get xs j
not_last [] zero x h = absurd (h refl)
not_last [] (suc j) x h = refl
not_last (y ∷ ys) zero x h = refl
not_last (y ∷ ys) (suc j) x h = not_last ys j x (λ e. h (ap suc e))

-- a function that differs at one place
pub one_place : {X : Type 0} (f g : ℕ → X) (p : ℕ) (a : X) → f p ≡ a → ((q : ℕ) → (q ≡ p → ⊥) → f q ≡ g q) → f ≡ put_at g p a
one_place f g p a here other = fun_ext (λ q.
    elim (eqb q p) as (λ b. eqb q p ≡ b → f q ≡ cond b a (g q)) [
      | true ↦ λ e. ap f (eqb-true q p e) ∙ here
      | false ↦ λ e. other q (eqb-false q p e)
    ] refl)

above : (last p : ℕ) → last < p → nat_le p last ≡ false
above last p h = grind (arith, nat_tests)

-- an added slot that is written over, and one at the next place
pub own_put : (last : ℕ) (foreign : BTreeMap ℕ (Option Slot)) (own new : ℕ → Option Slot) (p : ℕ) (slot : Option Slot) → last < p → new ≡ put_at own (p - last - 1) slot → slot_in last foreign new ≡ put_at (slot_in last foreign own) p slot
own_put last foreign own new p slot h e = one_place (slot_in last foreign new) (slot_in last foreign own) p slot
    (ap (λ b. cond b (joined (get nat_cmp foreign p)) (new (p - last - 1))) (above last p h) ∙ (ap (λ f. f (p - last - 1)) e ∙ put_here own (p - last - 1) slot))
    (λ q k. elim (nat_le q last) as (λ b. nat_le q last ≡ b → cond b (joined (get nat_cmp foreign q)) (new (q - last - 1)) ≡ cond b (joined (get nat_cmp foreign q)) (own (q - last - 1))) [
      | true ↦ λ d. refl
      | false ↦ λ d. ap (λ f. f (q - last - 1)) e ∙ put_elsewhere own (p - last - 1) (q - last - 1) slot (λ s. k (grind (arith, nat_tests)))
    ] refl)

-- the place of a number that has one
pub own_place : (last : ℕ) (foreign : BTreeMap ℕ (Option Slot)) (given : ℕ) (own : ℕ → Bool) (p : ℕ) → last < p → place_in last foreign (own_places given own) p ≡ true → (p - last - 1 < given) × (own (p - last - 1) ≡ true)
own_place last foreign given own p h e = by (nat_lt (p - last - 1) given) refl (sym (ap (λ b. cond b (is_some (get nat_cmp foreign p)) (own_places given own (p - last - 1))) (above last p h)) ∙ e)
  where
    below : (a b : ℕ) → nat_lt a b ≡ true → a < b
    below a b k = grind (arith, nat_tests)

    by : (b : Bool) → nat_lt (p - last - 1) given ≡ b → (b && own (p - last - 1)) ≡ true → (p - last - 1 < given) × (own (p - last - 1) ≡ true)
    by true k f = (below (p - last - 1) given k, f)
    by false k f = cc

next_place : (last given p : ℕ) → p ≡ last + given + 1 → p - last - 1 ≡ given
next_place last given p e = omega arith

pub own_added : (last : ℕ) (foreign : BTreeMap ℕ (Option Slot)) (own new : ℕ → Option Slot) (given p : ℕ) (slot : Option Slot) → p ≡ last + given + 1 → new ≡ put_at own given slot → slot_in last foreign new ≡ put_at (slot_in last foreign own) p slot
own_added last foreign own new given p slot d e = own_put last foreign own new p slot (omega arith) (e ∙ ap (λ i. put_at own i slot) (sym (next_place last given p d)))

-- one number more is given
later : (i given : ℕ) → i ≢ given → nat_lt i (given + 1) ≡ nat_lt i given
later i given h = grind (arith, nat_tests)

pub now_below : (given : ℕ) → nat_lt given (given + 1) ≡ true
now_below given = grind (arith, nat_tests)

pub places_added : (last : ℕ) (foreign : BTreeMap ℕ (Option Slot)) (own new : ℕ → Bool) (given p : ℕ) → p ≡ last + given + 1 → new ≡ own → own given ≡ true → place_in last foreign (own_places (given + 1) new) ≡ put_at (place_in last foreign (own_places given own)) p true
places_added last foreign own new given p d e room = rw e (one_place (place_in last foreign (own_places (given + 1) own)) (place_in last foreign (own_places given own)) p true
    (ap (λ b. cond b (is_some (get nat_cmp foreign p)) (own_places (given + 1) own (p - last - 1))) (above last p (omega arith)) ∙ (ap (own_places (given + 1) own) (next_place last given p d) ∙ (ap (λ b. b && own given) (now_below given) ∙ room)))
    (λ q k. elim (nat_le q last) as (λ b. nat_le q last ≡ b → cond b (is_some (get nat_cmp foreign q)) (own_places (given + 1) own (q - last - 1)) ≡ cond b (is_some (get nat_cmp foreign q)) (own_places given own (q - last - 1))) [
      | true ↦ λ t. refl
      | false ↦ λ t. ap (λ b. b && own (q - last - 1)) (later (q - last - 1) given (λ s. k (grind (arith, nat_tests))))
    ] refl))

pub given_added : (from_image : Bool) (last given p : ℕ) → p ≡ last + given + 1 → given_in from_image last (given + 1) ≡ put_at (given_in from_image last given) p true
given_added from_image last given p d = one_place (given_in from_image last (given + 1)) (given_in from_image last given) p true
    (ap (λ b. cond b from_image (nat_lt (p - last - 1) (given + 1))) (above last p (omega arith)) ∙ (ap (λ i. nat_lt i (given + 1)) (next_place last given p d) ∙ now_below given))
    (λ q k. elim (nat_le q last) as (λ b. nat_le q last ≡ b → cond b from_image (nat_lt (q - last - 1) (given + 1)) ≡ cond b from_image (nat_lt (q - last - 1) given)) [
      | true ↦ λ t. refl
      | false ↦ λ t. later (q - last - 1) given (λ s. k (grind (arith, nat_tests)))
    ] refl)

pub next_fresh : (from_image : Bool) (last given p : ℕ) → p ≡ last + given + 1 → given_in from_image last given p ≡ false
next_fresh from_image last given p d = ap (λ b. cond b from_image (nat_lt (p - last - 1) given)) (above last p (omega arith)) ∙ (ap (λ i. nat_lt i given) (next_place last given p d) ∙ not_below given)
  where
    not_below : (n : ℕ) → nat_lt n n ≡ false
    not_below n = grind (arith, nat_tests)

-- no page lies beyond
pub unused_put : (given : ℕ) (own new : ℕ → Option Slot) (i : ℕ) (slot : Option Slot) → i < given → new ≡ put_at own i slot → IsUnused given own → IsUnused given new
unused_put given own new i slot h e u = record { none = λ q k. ap (λ f. f q) e ∙ (put_elsewhere own i q slot (λ s. absurd (off q s k)) ∙ u.none q k) }
  where
    off : (q : ℕ) → q ≡ i → given ≤ q → ⊥
    off q s k = omega arith

pub unused_added : (given : ℕ) (own new : ℕ → Option Slot) (slot : Option Slot) → new ≡ put_at own given slot → IsUnused given own → IsUnused (given + 1) new
unused_added given own new slot e u = record { none = λ q k. ap (λ f. f q) e ∙ (put_elsewhere own given q slot (λ s. absurd (off q s k)) ∙ u.none q (weaker q k)) }
  where
    off : (q : ℕ) → q ≡ given → given + 1 ≤ q → ⊥
    off q s k = omega arith

    weaker : (q : ℕ) → given + 1 ≤ q → given ≤ q
    weaker q k = omega arith

-- a page of an image that is written over
pub foreign_put : (last : ℕ) (foreign new : BTreeMap ℕ (Option Slot)) (own : ℕ → Option Slot) (p : ℕ) (slot : Option Slot) → p ≤ last → ((q : ℕ) → get nat_cmp new q ≡ cond (is_at (nat_cmp p) q) (Some slot) (get nat_cmp foreign q)) → slot_in last new own ≡ put_at (slot_in last foreign own) p slot
foreign_put last foreign new own p slot h up = one_place (slot_in last new own) (slot_in last foreign own) p slot
    (ap (λ b. cond b (joined (get nat_cmp new p)) (own (p - last - 1))) (up_to last p h) ∙ ap joined (up p ∙ ap (λ t. cond t (Some slot) (get nat_cmp foreign p)) (sym (unsigned_ties p p) ∙ same p)))
    (λ q k. ap (λ o. cond (nat_le q last) (joined o) (own (q - last - 1))) (up q ∙ ap (λ t. cond t (Some slot) (get nat_cmp foreign q)) (sym (unsigned_ties p q) ∙ differs q (λ e. k (sym e)))))
  where
    up_to : (last p : ℕ) → p ≤ last → nat_le p last ≡ true
    up_to last p h = grind (arith, nat_tests)

    same : (n : ℕ) → nat_eq n n ≡ true
    same n = grind (arith, nat_tests)

    differs : (q : ℕ) → (p ≡ q → ⊥) → nat_eq p q ≡ false
    differs q k = grind (arith, nat_tests)

-- a page of an image whose place goes
pub foreign_gone : (foreign new : BTreeMap ℕ (Option Slot)) (k : ℕ) → ((q : ℕ) → get nat_cmp new q ≡ cond (is_at (nat_cmp k) q) None (get nat_cmp foreign q)) → joined (get nat_cmp foreign k) ≡ None → (q : ℕ) → joined (get nat_cmp new q) ≡ joined (get nat_cmp foreign q)
foreign_gone foreign new k up none q =
    ap joined (up q ∙ ap (λ t. cond t None (get nat_cmp foreign q)) (sym (unsigned_ties k q)))
    ∙ elim (nat_eq k q) as (λ t. nat_eq k q ≡ t → joined (cond t None (get nat_cmp foreign q)) ≡ joined (get nat_cmp foreign q)) [
      | true ↦ λ e. sym none ∙ ap (λ p. joined (get nat_cmp foreign p)) (eqb-true k q e)
      | false ↦ λ e. refl
    ] refl

pub slots_gone : (last : ℕ) (foreign new : BTreeMap ℕ (Option Slot)) (own : ℕ → Option Slot) → ((q : ℕ) → joined (get nat_cmp new q) ≡ joined (get nat_cmp foreign q)) → slot_in last new own ≡ slot_in last foreign own
slots_gone last foreign new own h = fun_ext (λ q. ap (λ o. cond (nat_le q last) o (own (q - last - 1))) (h q))

pub known_gone : (from_image : Bool) (foreign new : BTreeMap ℕ (Option Slot)) (k : ℕ) → ((q : ℕ) → get nat_cmp new q ≡ cond (is_at (nat_cmp k) q) None (get nat_cmp foreign q)) → IsKnown from_image foreign → IsKnown from_image new
known_gone from_image foreign new k up known = record { known = λ q e. known.known q (less (is_at (nat_cmp k) q) (get nat_cmp foreign q) (sym (ap is_some (up q)) ∙ e)) }
  where
    less : (t : Bool) (o : Option (Option Slot)) → is_some (cond t None o) ≡ true → is_some o ≡ true
    less true o e = cc
    less false o e = e

pub foreign_none : (last : ℕ) (foreign : BTreeMap ℕ (Option Slot)) (own : ℕ → Option Slot) (p : ℕ) → p ≤ last → slot_in last foreign own p ≡ None → joined (get nat_cmp foreign p) ≡ None
foreign_none last foreign own p h e = sym (ap (λ b. cond b (joined (get nat_cmp foreign p)) (own (p - last - 1))) (up_to last p h)) ∙ e
  where
    up_to : (last p : ℕ) → p ≤ last → nat_le p last ≡ true
    up_to last p h = grind (arith, nat_tests)

-- more places
pub places_more : (last : ℕ) (foreign : BTreeMap ℕ (Option Slot)) (given : ℕ) (own new : ℕ → Bool) → ((i : ℕ) → own i ≡ true → new i ≡ true) → (p : ℕ) → place_in last foreign (own_places given own) p ≡ true → place_in last foreign (own_places given new) p ≡ true
places_more last foreign given own new h p =
    elim (nat_le p last) as (λ b. cond b (is_some (get nat_cmp foreign p)) (own_places given own (p - last - 1)) ≡ true → cond b (is_some (get nat_cmp foreign p)) (own_places given new (p - last - 1)) ≡ true) [
      | true ↦ λ e. e
      | false ↦ elim (nat_lt (p - last - 1) given) as (λ b. (b && own (p - last - 1)) ≡ true → (b && new (p - last - 1)) ≡ true) [
        | true ↦ λ e. h (p - last - 1) e
        | false ↦ λ e. e
      ]
    ]

pub unused_same : (given : ℕ) (own new : ℕ → Option Slot) → new ≡ own → IsUnused given own → IsUnused given new
unused_same given own new e u = record { none = λ i h. ap (λ f. f i) e ∙ u.none i h }
