-- A log says what the state was, and how it became what it is.
use Rattle.std.proofs.Common.{Bool, ◌≡◌, ℕ, ◌+◌, ◌-◌, ◌/◌, ◌%◌, ◌<◌, ◌≤◌, ◌^◌, ◌&&◌, nat_lt, nat_le, true, false, cond, List, [], ◌∷◌, length, Option, Some, None, refl, sym, ap, ◌∙◌, arith, slice_get, is_some, if◌then◌else◌}
use Rattle.std.specs.Option.{option_map}
use Rattle.std.proofs.Math.Path.{fun_ext}
use Rattle.std.proofs.lemmas.Bool.{eqb-true, lt-ltb}
use Rattle.std.proofs.lemmas.Bool.Decides.{nat_tests}
use Rattle.std.proofs.lemmas.Option.{slice_get_within}
use Rattle.std.specs.Ordering.{nat_cmp}
use Rattle.std.specs.BTreeMap.{BTreeMap, get}
use Rattle.std.specs.Str.{bytes_eq}
use lib.Dec.{eqb}
use Rattle.sled_nodes.specs.Order.{Key}
use Rattle.sled_store.specs.Update.{put_at, put_name}
use Rattle.sled_store.specs.declared.page.Page.{Page}
use Rattle.sled_pages.specs.declared.memory.slots.Slot.{Slot}
use Rattle.sled_pages.specs.declared.memory.undo.Undo.{Undo}
use Rattle.sled_pages.specs.declared.memory.undo.Undo.TheVariants.{UndoSlot, UndoLink, UndoFold, UndoRoot, UndoGroup}
use Rattle.sled_store.specs.State.{GroupBegins, GroupEnds, after, after_all}
use Rattle.sled_pages.specs.Joined.{joined}
use Rattle.sled_pages.specs.Rows.{lies_in, has_in}
use Rattle.sled_pages.specs.Slots.{slot_in, place_in, own_places, given_in}
use Rattle.sled_pages.specs.theory.Known.{IsKnown}
use Rattle.sled_pages.specs.Building.{IsUnused}
use Rattle.sled_pages.specs.Table.{Table, page_of, pages_of, state_of, undone, undoes, base_of, recent_of, slot_given, slot_unlinked}
use Rattle.sled_store.specs.theory.Facts.{after_last, same_name}

-- a value put over, and then the old one put back
back_page : (pid : ℕ) (slot : Option Slot) (slots : ℕ → Option Slot) → put_at (pages_of (put_at slots pid slot)) pid (pages_of slots pid) ≡ pages_of slots
back_page pid slot slots = fun_ext (λ q.
    elim (eqb q pid) as (λ b. eqb q pid ≡ b → cond b (pages_of slots pid) (option_map page_of (cond b slot (slots q))) ≡ pages_of slots q) [
      | true ↦ λ e. ap (pages_of slots) (sym (eqb-true q pid e))
      | false ↦ λ e. refl
    ] refl)

pub back_name : (name : Key) (root : Option ℕ) (roots : Key → Option ℕ) → put_name (put_name roots name root) name (roots name) ≡ roots
back_name name root roots = fun_ext (λ q.
    elim (bytes_eq q name) as (λ b. bytes_eq q name ≡ b → cond b (roots name) (cond b root (roots q)) ≡ roots q) [
      | true ↦ λ e. ap roots (sym (same_name q name e))
      | false ↦ λ e. refl
    ] refl)

-- doing again what was undone
again : (u : Undo) (t : Table) → after (undoes u t) (state_of (undone u t)) ≡ state_of t
again (UndoSlot pid slot) t = ap (λ p. record (state_of t) { pages = p }) (back_page pid slot t.slots)
again (UndoLink pid version) t = ap (λ p. record (state_of t) { pages = p }) (back_page pid (slot_unlinked version (t.slots pid)) t.slots)
again (UndoFold pid version page) t = ap (λ p. record (state_of t) { pages = p }) (back_page pid (Some (record { version = version; page = page })) t.slots)
again (UndoRoot name root) t = ap (λ r. record (state_of t) { roots = r }) (back_name name root t.roots)
again (UndoGroup was_open) t =
    elim t.in_group as (λ b. after (if b then GroupBegins else GroupEnds) (record (state_of t) { in_group = was_open }) ≡ record (state_of t) { in_group = b }) [ true ↦ refl | false ↦ refl ]

-- the state now is what the actions make of the base
pub replay : (log : List Undo) (t : Table) → after_all (recent_of log t) (state_of (base_of log t)) ≡ state_of t
replay [] t = refl
replay (u ∷ log) t =
    after_last (recent_of log (undone u t)) (undoes u t) (state_of (base_of log (undone u t)))
    ∙ (ap (after (undoes u t)) (replay log (undone u t)) ∙ again u t)

-- a slot that is there has a place
within : {X : Type 0} (o : Option (Option X)) (x : X) → joined o ≡ Some x → o ≡ Some (Some x)
within None x e = cc
within (Some o) x e = ap (λ p. Some p) e

has_some : {X : Type 0} (o : Option (Option X)) (x : X) → joined o ≡ Some x → is_some o ≡ true
has_some None x e = cc
has_some (Some o) x e = refl

-- the slots, and the numbers that have a place, of which some were given
module _ (given : ℕ) (rows : ℕ → List (Option Slot)) where
  lies_placed : IsUnused given (lies_in rows) → (i : ℕ) (slot : Slot) → lies_in rows i ≡ Some slot → own_places given (has_in rows) i ≡ true
  lies_placed unused i slot e = both (nat_lt i given) refl
    where
      none_some : None ≡ Some slot → ⊥
      none_some f = cc

      not_below : nat_lt i given ≡ false → given ≤ i
      not_below k = grind (arith, nat_tests)

      both : (b : Bool) → nat_lt i given ≡ b → (b && has_in rows i) ≡ true
      both true k = lt-ltb (i % 64) (length (rows (i / 64))) (slice_get_within (rows (i / 64)) (i % 64) (Some slot) (within (slice_get (rows (i / 64)) (i % 64)) slot e))
      both false k = absurd (none_some (sym (unused.none i (not_below k)) ∙ e))

placed_below : (given : ℕ) (own : ℕ → Bool) (i : ℕ) → own_places given own i ≡ true → nat_lt i given ≡ true
placed_below given own i = elim (nat_lt i given) as (λ b. (b && own i) ≡ true → b ≡ true) [ true ↦ λ e. refl | false ↦ λ e. e ]

pub slot_placed : (last : ℕ) (foreign : BTreeMap ℕ (Option Slot)) (given : ℕ) (rows : ℕ → List (Option Slot)) (p : ℕ) (slot : Slot) → IsUnused given (lies_in rows) →
    slot_in last foreign (lies_in rows) p ≡ Some slot → place_in last foreign (own_places given (has_in rows)) p ≡ true
slot_placed last foreign given rows p slot unused =
    elim (nat_le p last) as (λ b. cond b (joined (get nat_cmp foreign p)) (lies_in rows (p - last - 1)) ≡ Some slot → cond b (is_some (get nat_cmp foreign p)) (own_places given (has_in rows) (p - last - 1)) ≡ true) [
      | true ↦ λ e. has_some (get nat_cmp foreign p) slot e
      | false ↦ λ e. lies_placed given rows unused (p - last - 1) slot e
    ]

-- a number that has a place fits 64 bits
pub place_fits : (last : ℕ) (foreign : BTreeMap ℕ (Option Slot)) (given : ℕ) (own : ℕ → Bool) (p : ℕ) → last + given < 2 ^ 64 → place_in last foreign (own_places given own) p ≡ true → p < 2 ^ 64
place_fits last foreign given own p h =
    elim (nat_le p last) as (λ b. nat_le p last ≡ b → cond b (is_some (get nat_cmp foreign p)) (own_places given own (p - last - 1)) ≡ true → p < 2 ^ 64) [
      | true ↦ λ e f. grind (arith, nat_tests)
      | false ↦ λ e f. below (placed_below given own (p - last - 1) f) e
    ] refl
  where
    below : nat_lt (p - last - 1) given ≡ true → nat_le p last ≡ false → p < 2 ^ 64
    below f e = grind (arith, nat_tests)

-- the pages now, by the slots
pub page_here : (log : List Undo) (t : Table) (p : ℕ) → (after_all (recent_of log t) (state_of (base_of log t))).pages p ≡ pages_of t.slots p
page_here log t p = ap (λ s. s.pages p) (replay log t)

slot_of : (o : Option Slot) (page : Page) → option_map page_of o ≡ Some page → (slot : Slot) × (o ≡ Some slot) × (page ≡ page_of slot)
slot_of None page e = cc
slot_of (Some slot) page e = (slot, refl, some_is (sym e))
  where
    some_is : {x y : Page} → Some x ≡ Some y → x ≡ y
    some_is f = cc

-- each page now has a number that has a place, and a version below the next one
pub page_placed : (t : Table) (log : List Undo) (last : ℕ) (foreign : BTreeMap ℕ (Option Slot)) (given : ℕ) (rows : ℕ → List (Option Slot)) (p : ℕ) (page : Page) → IsUnused given (lies_in rows) → t.slots ≡ slot_in last foreign (lies_in rows) →
    (after_all (recent_of log t) (state_of (base_of log t))).pages p ≡ Some page → place_in last foreign (own_places given (has_in rows)) p ≡ true
page_placed t log last foreign given rows p page unused e f =
    let k = slot_of (t.slots p) page (sym (page_here log t p) ∙ f) in
    slot_placed last foreign given rows p k.0 unused (sym (ap (λ s. s p) e) ∙ k.1)

pub version_below : (t : Table) (log : List Undo) (next p : ℕ) (page : Page) → ((q : ℕ) → slot_given next (t.slots q) ≡ true) →
    (after_all (recent_of log t) (state_of (base_of log t))).pages p ≡ Some page → nat_lt page.version next ≡ true
version_below t log next p page below f =
    let k = slot_of (t.slots p) page (sym (page_here log t p) ∙ f) in
    ap (λ (g : Page). nat_lt g.version next) k.2 ∙ (ap (slot_given next) (sym k.1) ∙ below p)

-- a number that has a place was given
pub placed_given : (from_image : Bool) (last : ℕ) (foreign : BTreeMap ℕ (Option Slot)) (given : ℕ) (own : ℕ → Bool) (p : ℕ) → IsKnown from_image foreign → place_in last foreign (own_places given own) p ≡ true → given_in from_image last given p ≡ true
placed_given from_image last foreign given own p known =
    elim (nat_le p last) as (λ b. cond b (is_some (get nat_cmp foreign p)) (own_places given own (p - last - 1)) ≡ true → cond b from_image (nat_lt (p - last - 1) given) ≡ true) [
      | true ↦ λ e. known.known p e
      | false ↦ λ e. placed_below given own (p - last - 1) e
    ]
