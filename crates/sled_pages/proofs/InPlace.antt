-- A slot that a link changes where it lies.
use Rattle.std.proofs.Common.{◌≡◌, ℕ, ◌-◌, ◌/◌, ◌%◌, ◌<◌, ◌≤◌, true, false, cond, nat_le, List, length, get_or, Option, Some, None, Result, Ok, Err, IfOk, OnOk, OnErr, refl, sym, ap, subst, ◌∙◌, arith, slice_get, slice_set}
use Rattle.std.proofs.lemmas.Bool.{eqb-true}
use Rattle.std.proofs.lemmas.Bool.Decides.{nat_tests}
use Rattle.std.proofs.lemmas.Option.{slice_get-get_or}
use lib.Dec.{eqb}
use Rattle.std.specs.BTreeMap.{BTreeMap, get}
use Rattle.std.specs.Global.{Vec}
use Rattle.std.specs.Ordering.{nat_cmp}
use Rattle.sled_nodes.specs.declared.error.Error.{Error}
use Rattle.sled_nodes.specs.declared.link.Link.{Link}
use Rattle.sled_store.specs.Update.{put_at}
use Rattle.sled_store.specs.theory.Facts.{put_here, put_elsewhere}
use Rattle.sled_pages.specs.Joined.{joined}
use Rattle.sled_pages.specs.Rows.{rows_of, lies_in, has_in}
use Rattle.sled_pages.specs.Slots.{slot_in}
use Rattle.sled_pages.specs.theory.Table.{slot_linked}
use Rattle.sled_pages.specs.Building.{IsUnused}
use Rattle.sled_pages.specs.theory.Linking.{link_answer, lies_at}
use Rattle.sled_pages.specs.declared.memory.slots.Slot.{Slot}
use Rattle.sled_pages.specs.declared.memory.undo.Undo.{Undo}
use Rattle.sled_pages.proofs.Places.{one_place, own_put, unused_same}
use Rattle.sled_pages.proofs.Rows.{row_is, place_within, in_place, put_lies, put_has, set_lies}

-- what a link of a slot returns
abbrev Linking : Type 0
Linking = Result (Result Undo (Option ℕ)) Error

-- ---- in a list of blocks

module _ (blocks : List (Vec (Option Slot))) (i : ℕ) (old block : Vec (Option Slot)) (within : i / 64 < length blocks) (row : rows_of blocks (i / 64) ≡ old.items) (change : Option Slot → Option Slot) where
  set_row : block.items ≡ slice_set old.items (i % 64) (change (joined (slice_get old.items (i % 64)))) → block.items ≡ slice_set (rows_of blocks (i / 64)) (i % 64) (change (lies_in (rows_of blocks) i))
  set_row e = e ∙ ap (λ r. slice_set r (i % 64) (change (joined (slice_get r (i % 64))))) (sym row)

  pub lies_changed : i % 64 < length (rows_of blocks (i / 64)) → block.items ≡ slice_set old.items (i % 64) (change (joined (slice_get old.items (i % 64)))) →
      lies_in (rows_of (slice_set blocks (i / 64) block)) ≡ put_at (lies_in (rows_of blocks)) i (change (lies_in (rows_of blocks) i))
  lies_changed h e = put_lies blocks i block within (change (lies_in (rows_of blocks) i)) h (set_row e)

  pub lies_unchanged : block.items ≡ old.items → lies_in (rows_of (slice_set blocks (i / 64) block)) ≡ lies_in (rows_of blocks)
  lies_unchanged e = set_lies blocks i block within (λ j. ap (λ r. joined (slice_get r j)) (e ∙ sym row))

-- a slot in a block
module _ (blocks : List (Vec (Option Slot))) (i : ℕ) (block : Vec (Option Slot)) (o : Option Slot) (has : has_in (rows_of blocks) i ≡ true) (block_is : block ≡ get_or blocks (i / 64) block) (o_is : o ≡ get_or block.items (i % 64) o) where
  within : i / 64 < length blocks
  within = place_within blocks i has

  row : rows_of blocks (i / 64) ≡ block.items
  row = row_is blocks (i / 64) block block within (sym block_is)

  pub lies_here : lies_in (rows_of blocks) i ≡ o
  lies_here = ap (λ r. joined (slice_get r (i % 64))) row ∙ (ap joined (slice_get-get_or block.items (i % 64) o (subst (λ r. i % 64 < length r) row (in_place blocks i has))) ∙ sym o_is)

  -- another in its place
  pub lies_over : (new : Vec (Option Slot)) (x : Option Slot) → new.items ≡ slice_set block.items (i % 64) x → lies_in (rows_of (slice_set blocks (i / 64) new)) ≡ put_at (lies_in (rows_of blocks)) i x
  lies_over new x e = put_lies blocks i new within x (in_place blocks i has) (e ∙ ap (λ r. slice_set r (i % 64) x) (sym row))

  pub has_over : (new : Vec (Option Slot)) (x : Option Slot) → new.items ≡ slice_set block.items (i % 64) x → has_in (rows_of (slice_set blocks (i / 64) new)) ≡ has_in (rows_of blocks)
  has_over new x e = put_has blocks i new within x (e ∙ ap (λ r. slice_set r (i % 64) x) (sym row))

  pub lies_become : (new : Vec (Option Slot)) (x : Option Slot) (change : Option Slot → Option Slot) → new.items ≡ slice_set block.items (i % 64) x → x ≡ change o →
      lies_in (rows_of (slice_set blocks (i / 64) new)) ≡ put_at (lies_in (rows_of blocks)) i (change (lies_in (rows_of blocks) i))
  lies_become new x change e k = lies_over new x e ∙ ap (put_at (lies_in (rows_of blocks)) i) (k ∙ ap change (sym lies_here))

  pub lies_stay : (new : Vec (Option Slot)) (x : Option Slot) → new.items ≡ slice_set block.items (i % 64) x → x ≡ o → lies_in (rows_of (slice_set blocks (i / 64) new)) ≡ lies_in (rows_of blocks)
  lies_stay new x e k = lies_over new x e ∙ sym (one_place (lies_in (rows_of blocks)) (lies_in (rows_of blocks)) i x (lies_here ∙ sym k) (λ q h. refl))

-- ---- by number

linked_none : (link : Link) (version next : ℕ) (o : Option Slot) → o ≡ None → slot_linked link version next o ≡ None
linked_none link version next o e = ap (slot_linked link version next) e

-- a page that was added
module _ (last : ℕ) (foreign : BTreeMap ℕ (Option Slot)) (own new : ℕ → Option Slot) (n p version next : ℕ) (link : Link) (same : n ≡ p) (above : last < p) where
  here : slot_in last foreign own p ≡ own (n - last - 1)
  here = ap (λ b. cond b (joined (get nat_cmp foreign p)) (own (p - last - 1))) later ∙ ap (λ q. own (q - last - 1)) (sym same)
    where
      later : nat_le p last ≡ false
      later = grind (arith, nat_tests)

  pub own_told : (r : Linking) → IfOk r (λ answer. answer ≡ link_answer p version (own (n - last - 1))) → IfOk r (λ answer. answer ≡ link_answer p version (slot_in last foreign own p))
  own_told r told = subst (λ o. IfOk r (λ answer. answer ≡ link_answer p version o)) (sym here) told

  pub own_linked : new ≡ put_at own (n - last - 1) (slot_linked link version next (own (n - last - 1))) → slot_in last foreign new ≡ put_at (slot_in last foreign own) p (slot_linked link version next (slot_in last foreign own p))
  own_linked e =
      own_put last foreign own new p (slot_linked link version next (own (n - last - 1))) above (e ∙ ap (λ q. put_at own (q - last - 1) (slot_linked link version next (own (n - last - 1)))) same)
      ∙ ap (λ o. put_at (slot_in last foreign own) p (slot_linked link version next o)) (sym here)

-- beyond the pages that were added there is none to be changed
pub unused_linked : (own new : ℕ → Option Slot) (i version next : ℕ) (link : Link) (given : ℕ) (r : Linking) → OnOk r (new ≡ put_at own i (slot_linked link version next (own i))) → OnErr r (new ≡ own) → IsUnused given own → IsUnused given new
unused_linked own new i version next link given (Ok answer) e k u = record {
  none = λ q h. ap (λ f. f q) e ∙ elim (eqb q i) as (λ b. eqb q i ≡ b → cond b (slot_linked link version next (own i)) (own q) ≡ None) [
    | true ↦ λ s. linked_none link version next (own i) (ap own (sym (eqb-true q i s)) ∙ u.none q h)
    | false ↦ λ s. u.none q h
  ] refl;
}
unused_linked own new i version next link given (Err x) e k u = unused_same given own new k u

-- a page of an image
module _ (last : ℕ) (foreign new : BTreeMap ℕ (Option Slot)) (own : ℕ → Option Slot) (p version next : ℕ) (link : Link) (within : p ≤ last) where
  up_to : nat_le p last ≡ true
  up_to = grind (arith, nat_tests)

  there : slot_in last foreign own p ≡ lies_at foreign p
  there = ap (λ b. cond b (lies_at foreign p) (own (p - last - 1))) up_to

  pub image_told : (r : Linking) → IfOk r (λ answer. answer ≡ link_answer p version (lies_at foreign p)) → IfOk r (λ answer. answer ≡ link_answer p version (slot_in last foreign own p))
  image_told r told = subst (λ o. IfOk r (λ answer. answer ≡ link_answer p version o)) (sym there) told

  pub image_linked : ((q : ℕ) → lies_at new q ≡ put_at (lies_at foreign) p (slot_linked link version next (lies_at foreign p)) q) → slot_in last new own ≡ put_at (slot_in last foreign own) p (slot_linked link version next (slot_in last foreign own p))
  image_linked e = one_place (slot_in last new own) (slot_in last foreign own) p (slot_linked link version next (slot_in last foreign own p))
      (ap (λ b. cond b (lies_at new p) (own (p - last - 1))) up_to ∙ (e p ∙ (put_here (lies_at foreign) p (slot_linked link version next (lies_at foreign p)) ∙ ap (slot_linked link version next) (sym there))))
      (λ q k. ap (λ o. cond (nat_le q last) o (own (q - last - 1))) (e q ∙ put_elsewhere (lies_at foreign) p q (slot_linked link version next (lies_at foreign p)) k))
