-- What the parts of a store in memory say of its meaning.
use Rattle.std.proofs.Common.{◌≡◌, ℕ, ◌+◌, ◌<◌, Bool, true, false, nat_lt, cond, List, [], ◌∷◌, ◌++◌, Option, Some, None, refl, sym, ap, subst, ◌∙◌, arith, if◌then◌else◌}
use Rattle.std.proofs.Math.Path.{fun_ext}
use Rattle.std.proofs.lemmas.Bool.Decides.{nat_tests}
use lib.Dec.{eqb}
use mathlib.Core.Bool.{true≢false}
use Rattle.sled_pages.specs.declared.memory.MemPages.{MemPages}
use Rattle.sled_pages.specs.declared.memory.slots.Slots.{Slots}
use Rattle.sled_pages.specs.Rows.{rows_of}
use Rattle.sled_pages.specs.Blocks.{has_of}
use Rattle.sled_pages.specs.Slots.{slots_of, places_of, given_of}
use Rattle.sled_pages.specs.theory.Replay.{replay, back_name, slot_placed, placed_given}
use mathlib.Core.List.{reverse}
use Rattle.std.specs.Option.{option_map}
use Rattle.sled_store.specs.theory.Facts.{put_here, put_elsewhere, put_name_here}
use Rattle.sled_pages.proofs.Places.{one_place, now_below}
use Rattle.std.proofs.lemmas.List.{reverse-append}
use Rattle.sled_nodes.specs.Order.{Key}
use Rattle.sled_store.specs.Update.{put_at, put_name}
use Rattle.sled_nodes.specs.declared.node.Node.{Node}
use Rattle.sled_pages.specs.declared.memory.slots.Slot.{Slot}
use Rattle.sled_pages.specs.Parts.{Parts}
use Rattle.sled_pages.specs.declared.memory.undo.Undo.{Undo}
use Rattle.sled_pages.specs.declared.memory.undo.Undo.TheVariants.{UndoSlot, UndoLink, UndoFold, UndoRoot, UndoGroup}
use Rattle.sled_store.specs.State.{State, Action, PageBecomes, RootBecomes, GroupBegins, GroupEnds}
use Rattle.sled_store.specs.Store.{Store, IsRefused, now, after_action, after_flush, Allocates, ActsAt}
use Rattle.sled_nodes.specs.declared.error.Error.{Error}
use Rattle.sled_nodes.specs.declared.error.Error.TheVariants.{NoMemory}
use Rattle.sled_store.specs.Roots.{roots_of}
use Rattle.sled_pages.specs.Table.{Table, page_of, pages_of, state_of, undone, undoes, base_of, recent_of, has_place, IsKept, slot_given, undo_given, AreBelow}
use Rattle.sled_pages.specs.Memory.{meaning, table_of, store_of, empty_store}
use Rattle.sled_nodes.proofs.All.{all_push, all_weaker}

-- below no version there is none
none_below : (v : ℕ) → nat_lt v 0 ≡ false
none_below v = grind (arith, nat_tests)

pub empty_is : (slots : ℕ → Option Slot) (roots : List (Key × ℕ)) (log : List Undo) (unreadable : List ℕ) (places : ℕ → Bool) → slots ≡ (λ _. None) → roots ≡ [] → log ≡ [] → unreadable ≡ [] → places ≡ (λ _. false) →
    meaning (record { slots = slots; roots = roots_of roots; in_group = false }) log 0 0 unreadable 0 false places 0 ≡ empty_store
empty_is slots roots log unreadable places s r l u p = rw (s, r, l, u, p) (ap (λ (f : ℕ → Bool). record empty_store { versions = f }) (fun_ext none_below))

abbrev made : ℕ → ℕ → List ℕ → ℕ → Bool → ℕ → (ℕ → Bool) → State → List Action → Store
made n f un mk rc nv places b r = record (meaning (record { slots = λ _. None; roots = λ _. None; in_group = false }) [] n f un mk rc places nv) { base = b; recent = r }

made_is : (n f : ℕ) (un : List ℕ) (mk : ℕ) (rc : Bool) (nv : ℕ) (places places' : ℕ → Bool) (b c : State) (r q : List Action) → places ≡ places' → b ≡ c → r ≡ q → made n f un mk rc nv places b r ≡ made n f un mk rc nv places' c q
made_is n f un mk rc nv places places' b c r q h e g =
    ap (λ x. made n f un mk rc nv x b r) h ∙ (ap (λ x. made n f un mk rc nv places' x r) e ∙ ap (λ x. made n f un mk rc nv places' c x) g)

-- one more entry: the base stays, and there is one action more
base_kept : (log : List Undo) (u : Undo) (t t' : Table) → undone u t' ≡ t → base_of (reverse (log ++ u ∷ [])) t' ≡ base_of (reverse log) t
base_kept log u t t' e = ap (λ r. base_of r t') (reverse-append log (u ∷ [])) ∙ ap (base_of (reverse log)) e

one_more : (log : List Undo) (u : Undo) (t t' : Table) (a : Action) → undone u t' ≡ t → undoes u t' ≡ a → recent_of (reverse (log ++ u ∷ [])) t' ≡ recent_of (reverse log) t ++ a ∷ []
one_more log u t t' a e f =
    ap (λ r. recent_of r t') (reverse-append log (u ∷ []))
    ∙ (ap (λ r. recent_of (reverse log) r ++ undoes u t' ∷ []) e ∙ ap (λ b. recent_of (reverse log) t ++ b ∷ []) f)

pub meaning_acted : (t t' : Table) (log log' : List Undo) (u : Undo) (a : Action) (n f : ℕ) (un : List ℕ) (mk : ℕ) (rc : Bool) (places places' : ℕ → Bool) (nv : ℕ) →
    log' ≡ log ++ u ∷ [] → undone u t' ≡ t → undoes u t' ≡ a → places' ≡ places → meaning t' log' (n + 1) f un mk rc places' nv ≡ after_action a (meaning t log n f un mk rc places nv)
meaning_acted t t' log log' u a n f un mk rc places places' nv l back is h = rw l (made_is _ _ _ _ _ _ _ _ _ _ _ _ h (ap state_of (base_kept log u t t' back)) (one_more log u t t' a back is))

-- a slot put over, and then the old one put back
pub back_put : {X : Type 0} (f : ℕ → X) (p : ℕ) (a : X) → put_at (put_at f p a) p (f p) ≡ f
back_put f p a = sym (one_place f (put_at f p a) p (f p) refl (λ q h. sym (put_elsewhere f p q a h)))

abbrev pub with_slots : (Key → Option ℕ) → Bool → (ℕ → Option Slot) → Table
with_slots roots g slots = record { slots = slots; roots = roots; in_group = g }

abbrev with_roots : (ℕ → Option Slot) → Bool → (Key → Option ℕ) → Table
with_roots slots g roots = record { slots = slots; roots = roots; in_group = g }

page_back : (slots slots' : ℕ → Option Slot) (roots : Key → Option ℕ) (g : Bool) (pid : ℕ) (slot old : Option Slot) → slots' ≡ put_at slots pid slot → old ≡ slots pid →
    undone (UndoSlot pid old) (with_slots roots g slots') ≡ with_slots roots g slots
page_back slots slots' roots g pid slot old s o = rw (s, o) (ap (with_slots roots g) (back_put slots pid slot))

page_told : (slots slots' : ℕ → Option Slot) (roots : Key → Option ℕ) (g : Bool) (pid : ℕ) (slot old : Option Slot) → slots' ≡ put_at slots pid slot →
    undoes (UndoSlot pid old) (with_slots roots g slots') ≡ PageBecomes pid (option_map page_of slot)
page_told slots slots' roots g pid slot old s = rw s (ap (λ o. PageBecomes pid (option_map page_of o)) (put_here slots pid slot))

-- a page in the place of another
pub page_commits : (slots slots' : ℕ → Option Slot) (roots : Key → Option ℕ) (g : Bool) (log log' : List Undo) (pid : ℕ) (slot old : Option Slot) (n f : ℕ) (un : List ℕ) (mk : ℕ) (rc : Bool) (places places' : ℕ → Bool) (nv : ℕ) →
    slots' ≡ put_at slots pid slot → old ≡ slots pid → log' ≡ log ++ UndoSlot pid old ∷ [] → places' ≡ places →
    meaning (with_slots roots g slots') log' (n + 1) f un mk rc places' nv ≡ after_action (PageBecomes pid (option_map page_of slot)) (meaning (with_slots roots g slots) log n f un mk rc places nv)
page_commits slots slots' roots g log log' pid slot old n f un mk rc places places' nv s o l h =
    meaning_acted _ _ log log' (UndoSlot pid old) _ n f un mk rc places places' nv l (page_back slots slots' roots g pid slot old s o) (page_told slots slots' roots g pid slot old s) h

place_stays : (places places' : ℕ → Bool) → ((p : ℕ) → places p ≡ true → places' p ≡ true) → (u : Undo) → has_place places u ≡ true → has_place places' u ≡ true
place_stays places places' h (UndoSlot pid slot) e = h pid e
place_stays places places' h (UndoLink pid version) e = h pid e
place_stays places places' h (UndoFold pid version page) e = h pid e
place_stays places places' h (UndoRoot name root) e = refl
place_stays places places' h (UndoGroup was_open) e = refl

pub kept_more : (t t' : Table) (log log' : List Undo) (u : Undo) (places places' : ℕ → Bool) → log' ≡ log ++ u ∷ [] → undone u t' ≡ t → ((p : ℕ) → places p ≡ true → places' p ≡ true) → has_place places' u ≡ true → IsKept places t log → IsKept places' t' log'
kept_more t t' log log' u places places' l back h k kept = rw l (record {
  placed = all_push (has_place places') log u (all_weaker (has_place places) (has_place places') (place_stays places places' h) log kept.placed) k;
  sealed = ap (λ (b : Table). b.in_group) (base_kept log u t t' back) ∙ kept.sealed;
})

pub page_keeps : (slots slots' : ℕ → Option Slot) (roots : Key → Option ℕ) (g : Bool) (log log' : List Undo) (pid : ℕ) (slot old : Option Slot) (places places' : ℕ → Bool) →
    slots' ≡ put_at slots pid slot → old ≡ slots pid → log' ≡ log ++ UndoSlot pid old ∷ [] → places' ≡ places → places pid ≡ true →
    IsKept places (with_slots roots g slots) log → IsKept places' (with_slots roots g slots') log'
page_keeps slots slots' roots g log log' pid slot old places places' s o l h k kept =
    kept_more _ _ log log' (UndoSlot pid old) places places' l (page_back slots slots' roots g pid slot old s o) (λ p e. ap (λ f. f p) h ∙ e) (ap (λ f. f pid) h ∙ k) kept

pub here_put : (nv : ℕ) (slots slots' : ℕ → Option Slot) (pid : ℕ) (slot : Option Slot) → slots' ≡ put_at slots pid slot → slot_given nv slot ≡ true → ((p : ℕ) → slot_given nv (slots p) ≡ true) → (q : ℕ) → slot_given nv (slots' q) ≡ true
here_put nv slots slots' pid slot s e here q = rw s (
    elim (eqb q pid) as (λ b. slot_given nv (cond b slot (slots q)) ≡ true) [ true ↦ e | false ↦ here q ])

-- versions stay below the next one
pub page_below : (nv : ℕ) (slots slots' : ℕ → Option Slot) (log log' : List Undo) (pid : ℕ) (slot old : Option Slot) → slots' ≡ put_at slots pid slot → old ≡ slots pid → log' ≡ log ++ UndoSlot pid old ∷ [] → slot_given nv slot ≡ true →
    AreBelow nv slots log → AreBelow nv slots' log'
page_below nv slots slots' log log' pid slot old s o l e h = record {
  here = here_put nv slots slots' pid slot s e h.here;
  in_log = rw l (all_push (undo_given nv) log (UndoSlot pid old) h.in_log (rw o (h.here pid)));
}

pub log_below : (nv : ℕ) (slots : ℕ → Option Slot) (log log' : List Undo) (u : Undo) → log' ≡ log ++ u ∷ [] → undo_given nv u ≡ true → AreBelow nv slots log → AreBelow nv slots log'
log_below nv slots log log' u l e h = record { here = h.here; in_log = rw l (all_push (undo_given nv) log u h.in_log e) }

pub slot_later : (n : ℕ) (o : Option Slot) → slot_given n o ≡ true → slot_given (n + 1) o ≡ true
slot_later n None e = refl
slot_later n (Some s) e = grind (arith, nat_tests)

undo_later : (n : ℕ) (u : Undo) → undo_given n u ≡ true → undo_given (n + 1) u ≡ true
undo_later n (UndoSlot pid slot) e = slot_later n slot e
undo_later n (UndoLink pid version) e = grind (arith, nat_tests)
undo_later n (UndoFold pid version page) e = grind (arith, nat_tests)
undo_later n (UndoRoot name root) e = refl
undo_later n (UndoGroup was_open) e = refl

pub later : (n : ℕ) (slots : ℕ → Option Slot) (log : List Undo) → AreBelow n slots log → AreBelow (n + 1) slots log
later n slots log h = record { here = λ p. slot_later n (slots p) (h.here p); in_log = all_weaker (undo_given n) (undo_given (n + 1)) (undo_later n) log h.in_log }

-- the next version was never given, and is given then
pub next_fresh : (n : ℕ) → nat_lt n n ≡ false
next_fresh n = grind (arith, nat_tests)

pub next_version : (n : ℕ) → (λ v. nat_lt v (n + 1)) ≡ put_at (λ v. nat_lt v n) n true
next_version n = one_place (λ v. nat_lt v (n + 1)) (λ v. nat_lt v n) n true (now_below n) other
  where
    other : (q : ℕ) → (q ≡ n → ⊥) → nat_lt q (n + 1) ≡ nat_lt q n
    other q h = grind (arith, nat_tests)

-- one more action, and the next version given
pub acts_at : (a : Action) (old mid new : Store) (n : ℕ) → mid ≡ old → mid.versions ≡ (λ v. nat_lt v n) → new ≡ after_action a (record mid { versions = λ v. nat_lt v (n + 1) }) → ActsAt a n old new
acts_at a old mid new n same v e = record {
  fresh = ap (λ (s : Store). s.versions n) (sym same) ∙ (ap (λ f. f n) v ∙ next_fresh n);
  is = e ∙ (ap (λ f. after_action a (record mid { versions = f })) (next_version n ∙ ap (λ f. put_at f n true) (sym v)) ∙ ap (λ (s : Store). record (after_action a s) { versions = put_at s.versions n true }) same);
}

-- a group that begins or ends
pub group_commits : (slots : ℕ → Option Slot) (roots : Key → Option ℕ) (g g' : Bool) (log log' : List Undo) (n f : ℕ) (un : List ℕ) (mk : ℕ) (rc : Bool) (places : ℕ → Bool) (nv : ℕ) → log' ≡ log ++ UndoGroup g ∷ [] →
    meaning (record { slots = slots; roots = roots; in_group = g' }) log' (n + 1) f un mk rc places nv ≡ after_action (if g' then GroupBegins else GroupEnds) (meaning (record { slots = slots; roots = roots; in_group = g }) log n f un mk rc places nv)
group_commits slots roots g g' log log' n f un mk rc places nv l = meaning_acted _ _ log log' (UndoGroup g) _ n f un mk rc places places nv l refl refl refl

pub group_keeps : (slots : ℕ → Option Slot) (roots : Key → Option ℕ) (g g' : Bool) (log log' : List Undo) (places : ℕ → Bool) → log' ≡ log ++ UndoGroup g ∷ [] →
    IsKept places (record { slots = slots; roots = roots; in_group = g }) log → IsKept places (record { slots = slots; roots = roots; in_group = g' }) log'
group_keeps slots roots g g' log log' places l kept = kept_more _ _ log log' (UndoGroup g) places places l refl (λ p e. e) refl kept

-- a root in the place of another
root_back : (slots : ℕ → Option Slot) (roots roots' : Key → Option ℕ) (g : Bool) (name : Key) (root old : Option ℕ) → roots' ≡ put_name roots name root → old ≡ roots name →
    undone (UndoRoot name old) (with_roots slots g roots') ≡ with_roots slots g roots
root_back slots roots roots' g name root old s o = rw (s, o) (ap (with_roots slots g) (back_name name root roots))

root_told : (slots : ℕ → Option Slot) (roots roots' : Key → Option ℕ) (g : Bool) (name : Key) (root old : Option ℕ) → roots' ≡ put_name roots name root →
    undoes (UndoRoot name old) (with_roots slots g roots') ≡ RootBecomes name root
root_told slots roots roots' g name root old s = rw s (ap (RootBecomes name) (put_name_here roots name root))

pub root_commits : (slots : ℕ → Option Slot) (roots roots' : Key → Option ℕ) (g : Bool) (log log' : List Undo) (name key undo : Key) (root old : Option ℕ) (n f : ℕ) (un : List ℕ) (mk : ℕ) (rc : Bool) (places : ℕ → Bool) (nv : ℕ) →
    roots' ≡ put_name roots key root → old ≡ roots name → key ≡ name → undo ≡ name → log' ≡ log ++ UndoRoot undo old ∷ [] →
    meaning (with_roots slots g roots') log' (n + 1) f un mk rc places nv ≡ after_action (RootBecomes name root) (meaning (with_roots slots g roots) log n f un mk rc places nv)
root_commits slots roots roots' g log log' name key undo root old n f un mk rc places nv s o k u l =
    let s' : roots' ≡ put_name roots name root = s ∙ ap (λ x. put_name roots x root) k in
    let l' : log' ≡ log ++ UndoRoot name old ∷ [] = l ∙ ap (λ x. log ++ UndoRoot x old ∷ []) u in
    meaning_acted _ _ log log' (UndoRoot name old) _ n f un mk rc places places nv l' (root_back slots roots roots' g name root old s' o) (root_told slots roots roots' g name root old s') refl

pub root_keeps : (slots : ℕ → Option Slot) (roots roots' : Key → Option ℕ) (g : Bool) (log log' : List Undo) (name key undo : Key) (root old : Option ℕ) (places : ℕ → Bool) →
    roots' ≡ put_name roots key root → old ≡ roots name → key ≡ name → undo ≡ name → log' ≡ log ++ UndoRoot undo old ∷ [] →
    IsKept places (with_roots slots g roots) log → IsKept places (with_roots slots g roots') log'
root_keeps slots roots roots' g log log' name key undo root old places s o k u l kept =
    let s' : roots' ≡ put_name roots name root = s ∙ ap (λ x. put_name roots x root) k in
    let l' : log' ≡ log ++ UndoRoot name old ∷ [] = l ∙ ap (λ x. log ++ UndoRoot x old ∷ []) u in
    kept_more _ _ log log' (UndoRoot name old) places places l' (root_back slots roots roots' g name root old s' o) (λ p e. e) refl kept

-- a page without links that was added
pub added_is : (slots mid new : ℕ → Option Slot) (pid nv : ℕ) (page : Parts) (node : Node) → new ≡ put_at mid pid (Some (record { version = nv; page = page })) → page ≡ (node, []) → mid ≡ slots → new ≡ put_at slots pid (Some (record { version = nv; page = (node, []) }))
added_is slots mid new pid nv page node e p s = e ∙ (ap (λ (q : Parts). put_at mid pid (Some (record { version = nv; page = q }))) p ∙ ap (λ f. put_at f pid (Some (record { version = nv; page = (node, []) }))) s)

-- a new page
slot_none : (slots : ℕ → Option Slot) (places : ℕ → Bool) (pid : ℕ) → ((p : ℕ) (slot : Slot) → slots p ≡ Some slot → places p ≡ true) → places pid ≡ false → slots pid ≡ None
slot_none slots places pid placed fresh =
    elim (slots pid) as (λ o. slots pid ≡ o → o ≡ None) [ None ↦ λ e. refl | Some slot ↦ λ e. absurd (true≢false (sym (placed pid slot e) ∙ fresh)) ] refl

pub allocates : (slots slots' : ℕ → Option Slot) (roots : Key → Option ℕ) (g : Bool) (log log' : List Undo) (pid : ℕ) (node : Node) (n f : ℕ) (un : List ℕ) (mk : ℕ) (rc : Bool) (places places' : ℕ → Bool) (nv : ℕ) (old : Store) →
    meaning (with_slots roots g slots) log n f un mk rc places nv ≡ old → 0 < pid → places pid ≡ false → ((p : ℕ) (slot : Slot) → slots p ≡ Some slot → places p ≡ true) →
    slots' ≡ put_at slots pid (Some (record { version = nv; page = (node, []) })) → places' ≡ put_at places pid true → log' ≡ log ++ UndoSlot pid None ∷ [] →
    Allocates node pid nv old (meaning (with_slots roots g slots') log' (n + 1) f un mk rc places' (nv + 1))
allocates slots slots' roots g log log' pid node n f un mk rc places places' nv old same positive fresh placed s p l =
    subst (λ (x : Store). Allocates node pid nv x (meaning (with_slots roots g slots') log' (n + 1) f un mk rc places' (nv + 1))) same (record {
      positive = positive;
      fresh_pid = fresh;
      fresh = next_fresh nv;
      is = rw p (
          ap (λ (t : Store). record t { pids = put_at places pid true; versions = λ v. nat_lt v (nv + 1) }) (page_commits slots slots' roots g log log' pid (Some (record { version = nv; page = (node, []) })) None n f un mk rc places places nv s (sym (slot_none slots places pid placed fresh)) l refl)
          ∙ ap (λ h. record (after_action (PageBecomes pid (Some (record { version = nv; node = node }))) (meaning (with_slots roots g slots) log n f un mk rc places nv)) { pids = put_at places pid true; versions = h }) (next_version nv));
    })

pub allocate_keeps : (slots slots' : ℕ → Option Slot) (roots : Key → Option ℕ) (g : Bool) (log log' : List Undo) (pid : ℕ) (slot : Option Slot) (places more places' : ℕ → Bool) →
    places pid ≡ false → ((p : ℕ) (slot : Slot) → slots p ≡ Some slot → places p ≡ true) → slots' ≡ put_at slots pid slot → ((p : ℕ) → places p ≡ true → more p ≡ true) → places' ≡ put_at more pid true → log' ≡ log ++ UndoSlot pid None ∷ [] →
    IsKept places (with_slots roots g slots) log → IsKept places' (with_slots roots g slots') log'
allocate_keeps slots slots' roots g log log' pid slot places more places' fresh placed s m p l kept =
    kept_more _ _ log log' (UndoSlot pid None) places places' l (page_back slots slots' roots g pid slot None s (sym (slot_none slots places pid placed fresh)))
    (λ q e. ap (λ f. f q) p ∙ elim (eqb q pid) as (λ b. cond b true (more q) ≡ true) [ true ↦ refl | false ↦ m q e ]) (ap (λ f. f pid) p ∙ put_here more pid true) kept

pub allocate_below : (nv : ℕ) (slots slots' : ℕ → Option Slot) (log log' : List Undo) (pid : ℕ) (node : Node) → slots' ≡ put_at slots pid (Some (record { version = nv; page = (node, []) })) → log' ≡ log ++ UndoSlot pid None ∷ [] → AreBelow nv slots log → AreBelow (nv + 1) slots' log'
allocate_below nv slots slots' log log' pid node s l h =
    let k = later nv slots log h in record {
      here = here_put (nv + 1) slots slots' pid (Some (record { version = nv; page = (node, []) })) s (now_below nv) k.here;
      in_log = rw l (all_push (undo_given (nv + 1)) log (UndoSlot pid None) k.in_log refl);
    }

-- a flush
pub flushes : (t : Table) (log log' : List Undo) (n f : ℕ) (un : List ℕ) (mk : ℕ) (rc : Bool) (places : ℕ → Bool) (nv : ℕ) → log' ≡ [] →
    meaning t log' n f un mk rc places nv ≡ after_flush (meaning t log n f un mk rc places nv)
flushes t log log' n f un mk rc places nv e =
    ap (λ (x : List Undo). meaning t x n f un mk rc places nv) e ∙ ap (λ (x : State). record (meaning t [] n f un mk rc places nv) { base = x }) (sym (replay (reverse log) t))

-- .. after which places of slots that are gone may go
pub settles : (slots slots' : ℕ → Option Slot) (roots : Key → Option ℕ) (g : Bool) (log log' : List Undo) (n f : ℕ) (un : List ℕ) (mk : ℕ) (rc : Bool) (given given' : ℕ → Bool) (nv : ℕ) → slots' ≡ slots → given' ≡ given → log' ≡ [] →
    meaning (with_slots roots g slots') log' n f un mk rc given' nv ≡ after_flush (meaning (with_slots roots g slots) log n f un mk rc given nv)
settles slots slots' roots g log log' n f un mk rc given given' nv s p l = rw (s, p) (flushes (with_slots roots g slots) log log' n f un mk rc given nv l)

pub settled_below : (next : ℕ) (slots slots' : ℕ → Option Slot) (log' : List Undo) → slots' ≡ slots → log' ≡ [] → ((p : ℕ) → slot_given next (slots p) ≡ true) → AreBelow next slots' log'
settled_below next slots slots' log' s l here = rw (s, l) (record { here = here; in_log = refl })

pub slots_below : (next : ℕ) (slots slots' : ℕ → Option Slot) (log : List Undo) → slots' ≡ slots → AreBelow next slots log → AreBelow next slots' log
slots_below next slots slots' log s h = rw s h

-- more places keep what fewer do
pub kept_wider : (slots slots' : ℕ → Option Slot) (roots : Key → Option ℕ) (g : Bool) (log : List Undo) (places places' : ℕ → Bool) → slots' ≡ slots → ((p : ℕ) → places p ≡ true → places' p ≡ true) → IsKept places (with_slots roots g slots) log → IsKept places' (with_slots roots g slots') log
kept_wider slots slots' roots g log places places' s h kept = rw s (record {
  placed = all_weaker (has_place places) (has_place places') (place_stays places places' h) log kept.placed;
  sealed = kept.sealed;
})

pub flush_keeps : (places : ℕ → Bool) (t : Table) (log' : List Undo) → t.in_group ≡ false → log' ≡ [] → IsKept places t log'
flush_keeps places t log' e l = rw l (record { placed = refl; sealed = e })

-- the state now is what the parts say
pub now_is : (m : MemPages) → now (store_of m) ≡ state_of (table_of m)
now_is m = replay (reverse m.log.items) (table_of m)

pub pages_here : (m : MemPages) (pid : ℕ) → (now (store_of m)).pages pid ≡ pages_of (slots_of m.slots) pid
pages_here m pid = ap (λ s. s.pages pid) (now_is m)

pub roots_here : (m : MemPages) (name : Key) → (now (store_of m)).roots name ≡ roots_of m.roots.items name
roots_here m name = ap (λ s. s.roots name) (now_is m)

pub group_here : (m : MemPages) → (now (store_of m)).in_group ≡ m.in_group
group_here m = ap (λ s. s.in_group) (now_is m)

-- each slot has a place
pub placed_here : (s : Slots) (p : ℕ) (slot : Slot) → slots_of s p ≡ Some slot → places_of s p ≡ true
placed_here s p slot e = slot_placed s.last s.foreign s.given (rows_of s.own.blocks.items) p slot s.unused e

-- each slot has a number that was given, and one that was never given has no place
pub given_here : (s : Slots) (p : ℕ) (slot : Slot) → slots_of s p ≡ Some slot → given_of s p ≡ true
given_here s p slot e = placed_given s.from_image s.last s.foreign s.given (has_of s.own) p s.known (placed_here s p slot e)

pub not_placed : (s : Slots) (p : ℕ) → given_of s p ≡ false → places_of s p ≡ false
not_placed s p e = elim (places_of s p) as (λ b. places_of s p ≡ b → b ≡ false) [ true ↦ λ f. absurd (true≢false (sym (placed_given s.from_image s.last s.foreign s.given (has_of s.own) p s.known f) ∙ e)) | false ↦ λ f. refl ] refl

-- a call that is refused for want of memory, where only places may have come
pub short : (slots slots' : ℕ → Option Slot) (roots : Key → Option ℕ) (g : Bool) (log : List Undo) (n f : ℕ) (un : List ℕ) (mk : ℕ) (rc : Bool) (given given' : ℕ → Bool) (nv : ℕ) (old : Store) (e : Error) → e ≡ NoMemory → meaning (with_slots roots g slots) log n f un mk rc given nv ≡ old → slots' ≡ slots → given' ≡ given →
    IsRefused e old (meaning (with_slots roots g slots') log n f un mk rc given' nv)
short slots slots' roots g log n f un mk rc given given' nv old e no_memory same s p = rw (no_memory, s, p) (record { is = same })

pub stays : (slots slots' : ℕ → Option Slot) (roots : Key → Option ℕ) (g : Bool) (log : List Undo) (n f : ℕ) (un : List ℕ) (mk : ℕ) (rc : Bool) (given given' : ℕ → Bool) (nv : ℕ) → slots' ≡ slots → given' ≡ given →
    meaning (with_slots roots g slots') log n f un mk rc given' nv ≡ meaning (with_slots roots g slots) log n f un mk rc given nv
stays slots slots' roots g log n f un mk rc given given' nv s p = rw (s, p) refl
