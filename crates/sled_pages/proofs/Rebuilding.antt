-- A store in the making, page by page.
use Rattle.std.proofs.Common.{◌≡◌, ℕ, ◌+◌, ◌-◌, ◌<◌, ◌≤◌, max, Bool, true, false, cond, ◌&&◌, nat_eq, nat_le, nat_lt, ◌%◌, ◌/◌, List, [], Option, Some, None, is_some, ◌⊎◌, inl, inr, refl, sym, ap, ◌∙◌, arith, slice_get}
use Rattle.std.proofs.Math.Path.{fun_ext}
use Rattle.std.proofs.lemmas.Bool.{eqb-true, lt-ltb}
use Rattle.std.proofs.lemmas.Bool.Decides.{nat_tests}
use Rattle.std.proofs.lemmas.Option.{slice_get_within}
use lib.Dec.{eqb}
use Rattle.std.specs.Option.{option_map}
use Rattle.sled_nodes.specs.Order.{Key}
use Rattle.sled_nodes.specs.Node.{after_link}
use Rattle.sled_nodes.specs.declared.link.Link.{Link}
use Rattle.sled_nodes.specs.declared.node.Node.{Node}
use Rattle.sled_store.specs.Update.{put_at}
use Rattle.sled_store.specs.theory.Facts.{put_here, put_elsewhere}
use Rattle.sled_store.specs.declared.page.Page.{Page}
use Rattle.sled_pages.specs.declared.memory.slots.Slot.{Slot}
use Rattle.sled_pages.specs.Joined.{joined}
use Rattle.sled_pages.specs.Rows.{lies_in, has_in}
use Rattle.sled_pages.specs.Parts.{Parts, node_of}
use Rattle.sled_pages.specs.Table.{page_of, pages_of, slot_given}
use Rattle.sled_pages.specs.Numbered.{numbered}
use Rattle.sled_pages.specs.Memory.{meaning}
use Rattle.sled_pages.specs.Rebuild.{Rebuilt, with_page, with_link, without_page, rebuilt_store}
use Rattle.sled_pages.specs.theory.Table.{table}
use Rattle.sled_pages.specs.declared.memory.undo.Undo.{Undo}
use Rattle.sled_pages.specs.theory.Table.{slot_settled}
use Rattle.sled_pages.specs.Building.{IsUnused, IsBuilding}
use Rattle.sled_pages.proofs.Places.{one_place}

-- a slot that lies at a place has that place
pub lies_there : (rows : ℕ → List (Option Slot)) (i : ℕ) (o : Option Slot) → o ≡ lies_in rows i → is_some o ≡ true → has_in rows i ≡ true
lies_there rows i None e f = cc
lies_there rows i (Some slot) e f = lt-ltb (i % 64) _ (slice_get_within (rows (i / 64)) (i % 64) (Some slot) (within (slice_get (rows (i / 64)) (i % 64)) slot (sym e)))
  where
    within : (o : Option (Option Slot)) (x : Slot) → joined o ≡ Some x → o ≡ Some (Some x)
    within None x k = cc
    within (Some o) x k = ap (λ p. Some p) k

abbrev slot_at : ℕ → Parts → Option Slot
slot_at version page = Some (record { version = version; page = page })

-- the pages by number
pub page_put : (own new : ℕ → Option Slot) (i pid : ℕ) (slot : Option Slot) → 0 < pid → i ≡ pid - 1 → new ≡ put_at own i slot → pages_of (numbered new) ≡ put_at (pages_of (numbered own)) pid (option_map page_of slot)
page_put own new i pid slot h e p = one_place (pages_of (numbered new)) (pages_of (numbered own)) pid (option_map page_of slot)
    (ap (option_map page_of) (here (nat_eq pid 0) refl))
    (λ q k. ap (option_map page_of) (other q k (nat_eq q 0) refl))
  where
    positive : nat_eq pid 0 ≡ true → ⊥
    positive f = grind (arith, nat_tests)

    here : (b : Bool) → nat_eq pid 0 ≡ b → cond b None (new (pid - 1)) ≡ slot
    here true f = absurd (positive f)
    here false f = ap (λ g. g (pid - 1)) p ∙ (ap (λ j. put_at own j slot (pid - 1)) e ∙ put_here own (pid - 1) slot)

    apart : (q : ℕ) → (q ≡ pid → ⊥) → nat_eq q 0 ≡ false → q - 1 ≡ i → ⊥
    apart q k f d = k (grind (arith, nat_tests))

    other : (q : ℕ) → (q ≡ pid → ⊥) → (b : Bool) → nat_eq q 0 ≡ b → cond b None (new (q - 1)) ≡ cond b None (own (q - 1))
    other q k true f = refl
    other q k false f = ap (λ g. g (q - 1)) p ∙ put_elsewhere own i (q - 1) slot (apart q k f)

-- a page with one link more
settled_page : (version : ℕ) (link : Link) (o : Option Slot) → option_map page_of (slot_settled link version o) ≡ option_map (λ (p : Page). record { version = version; node = after_link link p.node }) (option_map page_of o)
settled_page version link None = refl
settled_page version link (Some s) = refl

at_number : (own : ℕ → Option Slot) (i pid : ℕ) → 0 < pid → i ≡ pid - 1 → own i ≡ numbered own pid
at_number own i pid h e = by (nat_eq pid 0) refl
  where
    positive : nat_eq pid 0 ≡ true → ⊥
    positive f = grind (arith, nat_tests)

    by : (b : Bool) → nat_eq pid 0 ≡ b → own i ≡ cond b None (own (pid - 1))
    by true f = absurd (positive f)
    by false f = ap own e

pub page_settled : (link : Link) (own new : ℕ → Option Slot) (i pid version : ℕ) → 0 < pid → i ≡ pid - 1 → new ≡ put_at own i (slot_settled link version (own i)) →
    pages_of (numbered new) ≡ put_at (pages_of (numbered own)) pid (option_map (λ (p : Page). record { version = version; node = after_link link p.node }) (pages_of (numbered own) pid))
page_settled link own new i pid version h e p =
    page_put own new i pid (slot_settled link version (own i)) h e p
    ∙ (ap (put_at (pages_of (numbered own)) pid) (settled_page version link (own i))
    ∙ ap (λ o. put_at (pages_of (numbered own)) pid (option_map (λ (p : Page). record { version = version; node = after_link link p.node }) (option_map page_of o))) (at_number own i pid h e))

-- what holds of a store in the making, after a call
later_slot : (a b : ℕ) (o : Option Slot) → a ≤ b → slot_given a o ≡ true → slot_given b o ≡ true
later_slot a b None h e = refl
later_slot a b (Some s) h e = grind (arith, nat_tests)

put_below : (own new : ℕ → Option Slot) (i a b : ℕ) (slot : Option Slot) → new ≡ put_at own i slot → a ≤ b → slot_given b slot ≡ true → ((j : ℕ) → slot_given a (own j) ≡ true) → (j : ℕ) → slot_given b (new j) ≡ true
put_below own new i a b slot p h e below j = ap (λ f. slot_given b (f j)) p ∙ elim (eqb j i) as (λ t. slot_given b (cond t slot (own j)) ≡ true) [ true ↦ e | false ↦ later_slot a b (own j) h (below j) ]

put_unused : (own new : ℕ → Option Slot) (i a b : ℕ) (slot : Option Slot) → new ≡ put_at own i slot → a ≤ b → (i < b ⊎ (slot ≡ None)) → IsUnused a own → IsUnused b new
put_unused own new i a b slot p h e u = record { none = λ q k. ap (λ f. f q) p ∙ by q k (eqb q i) refl }
  where
    off : (q : ℕ) → b ≤ q → q ≡ i → i < b → ⊥
    off q k d l = omega arith

    up : (q : ℕ) → b ≤ q → a ≤ q
    up q k = omega arith

    at_it : (q : ℕ) → b ≤ q → q ≡ i → (i < b ⊎ (slot ≡ None)) → slot ≡ None
    at_it q k d (inl l) = absurd (off q k d l)
    at_it q k d (inr n) = n

    by : (q : ℕ) → b ≤ q → (t : Bool) → eqb q i ≡ t → cond t slot (own q) ≡ None
    by q k true d = at_it q k (eqb-true q i d) e
    by q k false d = u.none q (up q k)

pub put_builds : (own new : ℕ → Option Slot) (roots : List (Key × ℕ)) (i pid last last' next next' version : ℕ) (page : Parts) → 0 < pid → i ≡ pid - 1 → new ≡ put_at own i (slot_at version page) → last' ≡ max last pid → next' ≡ max next (version + 1) →
    IsBuilding own roots last next → IsBuilding new roots last' next'
put_builds own new roots i pid last last' next next' version page h e p l n b = record {
  unused = put_unused own new i last last' (slot_at version page) p (a1 last pid last' l) (inl (a2 last pid last' i l h e)) b.unused;
  below = put_below own new i next next' (slot_at version page) p (a1 next (version + 1) next' n) (a3 next version next' n) b.below;
  ascends = b.ascends;
}
  where
    a1 : (x y z : ℕ) → z ≡ max x y → x ≤ z
    a1 x y z k = grind arith

    a2 : (x y z i : ℕ) → z ≡ max x y → 0 < y → i ≡ y - 1 → i < z
    a2 x y z i k h d = grind arith

    a3 : (x y z : ℕ) → z ≡ max x (y + 1) → nat_lt y z ≡ true
    a3 x y z k = grind (arith, nat_tests)

pub link_builds : (link : Link) (own new : ℕ → Option Slot) (roots : List (Key × ℕ)) (i last next next' version : ℕ) → new ≡ put_at own i (slot_settled link version (own i)) → next' ≡ max next (version + 1) →
    IsBuilding own roots last next → IsBuilding new roots last next'
link_builds link own new roots i last next next' version p n b = record {
  unused = put_unused own new i last last (slot_settled link version (own i)) p (same last) (there (own i) refl) b.unused;
  below = put_below own new i next next' (slot_settled link version (own i)) p (a1 next (version + 1) next' n) (given (own i)) b.below;
  ascends = b.ascends;
}
  where
    same : (x : ℕ) → x ≤ x
    same x = omega arith

    a1 : (x y z : ℕ) → z ≡ max x y → x ≤ z
    a1 x y z k = grind arith

    a3 : (x y z : ℕ) → z ≡ max x (y + 1) → nat_lt y z ≡ true
    a3 x y z k = grind (arith, nat_tests)

    given : (o : Option Slot) → slot_given next' (slot_settled link version o) ≡ true
    given None = refl
    given (Some s) = a3 next version next' n

    below_last : nat_lt i last ≡ false → last ≤ i
    below_last k = grind (arith, nat_tests)

    is_below : nat_lt i last ≡ true → i < last
    is_below k = grind (arith, nat_tests)

    none_some : (s : Slot) → None ≡ Some s → ⊥
    none_some s k = cc

    there : (o : Option Slot) → own i ≡ o → (i < last ⊎ (slot_settled link version o ≡ None))
    there None k = inr refl
    there (Some s) k = inl (by (nat_lt i last) refl)
      where
        by : (t : Bool) → nat_lt i last ≡ t → i < last
        by true d = is_below d
        by false d = absurd (none_some s (sym (b.unused.none i (below_last d)) ∙ k))

pub free_builds : (own new : ℕ → Option Slot) (roots : List (Key × ℕ)) (i last next : ℕ) → new ≡ put_at own i None → IsBuilding own roots last next → IsBuilding new roots last next
free_builds own new roots i last next p b = record {
  unused = put_unused own new i last last None p (same last) (inr refl) b.unused;
  below = put_below own new i next next None p (same next) refl b.below;
  ascends = b.ascends;
}
  where
    same : (x : ℕ) → x ≤ x
    same x = omega arith

pub same_builds : (own new : ℕ → Option Slot) (roots : List (Key × ℕ)) (last next : ℕ) → new ≡ own → IsBuilding own roots last next → IsBuilding new roots last next
same_builds own new roots last next e b = rw e b

-- a table with no number is one with no slot
pub none_numbered : (own : ℕ → Option Slot) → own ≡ (λ _. None) → pages_of (numbered own) ≡ (λ _. None)
none_numbered own e = rw e (fun_ext (λ q. elim (nat_eq q 0) as (λ t. option_map page_of (cond t None None) ≡ None) [ true ↦ refl | false ↦ refl ]))

-- a store in the making, by its parts
abbrev built : (ℕ → Option Slot) → (Key → Option ℕ) → ℕ → ℕ → Rebuilt
built own roots last next = record { pages = pages_of (numbered own); roots = roots; last = last; next = next }

pub built_same : (own new : ℕ → Option Slot) (roots : Key → Option ℕ) (last next : ℕ) → new ≡ own → built new roots last next ≡ built own roots last next
built_same own new roots last next e = ap (λ f. built f roots last next) e

pub put_is : (own new : ℕ → Option Slot) (roots : Key → Option ℕ) (i pid last last' next next' version : ℕ) (page : Parts) (node : Node) → 0 < pid → i ≡ pid - 1 → new ≡ put_at own i (slot_at version page) → node_of page ≡ node → last' ≡ max last pid → next' ≡ max next (version + 1) →
    built new roots last' next' ≡ with_page pid version node (built own roots last next)
put_is own new roots i pid last last' next next' version page node h e p k l n = rw (l, n, ← k) (
    ap (λ f. record (built own roots (max last pid) (max next (version + 1))) { pages = f }) (page_put own new i pid (slot_at version page) h e p))

pub link_is : (link : Link) (own new : ℕ → Option Slot) (roots : Key → Option ℕ) (i pid last next next' version : ℕ) → 0 < pid → i ≡ pid - 1 → new ≡ put_at own i (slot_settled link version (own i)) → next' ≡ max next (version + 1) →
    built new roots last next' ≡ with_link pid version link (built own roots last next)
link_is link own new roots i pid last next next' version h e p n = rw n (
    ap (λ f. record (built own roots last (max next (version + 1))) { pages = f }) (page_settled link own new i pid version h e p))

pub free_is : (own mid new : ℕ → Option Slot) (roots : Key → Option ℕ) (i pid last next : ℕ) → 0 < pid → i ≡ pid - 1 → mid ≡ put_at own i None → new ≡ mid → built new roots last next ≡ without_page pid (built own roots last next)
free_is own mid new roots i pid last next h e p s = ap (λ f. record (built own roots last next) { pages = f }) (page_put own new i pid None h e (s ∙ p))

-- the store that comes of it
count_is : (last pids given p : ℕ) → given ≡ max last (pids - 1) → (nat_lt 0 p && nat_le p given) ≡ (nat_lt 0 p && nat_lt p (max (last + 1) pids))
count_is last pids given p e = by (nat_lt 0 p) refl
  where
    same : nat_lt 0 p ≡ true → nat_le p given ≡ nat_lt p (max (last + 1) pids)
    same h = grind (arith, nat_tests)

    by : (b : Bool) → nat_lt 0 p ≡ b → (b && nat_le p given) ≡ (b && nat_lt p (max (last + 1) pids))
    by true h = same h
    by false h = refl

pub finish_is : (own slots : ℕ → Option Slot) (roots : Key → Option ℕ) (log : List Undo) (unreadable : List ℕ) (given : ℕ → Bool) (last next pids versions mark count next' : ℕ) → log ≡ [] → unreadable ≡ [] → slots ≡ numbered own → count ≡ max last (pids - 1) →
    ((p : ℕ) → given p ≡ (nat_lt 0 p && nat_le p count)) → next' ≡ max next versions →
    meaning (table slots roots false) log 0 0 unreadable mark true given next' ≡ rebuilt_store (built own roots last next) pids versions mark
finish_is own slots roots log unreadable given last next pids versions mark count next' l u s c g n = rw (l, u, s, n) (
    ap (λ (f : ℕ → Bool). record (rebuilt_store (built own roots last next) pids versions mark) { pids = f }) (fun_ext (λ p. g p ∙ count_is last pids count p c)))

pub numbered_below : (own slots : ℕ → Option Slot) (a b c : ℕ) → slots ≡ numbered own → b ≡ max a c → ((i : ℕ) → slot_given a (own i) ≡ true) → (p : ℕ) → slot_given b (slots p) ≡ true
numbered_below own slots a b c e h below p = ap (λ f. slot_given b (f p)) e ∙ elim (nat_eq p 0) as (λ t. slot_given b (cond t None (own (p - 1))) ≡ true) [ true ↦ refl | false ↦ later_slot a b (own (p - 1)) up (below (p - 1)) ]
  where
    up : a ≤ b
    up = grind arith

pub wider : (own : ℕ → Option Slot) (a b c : ℕ) → b ≡ max a c → IsUnused a own → IsUnused b own
wider own a b c e u = record { none = λ i k. u.none i (up i k) }
  where
    up : (i : ℕ) → b ≤ i → a ≤ i
    up i k = grind arith
